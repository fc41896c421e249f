use Rattle.std.proofs.Common.{refl, inr}
use Rattle.script_run.specs.Session.{standing_in}
use Rattle.script_run.proofs.Walks.{on_err}
use Rattle.generated_run.specs.Steps.{TakesTurn}
use Rattle.generated_run.proofs.Parts.{begun_by, quiet_turn}
use Rattle.generated_run.proofs.turns.turn.Goals as goal

pub returns-clause-breaks : goal.returns-clause-breaks
returns-clause-breaks g c =
    on_err c.print.result _
    (inr (begun_by (TakesTurn c.args.session.now.waiting.capacity c.args.folder.now c.args.line (standing_in c.args.session.now)) (standing_in c.turn.new.self) _ _ _ _ c.as_slice.ensures.value
    (quiet_turn c.args.session.now.waiting.capacity c.args.folder.now c.args.line (standing_in c.args.session.now) (standing_in c.turn.new.self) _ _ _ refl refl refl c.in_ok-printed.ensures.turned)
    c.print.ensures.front))
