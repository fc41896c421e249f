use Rattle.std.proofs.Common.{ap, arith, length}
use Rattle.script_line.specs.declared.line.Line.TheVariants as line
use Rattle.script_run.specs.Session.{standing_in}
use Rattle.script_run.proofs.Walks.{on_err}
use Rattle.generated_run.proofs.Parts.{put_version, put_may, put_breaks, round_ok, round_err, version_ok, lanes_ok}
use Rattle.generated_run.proofs.turns.put_and_check.Goals as goal

pub returns-in_err-turn-clause-front : goal.returns-in_err-turn-clause-front
returns-in_err-turn-clause-front g c =
    on_err c.from_residual.result _
    (put_breaks c.args.session.now.waiting.capacity c.args.folder.now c.args.path c.args.text (standing_in c.args.session.now) c.each_edit_has_sizes.ensures _ _ c.in_err-turn.ensures.breaks)

pub turn-requires-2-clause-version : goal.turn-requires-2-clause-version
turn-requires-2-clause-version g c κs within =
    omega (arith, c.requires.version, put_version c.args.session.now.waiting.capacity c.args.folder.now c.args.path c.args.text (standing_in c.args.session.now) (standing_in c.turn.new.session) _ _ c.in_ok-turn.ensures.turned)

pub returns-clause-goes : goal.returns-clause-goes
returns-clause-goes g c =
    round_ok c.args.session.now.waiting.capacity c.args.folder.now c.args.path c.args.text (standing_in c.args.session.now) (standing_in c.turn.new.session) _ _ c.in_ok-turn.ensures.turned c.turn-2.result
    c.turn.new.session.waiting.capacity c.turn.new.folder (line.Recheck 0 c.new-asks.result) c.turn.ensures.modules c.turn.ensures.same (ap (line.Recheck 0) c.new-asks.ensures) (standing_in c.turn-2.new.session) _ c.turn-2.ensures.turned

pub returns-clause-front : goal.returns-clause-front
returns-clause-front g c =
    round_err c.args.session.now.waiting.capacity c.args.folder.now c.args.path c.args.text (standing_in c.args.session.now) (standing_in c.turn.new.session) _ _ c.in_ok-turn.ensures.turned c.turn-2.result
    c.turn.new.session.waiting.capacity c.turn.new.folder (line.Recheck 0 c.new-asks.result) c.turn.ensures.modules c.turn.ensures.same (ap (line.Recheck 0) c.new-asks.ensures) c.each_edit_has_sizes.ensures _ c.turn-2.ensures.breaks

pub returns-clause-version : goal.returns-clause-version
returns-clause-version g c =
    version_ok c.args.session.now.waiting.capacity c.args.folder.now c.args.path c.args.text (standing_in c.args.session.now) (standing_in c.turn.new.session) _ _ c.in_ok-turn.ensures.turned c.turn-2.result
    c.turn.new.session.waiting.capacity c.turn.new.folder (line.Recheck 0 c.new-asks.result) c.turn.ensures.modules c.turn.ensures.same (ap (line.Recheck 0) c.new-asks.ensures) (standing_in c.turn-2.new.session) _ c.turn-2.ensures.turned

pub turn-requires-2-clause-pins : goal.turn-requires-2-clause-pins
turn-requires-2-clause-pins g c κs within =
    put_may c.args.session.now.waiting.capacity c.args.folder.now c.args.path c.args.text (standing_in c.args.session.now) (standing_in c.turn.new.session) _ _ c.in_ok-turn.ensures.turned (length c.new-asks.result)
    (ap length c.new-asks.ensures) c.requires.pins

pub returns-clause-lanes : goal.returns-clause-lanes
returns-clause-lanes g c =
    lanes_ok c.args.session.now.waiting.capacity c.args.folder.now c.args.path c.args.text (standing_in c.args.session.now) (standing_in c.turn.new.session) _ _ c.in_ok-turn.ensures.turned c.turn-2.result
    c.turn.new.session.waiting.capacity c.turn.new.folder (line.Recheck 0 c.new-asks.result) c.turn.ensures.modules c.turn.ensures.same (ap (line.Recheck 0) c.new-asks.ensures) (standing_in c.turn-2.new.session) _ c.turn-2.ensures.turned
