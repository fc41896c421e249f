use Rattle.std.proofs.Common.{ap, ◌∙◌}
use Rattle.std.specs.Arc.{arc_value}
use Rattle.std.proofs.lemmas.Result.{IfOk-weaker}
use Rattle.script_run.specs.Session.{modules_of, count_in}
use Rattle.script_run.proofs.Sessions.{placed, counted}
use Rattle.script_run.proofs.errors.count_errors.Goals as goal

pub count_all-requires : goal.count_all-requires
count_all-requires g c =
    placed (g.R.HeapReader.state c.args.reader.now) (g.R.HeapReader.state c.root.new.self) (arc_value c.in_ok-root.root) c.modules_of.result.now c.requires
    (g.met.R.HeapReader.fit c.args.reader.now) c.in_ok-root.ensures.payload c.root.ensures.same.1 (c.modules_of.ensures ∙ ap modules_of c.deref.ensures)

pub returns : goal.returns
returns g c =
    IfOk-weaker c.count_all.result _ _ (λ count is.
    counted c.one_full.ensures (g.R.HeapReader.state c.args.reader.now) (g.met.R.HeapReader.fit c.args.reader.now) count (arc_value c.in_ok-root.root) c.modules_of.result.now c.in_ok-root.ensures.payload
    (c.modules_of.ensures ∙ ap modules_of c.deref.ensures) (is ∙ ap (λ state. count_in state c.modules_of.result.now) c.root.ensures.same.1)) c.count_all.ensures.count
