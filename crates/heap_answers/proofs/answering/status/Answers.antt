use Rattle.std.proofs.Common.{ap, ◌∙◌}
use Rattle.std.specs.Arc.{arc_value}
use Rattle.heap_answers.specs.States.{modules_of}
use Rattle.heap_answers.proofs.Answered as told
use Rattle.heap_answers.proofs.answering.status.Goals as goal

pub all_errors-requires : goal.all_errors-requires
all_errors-requires g c =
    told.placed_told c.one_full.ensures (g.R.HeapReader.state c.args.reader.now) (g.R.HeapReader.state c.root.new.self) (g.met.R.HeapReader.fit c.args.reader.now) (arc_value c.in_ok-root.root) c.modules_of.result.now
    c.in_ok-root.ensures.payload c.root.ensures.same.1 (c.modules_of.ensures ∙ ap modules_of c.deref.ensures) c.requires

pub returns-clause-answer : goal.returns-clause-answer
returns-clause-answer g c =
    told.status_told c.one_full.ensures (g.R.HeapReader.state c.args.reader.now) (g.R.HeapReader.state c.root.new.self) (g.met.R.HeapReader.fit c.args.reader.now) (arc_value c.in_ok-root.root) c.modules_of.result.now
    c.in_ok-root.ensures.payload c.root.ensures.same.1 (c.modules_of.ensures ∙ ap modules_of c.deref.ensures) c.in_ok-errors.errors c.in_ok-errors.ensures.errors
