use Rattle.std.proofs.Common.{ap, ◌∙◌}
use Rattle.std.specs.Arc.{arc_value}
use Rattle.heap_answers.specs.States.{modules_of}
use Rattle.heap_answers.proofs.Answered as told
use Rattle.heap_answers.proofs.answering.ls.Goals as goal

pub returns-clause-answer : goal.returns-clause-answer
returns-clause-answer g c =
    told.ls_told c.one_full.ensures (g.R.HeapReader.state c.args.reader.now) (g.R.HeapReader.state c.root.new.self) (g.met.R.HeapReader.fit c.args.reader.now) (arc_value c.in_ok-root.root) c.modules_of.result.now
    c.in_ok-root.ensures.payload c.root.ensures.same.1 (c.modules_of.ensures ∙ ap modules_of c.deref.ensures) c.in_ok-paths.paths c.in_ok-paths.ensures
