use Rattle.std.proofs.Common.{ap, ◌∙◌}
use Rattle.std.specs.Arc.{arc_value}
use Rattle.heap_answers.specs.States.{modules_of}
use Rattle.heap_answers.proofs.Answered as told
use Rattle.heap_answers.proofs.answering.importers.Goals as goal

pub place_in-requires : goal.place_in-requires
place_in-requires g c =
    told.rising_told c.one_full.ensures (g.R.HeapReader.state c.args.reader.now) (g.R.HeapReader.state c.root.new.self) (g.met.R.HeapReader.fit c.args.reader.now) (arc_value c.in_ok-root.root) c.modules_of-modules.result.now
    c.in_ok-root.ensures.payload c.root.ensures.same.1 (c.modules_of-modules.ensures ∙ ap modules_of c.deref.ensures)

pub returns-in_default-clause-answer : goal.returns-in_default-clause-answer
returns-in_default-clause-answer g c =
    told.no_importers_told c.one_full.ensures (g.R.HeapReader.state c.args.reader.now) (g.R.HeapReader.state c.root.new.self) (g.met.R.HeapReader.fit c.args.reader.now) (arc_value c.in_ok-root.root) c.modules_of-modules.result.now
    c.in_ok-root.ensures.payload c.root.ensures.same.1 (c.modules_of-modules.ensures ∙ ap modules_of c.deref.ensures) c.args.path.now c.in_default.ensures.place

pub all_importers-requires : goal.all_importers-requires
all_importers-requires g c =
    told.placed_told c.one_full.ensures (g.R.HeapReader.state c.args.reader.now) (g.R.HeapReader.state c.root.new.self) (g.met.R.HeapReader.fit c.args.reader.now) (arc_value c.in_ok-root.root) c.modules_of-modules.result.now
    c.in_ok-root.ensures.payload c.root.ensures.same.1 (c.modules_of-modules.ensures ∙ ap modules_of c.deref.ensures) c.requires

pub returns-clause-answer : goal.returns-clause-answer
returns-clause-answer g c =
    told.importers_found c.one_full.ensures (g.R.HeapReader.state c.args.reader.now) (g.R.HeapReader.state c.root.new.self) (g.met.R.HeapReader.fit c.args.reader.now) (arc_value c.in_ok-root.root) c.modules_of-modules.result.now
    c.in_ok-root.ensures.payload c.root.ensures.same.1 (c.modules_of-modules.ensures ∙ ap modules_of c.deref.ensures) c.args.path.now c.in-Some.field-0 c.in-Some.ensures.place c.in_ok-paths.paths c.in_ok-paths.ensures.paths
