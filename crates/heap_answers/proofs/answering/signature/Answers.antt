use Rattle.std.proofs.Common.{ap, ◌∙◌}
use Rattle.std.specs.Arc.{arc_value}
use Rattle.heap_answers.specs.States.{modules_of}
use Rattle.heap_answers.proofs.Answered as told
use Rattle.heap_answers.proofs.answering.signature.Goals as goal

pub place_in-requires : goal.place_in-requires
place_in-requires g c =
    told.rising_told c.one_full.ensures (g.R.HeapReader.state c.args.reader.now) (g.R.HeapReader.state c.root.new.self) (g.met.R.HeapReader.fit c.args.reader.now) (arc_value c.in_ok-root.root) c.modules_of-modules.result.now
    c.in_ok-root.ensures.payload c.root.ensures.same.1 (c.modules_of-modules.ensures ∙ ap modules_of c.deref.ensures)

pub returns-in_default-clause-answer : goal.returns-in_default-clause-answer
returns-in_default-clause-answer g c =
    told.no_signature_told c.one_full.ensures (g.R.HeapReader.state c.args.reader.now) (g.R.HeapReader.state c.root.new.self) (g.met.R.HeapReader.fit c.args.reader.now) (arc_value c.in_ok-root.root) c.modules_of-modules.result.now
    c.in_ok-root.ensures.payload c.root.ensures.same.1 (c.modules_of-modules.ensures ∙ ap modules_of c.deref.ensures) c.args.path.now c.in_default.ensures.place

pub signature_of-requires-clause-place : goal.signature_of-requires-clause-place
signature_of-requires-clause-place g c =
    told.place_told c.one_full.ensures (g.R.HeapReader.state c.args.reader.now) (g.R.HeapReader.state c.root.new.self) (g.met.R.HeapReader.fit c.args.reader.now) (arc_value c.in_ok-root.root) c.modules_of-modules.result.now
    c.in_ok-root.ensures.payload c.root.ensures.same.1 (c.modules_of-modules.ensures ∙ ap modules_of c.deref.ensures) c.args.path.now c.in-Some.at c.index-modules-at.result c.in-Some.ensures.place c.index-modules-at.is c.requires

pub signature_of-requires-clause-some : goal.signature_of-requires-clause-some
signature_of-requires-clause-some g c =
    told.signed_told c.one_full.ensures (g.R.HeapReader.state c.args.reader.now) (g.R.HeapReader.state c.root.new.self) (g.met.R.HeapReader.fit c.args.reader.now) (arc_value c.in_ok-root.root) c.modules_of-modules.result.now
    c.in_ok-root.ensures.payload c.root.ensures.same.1 (c.modules_of-modules.ensures ∙ ap modules_of c.deref.ensures) c.args.path.now c.in-Some.at c.index-modules-at.result c.in-Some.ensures.place c.index-modules-at.is

pub returns-clause-answer : goal.returns-clause-answer
returns-clause-answer g c =
    told.signature_told c.one_full.ensures (g.R.HeapReader.state c.args.reader.now) (g.R.HeapReader.state c.root.new.self) (g.met.R.HeapReader.fit c.args.reader.now) (arc_value c.in_ok-root.root) c.modules_of-modules.result.now
    c.in_ok-root.ensures.payload c.root.ensures.same.1 (c.modules_of-modules.ensures ∙ ap modules_of c.deref.ensures) c.args.path.now c.in-Some.at c.index-modules-at.result c.in-Some.ensures.place c.index-modules-at.is c.in_ok-sig.sig c.in_ok-sig.ensures.sig
