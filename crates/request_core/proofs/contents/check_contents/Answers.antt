use Rattle.std.proofs.Common.{◌≡◌, true, Some, refl, sym, ap, ◌∙◌, subst}
use Rattle.std.specs.Arc.{arc_value}
use Rattle.asks.specs.Places.{errors_at}
use Rattle.heap_answers.specs.States.{is_root}
use Rattle.heap_answers.proofs.Answered.{root_told}
use Rattle.request_core.proofs.Answered as told
use Rattle.request_core.proofs.contents.check_contents.Goals as goal

pub root_of-root-requires : goal.root_of-root-requires
root_of-root-requires g c =
    subst (λ x. is_root x ≡ true) (sym c.deref.ensures) (root_told (g.R.HeapReader.state c.args.reader.now) (g.met.R.HeapReader.fit c.args.reader.now) (arc_value c.in_ok-root.root) c.in_ok-root.ensures.payload)

pub place_in-requires : goal.place_in-requires
place_in-requires g c =
    told.rising_told c.one_full.ensures (g.R.HeapReader.state c.args.reader.now) (g.R.HeapReader.state c.root.new.self) (g.met.R.HeapReader.fit c.args.reader.now) c.root_of-root.result.now c.as_slice.result.now
    (c.in_ok-root.ensures.payload ∙ ap Some (sym c.deref.ensures ∙ c.root_of-root.ensures)) c.root.ensures.same.1 c.as_slice.ensures

pub returns-in_default-clause-answer : goal.returns-in_default-clause-answer
returns-in_default-clause-answer g c =
    told.no_contents_told c.one_full.ensures (g.R.HeapReader.state c.args.reader.now) (g.R.HeapReader.state c.root.new.self) (g.met.R.HeapReader.fit c.args.reader.now) c.root_of-root.result.now c.as_slice.result.now
    (c.in_ok-root.ensures.payload ∙ ap Some (sym c.deref.ensures ∙ c.root_of-root.ensures)) c.root.ensures.same.1 c.as_slice.ensures c.args.path.now c.args.text.now c.in_default.ensures.place

pub errors_instead-requires-clause-rising : goal.errors_instead-requires-clause-rising
errors_instead-requires-clause-rising g c =
    told.rising_told c.one_full.ensures (g.R.HeapReader.state c.args.reader.now) (g.R.HeapReader.state c.root.new.self) (g.met.R.HeapReader.fit c.args.reader.now) c.root_of-root.result.now c.root_of-root.result.now.modules
    (c.in_ok-root.ensures.payload ∙ ap Some (sym c.deref.ensures ∙ c.root_of-root.ensures)) c.root.ensures.same.1 refl

pub errors_instead-requires-clause-placed : goal.errors_instead-requires-clause-placed
errors_instead-requires-clause-placed g c =
    told.placed_told c.one_full.ensures (g.R.HeapReader.state c.args.reader.now) (g.R.HeapReader.state c.root.new.self) (g.met.R.HeapReader.fit c.args.reader.now) c.root_of-root.result.now c.root_of-root.result.now.modules
    (c.in_ok-root.ensures.payload ∙ ap Some (sym c.deref.ensures ∙ c.root_of-root.ensures)) c.root.ensures.same.1 refl c.numbered.ensures

pub returns-clause-answer : goal.returns-clause-answer
returns-clause-answer g c =
    told.text_told c.one_full.ensures (g.R.HeapReader.state c.args.reader.now) (g.R.HeapReader.state c.root.new.self) (g.met.R.HeapReader.fit c.args.reader.now) c.root_of-root.result.now c.as_slice.result.now
    (c.in_ok-root.ensures.payload ∙ ap Some (sym c.deref.ensures ∙ c.root_of-root.ensures)) c.root.ensures.same.1 c.as_slice.ensures c.args.path.now c.key_law.ensures.errors c.in-Some.field-0 c.in-Some.ensures.place c.args.text.now
    c.in_ok-errs.errs.faults c.in_ok-errors.errors c.in_ok-errs.ensures.errors (c.in_ok-errors.ensures ∙ (λ i. errors_at c.args.path.now (c.as_bytes.ensures i) (c.as_slice-2.ensures i)))
