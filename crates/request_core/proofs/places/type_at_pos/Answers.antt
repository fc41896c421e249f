use Rattle.std.proofs.Common.{◌≡◌, true, Option, Some, None, refl, sym, ap, ◌∙◌, subst, arith}
use Rattle.std.specs.Arc.{arc_value}
use Rattle.type_values.specs.declared.types.FlowType.{FlowType}
use Rattle.asks.specs.declared.ask.Ask.TheVariants as the_ask
use Rattle.heap_answers.specs.answers_law.specs.Answers.{IsAnswer, shown}
use Rattle.heap_answers.specs.States.{is_root, program_in}
use Rattle.heap_answers.proofs.Answered.{root_told}
use Rattle.request_core.proofs.Answered as told
use Rattle.request_core.proofs.places.type_at_pos.Goals as goal

pub root_of-root-requires : goal.root_of-root-requires
root_of-root-requires g c =
    subst (λ x. is_root x ≡ true) (sym c.deref.ensures) (root_told (g.R.HeapReader.state c.args.reader.now) (g.met.R.HeapReader.fit c.args.reader.now) (arc_value c.in_ok-root.root) c.in_ok-root.ensures.payload)

pub place_in-requires : goal.place_in-requires
place_in-requires g c =
    told.rising_told c.one_full.ensures (g.R.HeapReader.state c.args.reader.now) (g.R.HeapReader.state c.root.new.self) (g.met.R.HeapReader.fit c.args.reader.now) c.root_of-root.result.now c.as_slice-modules.result.now
    (c.in_ok-root.ensures.payload ∙ ap Some (sym c.deref.ensures ∙ c.root_of-root.ensures)) c.root.ensures.same.1 c.as_slice-modules.ensures

pub returns-in_default-clause-answer : goal.returns-in_default-clause-answer
returns-in_default-clause-answer g c =
    told.no_type_told c.one_full.ensures (g.R.HeapReader.state c.args.reader.now) (g.R.HeapReader.state c.root.new.self) (g.met.R.HeapReader.fit c.args.reader.now) c.root_of-root.result.now c.as_slice-modules.result.now
    (c.in_ok-root.ensures.payload ∙ ap Some (sym c.deref.ensures ∙ c.root_of-root.ensures)) c.root.ensures.same.1 c.as_slice-modules.ensures c.args.path.now c.args.line c.args.column c.in_default.ensures.place

pub returns-in_default-byte_place-clause-answer : goal.returns-in_default-byte_place-clause-answer
returns-in_default-byte_place-clause-answer g c =
    told.no_character_told c.one_full.ensures (g.R.HeapReader.state c.args.reader.now) (g.R.HeapReader.state c.root.new.self) (g.met.R.HeapReader.fit c.args.reader.now) c.root_of-root.result.now c.as_slice-modules.result.now
    (c.in_ok-root.ensures.payload ∙ ap Some (sym c.deref.ensures ∙ c.root_of-root.ensures)) c.root.ensures.same.1 c.as_slice-modules.ensures c.args.path.now c.in-Some.at c.index-modules-at.result c.in-Some.ensures.place c.index-modules-at.is
    c.args.line c.args.column c.as_bytes.result.now c.as_bytes.ensures None c.in_default-byte_place.ensures refl

pub returns-in_default-try_from-clause-answer : goal.returns-in_default-try_from-clause-answer
returns-in_default-try_from-clause-answer g c =
    let far = c.in_default-try_from.ensures in
    told.far_character_told c.one_full.ensures (g.R.HeapReader.state c.args.reader.now) (g.R.HeapReader.state c.root.new.self) (g.met.R.HeapReader.fit c.args.reader.now) c.root_of-root.result.now c.as_slice-modules.result.now
    (c.in_ok-root.ensures.payload ∙ ap Some (sym c.deref.ensures ∙ c.root_of-root.ensures)) c.root.ensures.same.1 c.as_slice-modules.ensures c.args.path.now c.in-Some.at c.index-modules-at.result c.in-Some.ensures.place c.index-modules-at.is
    c.args.line c.args.column c.as_bytes.result.now c.as_bytes.ensures (Some c.in-Some-byte_place.place) c.in-Some-byte_place.ensures c.in-Some-byte_place.place refl (omega arith)

pub job_of-requires-clause-rising : goal.job_of-requires-clause-rising
job_of-requires-clause-rising g c =
    told.rising_told c.one_full.ensures (g.R.HeapReader.state c.args.reader.now) (g.R.HeapReader.state c.root.new.self) (g.met.R.HeapReader.fit c.args.reader.now) c.root_of-root.result.now c.as_slice-modules.result.now
    (c.in_ok-root.ensures.payload ∙ ap Some (sym c.deref.ensures ∙ c.root_of-root.ensures)) c.root.ensures.same.1 c.as_slice-modules.ensures

pub job_of-requires-clause-placed : goal.job_of-requires-clause-placed
job_of-requires-clause-placed g c =
    told.placed_told c.one_full.ensures (g.R.HeapReader.state c.args.reader.now) (g.R.HeapReader.state c.root.new.self) (g.met.R.HeapReader.fit c.args.reader.now) c.root_of-root.result.now c.as_slice-modules.result.now
    (c.in_ok-root.ensures.payload ∙ ap Some (sym c.deref.ensures ∙ c.root_of-root.ensures)) c.root.ensures.same.1 c.as_slice-modules.ensures c.numbered.ensures

pub job_of-requires-clause-place : goal.job_of-requires-clause-place
job_of-requires-clause-place g c =
    told.place_told c.one_full.ensures (g.R.HeapReader.state c.args.reader.now) (g.R.HeapReader.state c.root.new.self) (g.met.R.HeapReader.fit c.args.reader.now) c.root_of-root.result.now c.as_slice-modules.result.now
    (c.in_ok-root.ensures.payload ∙ ap Some (sym c.deref.ensures ∙ c.root_of-root.ensures)) c.root.ensures.same.1 c.as_slice-modules.ensures c.args.path.now c.in-Some.at c.index-modules-at.result c.in-Some.ensures.place c.index-modules-at.is c.numbered.ensures

pub job_of-requires-clause-read : goal.job_of-requires-clause-read
job_of-requires-clause-read g c =
    told.read_told c.one_full.ensures (g.R.HeapReader.state c.args.reader.now) (g.R.HeapReader.state c.root.new.self) (g.met.R.HeapReader.fit c.args.reader.now) c.root_of-root.result.now c.as_slice-modules.result.now
    (c.in_ok-root.ensures.payload ∙ ap Some (sym c.deref.ensures ∙ c.root_of-root.ensures)) c.root.ensures.same.1 c.as_slice-modules.ensures c.args.path.now c.in-Some.at c.index-modules-at.result c.in-Some.ensures.place c.index-modules-at.is

pub returns-in-Some-2-clause-answer : goal.returns-in-Some-2-clause-answer
returns-in-Some-2-clause-answer g c =
    subst (λ (t : Option FlowType). IsAnswer (program_in (g.R.HeapReader.state c.args.reader.now)) (the_ask.TypeAtPos c.args.path.now c.args.line c.args.column) (shown t)) c.in-Some-2.is
    (told.type_told c.one_full.ensures (g.R.HeapReader.state c.args.reader.now) (g.R.HeapReader.state c.root.new.self) (g.met.R.HeapReader.fit c.args.reader.now) c.root_of-root.result.now c.as_slice-modules.result.now
    (c.in_ok-root.ensures.payload ∙ ap Some (sym c.deref.ensures ∙ c.root_of-root.ensures)) c.root.ensures.same.1 c.as_slice-modules.ensures c.args.path.now c.in-Some.at c.index-modules-at.result c.in-Some.ensures.place c.index-modules-at.is
    c.args.line c.args.column c.as_bytes.result.now c.as_bytes.ensures (Some c.in-Some-byte_place.place) c.in-Some-byte_place.ensures c.types_are_right.ensures c.in_ok-job.job c.in-Some-byte_place.place c.in-Ok.byte c.in_ok-ty.field-0 c.in_ok-job.ensures.job refl
    (let is = c.in-Ok.ensures in omega arith) c.in_ok-ty.ensures.ty)

pub returns-clause-answer : goal.returns-clause-answer
returns-clause-answer g c =
    subst (λ (t : Option FlowType). IsAnswer (program_in (g.R.HeapReader.state c.args.reader.now)) (the_ask.TypeAtPos c.args.path.now c.args.line c.args.column) (shown t)) c.in-None.is
    (told.type_told c.one_full.ensures (g.R.HeapReader.state c.args.reader.now) (g.R.HeapReader.state c.root.new.self) (g.met.R.HeapReader.fit c.args.reader.now) c.root_of-root.result.now c.as_slice-modules.result.now
    (c.in_ok-root.ensures.payload ∙ ap Some (sym c.deref.ensures ∙ c.root_of-root.ensures)) c.root.ensures.same.1 c.as_slice-modules.ensures c.args.path.now c.in-Some.at c.index-modules-at.result c.in-Some.ensures.place c.index-modules-at.is
    c.args.line c.args.column c.as_bytes.result.now c.as_bytes.ensures (Some c.in-Some-byte_place.place) c.in-Some-byte_place.ensures c.types_are_right.ensures c.in_ok-job.job c.in-Some-byte_place.place c.in-Ok.byte c.in_ok-ty.field-0 c.in_ok-job.ensures.job refl
    (let is = c.in-Ok.ensures in omega arith) c.in_ok-ty.ensures.ty)
