use Rattle.std.proofs.Common.{◌≡◌, sym, ap, ◌∙◌, subst}
use Rattle.std.specs.Arc.{arc_value}
use Rattle.heap_answers.specs.States.{modules_of}
use Rattle.heap_answers.proofs.Answered as told
use Rattle.heap_answers.proofs.answering.find_module.Goals as goal
use Rattle.std.proofs.Common.{true}
use Rattle.heap_answers.specs.States.{is_root}
use Rattle.flow_base.specs.Program.{IsRising}
use Rattle.check_values.specs.Roots.{paths_of_rows}
use Rattle.module_resolution.specs.Resolution.{resolved}

pub root_of-root-requires : goal.root_of-root-requires
root_of-root-requires g c =
    subst (λ x. is_root x ≡ true) (sym c.deref.ensures) (told.root_told (g.R.HeapReader.state c.args.reader.now) (g.met.R.HeapReader.fit c.args.reader.now) (arc_value c.in_ok-root.root) c.in_ok-root.ensures.payload)

pub place_in-requires : goal.place_in-requires
place_in-requires g c =
    told.rising_told c.one_full.ensures (g.R.HeapReader.state c.args.reader.now) (g.R.HeapReader.state c.root.new.self) (g.met.R.HeapReader.fit c.args.reader.now) (arc_value c.in_ok-root.root) c.as_slice.result.now
    c.in_ok-root.ensures.payload c.root.ensures.same.1 (c.as_slice.ensures ∙ sym (ap modules_of c.root_of-root.ensures) ∙ ap modules_of c.deref.ensures)

pub returns-in_default-clause-answer : goal.returns-in_default-clause-answer
returns-in_default-clause-answer g c =
    told.no_module_told c.one_full.ensures (g.R.HeapReader.state c.args.reader.now) (g.R.HeapReader.state c.root.new.self) (g.met.R.HeapReader.fit c.args.reader.now) (arc_value c.in_ok-root.root) c.as_slice.result.now
    c.in_ok-root.ensures.payload c.root.ensures.same.1 (c.as_slice.ensures ∙ sym (ap modules_of c.root_of-root.ensures) ∙ ap modules_of c.deref.ensures) c.args.path.now c.args.spec.now c.in_default.ensures.place

pub resolve-requires : goal.resolve-requires
resolve-requires g c =
    record {
      rising = subst (λ ms. IsRising (paths_of_rows ms)) c.as_slice.ensures (told.rising_told c.one_full.ensures (g.R.HeapReader.state c.args.reader.now) (g.R.HeapReader.state c.root.new.self) (g.met.R.HeapReader.fit c.args.reader.now) (arc_value c.in_ok-root.root) c.as_slice.result.now
          c.in_ok-root.ensures.payload c.root.ensures.same.1 (c.as_slice.ensures ∙ sym (ap modules_of c.root_of-root.ensures) ∙ ap modules_of c.deref.ensures));
    }

pub returns-clause-answer : goal.returns-clause-answer
returns-clause-answer g c =
    told.module_found c.one_full.ensures (g.R.HeapReader.state c.args.reader.now) (g.R.HeapReader.state c.root.new.self) (g.met.R.HeapReader.fit c.args.reader.now) (arc_value c.in_ok-root.root) c.as_slice.result.now
    c.in_ok-root.ensures.payload c.root.ensures.same.1 (c.as_slice.ensures ∙ sym (ap modules_of c.root_of-root.ensures) ∙ ap modules_of c.deref.ensures) c.args.path.now c.in-Some.field-0 c.in-Some.ensures.place c.args.spec.now c.in_ok-found.found
    (c.in_ok-found.ensures.found ∙ (λ i. resolved (paths_of_rows (sym c.as_slice.ensures i)) c.args.path.now (c.as_bytes.ensures i)))
