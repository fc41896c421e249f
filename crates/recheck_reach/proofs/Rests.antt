-- What is outside of a plan has the signature that it had.
use Rattle.std.proofs.Common.{◌≡◌, ℕ, zero, suc, ◌+◌, ◌<◌, Bool, true, false, cond, List, [], ◌∷◌, length, slice_get, Option, Some, None, refl, sym, ap, ◌∙◌, subst, arith}
use Rattle.std.proofs.lemmas.List.{length-map}
use Rattle.flow_base.specs.Program.{Bytes}
use Rattle.heap_core.specs.Meaning.{names}
use Rattle.heap_core.proofs.Lists.{get_there}
use Rattle.check_values.specs.declared.root.RootRow.{RootRow}
use Rattle.check_values.specs.declared.signatures.Sig.{Sig}
use Rattle.graph_search.specs.Cycles.{Has}
use Rattle.merged_signatures.specs.Merged as merged_spec
use Rattle.recheck_merging.specs.check_phases.specs.Phases.{AreMerged}
use Rattle.recheck_merging.specs.check_phases.specs.Sourced.{program_in, view_in, AreSources}
use Rattle.recheck_merging.specs.check_phases.specs.Whole.{AreMade}
use Rattle.recheck_merging.specs.check_phases.specs.declared.merging.Sources.{Sources}
use Rattle.recheck_merging.specs.check_phases.specs.declared.phases.Made.{Made}
use Rattle.recheck_merging.specs.check_phases.proofs.Jobs.{zip_at}
use Rattle.recheck_merging.specs.check_phases.proofs.Lists.{one_value, zip_length}
use Rattle.recheck_merging.specs.check_phases.proofs.Merges.{program_get, path_get}
use Rattle.recheck_merging.specs.check_phases.proofs.Waves.{named_has, has_named}
use Rattle.recheck_merging.specs.Plans.{IsPlanOf}
use Rattle.recheck_merging.specs.Keeping.{kept_in, AreKept, ComeFrom, AreTouched, KeptAreRight}
use Rattle.recheck_merging.specs.declared.planning.MergePlan.{MergePlan}
use Rattle.recheck_reach.specs.Moved.{IsAsBefore}
use Rattle.recheck_reach.specs.Law.{RestIsSame}

-- there are as many signatures as modules
pub many_merged : (s : Sources) (sigs : List Sig) → AreMerged (view_in s) (program_in s) sigs → length sigs ≡ length s.root.modules
many_merged s sigs merged = zip_length (λ (m : Bytes × Bytes) (sig : Sig). merged_spec.merged (view_in s) m.0 ≡ Some sig) (program_in s) sigs merged ∙ length-map s.root.modules (λ (m : RootRow). (m.path, m.text))

-- ---- the old signature of each module outside of some

module _ (was : List Sig) (merged : List ℕ) where
  abbrev slot_of : ℕ → Option ℕ → Option Sig
  slot_of i o = cond (names merged i) None (kept_in was o)

  abbrev slots_from : ℕ → List (Option ℕ) → List (Option Sig)
  slots_from i [] = []
  slots_from i (o ∷ from) = slot_of i o ∷ slots_from (suc i) from

  slot_at : (i : ℕ) (from : List (Option ℕ)) (x : ℕ) (o : Option ℕ) → slice_get from x ≡ Some o → slice_get (slots_from i from) x ≡ Some (slot_of (i + x) o)
  slot_at i [] x o at = absurd (let z : None ≡ Some o = at in cc)
  slot_at i (p ∷ from) zero o at = let n : i ≡ i + 0 = omega arith in let is = one_value p o at in λ j. Some (slot_of (n j) (is j))
  slot_at i (p ∷ from) (suc x) o at =
      let n : suc i + x ≡ i + suc x = omega arith in subst (λ (k : ℕ). slice_get (slots_from (suc i) from) x ≡ Some (slot_of k o)) n (slot_at (suc i) from x o at)

  many_slots : (i : ℕ) (from : List (Option ℕ)) → length (slots_from i from) ≡ length from
  many_slots i [] = refl
  many_slots i (o ∷ from) = ap suc (many_slots (suc i) from)

  slots_kept : (from : List (Option ℕ)) → AreKept was from merged (slots_from 0 from)
  slots_kept from = record {
    many = many_slots 0 from;
    kept = λ x o at outside. here x o at ∙ ap Some (out x o outside (names merged x) refl);
    anew = λ x low has. let o = get_there from x low in here x o.0 o.1 ∙ ap (λ (b : Bool). Some (cond b None (kept_in was o.0))) (has_named merged x has);
  }
    where
      here : (x : ℕ) (o : Option ℕ) → slice_get from x ≡ Some o → slice_get (slots_from 0 from) x ≡ Some (slot_of x o)
      here x o at = let n : 0 + x ≡ x = omega arith in subst (λ (k : ℕ). slice_get (slots_from 0 from) x ≡ Some (slot_of k o)) n (slot_at 0 from x o at)

      out : (x : ℕ) (o : Option ℕ) → ¬ (Has merged x) → (b : Bool) → names merged x ≡ b → cond b None (kept_in was o) ≡ kept_in was o
      out x o outside true e = absurd (outside (named_has merged x e))
      out x o outside false e = refl

-- ---- they are those of the program

module _ (right : KeptAreRight) (was : Made) (s : Sources) (from : List (Option ℕ)) (touched : List ℕ) (p : MergePlan) (sigs : List Sig) (made : AreMade was) (sources : AreSources s) (come : ComeFrom was.sources s from)
    (are_touched : AreTouched was.sources s from touched) (plan : IsPlanOf s touched p) (merged : AreMerged (view_in s) (program_in s) sigs) where
  abbrev slots : List (Option Sig)
  slots = slots_from was.signatures.items p.merged 0 from

  same : (x : ℕ) → x < length sigs → ¬ (Has p.merged x) → IsAsBefore was.signatures.items from sigs x
  same x low outside =
      let many = many_merged s sigs merged in
      let kept = slots_kept was.signatures.items p.merged from in
      let all = right was s from touched p slots made sources come are_touched plan kept in
      let m = get_there s.root.modules x (omega arith) in
      let slot = all.kept x (omega arith) outside in
      let told = all.right.each x m.0.path slot.0 (path_get s.root.modules x m.0 m.1) slot.1 in
      let sig = zip_at (λ (r : Bytes × Bytes) (g : Sig). merged_spec.merged (view_in s) r.0 ≡ Some g) (program_in s) sigs x (m.0.path, m.0.text) merged (program_get s.root.modules x m.0 m.1) in
      let is : slot.0 ≡ sig.0 = one_value slot.0 sig.0 (sym told ∙ sig.2) in
      let o = get_there from x (let n = come.many in omega arith) in
      let old : kept_in was.signatures.items o.0 ≡ Some sig.0 = one_value (kept_in was.signatures.items o.0) (Some sig.0) (sym (kept.kept x o.0 o.1 outside) ∙ (slot.1 ∙ ap (λ (g : Sig). Some (Some g)) is)) in
      go sig.0 sig.1 o.0 o.1 old
    where
      go : (sig : Sig) → slice_get sigs x ≡ Some sig → (o : Option ℕ) → slice_get from x ≡ Some o → kept_in was.signatures.items o ≡ Some sig → IsAsBefore was.signatures.items from sigs x
      go sig at None there old = absurd (let z : None ≡ Some sig = old in cc)
      go sig at (Some n) there old = (n, sig, there, old, at)

pub rest_is_same : KeptAreRight → RestIsSame
rest_is_same right was s from touched p sigs made sources come are_touched plan merged = record { same = same right was s from touched p sigs made sources come are_touched plan merged }
