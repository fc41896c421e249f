-- A component that an edit leaves as it was has its old signatures.
use Rattle.std.proofs.Common.{◌≡◌, ℕ, suc, List, [], ◌∷◌, map, get_or, slice_get, Option, Some, None, refl, sym, ap, ◌∙◌, subst, arith}
use Rattle.std.specs.Prelude.{option_to_list}
use Rattle.std.specs.Option.{option_map}
use Rattle.std.specs.List.{AllByRecursion, AllZip, flat_map}
use Rattle.flow_base.specs.Program.{Bytes}
use Rattle.check_values.specs.declared.signatures.Sig.{Sig}
use Rattle.graph_search.specs.Cycles.{Has}
use Rattle.merged_signatures.specs.Chains.{Known}
use Rattle.merged_signatures.specs.Merged.{merged, merged_known}
use Rattle.merged_signatures.specs.Settled.{IsSettled, AJobTellsTheProgram}
use Rattle.check_phases.specs.Sourced.{program_in, paths_in, view_in}
use Rattle.check_phases.specs.Merging.{AreRight, known_rows, member_at, made_row, made_at}
use Rattle.check_phases.specs.declared.merging.Sources.{Sources}
use Rattle.check_phases.specs.declared.phases.Made.{Made}
use Rattle.check_phases.proofs.Jobs.{beside_at}
use Rattle.check_phases.proofs.Lists.{one_value, place_at}
use Rattle.check_phases.proofs.Waves.{has_named}
use Rattle.recheck_merging.specs.Keeping.{kept_in}
use Rattle.recheck_merging.specs.Merging.{job_by, IsReady, IsSigAt}
use Rattle.recheck_merging.specs.Still.{IsEdit}
use Rattle.recheck_merging.specs.declared.still.Edit.{Edit}
use Rattle.recheck_merging.proofs.Imported.{known_here, here, rising_program, low_path}
use Rattle.recheck_merging.proofs.Jobs.{all_flat_at, all_of_flat, settled}
use Rattle.recheck_merging.proofs.Keeps.{sees_same, signed_at}

-- where two lists that are made of one are the same, so is what is made of each element
each_same : {A B : Type 0} (f g : A → B) (xs : List A) → map f xs ≡ map g xs → AllByRecursion (λ x. f x ≡ g x) xs
each_same f g [] same = tt
each_same {A} {B} f g (x ∷ xs) same =
    let z : f x ∷ map f xs ≡ g x ∷ map g xs = same in
    let first : f x ≡ g x = cc in
    let rest : map f xs ≡ map g xs = cc in
    (first, each_same f g xs rest)

-- pairs of which each has something else too
pub zip_has : {B : Type 0} (R S : ℕ → B → Type 0) (xs : List ℕ) (ys : List B) → ((x : ℕ) (y : B) → Has xs x → R x y → S x y) → AllZip R xs ys → AllZip S xs ys
zip_has R S [] [] each all = tt
zip_has R S [] (y ∷ ys) each all = absurd all
zip_has R S (x ∷ xs) [] each all = absurd all
zip_has R S (x ∷ xs) (y ∷ ys) each all = (each x y (0, refl) all.0, zip_has R S xs ys (λ z w has. each z w (suc has.0, has.1)) all.1)

module _ (e : Edit) (is : IsEdit e) where
  abbrev s : Sources
  s = e.sources.now

  abbrev was : Made
  was = e.was.now

  -- the old signature of a module is what it was in the old program
  pub kept_told : (y : ℕ) (path : Bytes) (sig : Sig) → slice_get (paths_in s) y ≡ Some path → kept_in was.signatures.items (get_or e.from.now y None) ≡ Some sig → merged (view_in was.sources) path ≡ Some sig
  kept_told y path sig at kept = go (get_or e.from.now y None) (place_at e.from.now y None (let low = low_path s y path at in let many = is.come.many in omega arith)) kept
    where
      go : (n : Option ℕ) → slice_get e.from.now y ≡ Some n → kept_in was.signatures.items n ≡ Some sig → merged (view_in was.sources) path ≡ Some sig
      go None at_n none = absurd (let z : None ≡ Some sig = none in cc)
      go (Some o) at_n there =
          let comes = is.come.comes y o at_n in
          let signed = signed_at was is.made o path (comes.1 ∙ (sym comes.2 ∙ at)) in
          signed.2 ∙ ap Some (one_value signed.0 sig (sym signed.1 ∙ there))

  -- what merging sees of a module that isn't touched is what it saw
  sees : (x : ℕ) (path : Bytes) → slice_get (paths_in s) x ≡ Some path → ¬ (Has is.numbers x) → view_in s path ≡ view_in was.sources path
  sees x path at calm = sees_same was.sources s is.made.sources is.sources e.from.now is.numbers is.come is.touched x path at calm

  module _ (made : List (Option Sig)) (group : List ℕ) (edges : List (List ℕ)) (right : AreRight s made) (ready : IsReady s group edges made) (calm : (x : ℕ) → Has group x → ¬ (Has is.numbers x))
      (old : (i j : ℕ) (ys : List ℕ) (y : ℕ) (sig : Sig) → slice_get edges i ≡ Some ys → slice_get ys j ≡ Some y → slice_get made y ≡ Some (Some sig) → kept_in was.signatures.items (get_or e.from.now y None) ≡ Some sig) where
    abbrev WasSeen : Bytes × Known → Type 0
    WasSeen row = view_in was.sources row.0 ≡ Some row.1

    abbrev WasTold : Bytes × Sig → Type 0
    WasTold row = merged (view_in was.sources) row.0 ≡ Some row.1

    was_member : (x : ℕ) → Has group x → (o : Option (Bytes × Known)) → slice_get (known_rows s) x ≡ o → AllByRecursion WasSeen (option_to_list o)
    was_member x has None at = tt
    was_member x has (Some row) at =
        let h = here s is.sources x (ready.within x (has_named group x has)) in
        let same : (h.row.path, known_here s x h) ≡ row = one_value (h.row.path, known_here s x h) row (sym h.at_known ∙ at) in
        let at_path : slice_get (paths_in s) x ≡ Some row.0 = h.at_path ∙ ap (λ (r : Bytes × Known). Some r.0) same in
        (sym (sees x row.0 at_path (calm x has)) ∙ beside_at (program_in s) _ x row (rising_program s is.sources) at, tt)

    was_made : (y : ℕ) → ((sig : Sig) → slice_get made y ≡ Some (Some sig) → kept_in was.signatures.items (get_or e.from.now y None) ≡ Some sig) → (p : Option Bytes) (o : Option (Option Sig)) → slice_get (paths_in s) y ≡ p → slice_get made y ≡ o
        → AllByRecursion WasTold (made_row p o)
    was_made y kept None o at there = tt
    was_made y kept (Some path) None at there = tt
    was_made y kept (Some path) (Some None) at there = tt
    was_made y kept (Some path) (Some (Some sig)) at there = (kept_told y path sig at (kept sig there), tt)

    -- so the job told in the old program what it tells now
    was_settled : IsSettled (view_in was.sources) (job_by s made group edges)
    was_settled = record {
      members = all_flat_at (member_at s) WasSeen group (λ i x at. was_member x (i, at) (slice_get (known_rows s) x) refl);
      outside = all_flat_at (λ ys. flat_map (made_at s made) ys) WasTold edges (λ i ys at. all_flat_at (made_at s made) WasTold ys (λ j y at_y. was_made y (λ sig there. old i j ys y sig at at_y there) (slice_get (paths_in s) y) (slice_get made y) refl refl));
      closed = (settled s made group edges is.sources right ready).closed;
    }

    abbrev now_of : Bytes × Known → Sig
    now_of row = merged_known (view_in s) row.0 row.1

    abbrev was_of : Bytes × Known → Sig
    was_of row = merged_known (view_in was.sources) row.0 row.1

    abbrev IsTheSame : Bytes × Known → Type 0
    IsTheSame row = now_of row ≡ was_of row

    same_rows : AJobTellsTheProgram → AllByRecursion IsTheSame (flat_map (member_at s) group)
    same_rows tells = each_same now_of was_of (flat_map (member_at s) group)
        (sym (tells (view_in s) (job_by s made group edges) is.sources.small (settled s made group edges is.sources right ready)) ∙ tells (view_in was.sources) (job_by s made group edges) is.made.sources.small was_settled)

    -- its old signature is that of the program
    pub kept_signed : AJobTellsTheProgram → (x : ℕ) (sig : Sig) → Has group x → kept_in was.signatures.items (get_or e.from.now x None) ≡ Some sig → IsSigAt s x sig
    kept_signed tells x sig has kept path at =
        let h = here s is.sources x (low_path s x path at) in
        let known = known_here s x h in
        let same : h.row.path ≡ path = one_value h.row.path path (sym h.at_path ∙ at) in
        let rows = all_of_flat (member_at s) IsTheSame group has.0 x has.1 (same_rows tells) in
        let row = subst (λ (o : Option (Bytes × Known)). AllByRecursion IsTheSame (option_to_list o)) h.at_known rows in
        let tells_now : merged (view_in s) h.row.path ≡ Some (now_of (h.row.path, known)) = ap (λ (o : Option Known). option_map (merged_known (view_in s) h.row.path) o) h.seen in
        let told_then : merged (view_in was.sources) h.row.path ≡ Some (was_of (h.row.path, known)) =
        ap (λ (o : Option Known). option_map (merged_known (view_in was.sources) h.row.path) o) (sym (sees x h.row.path h.at_path (calm x has)) ∙ h.seen) in
        ap (merged (view_in s)) (sym same) ∙ (tells_now ∙ (ap Some row.0 ∙ (sym told_then ∙ (ap (merged (view_in was.sources)) same ∙ kept_told x path sig at kept))))

    pub kept_signs : AJobTellsTheProgram → (olds : List Sig) → AllZip (λ x sig. kept_in was.signatures.items (get_or e.from.now x None) ≡ Some sig) group olds → AllZip (IsSigAt s) group olds
    kept_signs tells olds all = zip_has (λ x sig. kept_in was.signatures.items (get_or e.from.now x None) ≡ Some sig) (IsSigAt s) group olds (λ x sig has kept. kept_signed tells x sig has kept) all
