-- The numbers of the modules that signatures name.
use Rattle.std.proofs.Common.{◌≡◌, ◌≢◌, ◌⊎◌, ℕ, suc, ◌+◌, ◌<◌, ◌≤◌, Bool, true, false, List, [], ◌∷◌, ◌++◌, All, length, take, set, replicate, get_or, slice_get, Option, Some, None, refl, sym, ap, ◌∙◌, subst, inl, inr, arith, bytes_eq, length-set}
use Rattle.std.specs.Prelude.{◌||◌}
use Rattle.std.specs.Cmp.Lexicographic.{bytes_decides}
use Rattle.std.proofs.lemmas.Bool.{cases_lt}
use Rattle.std.proofs.lemmas.List.{length-replicate}
use mathlib.Core.Logic.{dite}
use native.Mathlib.Decide.{ℕ_discrete}
use Rattle.flow_base.specs.Program.{Bytes}
use Rattle.flow_values.specs.Path.{IsRising}
use Rattle.heap_core.proofs.Lists.{get_index, get_there, at_put, put_here, put_else}
use Rattle.check_values.specs.Rows.{is_among}
use Rattle.check_values.specs.Roots as roots
use Rattle.check_values.specs.declared.root.Root.{Root}
use Rattle.check_values.specs.declared.root.RootRow.{RootRow}
use Rattle.check_values.specs.declared.signatures.Sig.{Sig}
use Rattle.dep_lists.specs.Looking.{IsPlaceOf}
use Rattle.graph_search.specs.Cycles.{Has, Edge}
use Rattle.graph_search.proofs.Lists.{has_none, has_more, earlier, this, take_whole}
use Rattle.graph_search.proofs.Fills.{get-replicate}
use Rattle.merged_signatures.specs.Reach.{paths_named}
use Rattle.recheck_merging.specs.recheck_law.specs.Names.{Names}
use Rattle.recheck_merging.specs.path_numbers.specs.Ways.{IsStep}
use Rattle.recheck_merging.specs.check_phases.specs.Sourced.{program_in, paths_in, AreSources}
use Rattle.recheck_merging.specs.check_phases.specs.Whole.{sigs_by}
use Rattle.recheck_merging.specs.check_phases.specs.declared.merging.Sources.{Sources}
use Rattle.recheck_merging.specs.check_phases.proofs.Edges.{among}
use Rattle.recheck_merging.specs.check_phases.proofs.Jobs.{beside_at}
use Rattle.recheck_merging.specs.check_phases.proofs.Lists.{one_value, within_there}
use Rattle.recheck_merging.specs.check_phases.proofs.Merges.{beside_get, path_get}
use Rattle.recheck_merging.specs.Rows.{IsFoundAt, AddsFound}
use Rattle.recheck_merging.proofs.Finds.{finds_missing, finds_one}
use Rattle.recheck_merging.proofs.Imported.{as_many, low_path, rising_program}
use Rattle.recheck_reach.specs.Named.{IsNumberOf, FollowPaths, FollowNames, NamesNumber, FollowNamesOf, AreStepsOf}
use Rattle.recheck_reach.proofs.Moved.{merged_low}

-- ---- the number of a path

pub number_missing : (rows : List RootRow) (path : Bytes) (place : Option ℕ) (numbers : List ℕ) → place ≡ None → IsPlaceOf rows path place → AddsFound (roots.paths_of_rows rows) (Some path) numbers numbers
number_missing rows path place numbers none is = finds_missing rows (Some path) path place numbers refl none is

pub number_found : (rows : List RootRow) (path : Bytes) (place : Option ℕ) (at : ℕ) (old new : List ℕ) → IsRising (roots.paths_of_rows rows) → place ≡ Some at → IsPlaceOf rows path place → new ≡ old ++ at ∷ []
    → AddsFound (roots.paths_of_rows rows) (Some path) old new
number_found rows path place at old new rising there is pushed = finds_one rows (Some path) path place at old new rising refl there is pushed

-- ---- the numbers of some paths

pub no_paths : (paths some : List Bytes) (numbers : List ℕ) → numbers ≡ [] → FollowPaths paths some 0 numbers
no_paths paths some numbers is = subst (λ (l : List ℕ). FollowPaths paths some 0 l) (sym is) (record {
  sound = λ y has. absurd (has_none y has);
  complete = λ y by. absurd (let low = by.2 in omega arith);
})

pub more_paths : (paths some : List Bytes) (i : ℕ) (path : Bytes) (old new : List ℕ) → slice_get some i ≡ Some path → FollowPaths paths some i old → AddsFound paths (Some path) old new → FollowPaths paths some (i + 1) new
more_paths paths some i path old new at follow adds = record {
  sound = λ y has. sound y (adds.only y has);
  complete = complete;
}
  where
    sound : (y : ℕ) → Has old y ⊎ IsFoundAt paths (Some path) y → IsNumberOf paths some (i + 1) y
    sound y (inl before) = let by = follow.sound y before in (by.0, by.1, (let low = by.2 in omega arith), by.3, by.4)
    sound y (inr here) = (i, path, omega arith, at, here.2 ∙ sym here.1)

    complete : (y : ℕ) → IsNumberOf paths some (i + 1) y → Has new y
    complete y by = elim (cases_lt by.0 i) [
      | inl before ↦ adds.keeps y (follow.complete y (by.0, by.1, before, by.3, by.4))
      | inr behind ↦
          let low = by.2 in
          let same : by.0 ≡ i = omega arith in
          adds.adds y (by.1, sym at ∙ (ap (slice_get some) (sym same) ∙ by.3), by.4)
    ]

pub paths_done : (paths some : List Bytes) (i : ℕ) (numbers : List ℕ) → i ≡ length some → FollowPaths paths some i numbers → FollowPaths paths some (length some) numbers
paths_done paths some i numbers whole follow = subst (λ (n : ℕ). FollowPaths paths some n numbers) whole follow

-- those that a signature names
pub names_done : (paths : List Bytes) (sig : Sig) (named view : List Bytes) (numbers : List ℕ) → named ≡ paths_named sig → view ≡ named → FollowPaths paths view (length view) numbers → FollowNames paths sig numbers
names_done paths sig named view numbers is same follow = subst (λ (l : List Bytes). FollowPaths paths l (length l) numbers) (same ∙ is) follow

-- ---- the signatures of some numbers

module _ (paths : List Bytes) (sigs : List Sig) where
  pub none_named : (numbers : List ℕ) (named : List (List ℕ)) → named ≡ replicate (length sigs) [] → FollowNamesOf paths sigs (take 0 numbers) named
  none_named numbers named is = record {
    len = ap length is ∙ length-replicate (length sigs) [];
    sound = λ x y edge. absurd (
        let none = get-replicate (length sigs) x [] edge.0 (ap (λ (l : List (List ℕ)). slice_get l x) (sym is) ∙ edge.1) in
        has_none y (subst (λ (l : List ℕ). Has l y) none edge.2));
    complete = λ x y has. absurd (has_none x has);
  }

  module _ (numbers : List ℕ) (i : ℕ) (old : List (List ℕ)) (sig : Sig) (ys : List ℕ) (low : i < length numbers) (at_sig : slice_get sigs (get_or numbers i 0) ≡ Some sig) (follow : FollowNames paths sig ys)
      (told : FollowNamesOf paths sigs (take i numbers) old) where
    abbrev number : ℕ
    number = get_or numbers i 0

    abbrev now : List (List ℕ)
    now = set old number ys

    here : slice_get now number ≡ Some ys
    here = put_here old number ys (let small = within_there sigs number sig at_sig in let m = told.len in omega arith)

    sound_now : (x y : ℕ) → Edge now x y → Has (take (i + 1) numbers) x × NamesNumber paths sigs x y
    sound_now x y edge = elim (at_put old number x ys edge.0 edge.1) [
      | inl own ↦
          let named : IsNumberOf paths (paths_named sig) (length (paths_named sig)) y = follow.sound y (subst (λ (l : List ℕ). Has l y) (sym own.1) edge.2) in
          (subst (Has (take (i + 1) numbers)) (sym own.0) (this numbers i low), (sig, ap (slice_get sigs) own.0 ∙ at_sig, named))
      | inr else ↦ let was = told.sound x y (edge.0, else.1, edge.2) in (earlier numbers i x was.0, was.1)
    ]

    complete_now : (x y : ℕ) → Has (take (i + 1) numbers) x → NamesNumber paths sigs x y → Edge now x y
    complete_now x y has names = dite (ℕ_discrete x number)
        (λ (same : x ≡ number).
        let is : names.0 ≡ sig = one_value names.0 sig (sym names.1 ∙ (ap (slice_get sigs) same ∙ at_sig)) in
        (ys, ap (slice_get now) same ∙ here, follow.complete y (subst (λ (g : Sig). IsNumberOf paths (paths_named g) (length (paths_named g)) y) is names.2)))
        (λ (ne : x ≢ number). elim (has_more numbers i x has) [
          | inl before ↦ let was = told.complete x y before names in (was.0, put_else old number x ys ne ∙ was.1, was.2)
          | inr next ↦ absurd (ne (sym next))
        ])

    named_one : FollowNamesOf paths sigs (take (i + 1) numbers) now
    named_one = record { len = length-set old number ys ∙ told.len; sound = sound_now; complete = complete_now }

  pub whole_named : (numbers : List ℕ) (i : ℕ) (named : List (List ℕ)) → length numbers ≤ i → FollowNamesOf paths sigs (take i numbers) named → FollowNamesOf paths sigs numbers named
  whole_named numbers i named all told = subst (λ (l : List ℕ). FollowNamesOf paths sigs l named) (take_whole numbers i all) told

pub more_named : (paths : List Bytes) (sigs : List Sig) (numbers : List ℕ) (i : ℕ) (sig mine : Sig) (ys : List ℕ) (old : List (List ℕ)) → All (λ x. x < length sigs) numbers → i < length numbers → sig ≡ get_or sigs (get_or numbers i 0) sig → mine ≡ sig
    → FollowNames paths mine ys → FollowNamesOf paths sigs (take i numbers) old → FollowNamesOf paths sigs (take (i + 1) numbers) (set old (get_or numbers i 0) ys)
more_named paths sigs numbers i sig mine ys old within low is same follow told =
    named_one paths sigs numbers i old sig ys low (get_index sigs (get_or numbers i 0) sig (merged_low numbers (length sigs) i within low) is) (subst (λ (g : Sig). FollowNames paths g ys) same follow) told

-- ---- they are the names from module to module

place_among : (paths : List Bytes) (path : Bytes) → is_among paths path ≡ true → (y : ℕ) × (slice_get paths y ≡ Some path)
place_among [] path is = absurd (let z : false ≡ true = is in cc)
place_among (p ∷ paths) path is = go (bytes_eq path p) (λ h. place_among paths path h) refl is
  where
    go : (b : Bool) → (is_among paths path ≡ true → (y : ℕ) × (slice_get paths y ≡ Some path)) → bytes_eq path p ≡ b → (b || is_among paths path) ≡ true → (y : ℕ) × (slice_get (p ∷ paths) y ≡ Some path)
    go true rest e h = (0, ap Some (sym ((bytes_decides path p).0 e)))
    go false rest e h = let later = rest h in (suc later.0, later.1)

module _ (s : Sources) (sigs : List Sig) (sources : AreSources s) where
  -- the signature of a module, by its path
  pub sig_at : (x : ℕ) (path : Bytes) (sig : Sig) → slice_get (paths_in s) x ≡ Some path → slice_get sigs x ≡ Some sig → sigs_by s sigs path ≡ Some sig
  sig_at x path sig at_path at_sig =
      let m = get_there s.root.modules x (low_path s x path at_path) in
      let same : m.0.path ≡ path = one_value m.0.path path (sym (path_get s.root.modules x m.0 m.1) ∙ at_path) in
      ap (sigs_by s sigs) (sym same) ∙ beside_at (program_in s) sigs x (m.0.path, sig) (rising_program s sources) (beside_get s.root.modules sigs x m.0 sig m.1 at_sig)

  module _ (many : length sigs ≡ length s.root.modules) (numbers : List ℕ) (named : List (List ℕ)) (follow : FollowNamesOf (paths_in s) sigs numbers named) where
    abbrev NamesAt : ℕ → ℕ → Type 0
    NamesAt = IsStep (Names (sigs_by s sigs)) (paths_in s)

    sound : (x y : ℕ) → Edge named x y → Has numbers x × NamesAt x y
    sound x y edge =
        let it = follow.sound x y edge in
        let sig = it.1.0 in
        let by = it.1.2 in
        let low = within_there sigs x sig it.1.1 in
        let all = as_many s in
        let path = get_there (paths_in s) x (omega arith) in (
          it.0,
          record {
            path = path.0;
            other = by.1;
            at_path = path.1;
            at_other = by.4;
            step = (sig, sig_at x path.0 sig path.1 it.1.1, among (paths_named sig) by.0 by.1 by.3);
          },
        )

    complete : (x y : ℕ) → Has numbers x → NamesAt x y → Edge named x y
    complete x y has st =
        let low = low_path s x st.path st.at_path in
        let sig = get_there sigs x (omega arith) in
        let same : sig.0 ≡ st.step.0 = one_value sig.0 st.step.0 (sym (sig_at x st.path sig.0 st.at_path sig.1) ∙ st.step.1) in
        let k = place_among (paths_named sig.0) st.other (ap (λ (t : Sig). is_among (paths_named t) st.other) same ∙ st.step.2) in
        follow.complete x y has (sig.0, sig.1, (k.0, st.other, within_there (paths_named sig.0) k.0 st.other k.1, k.1, st.at_other))

    steps : AreStepsOf (Names (sigs_by s sigs)) (paths_in s) numbers named
    steps = record { len = follow.len ∙ (many ∙ sym (as_many s)); sound = sound; complete = complete }

pub are_steps : (s : Sources) (root : Root) (sigs : List Sig) (numbers : List ℕ) (named : List (List ℕ)) → AreSources s → length sigs ≡ length s.root.modules → root ≡ s.root → FollowNamesOf (roots.paths_of root) sigs numbers named
    → AreStepsOf (Names (sigs_by s sigs)) (paths_in s) numbers named
are_steps s root sigs numbers named sources many same follow = steps s sigs sources many numbers named (subst (λ (r : Root). FollowNamesOf (roots.paths_of r) sigs numbers named) same follow)
