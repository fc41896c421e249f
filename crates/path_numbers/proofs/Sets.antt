-- The affected paths are those at the affected places.
use Rattle.std.proofs.Common.{◌≡◌, inl, inr, ℕ, zero, suc, List, [], ◌∷◌, get_or, slice_get, Option, Some, None, refl, sym, ap, ◌∙◌, subst, arith}
use Rattle.std.specs.Ordering.{nat_cmp}
use Rattle.std.specs.Cmp.Lexicographic.{slice_cmp}
use Rattle.std.specs.declared.cmp.Ordering.TheVariants.{Less}
use Rattle.flow_base.specs.Program.{Bytes, Program, IsRising, paths_of}
use Rattle.graph_search.specs.Cycles.{Has, Edge}
use Rattle.graph_search.specs.Reach as reach
use Rattle.graph_search.proofs.Rising.{one_at}
use Rattle.merged_signatures.specs.Chains.{Known, found}
use Rattle.merged_signatures.specs.Imports as imports
use Rattle.recheck_plan.specs.Affected.{AreExactly, LeadsToTouched, IsToCheck}
use Rattle.affected_sizes.specs.program_check.specs.Full.{Results, known_of, view_in, sigs_in, IsFull}
use Rattle.affected_sizes.specs.affected_law.specs.Affected.{IsPathOf, results_at, Differs, Merged, Checked}
use Rattle.affected_sizes.specs.affected_law.specs.Inside.{NamedIsKnown, ImportsStayInside}
use Rattle.affected_sizes.specs.affected_law.proofs.Places.{some_same, is_path, module_at, known_at}
use Rattle.affected_sizes.specs.Paths.{ArePaths}
use Rattle.affected_sizes.specs.Polls.{AreImports}
use Rattle.affected_sizes.proofs.Lists.{in_order}
use Rattle.recheck_law.specs.Names.{Names, LeadsToMoved, text_differs, deps_differ, finds_moved, CheckedIsByNames}
use Rattle.path_numbers.specs.Ways.{AreSteps}
use Rattle.path_numbers.specs.Sets.{paths_at, ArePlaces, IsNewOrDiffers, MergedAreNumbers, StirredAreNumbers, CheckedAreNumbers}
use Rattle.path_numbers.proofs.Ways.{has_start, is_path_of, has_path_of, import_steps, imports_stay, imports_lead, names_lead, names_inside}

-- ---- paths at places

get_is : {A : Type 0} (xs : List A) (i : ℕ) (d x : A) → slice_get xs i ≡ Some x → get_or xs i d ≡ x
get_is [] i d x at = absurd (let z : None ≡ Some x = at in cc)
get_is (y ∷ xs) zero d x at = let z : Some y ≡ Some x = at in cc
get_is (y ∷ xs) (suc i) d x at = get_is xs i d x at

module _ (paths : List Bytes) where
  at_place : (all : List ℕ) (i x : ℕ) → slice_get all i ≡ Some x → slice_get (paths_at paths all) i ≡ Some (get_or paths x [])
  at_place [] i x at = absurd (let z : None ≡ Some x = at in cc)
  at_place (y ∷ all) zero x at = let z : Some y ≡ Some x = at in let same : y ≡ x = cc in ap (λ (k : ℕ). Some (get_or paths k [])) same
  at_place (y ∷ all) (suc i) x at = at_place all i x at

  place_at : (all : List ℕ) (i : ℕ) (p : Bytes) → slice_get (paths_at paths all) i ≡ Some p → (x : ℕ) × (slice_get all i ≡ Some x) × (get_or paths x [] ≡ p)
  place_at [] i p at = absurd (let z : None ≡ Some p = at in cc)
  place_at (y ∷ all) zero p at = (y, refl, (let z : Some (get_or paths y []) ≡ Some p = at in cc))
  place_at (y ∷ all) (suc i) p at = place_at all i p at

abbrev FollowsOn : List Bytes → Type 0
FollowsOn xs = (i : ℕ) (p q : Bytes) → slice_get xs i ≡ Some p → slice_get xs (suc i) ≡ Some q → slice_cmp nat_cmp p q ≡ Less

rising_from : (xs : List Bytes) → FollowsOn xs → IsRising xs
rising_from [] follows = tt
rising_from (x ∷ []) follows = tt
rising_from (x ∷ y ∷ xs) follows = (follows 0 x y refl refl, rising_from (y ∷ xs) (λ i p q a b. follows (suc i) p q a b))

module _ (Holds : Bytes → Type 0) (paths : List Bytes) (rising : IsRising paths) (all : List ℕ) (numbers : reach.IsRising all)
    (sound : (x : ℕ) → Has all x → (path : Bytes) × (slice_get paths x ≡ Some path) × Holds path)
    (complete : (path : Bytes) → Holds path → (x : ℕ) × (slice_get paths x ≡ Some path) × Has all x) where
  holds_at : (i : ℕ) (p : Bytes) → slice_get (paths_at paths all) i ≡ Some p → (x : ℕ) × (slice_get all i ≡ Some x) × (slice_get paths x ≡ Some p) × Holds p
  holds_at i p at =
      let x = place_at paths all i p at in
      let s = sound x.0 (i, x.1) in
      let same : s.0 ≡ p = sym (get_is paths x.0 [] s.0 s.1) ∙ x.2 in
      (x.0, x.1, s.1 ∙ ap Some same, subst Holds same s.2)

  pub are_paths : ArePaths Holds (paths_at paths all)
  are_paths = record {
    rising = rising_from (paths_at paths all) (λ i p q a b. (
        let x = holds_at i p a in
        let y = holds_at (suc i) q b in
        in_order paths rising x.0 y.0 p q (numbers i (suc i) x.0 y.0 (omega arith) x.1 y.1) x.2 y.2));
    sound = λ p has. (holds_at has.0 p has.1).3;
    complete = λ p holds. (
        let c = complete p holds in
        (c.2.0, at_place paths all c.2.0 c.0 c.2.1 ∙ ap Some (get_is paths c.0 [] p c.1)));
  }

-- ---- the sets

module _ (inside : ImportsStayInside) (known : NamedIsKnown) (old new : Program) (before after : List Results) (full : IsFull new after) (rising : IsRising (paths_of new)) where
  abbrev paths : List Bytes
  paths = paths_of new

  module _ (edges : List (List ℕ)) (touched all : List ℕ) (are : AreImports (view_in new after) paths edges)
      (places : ArePlaces (Differs (view_in old before) (view_in new after)) paths touched) (exactly : AreExactly (LeadsToTouched edges touched) all) where
    merged_sound : (x : ℕ) → Has all x → (path : Bytes) × (slice_get paths x ≡ Some path) × Merged old new before after path
    merged_sound x has =
        let t = exactly.sound x has in
        let d = places.sound t.0 t.1 in
        let p = has_start (imports.Edge (view_in new after)) paths edges (import_steps (view_in new after) paths edges are) t.2 d.0 d.1 in
        let leads = (imports_lead inside new after edges full rising are x t.0 p.0 d.0 (record { at_path = p.1; at_other = d.1 })).0 t.2 in
        (p.0, p.1, (is_path_of new p.0 (x, p.1), d.0, leads, d.2))

    merged_complete : (path : Bytes) → Merged old new before after path → (x : ℕ) × (slice_get paths x ≡ Some path) × Has all x
    merged_complete path merged =
        let x = has_path_of new path merged.0 in
        let y = has_path_of new merged.1 (inside new after full path merged.1 merged.0 merged.2) in
        let leads = (imports_lead inside new after edges full rising are x.0 y.0 path merged.1 (record { at_path = x.1; at_other = y.1 })).1 merged.2 in
        (x.0, x.1, exactly.complete x.0 (y.0, places.complete y.0 merged.1 y.1 merged.3, leads))

  module _ (named : List (List ℕ)) (moved stirred : List ℕ) (are : AreSteps (Names (sigs_in new after)) paths named)
      (places : ArePlaces (Differs (sigs_in old before) (sigs_in new after)) paths moved) (exactly : AreExactly (LeadsToTouched named moved) stirred) where
    stirred_sound : (x : ℕ) → Has stirred x → (path : Bytes) × (slice_get paths x ≡ Some path) × LeadsToMoved old new before after path
    stirred_sound x has =
        let t = exactly.sound x has in
        let d = places.sound t.0 t.1 in
        let p = has_start (Names (sigs_in new after)) paths named are t.2 d.0 d.1 in
        let leads = (names_lead known new after named full rising are x t.0 p.0 d.0 (record { at_path = p.1; at_other = d.1 })).0 t.2 in
        (p.0, p.1, (d.0, leads, d.2))

    stirred_complete : (x : ℕ) (path : Bytes) → slice_get paths x ≡ Some path → LeadsToMoved old new before after path → Has stirred x
    stirred_complete x path at leads_to =
        let y = names_inside new after full known path leads_to.0 (x, at) leads_to.1 in
        let leads = (names_lead known new after named full rising are x y.0 path leads_to.0 (record { at_path = at; at_other = y.1 })).1 leads_to.1 in
        exactly.complete x (y.0, places.complete y.0 leads_to.0 y.1 leads_to.2, leads)

  module _ (by_names : CheckedIsByNames) (edges : List (List ℕ)) (touched stirred all : List ℕ) (are : AreImports (view_in new after) paths edges)
      (places : ArePlaces (IsNewOrDiffers old new before after) paths touched) (stirs : ArePlaces (LeadsToMoved old new before after) paths stirred)
      (exactly : AreExactly (IsToCheck edges touched stirred) all) where
    abbrev AtPlace : ℕ → Type 0
    AtPlace x = (path : Bytes) × (slice_get paths x ≡ Some path) × Checked old new before after path

    of_touched : (x : ℕ) → Has touched x → AtPlace x
    of_touched x has = let t = places.sound x has in (t.0, t.1, go t.2)
      where
        go : {path : Bytes} → IsNewOrDiffers old new before after path → Checked old new before after path
        go {path} (inl parsed) = (by_names old new before after path).1 (text_differs parsed)
        go {path} (inr (r, s, was, is, differs)) = (by_names old new before after path).1 (deps_differ r s was is differs)

    -- what is known of a path is of its results
    results_of : (path : Bytes) (k : Known) → view_in new after path ≡ Some k → (s : Results) × (results_at new after path ≡ Some s) × (known_of s ≡ k)
    results_of path k is = go (results_at new after path) refl
      where
        go : (o : Option Results) → results_at new after path ≡ o → (s : Results) × (results_at new after path ≡ Some s) × (known_of s ≡ k)
        go None at = absurd (let z : None ≡ Some k = sym (known_at new after path None at) ∙ is in cc)
        go (Some s) at = (s, at, some_same (known_of s) k (sym (known_at new after path (Some s) at) ∙ is))

    of_found : (x m : ℕ) → Edge edges x m → Has stirred m → AtPlace x
    of_found x m edge has =
        let i = are.sound x m edge in
        let k = i.edge in
        let s = results_of i.path k.0 k.2 in
        let t = stirs.sound m has in
        let leads = subst (LeadsToMoved old new before after) (one_at paths m t.0 i.other t.1 i.at_other) t.2 in
        (i.path, i.at_path, (by_names old new before after i.path).1 (finds_moved s.0 i.other s.1 (k.1, ap (λ (n : Known). found n.deps k.1) s.2 ∙ k.3) leads))

    checked_sound : (x : ℕ) → Has all x → AtPlace x
    checked_sound x has = elim (exactly.sound x has) [ inl here ↦ of_touched x here | inr finds ↦ of_found x finds.0 finds.1 finds.2 ]

    abbrev HasPlace : Bytes → Type 0
    HasPlace path = (x : ℕ) × (slice_get paths x ≡ Some path) × Has all x

    touched_place : (path : Bytes) → IsPathOf new path → IsNewOrDiffers old new before after path → HasPlace path
    touched_place path is differs = let x = has_path_of new path is in (x.0, x.1, exactly.complete x.0 (inl (places.complete x.0 path x.1 differs)))

    path_with : (path : Bytes) (s : Results) → results_at new after path ≡ Some s → IsPathOf new path
    path_with path s at = let m = module_at new after path s full at in is_path new path m.0 m.1.has_text

    checked_complete : (path : Bytes) → Checked old new before after path → HasPlace path
    checked_complete path checked = elim ((by_names old new before after path).0 checked) [
      | text_differs parsed ↦ touched_place path parsed.0 (inl parsed)
      | deps_differ r s was is differs ↦ touched_place path (path_with path s is) (inr (r, s, was, is, differs))
      | finds_moved s first is finds leads ↦ (
          let x = has_path_of new path (path_with path s is) in
          let edge : imports.Edge (view_in new after) path first = (known_of s, finds.0, known_at new after path (Some s) is, finds.1) in
          let y = imports_stay new after full inside path first x edge in
          (x.0, x.1, exactly.complete x.0 (inr (y.0, are.complete x.0 y.0 (record { path = path; other = first; at_path = x.1; at_other = y.1; edge = edge }), stirs.complete y.0 first y.1 leads))))
    ]

pub merged_are_numbers : ImportsStayInside → NamedIsKnown → MergedAreNumbers
merged_are_numbers inside known old new before after full rising edges touched all are places exactly =
    are_paths (Merged old new before after) (paths_of new) rising all exactly.rising (merged_sound inside known old new before after full rising edges touched all are places exactly)
    (merged_complete inside known old new before after full rising edges touched all are places exactly)

pub stirred_are_numbers : ImportsStayInside → NamedIsKnown → StirredAreNumbers
stirred_are_numbers inside known old new before after full rising named moved stirred are places exactly = record {
  sound = stirred_sound inside known old new before after full rising named moved stirred are places exactly;
  complete = stirred_complete inside known old new before after full rising named moved stirred are places exactly;
}

pub checked_are_numbers : ImportsStayInside → NamedIsKnown → CheckedIsByNames → CheckedAreNumbers
checked_are_numbers inside known by_names old new before after full rising edges touched stirred all are places stirs exactly =
    are_paths (Checked old new before after) (paths_of new) rising all exactly.rising (checked_sound inside known old new before after full rising by_names edges touched stirred all are places stirs exactly)
    (checked_complete inside known old new before after full rising by_names edges touched stirred all are places stirs exactly)
