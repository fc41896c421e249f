-- Whether a path is affected can be told, and it is a path of the new program.
use Rattle.std.proofs.Common.{◌≡◌, ◌≢◌, ◌⊎◌, true, false, List, [], map, Option, Some, None, IsSome, refl, sym, ap, ◌∙◌, inl, inr, subst}
use Rattle.std.specs.Coded.{Coded, coded_ℕ, coded_list, coded_option}
use Rattle.flow_base.specs.Program.{Bytes, Program, paths_of, text_at}
use Rattle.check_values.specs.Rows.{Rows, row_at}
use Rattle.check_values.specs.contracts.signatures.Deps as deps_type
use Rattle.check_values.specs.contracts.signatures.Sig as sig_type
use Rattle.merged_signatures.specs.Chains.{Known, View, found}
use Rattle.merged_signatures.specs.Imports.{Imports, itself, further, Edge}
use Rattle.merged_signatures.specs.Reach.{Reach}
use Rattle.full_law.specs.program_check.specs.Full.{Results, beside, known_of, view_in, sigs_in, IsFull}
use Rattle.affected_law.specs.Affected.{IsPathOf, results_at, Differs, Parsed, Merged, Checked, by_text, by_deps, by_reach}
use Rattle.affected_law.proofs.Places.{module_at, one_at}
use Rattle.affected_law.proofs.Inside.{imports_stay_inside, reach_stays_inside}
use Rattle.affected_sizes.proofs.Reached.{same_bytes, has_row, tell_finds, tell_reach}
use Rattle.affected_sizes.proofs.Coding.{known_code}
use Rattle.graph_laws.proofs.Ways.{Told, HasPlace, Via, tell, step_via, through, kept}
use Rattle.graph_laws.proofs.Telling.{told_both, told_not}
use Rattle.graph_search.proofs.Lists.{none_some}
use Rattle.affected_sizes.proofs.Telling.{told_is, told_some, told_by}

-- ---- what differs

told_differs : {A : Type 0} → Coded A → (a b : A) → Told (a ≢ b)
told_differs c a b = told_not (told_by c a b)

-- ---- paths of a program

text_row : (program : Program) (path text : Bytes) → text_at program path ≡ Some text → HasPlace (paths_of program) path
text_row program path text is = has_row program path text is

pub path_place : (program : Program) (path : Bytes) → IsSome (text_at program path) → HasPlace (paths_of program) path
path_place program path is = go (text_at program path) refl is
  where
    go : (o : Option Bytes) → text_at program path ≡ o → IsSome o → HasPlace (paths_of program) path
    go None at some = absurd (let z : false ≡ true = some in cc)
    go (Some text) at some = text_row program path text at

-- ---- the import edges

pub told_edge : (view : View) (p q : Bytes) → Told (Edge view p q)
told_edge view p q = go (view p) refl
  where
    by : (m : Known) → view p ≡ Some m → Told ((spec : Bytes) × (found m.deps spec ≡ Some q)) → Told (Edge view p q)
    by m is (inl finds) = inl (m, finds.0, is, finds.1)
    by m is (inr never) = inr (λ edge. never (edge.1, ap (λ (k : Known). found k.deps edge.1) (one_at (view p) m edge.0 is edge.2) ∙ edge.3))

    go : (o : Option Known) → view p ≡ o → Told (Edge view p q)
    go None is = inr (λ edge. none_some edge.0 (sym is ∙ edge.2))
    go (Some m) is = by m is (tell_finds m.deps [] q)

module _ (rows : Rows Known) where
  abbrev view : View
  view = row_at rows

  abbrev names : List Bytes
  names = map (λ (row : Bytes × Known). row.0) rows

  told_imports : (p q : Bytes) → Told (Imports view p q)
  told_imports p q = go (same_bytes p q) (tell (Edge view) (told_edge view) names p q)
    where
      leads : (ks : List Bytes) (a b : Bytes) → Imports view p a → Via (Edge view) ks a b → Imports view p b
      leads ks a b so_far via = kept (Edge view) (λ (c : Bytes). Imports view p c) (λ x y way edge. further x y way edge) ks a b so_far via

      way : (b : Bytes) → Imports view p b → (p ≡ b) ⊎ Via (Edge view) names p b
      way _ itself = inl refl
      way _ (further a b so_far edge) = elim (way a so_far) [
        | inl same ↦ inr (step_via (Edge view) names p b (subst (λ (z : Bytes). Edge view z b) (sym same) edge))
        | inr via ↦ inr (through (Edge view) names a p b (has_row rows a edge.0 edge.2) via (step_via (Edge view) names a b edge))
      ]

      go : Told (p ≡ q) → Told (Via (Edge view) names p q) → Told (Imports view p q)
      go (inl same) via = inl (subst (λ (z : Bytes). Imports view p z) same itself)
      go (inr other) (inl via) = inl (leads names p q itself via)
      go (inr other) (inr none) = inr (λ way_there. elim (way q way_there) [ inl same ↦ other same | inr via ↦ none via ])

-- ---- the three sets

pub told_parsed : (old new : Program) (path : Bytes) → Told (Parsed old new path)
told_parsed old new path = told_both (told_is (text_at new path)) (told_differs (coded_option (coded_list coded_ℕ)) (text_at new path) (text_at old path))

module _ (old new : Program) (before after : List Results) (full : IsFull new after) where
  told_from : (path : Bytes) → IsPathOf new path → Told ((other : Bytes) × (Imports (view_in new after) path other × Differs (view_in old before) (view_in new after) other))
  told_from path is = told_some (λ other. Imports (view_in new after) path other × Differs (view_in old before) (view_in new after) other) (paths_of new)
      (λ other has. told_both (told_imports (beside new (map known_of after)) path other) (told_differs (coded_option known_code) (view_in new after other) (view_in old before other)))
      (λ other both. path_place new other (imports_stay_inside new after full path other is both.0))

  pub told_merged : (path : Bytes) → Told (Merged old new before after path)
  told_merged path = go (told_is (text_at new path))
    where
      by : (is : IsPathOf new path) → Told ((other : Bytes) × (Imports (view_in new after) path other × Differs (view_in old before) (view_in new after) other)) → Told (Merged old new before after path)
      by is (inl found) = inl (is, found.0, found.1.0, found.1.1)
      by is (inr never) = inr (λ merged. never (merged.1, (merged.2, merged.3)))

      go : Told (IsPathOf new path) → Told (Merged old new before after path)
      go (inl is) = by is (told_from path is)
      go (inr never) = inr (λ merged. never merged.0)

  told_deps : (path : Bytes) (s : Results) → results_at new after path ≡ Some s → Told ((r : Results) × ((results_at old before path ≡ Some r) × (s.deps ≢ r.deps)))
  told_deps path s at = go (results_at old before path) refl
    where
      go : (o : Option Results) → results_at old before path ≡ o → Told ((r : Results) × ((results_at old before path ≡ Some r) × (s.deps ≢ r.deps)))
      go None was = inr (λ found. none_some found.0 (sym was ∙ found.1.0))
      go (Some r) was = elim (told_differs deps_type.the_row.coded s.deps r.deps) [
        | inl other ↦ inl (r, (was, other))
        | inr same ↦ inr (λ found. same (λ e. found.1.1 (e ∙ ap (λ (t : Results). t.deps) (one_at (results_at old before path) r found.0 was found.1.0))))
      ]

  told_reached : (path : Bytes) (s : Results) → results_at new after path ≡ Some s → Told ((other : Bytes) × (Reach (sigs_in new after) s.deps other × Differs (sigs_in old before) (sigs_in new after) other))
  told_reached path s at = told_some (λ other. Reach (sigs_in new after) s.deps other × Differs (sigs_in old before) (sigs_in new after) other) (paths_of new)
      (λ other has. told_both (tell_reach s.deps (beside new (map (λ (r : Results). r.sig) after)) other) (told_differs (coded_option sig_type.the_row.coded) (sigs_in new after other) (sigs_in old before other)))
      (λ other both. path_place new other (reach_stays_inside new after full path other s at both.0))

  pub told_checked : (path : Bytes) → Told (Checked old new before after path)
  told_checked path = go (told_parsed old new path) (results_at new after path) refl
    where
      last : (s : Results) → results_at new after path ≡ Some s → ¬ (Parsed old new path) → Told ((r : Results) × ((results_at old before path ≡ Some r) × (s.deps ≢ r.deps)))
          → Told ((other : Bytes) × (Reach (sigs_in new after) s.deps other × Differs (sigs_in old before) (sigs_in new after) other)) → Told (Checked old new before after path)
      last s at never (inl found) reached = inl (by_deps found.0 s found.1.0 at found.1.1)
      last s at never (inr none) (inl found) = inl (by_reach s found.0 at found.1.0 found.1.1)
      last s at never (inr none) (inr unreached) = inr neither
        where
          neither : Checked old new before after path → ⊥
          neither (by_text parsed) = never parsed
          neither (by_deps x y is_x is_y differs) = none (x, (is_x, (λ e. differs (ap (λ (t : Results). t.deps) (one_at (results_at new after path) y s is_y at) ∙ e))))
          neither (by_reach y other is_y reach differs) = unreached (other, (subst (λ (t : Results). Reach (sigs_in new after) t.deps other) (one_at (results_at new after path) y s is_y at) reach, differs))

      none_here : results_at new after path ≡ None → ¬ (Parsed old new path) → Checked old new before after path → ⊥
      none_here at never (by_text parsed) = never parsed
      none_here at never (by_deps x y is_x is_y differs) = none_some y (sym at ∙ is_y)
      none_here at never (by_reach y other is_y reach differs) = none_some y (sym at ∙ is_y)

      go : Told (Parsed old new path) → (o : Option Results) → results_at new after path ≡ o → Told (Checked old new before after path)
      go (inl parsed) o at = inl (by_text parsed)
      go (inr never) None at = inr (none_here at never)
      go (inr never) (Some s) at = last s at never (told_deps path s at) (told_reached path s at)

  -- what is checked is a path of the new program
  pub checked_inside : (path : Bytes) → Checked old new before after path → HasPlace (paths_of new) path
  checked_inside path (by_text parsed) = path_place new path parsed.0
  checked_inside path (by_deps x y is_x is_y differs) = let m = module_at new after path y full is_y in text_row new path m.0 m.1.has_text
  checked_inside path (by_reach y other is_y reach differs) = let m = module_at new after path y full is_y in text_row new path m.0 m.1.has_text
