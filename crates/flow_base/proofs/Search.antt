-- A path is looked up among rows whose paths rise by a binary search.
use Rattle.std.proofs.Common.{◌≡◌, ◌≢◌, ℕ, zero, suc, ◌<◌, List, [], ◌∷◌, length, get_or, map, Option, Some, None, Result, Ok, Err, IfSome, refl, sym, ap, ◌∙◌, subst, inl, inr, arith, if◌then◌else◌}
use Rattle.std.specs.Prelude.{nat_eq, slice_get}
use Rattle.std.specs.List.{HoldsAt}
use Rattle.std.specs.List.Sorted.{IsBinarySearchResult, IsSearchInRange}
use Rattle.std.specs.Option.{option_map, option_and_then}
use Rattle.std.specs.Result.{result_ok}
use Rattle.std.specs.Ordering.{nat_cmp}
use Rattle.std.specs.Cmp.Lexicographic.{slice_cmp, pointwise, nat_list_cmp_total, bytes_decides}
use Rattle.std.specs.declared.cmp.Ordering.{Ordering}
use Rattle.std.specs.declared.cmp.Ordering.TheVariants.{Less, Equal, Greater}
use Rattle.std.proofs.lemmas.Bool.{cases_Bool, cases_lt}
use Rattle.std.proofs.lemmas.List.Sorted.{searchable_from_sorted}
use Rattle.std.proofs.lemmas.Map.Lookups.{exact_bytes}
pub use Rattle.flow_values.proofs.Rising.{sorted_from_rising}
use Rattle.flow_base.specs.Program.{Bytes, Program, paths_of, IsRising, text_at}
use Rattle.flow_base.proofs.Rising.{IsBelowAll, below_all, found_itself, found_behind, not_below_itself, rising_rest}

abbrev Cmp : Bytes → Bytes → Ordering
Cmp a b = slice_cmp nat_cmp a b

not_above_itself : (path : Bytes) → Cmp path path ≡ Greater → ⊥
not_above_itself path above = cc (above, nat_list_cmp_total.antisymm path path)

absent : (rows : Program) (path : Bytes) → ((k : ℕ) (d : Bytes × Bytes) → k < length rows → (get_or rows k d).0 ≢ path) → text_at rows path ≡ None
absent [] path differ = refl
absent (row ∷ rows) path differ = elim (cases_Bool (pointwise nat_eq row.0 path)) [
  | inl same ↦ absurd (differ 0 row (omega arith) ((bytes_decides row.0 path).0 same))
  | inr other ↦ ap (λ same. if same then Some row.1 else text_at rows path) other ∙ absent rows path (λ k d within. differ (suc k) d (omega arith))
]

-- what is below all paths is below that of each row
pub below_at : {T : Type 0} (path : T → Bytes) (low : Bytes) (rows : List T) (at : ℕ) (d : T) → at < length rows → IsBelowAll low (map path rows) → Cmp low (path (get_or rows at d)) ≡ Less
below_at path low [] at d within all = absurd (omega arith)
below_at path low (row ∷ rows) zero d within all = all.0
below_at path low (row ∷ rows) (suc at) d within all = below_at path low rows at d (omega arith) all.1

abbrev text_in : Program → ℕ → Option Bytes
text_in rows at = option_map (λ (row : Bytes × Bytes). row.1) (slice_get rows at)

found_there : (rows : Program) (path : Bytes) (at : ℕ) → IsRising (paths_of rows) → at < length rows → HoldsAt (λ row. Cmp row.0 path ≡ Equal) rows at → text_at rows path ≡ text_in rows at
found_there [] path at rising within holds = absurd (omega arith)
found_there (row ∷ rows) path zero rising within holds = ap (text_at (row ∷ rows)) (sym (exact_bytes row.0 path (holds row))) ∙ found_itself row rows
found_there (row ∷ rows) path (suc at) rising within holds =
    let inside : at < length rows = omega arith in
    let low = below_at (λ row. row.0) row.0 rows at row inside (below_all row.0 (paths_of rows) rising) in
    let below : Cmp row.0 path ≡ Less = subst (λ (p : Bytes). Cmp row.0 p ≡ Less) (exact_bytes (get_or rows at row).0 path (holds row)) low in
    found_behind row rows path below ∙ found_there rows path at (rising_rest row.0 (paths_of rows) rising) inside (λ d. holds d)

module _ (rows : Program) (rising : IsRising (paths_of rows)) (path : Bytes) where
  -- a binary search ends at the path's row, or where there is none
  pub searched : (r : Result ℕ ℕ) → IsSearchInRange r (length rows) → IsBinarySearchResult (λ row. Cmp row.0 path) rows r
      → (text_at rows path ≡ option_and_then (λ at. option_map (λ row. row.1) (slice_get rows at)) (result_ok r)) × IfSome (result_ok r) (λ at. at < length rows)
  searched (Ok at) within found = (found_there rows path at rising within found, within)
  searched (Err at) within found =
      let parted = found (searchable_from_sorted nat_list_cmp_total (λ row. row.0) rows path (sorted_from_rising (λ row. row.0) rows rising)) in
      let differ : (k : ℕ) (d : Bytes × Bytes) → k < length rows → (get_or rows k d).0 ≢ path = λ k d inside same. elim (cases_lt k at) [
        | inl before ↦ not_below_itself path (subst (λ (p : Bytes). Cmp p path ≡ Less) same (parted.0 k d (omega arith) before))
        | inr behind ↦ not_above_itself path (subst (λ (p : Bytes). Cmp p path ≡ Greater) same (parted.1 k d behind inside))
      ] in
      (absent rows path differ, tt)
