-- The row of a name among rows whose names rise is found by halving.
use Rattle.std.proofs.Common.{◌≡◌, ◌≢◌, ℕ, zero, suc, ◌<◌, Bool, true, false, List, [], ◌∷◌, length, get_or, map, Option, Some, None, Result, Ok, Err, refl, sym, ap, ◌∙◌, subst, inl, inr, arith, cond, bytes_eq}
use Rattle.std.specs.Prelude.{slice_get}
use Rattle.std.specs.List.{HoldsAt, AllByRecursion}
use Rattle.std.specs.List.Sorted.{IsBinarySearchResult, IsSearchInRange}
use Rattle.std.specs.Option.{option_map}
use Rattle.std.specs.Result.{result_ok}
use Rattle.std.specs.Ordering.{nat_cmp}
use Rattle.std.specs.Cmp.Lexicographic.{slice_cmp, nat_list_cmp_total}
use Rattle.std.specs.declared.cmp.Ordering.{Ordering}
use Rattle.std.specs.declared.cmp.Ordering.TheVariants.{Less, Equal, Greater}
use Rattle.std.proofs.lemmas.Bool.{cases_lt}
use Rattle.std.proofs.lemmas.List.Sorted.{searchable_from_sorted}
use Rattle.std.proofs.lemmas.Map.Lookups.{exact_bytes}
use Rattle.flow_values.specs.Path.{IsRising}
use Rattle.flow_values.proofs.Rising.{sorted_from_rising}
use Rattle.check_values.specs.Rows.{Bytes, Rows, row_at}
use Rattle.check_values.specs.declared.signatures.Export.{Export}
use Rattle.merged_signatures.proofs.Names.{bytes_same, bytes_itself}
use Rattle.asked_exports.specs.Asked.{names_rise}
use Rattle.asked_exports.specs.Gathering.{IsRowOf}

abbrev Cmp : Bytes → Bytes → Ordering
Cmp a b = slice_cmp nat_cmp a b

not_below_itself : (name : Bytes) → Cmp name name ≡ Less → ⊥
not_below_itself name below = cc (below, nat_list_cmp_total.antisymm name name)

not_above_itself : (name : Bytes) → Cmp name name ≡ Greater → ⊥
not_above_itself name above = cc (above, nat_list_cmp_total.antisymm name name)

-- ---- names that rise

abbrev IsBelowAll : Bytes → List Bytes → Type 0
IsBelowAll name names = AllByRecursion (λ other. Cmp name other ≡ Less) names

carry : (name next : Bytes) → Cmp name next ≡ Less → (names : List Bytes) → IsBelowAll next names → IsBelowAll name names
carry name next below [] all = tt
carry name next below (other ∷ names) all = (nat_list_cmp_total.trans name next other below all.0, carry name next below names all.1)

below_all : (name : Bytes) (names : List Bytes) → IsRising (name ∷ names) → IsBelowAll name names
below_all name [] rising = tt
below_all name (next ∷ names) rising = (rising.0, carry name next rising.0 names (below_all next names rising.1))

rising_rest : (name : Bytes) (names : List Bytes) → IsRising (name ∷ names) → IsRising names
rising_rest name [] rising = tt
rising_rest name (next ∷ names) rising = rising.1

below_at : (low : Bytes) (rows : Rows Export) (at : ℕ) (d : Bytes × Export) → at < length rows → IsBelowAll low (map (λ row. row.0) rows) → Cmp low (get_or rows at d).0 ≡ Less
below_at low [] at d within all = absurd (omega arith)
below_at low (row ∷ rows) zero d within all = all.0
below_at low (row ∷ rows) (suc at) d within all = below_at low rows at d (omega arith) all.1

-- ---- the row that is found

abbrev export_at : Rows Export → ℕ → Option Export
export_at rows at = option_map (λ (row : Bytes × Export). row.1) (slice_get rows at)

front : (row : Bytes × Export) (rows : Rows Export) (name : Bytes) → row.0 ≡ name → row_at (row ∷ rows) name ≡ Some row.1
front row rows name same = ap (λ (b : Bool). cond b (Some row.1) (row_at rows name)) (ap (bytes_eq row.0) (sym same) ∙ bytes_itself row.0)

behind : (row : Bytes × Export) (rows : Rows Export) (name : Bytes) → row.0 ≢ name → row_at (row ∷ rows) name ≡ row_at rows name
behind row rows name differ = go (bytes_eq row.0 name) refl
  where
    go : (b : Bool) → bytes_eq row.0 name ≡ b → cond b (Some row.1) (row_at rows name) ≡ row_at rows name
    go true e = absurd (differ (bytes_same row.0 name e))
    go false e = refl

found_there : (rows : Rows Export) (name : Bytes) (at : ℕ) → names_rise rows → at < length rows → HoldsAt (λ row. Cmp row.0 name ≡ Equal) rows at → row_at rows name ≡ export_at rows at
found_there [] name at rising within holds = absurd (omega arith)
found_there (row ∷ rows) name zero rising within holds = front row rows name (exact_bytes row.0 name (holds row))
found_there (row ∷ rows) name (suc at) rising within holds =
    let inside : at < length rows = omega arith in
    let low = below_at row.0 rows at row inside (below_all row.0 (map (λ row. row.0) rows) rising) in
    let below : Cmp row.0 name ≡ Less = subst (λ (n : Bytes). Cmp row.0 n ≡ Less) (exact_bytes (get_or rows at row).0 name (holds row)) low in
    behind row rows name (λ same. not_below_itself name (subst (λ (n : Bytes). Cmp n name ≡ Less) same below))
    ∙ found_there rows name at (rising_rest row.0 (map (λ row. row.0) rows) rising) inside (λ d. holds d)

absent : (rows : Rows Export) (name : Bytes) → ((k : ℕ) (d : Bytes × Export) → k < length rows → (get_or rows k d).0 ≢ name) → row_at rows name ≡ None
absent [] name differ = refl
absent (row ∷ rows) name differ = behind row rows name (differ 0 row (omega arith)) ∙ absent rows name (λ k d within. differ (suc k) d (omega arith))

module _ (rows : Rows Export) (rising : names_rise rows) (name : Bytes) where
  -- halving ends at the name's row, or where there is none
  pub searched : (r : Result ℕ ℕ) → IsSearchInRange r (length rows) → IsBinarySearchResult (λ row. Cmp row.0 name) rows r → IsRowOf rows name (result_ok r)
  searched (Ok at) within found = record { row = found_there rows name at rising within found; within = within }
  searched (Err at) within found =
      let parted = found (searchable_from_sorted nat_list_cmp_total (λ row. row.0) rows name (sorted_from_rising (λ row. row.0) rows rising)) in
      let differ : (k : ℕ) (d : Bytes × Export) → k < length rows → (get_or rows k d).0 ≢ name = λ k d inside same. elim (cases_lt k at) [
        | inl before ↦ not_below_itself name (subst (λ (n : Bytes). Cmp n name ≡ Less) same (parted.0 k d (omega arith) before))
        | inr after ↦ not_above_itself name (subst (λ (n : Bytes). Cmp n name ≡ Greater) same (parted.1 k d after inside))
      ] in
      record { row = absent rows name differ; within = tt }
