-- A module is looked up among rows whose paths rise by a binary search.
use Rattle.std.proofs.Common.{◌≡◌, ◌≢◌, ℕ, zero, suc, ◌<◌, Bool, true, false, List, [], ◌∷◌, length, get_or, find, Some, None, Result, Ok, Err, IfSome, refl, sym, subst, inl, inr, arith, cond, ◌||◌, bytes_eq}
use Rattle.std.specs.List.Sorted.{IsBinarySearchResult, IsSearchInRange}
use Rattle.std.specs.Result.{result_ok}
use Rattle.std.specs.Ordering.{nat_cmp}
use Rattle.std.specs.Cmp.Lexicographic.{slice_cmp, nat_list_cmp_total, bytes_decides}
use Rattle.std.specs.declared.cmp.Ordering.{Ordering}
use Rattle.std.specs.declared.cmp.Ordering.TheVariants.{Less, Greater}
use Rattle.std.proofs.lemmas.Bool.{cases_lt}
use Rattle.std.proofs.lemmas.List.Sorted.{searchable_from_sorted}
use Rattle.std.proofs.lemmas.Map.Lookups.{exact_bytes}
use Rattle.flow_values.proofs.Rising.{sorted_from_rising}
use Rattle.flow_values.specs.Path.{IsRising}
use Rattle.check_values.specs.Rows.{Bytes, is_among}
use Rattle.check_values.specs.Roots.{paths_of_rows}
use Rattle.check_values.specs.declared.root.RootRow.{RootRow}
use Rattle.dep_lists.specs.Looking.{IsPlaceOf, one_of}

abbrev Cmp : Bytes → Bytes → Ordering
Cmp a b = slice_cmp nat_cmp a b

not_below_itself : (path : Bytes) → Cmp path path ≡ Less → ⊥
not_below_itself path below = cc (below, nat_list_cmp_total.antisymm path path)

not_above_itself : (path : Bytes) → Cmp path path ≡ Greater → ⊥
not_above_itself path above = cc (above, nat_list_cmp_total.antisymm path path)

absent : (rows : List RootRow) (path : Bytes) → ((k : ℕ) (d : RootRow) → k < length rows → (get_or rows k d).path ≢ path) → is_among (paths_of_rows rows) path ≡ false
absent [] path differ = refl
absent (row ∷ rows) path differ = go (bytes_eq path row.path) refl (absent rows path (λ k d within. differ (suc k) d (omega arith)))
  where
    go : (b : Bool) → bytes_eq path row.path ≡ b → is_among (paths_of_rows rows) path ≡ false → b || is_among (paths_of_rows rows) path ≡ false
    go true same rest = absurd (differ 0 row (omega arith) (sym ((bytes_decides path row.path).0 same)))
    go false same rest = rest

present : (rows : List RootRow) (path : Bytes) (at : ℕ) → at < length rows → ((d : RootRow) → (get_or rows at d).path ≡ path) → is_among (paths_of_rows rows) path ≡ true
present [] path at within is = absurd (omega arith)
present (row ∷ rows) path zero within is = go (bytes_eq path row.path) ((bytes_decides path row.path).1 (sym (is row)))
  where
    go : (b : Bool) → b ≡ true → b || is_among (paths_of_rows rows) path ≡ true
    go true e = refl
    go false e = absurd (cc)
present (row ∷ rows) path (suc at) within is = go (bytes_eq path row.path) (present rows path at (omega arith) is)
  where
    go : (b : Bool) → is_among (paths_of_rows rows) path ≡ true → b || is_among (paths_of_rows rows) path ≡ true
    go true e = refl
    go false e = e

module _ (rows : List RootRow) (rising : IsRising (paths_of_rows rows)) (path : Bytes) where
  -- a binary search ends at the path's row, or where there is none
  pub searched : (r : Result ℕ ℕ) → IsSearchInRange r (length rows) → IsBinarySearchResult (λ row. Cmp row.path path) rows r → IsPlaceOf rows path (result_ok r) × IfSome (result_ok r) (λ at. at < length rows)
  searched (Ok at) within found =
      let is : (d : RootRow) → (get_or rows at d).path ≡ path = λ d. exact_bytes (get_or rows at d).path path (found d) in
      ((within, is, present rows path at within is), within)
  searched (Err at) within found =
      let parted = found (searchable_from_sorted nat_list_cmp_total (λ row. row.path) rows path (sorted_from_rising (λ row. row.path) rows rising)) in
      let differ : (k : ℕ) (d : RootRow) → k < length rows → (get_or rows k d).path ≢ path = λ k d inside same. elim (cases_lt k at) [
        | inl before ↦ not_below_itself path (subst (λ (p : Bytes). Cmp p path ≡ Less) same (parted.0 k d (omega arith) before))
        | inr behind ↦ not_above_itself path (subst (λ (p : Bytes). Cmp p path ≡ Greater) same (parted.1 k d behind inside))
      ] in
      (absent rows path differ, tt)

module _ (paths : List Bytes) where
  -- the first candidate is there, or the search goes on
  pub found_first : (x y : Bytes) (more : List Bytes) → one_of paths x ≡ Some y → find (is_among paths) (x ∷ more) ≡ Some y
  found_first x y more is = go (is_among paths x) is
    where
      go : (b : Bool) → cond b (Some x) None ≡ Some y → cond b (Some x) (find (is_among paths) more) ≡ Some y
      go true e = e
      go false e = absurd (let f : None ≡ Some y = e in cc)

  pub found_later : (x : Bytes) (more : List Bytes) → one_of paths x ≡ None → find (is_among paths) (x ∷ more) ≡ find (is_among paths) more
  found_later x more is = go (is_among paths x) is
    where
      go : (b : Bool) → cond b (Some x) None ≡ None → cond b (Some x) (find (is_among paths) more) ≡ find (is_among paths) more
      go true e = absurd (let f : Some x ≡ None = e in cc)
      go false e = refl

  pub found_last : (x : Bytes) → find (is_among paths) (x ∷ []) ≡ one_of paths x
  found_last x = go (is_among paths x)
    where
      go : (b : Bool) → cond b (Some x) None ≡ cond b (Some x) None
      go true = refl
      go false = refl
