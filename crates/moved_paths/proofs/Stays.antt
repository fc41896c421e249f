-- Lists of which no specifier can find what came, or could find what went.
use Rattle.std.proofs.Common.{◌≡◌, ◌↔◌, ℕ, zero, suc, ◌+◌, ◌≤◌, Bool, true, false, not, IsTrue, cond, List, [], ◌∷◌, ◌++◌, length, map, find, take, slice_get, Some, None, refl, sym, ap, ◌∙◌, subst, arith}
use Rattle.std.specs.Prelude.{◌&&◌}
use Rattle.std.specs.List.{AllByRecursion}
use Rattle.std.proofs.lemmas.Bool.{false≢true}
use Rattle.std.proofs.lemmas.Option.{none-some, same_Some}
use Rattle.check_values.specs.Rows.{Bytes, is_among}
use Rattle.check_values.specs.Roots.{paths_of, paths_of_rows}
use Rattle.check_values.specs.declared.root.RootRow.{RootRow}
use Rattle.check_values.specs.declared.root.Root.{Root}
use Rattle.check_values.specs.declared.signatures.DepRow.{DepRow}
use Rattle.module_resolution.specs.Resolution.{candidates, resolved}
use Rattle.recheck_law.specs.Lists.{row_again}
use Rattle.moved_paths.specs.Moved.{AreBeyond, AreMoved, IsRowUnmoved, UnmovedStay}
use Rattle.moved_paths.specs.declared.moving.Moved.{Moved}

-- ---- one specifier

finds_nothing : (paths : List Bytes) → find (is_among []) paths ≡ None
finds_nothing [] = refl
finds_nothing (p ∷ paths) = finds_nothing paths

pub none_there : (root : Root) (from spec : Bytes) → root.modules ≡ [] → IsTrue true ↔ (resolved (paths_of root) from spec ≡ None)
none_there root from spec none = (λ on. ap (λ (ms : List RootRow). resolved (paths_of_rows ms) from spec) none ∙ finds_nothing (candidates from spec), λ is. refl)

-- ---- a list

module _ (moved : Moved) (from : Bytes) where
  all_last : (rows : List DepRow) (row : DepRow) → AllByRecursion (IsRowUnmoved moved from) rows → IsRowUnmoved moved from row → AllByRecursion (IsRowUnmoved moved from) (rows ++ row ∷ [])
  all_last [] row all last = (last, tt)
  all_last (r ∷ rows) row all last = (all.0, all_last rows row all.1 last)

  take_next : (rows : List DepRow) (i : ℕ) (row : DepRow) → slice_get rows i ≡ Some row → take (suc i) rows ≡ take i rows ++ row ∷ []
  take_next [] i row at = absurd (none-some row at)
  take_next (r ∷ rows) zero row at = ap (λ (z : DepRow). z ∷ []) (same_Some r row at)
  take_next (r ∷ rows) (suc i) row at = ap (λ (l : List DepRow). r ∷ l) (take_next rows i row at)

  pub one_more : (rows : List DepRow) (i : ℕ) (row : DepRow) → slice_get rows i ≡ Some row → AllByRecursion (IsRowUnmoved moved from) (take i rows) → IsRowUnmoved moved from row → AllByRecursion (IsRowUnmoved moved from) (take (i + 1) rows)
  one_more rows i row at all here =
      let n : suc i ≡ i + 1 = omega arith in
      subst (λ (k : ℕ). AllByRecursion (IsRowUnmoved moved from) (take k rows)) n (subst (AllByRecursion (IsRowUnmoved moved from)) (sym (take_next rows i row at)) (all_last (take i rows) row all here))

  pub row_of_all : (rows : List DepRow) (i : ℕ) (row : DepRow) → slice_get rows i ≡ Some row → AllByRecursion (IsRowUnmoved moved from) rows → IsRowUnmoved moved from row
  row_of_all [] i row at all = absurd (none-some row at)
  row_of_all (r ∷ rows) zero row at all = subst (IsRowUnmoved moved from) (same_Some r row at) all.0
  row_of_all (r ∷ rows) (suc i) row at all = row_of_all rows i row at all.1

  pub all_rows : (rows : List DepRow) (i : ℕ) → length rows ≤ i → AllByRecursion (IsRowUnmoved moved from) (take i rows) → AllByRecursion (IsRowUnmoved moved from) rows
  all_rows [] i past all = tt
  all_rows (r ∷ rows) zero past all = absurd (omega (arith, past))
  all_rows (r ∷ rows) (suc i) past all = (all.0, all_rows rows i (omega (arith, past)) all.1)

-- ---- what stays

-- a path that neither came nor went is of both programs, or of none
same_there : (o n c w : Bool) → c ≡ (n && not o) → w ≡ (o && not n) → c ≡ false → w ≡ false → n ≡ o
same_there true true c w came went not_came not_gone = refl
same_there true false c w came went not_came not_gone = absurd (false≢true (sym not_gone ∙ went))
same_there false true c w came went not_came not_gone = absurd (false≢true (sym not_came ∙ came))
same_there false false c w came went not_came not_gone = refl

first_none : (found : Bytes → Bool) (p : Bytes) (paths : List Bytes) → find found (p ∷ paths) ≡ None → (found p ≡ false) × (find found paths ≡ None)
first_none found p paths is = go (found p) is
  where
    go : (b : Bool) → cond b (Some p) (find found paths) ≡ None → (b ≡ false) × (find found paths ≡ None)
    go true e = absurd (none-some p (sym e))
    go false e = (refl, e)

module _ (old new came went : List Bytes) (are_came : AreBeyond new old came) (are_went : AreBeyond old new went) where
  find_same : (paths : List Bytes) → find (is_among came) paths ≡ None → find (is_among went) paths ≡ None → find (is_among new) paths ≡ find (is_among old) paths
  find_same [] not_came not_gone = refl
  find_same (p ∷ paths) not_came not_gone =
      let a = first_none (is_among came) p paths not_came in
      let b = first_none (is_among went) p paths not_gone in
      let here = same_there (is_among old p) (is_among new p) (is_among came p) (is_among went p) (are_came.those p) (are_went.those p) a.0 b.0 in
      let rest = find_same paths a.1 b.1 in
      λ j. cond (here j) (Some p) (rest j)

rows_same : (old new : List Bytes) (moved : Moved) (from : Bytes) (rows : List DepRow) → AreMoved old new moved → AllByRecursion (IsRowUnmoved moved from) rows → map (row_again new from) rows ≡ map (row_again old from) rows
rows_same old new moved from [] are all = refl
rows_same old new moved from (row ∷ rows) are all =
    let here = find_same old new (paths_of moved.came) (paths_of moved.went) are.came are.went (candidates from row.spec) all.0.0 all.0.1 in
    let rest = rows_same old new moved from rows are all.1 in
    λ j. record { spec = row.spec; found = here j } ∷ rest j

pub stays : UnmovedStay
stays old new moved from deps are all is = (λ j. record { rows = rows_same old new moved from deps.rows are all j }) ∙ is
