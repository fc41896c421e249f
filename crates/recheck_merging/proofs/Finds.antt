-- The numbers of the modules that the rows of a dependency list find.
use Rattle.std.proofs.Common.{◌≡◌, ◌⊎◌, ℕ, ◌+◌, List, [], ◌∷◌, ◌++◌, length, slice_get, Option, Some, None, sym, ap, ◌∙◌, subst, inl, inr, arith, true, false}
use Rattle.std.proofs.lemmas.Bool.{cases_lt}
use Rattle.flow_values.specs.Path.{Bytes, IsRising}
use Rattle.check_values.specs.Rows.{is_among}
use Rattle.check_values.specs.Roots.{paths_of_rows}
use Rattle.check_values.specs.declared.root.RootRow.{RootRow}
use Rattle.check_values.specs.declared.signatures.DepRow.{DepRow}
use Rattle.dep_lists.specs.Looking.{IsPlaceOf}
use Rattle.graph_search.specs.Cycles.{Has}
use Rattle.graph_search.proofs.Lists.{has-last, last-split, get-front, has_none}
use Rattle.check_phases.proofs.Edges.{one_place, among, path_at}
use Rattle.recheck_merging.specs.Rows.{IsFoundAt, AddsFound, IsFoundBy, FollowRows}

pub finds_none : (paths : List Bytes) (found : Option Bytes) (edges : List ℕ) → found ≡ None → AddsFound paths found edges edges
finds_none paths found edges is = record {
  keeps = λ y has. has;
  adds = λ y at. absurd (let z : None ≡ Some at.0 = sym is ∙ at.1 in cc);
  only = λ y has. inl has;
}

pub finds_missing : (rows : List RootRow) (found : Option Bytes) (path : Bytes) (place : Option ℕ) (edges : List ℕ) → found ≡ Some path → place ≡ None → IsPlaceOf rows path place → AddsFound (paths_of_rows rows) found edges edges
finds_missing rows found path place edges is missing place_is =
    let never : is_among (paths_of_rows rows) path ≡ false = subst (λ (p : Option ℕ). IsPlaceOf rows path p) missing place_is in
    record {
      keeps = λ y has. has;
      adds = λ y at.
          let same : at.0 ≡ path = (let z : Some at.0 ≡ Some path = sym at.1 ∙ is in cc) in
          absurd (let there : is_among (paths_of_rows rows) path ≡ true = among (paths_of_rows rows) y path (subst (λ (p : Bytes). slice_get (paths_of_rows rows) y ≡ Some p) same at.2) in
          let z : false ≡ true = sym never ∙ there in cc);
      only = λ y has. inl has;
    }

pub finds_one : (rows : List RootRow) (found : Option Bytes) (path : Bytes) (place : Option ℕ) (at : ℕ) (old new : List ℕ) → IsRising (paths_of_rows rows) → found ≡ Some path → place ≡ Some at → IsPlaceOf rows path place
    → new ≡ old ++ at ∷ [] → AddsFound (paths_of_rows rows) found old new
finds_one rows found path place at old new rising is there place_is pushed =
    let paths = paths_of_rows rows in
    let standing : IsPlaceOf rows path (Some at) = subst (λ (p : Option ℕ). IsPlaceOf rows path p) there place_is in
    let here : slice_get paths at ≡ Some path = path_at rows at standing.0 path standing.1 in
    subst (λ (l : List ℕ). AddsFound paths found old l) (sym pushed) (record {
      keeps = λ y has. (has.0, get-front old (at ∷ []) has.0 y has.1);
      adds = λ y there.
          let same : there.0 ≡ path = (let z : Some there.0 ≡ Some path = sym there.1 ∙ is in cc) in
          let one : at ≡ y = one_place paths at y path rising here (subst (λ (p : Bytes). slice_get paths y ≡ Some p) same there.2) in
          subst (λ (k : ℕ). Has (old ++ at ∷ []) k) one (has-last old at);
      only = λ y has. elim (last-split old at has.0 y has.1) [
        | inl before ↦ inl before
        | inr last ↦ inr (path, is, ap (slice_get paths) last ∙ here)
      ];
    })

pub no_rows : (paths : List Bytes) (rows : List DepRow) (edges : List ℕ) → edges ≡ [] → FollowRows paths rows 0 edges
no_rows paths rows edges is = subst (λ (l : List ℕ). FollowRows paths rows 0 l) (sym is) (record {
  sound = λ y has. absurd (has_none y has);
  complete = λ y by. absurd (let low = by.2 in omega arith);
})

pub more_rows : (paths : List Bytes) (rows : List DepRow) (i : ℕ) (row : DepRow) (old new : List ℕ) → slice_get rows i ≡ Some row → FollowRows paths rows i old → AddsFound paths row.found old new → FollowRows paths rows (i + 1) new
more_rows paths rows i row old new at follow adds = record {
  sound = λ y has. sound y (adds.only y has);
  complete = λ y by. complete y by;
}
  where
    sound : (y : ℕ) → Has old y ⊎ IsFoundAt paths row.found y → IsFoundBy paths rows (i + 1) y
    sound y (inl before) = let by = follow.sound y before in (by.0, by.1, (let low = by.2 in omega arith), by.3, by.4)
    sound y (inr here) = (i, row, omega arith, at, here)

    complete : (y : ℕ) → IsFoundBy paths rows (i + 1) y → Has new y
    complete y by = elim (cases_lt by.0 i) [
      | inl before ↦ adds.keeps y (follow.complete y (by.0, by.1, before, by.3, by.4))
      | inr behind ↦
          let low = by.2 in
          let same : by.0 ≡ i = omega arith in
          let is : row ≡ by.1 = (let z : Some row ≡ Some by.1 = sym at ∙ (ap (slice_get rows) (sym same) ∙ by.3) in cc) in
          adds.adds y (subst (λ (r : DepRow). IsFoundAt paths r.found y) (sym is) by.4)
    ]

-- as the loop has it
pub rows_done : (paths : List Bytes) (all rows : List DepRow) (i : ℕ) (edges : List ℕ) → rows ≡ all → i ≡ length rows → FollowRows paths rows i edges → FollowRows paths all (length all) edges
rows_done paths all rows i edges same whole follow = subst (λ (rs : List DepRow). FollowRows paths rs (length rs) edges) same (subst (λ (n : ℕ). FollowRows paths rows n edges) whole follow)
