-- Whether a path is found, and whether it is reached, can be told.
use Rattle.std.proofs.Common.{◌≡◌, ◌⊎◌, inl, inr, Bool, true, false, cond, List, [], ◌∷◌, map, Option, Some, None, bytes_eq, refl, sym, ap, ◌∙◌}
use Rattle.std.specs.Cmp.Lexicographic.{bytes_decides}
use Rattle.check_values.specs.Rows.{Bytes, Rows, row_at, is_among}
use Rattle.check_values.specs.declared.signatures.Deps.{Deps}
use Rattle.check_values.specs.declared.signatures.DepRow.{DepRow}
use Rattle.check_values.specs.declared.signatures.Sig.{Sig}
use Rattle.merged_signatures.specs.Chains.{found_in, found}
use Rattle.merged_signatures.specs.Reach.{Reach, by_specifier, by_signature, paths_named}
use Rattle.graph_laws.proofs.Ways.{Told, HasPlace, Via, tell, step_via, through, kept}

none_some : {A X : Type 0} (x : A) → None ≡ Some x → X
none_some x e = absurd (cc)

false_true : {X : Type 0} → false ≡ true → X
false_true e = absurd (cc)

pub same_bytes : (a b : Bytes) → Told (a ≡ b)
same_bytes a b = go (bytes_eq a b) refl
  where
    go : (c : Bool) → bytes_eq a b ≡ c → Told (a ≡ b)
    go true is = inl ((bytes_decides a b).0 is)
    go false is = inr (λ same. false_true (sym is ∙ (bytes_decides a b).1 same))

pub same_found : (o : Option Bytes) (q : Bytes) → Told (o ≡ Some q)
same_found None q = inr (λ is. none_some q is)
same_found (Some p) q = elim (same_bytes p q) [
  | inl same ↦ inl (ap Some same)
  | inr other ↦ inr (λ is. other (let z : Some p ≡ Some q = is in cc))
]

-- the first row of a name, where it has one
pub has_row : {X : Type 0} (rows : Rows X) (name : Bytes) (x : X) → row_at rows name ≡ Some x → HasPlace (map (λ (row : Bytes × X). row.0) rows) name
has_row [] name x is = none_some x is
has_row {X} (row ∷ rows) name x is = go (bytes_eq row.0 name) refl is (has_row rows name x)
  where
    go : (b : Bool) → bytes_eq row.0 name ≡ b → cond b (Some row.1) (row_at rows name) ≡ Some x → (row_at rows name ≡ Some x → HasPlace (map (λ (r : Bytes × X). r.0) rows) name) → HasPlace (map (λ (r : Bytes × X). r.0) (row ∷ rows)) name
    go true here is later = inl ((bytes_decides row.0 name).0 here)
    go false here is later = inr (later is)

module _ (deps : Deps) (sigs : Rows Sig) where
  -- the module itself, or one at a path
  abbrev Place : Type 0
  Place = Option Bytes

  abbrev Finds : Bytes → Type 0
  Finds q = (spec : Bytes) × (found deps spec ≡ Some q)

  abbrev Names : Bytes → Bytes → Type 0
  Names p q = (s : Sig) × (row_at sigs p ≡ Some s) × (is_among (paths_named s) q ≡ true)

  abbrev Step : Place → Place → Type 0
  Step None (Some q) = Finds q
  Step (Some p) (Some q) = Names p q
  Step a None = ⊥

  tell_in : (q : Bytes) (rows : List DepRow) → Finds q ⊎ ((spec : Bytes) → found_in rows spec ≡ Some q → found deps spec ≡ Some q → ⊥)
  tell_in q [] = inr (λ spec is all. none_some q is)
  tell_in q (row ∷ rows) = elim (same_found (found deps row.spec) q) [
    | inl here ↦ inl (row.spec, here)
    | inr other ↦ elim (tell_in q rows) [
      | inl later ↦ inl later
      | inr never ↦ inr (λ spec is all. go spec other never (bytes_eq row.spec spec) refl is all)
    ]
  ]
    where
      go : (spec : Bytes) → (found deps row.spec ≡ Some q → ⊥) → ((spec : Bytes) → found_in rows spec ≡ Some q → found deps spec ≡ Some q → ⊥)
          → (b : Bool) → bytes_eq row.spec spec ≡ b → cond b row.found (found_in rows spec) ≡ Some q → found deps spec ≡ Some q → ⊥
      go spec other never true here is all = other (ap (found deps) ((bytes_decides row.spec spec).0 here) ∙ all)
      go spec other never false here is all = never spec is all

  pub tell_finds : (q : Bytes) → Told (Finds q)
  tell_finds q = elim (tell_in q deps.rows) [ inl finds ↦ inl finds | inr never ↦ inr (λ finds. never finds.0 finds.1 finds.1) ]

  tell_names : (p q : Bytes) → Told (Names p q)
  tell_names p q = go (row_at sigs p) refl
    where
      other : (s : Sig) → row_at sigs p ≡ Some s → is_among (paths_named s) q ≡ false → Names p q → ⊥
      other s at is names =
          let z : Some names.0 ≡ Some s = sym names.1 ∙ at in
          let same : names.0 ≡ s = cc in
          false_true (sym is ∙ (ap (λ (t : Sig). is_among (paths_named t) q) (sym same) ∙ names.2))

      among : (s : Sig) → row_at sigs p ≡ Some s → (b : Bool) → is_among (paths_named s) q ≡ b → Told (Names p q)
      among s at true is = inl (s, at, is)
      among s at false is = inr (λ names. other s at is names)

      go : (o : Option Sig) → row_at sigs p ≡ o → Told (Names p q)
      go None at = inr (λ names. none_some names.0 (sym at ∙ names.1))
      go (Some s) at = among s at (is_among (paths_named s) q) refl

  tell_step : (a b : Place) → Told (Step a b)
  tell_step None None = inr (λ never. never)
  tell_step (Some p) None = inr (λ never. never)
  tell_step None (Some q) = tell_finds q
  tell_step (Some p) (Some q) = tell_names p q

  abbrev IsReached : Place → Type 0
  IsReached None = Unit {0}
  IsReached (Some q) = Reach (row_at sigs) deps q

  one_step : (a b : Place) → IsReached a → Step a b → IsReached b
  one_step None None here step = tt
  one_step (Some p) None here step = tt
  one_step None (Some q) here step = by_specifier step.0 q step.1
  one_step (Some p) (Some q) here step = by_signature p q step.0 here step.1 step.2

  abbrev places : List Place
  places = map (λ (row : Bytes × Sig). Some row.0) sigs

  has_place : (rows : Rows Sig) (p : Bytes) → HasPlace (map (λ (row : Bytes × Sig). row.0) rows) p → HasPlace (map (λ (row : Bytes × Sig). Some row.0) rows) (Some p)
  has_place [] p has = has
  has_place (row ∷ rows) p (inl same) = inl (ap Some same)
  has_place (row ∷ rows) p (inr has) = inr (has_place rows p has)

  via_of : {q : Bytes} → Reach (row_at sigs) deps q → Via Step places None (Some q)
  via_of (by_specifier spec path is) = step_via Step places None (Some path) (spec, is)
  via_of (by_signature path other s reach is named) =
      through Step places (Some path) None (Some other) (has_place sigs path (has_row sigs path s is)) (via_of reach) (step_via Step places (Some path) (Some other) (s, is, named))

  pub tell_reach : (q : Bytes) → Told (Reach (row_at sigs) deps q)
  tell_reach q = elim (tell Step tell_step places None (Some q)) [
    | inl way ↦ inl (kept Step IsReached one_step places None (Some q) tt way)
    | inr never ↦ inr (λ reach. never (via_of reach))
  ]
