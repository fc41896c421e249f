-- Of properties of one key the last, by a set of the keys so far.
use Rattle.std.proofs.Common.{◌≡◌, ℕ, suc, ◌+◌, ◌<◌, Bool, true, false, not, ◌||◌, List, [], ◌∷◌, ◌++◌, length, drop, get_or, drop-cons, add-one, reverse, cond, bytes_eq, Bor, refl, sym, ap, ◌∙◌, subst}
use Rattle.std.specs.List.{list_any}
use Rattle.std.specs.Ordering.{nat_cmp, is_eq}
use Rattle.std.specs.Cmp.Lexicographic.{slice_cmp}
use Rattle.std.proofs.lemmas.List.{reverse-append}
use Rattle.std.proofs.lemmas.Map.Text.{is_eq-slice_cmp}
use Rattle.check_values.specs.Rows.{Bytes}
use Rattle.type_values.specs.declared.types.FlowProp.{FlowProp}
use Rattle.tree_types.specs.TreeTypes.{last_of_each}

-- the test also passes this key
abbrev pub Adds : (Bor Bytes → Bool) → (Bor Bytes → Bool) → Bytes → Type 0
Adds has has' key = (q : Bor Bytes) → has' q ≡ cond (is_eq (slice_cmp nat_cmp key q.now)) true (has q)

-- the test tells the keys of the properties
abbrev pub Tells : (Bor Bytes → Bool) → List FlowProp → Type 0
Tells has props = (q : Bor Bytes) → has q ≡ list_any (λ p. bytes_eq p.key q.now) props

-- the properties that were looked at, of those of one key the last, stand in kept from the last one on
abbrev pub IsKept : (Bor Bytes → Bool) → List FlowProp → List FlowProp → Type 0
IsKept has kept props = (reverse kept ≡ last_of_each props) × Tells has props

or_cond : (b c : Bool) → cond b true c ≡ b || c
or_cond true c = refl
or_cond false c = refl

more_told : (has has' : Bor Bytes → Bool) (p : FlowProp) (props : List FlowProp) → Tells has props → Adds has has' p.key → Tells has' (p ∷ props)
more_told has has' p props tells adds q =
    adds q ∙ ap (λ (b : Bool). cond b true (has q)) (is_eq-slice_cmp p.key q.now) ∙ ap (λ (c : Bool). cond (bytes_eq p.key q.now) true c) (tells q) ∙ or_cond (bytes_eq p.key q.now) (list_any (λ p. bytes_eq p.key q.now) props)

kept_new : (p : FlowProp) (props kept : List FlowProp) → list_any (λ later. bytes_eq later.key p.key) props ≡ false → reverse kept ≡ last_of_each props → reverse (kept ++ p ∷ []) ≡ last_of_each (p ∷ props)
kept_new p props kept fresh is = reverse-append kept (p ∷ []) ∙ ap (λ (l : List FlowProp). p ∷ l) is ∙ go (list_any (λ later. bytes_eq later.key p.key) props) fresh
  where
    go : (b : Bool) → b ≡ false → p ∷ last_of_each props ≡ cond b (last_of_each props) (p ∷ last_of_each props)
    go true e = absurd (cc)
    go false e = refl

kept_old : (p : FlowProp) (props kept : List FlowProp) → list_any (λ later. bytes_eq later.key p.key) props ≡ true → reverse kept ≡ last_of_each props → reverse kept ≡ last_of_each (p ∷ props)
kept_old p props kept met is = is ∙ go (list_any (λ later. bytes_eq later.key p.key) props) met
  where
    go : (b : Bool) → b ≡ true → last_of_each props ≡ cond b (last_of_each props) (p ∷ last_of_each props)
    go true e = refl
    go false e = absurd (cc)

module _ (has has' : Bor Bytes → Bool) (props : List FlowProp) (i n : ℕ) (step : n ≡ i + 1) (within : i < length props) (key : Bor Bytes) where
  at_place : (p : FlowProp) → p ≡ get_or props i p → drop i props ≡ p ∷ drop n props
  at_place p at = drop-cons props i p within ∙ ap (λ (q : FlowProp). q ∷ drop (suc i) props) (sym at) ∙ ap (λ (k : ℕ). p ∷ drop k props) (sym (add-one i) ∙ sym step)

  of_key : (p : FlowProp) → key.now ≡ p.key → Adds has has' key.now → Adds has has' p.key
  of_key p same adds = subst (Adds has has') same adds

  -- whether the key was met
  met_is : (p : FlowProp) → key.now ≡ p.key → Tells has (drop n props) → has key ≡ list_any (λ later. bytes_eq later.key p.key) (drop n props)
  met_is p same tells = tells key ∙ ap (λ (k : Bytes). list_any (λ later. bytes_eq later.key k) (drop n props)) same

  -- a turn at a key that was not met before, and at one that was
  pub turn_new : (p : FlowProp) (kept : List FlowProp) → p ≡ get_or props i p → key.now ≡ p.key → true ≡ not (has key) → Adds has has' key.now → IsKept has kept (drop n props) → IsKept has' (kept ++ p ∷ []) (drop i props)
  turn_new p kept at same fresh adds (is, tells) =
      subst (IsKept has' (kept ++ p ∷ [])) (sym (at_place p at))
      (kept_new p (drop n props) kept (sym (met_is p same tells) ∙ off (has key) fresh) is, more_told has has' p (drop n props) tells (of_key p same adds))
    where
      off : (b : Bool) → true ≡ not b → b ≡ false
      off true e = absurd (cc)
      off false e = refl

  pub turn_old : (p : FlowProp) (kept : List FlowProp) → p ≡ get_or props i p → key.now ≡ p.key → false ≡ not (has key) → Adds has has' key.now → IsKept has kept (drop n props) → IsKept has' kept (drop i props)
  turn_old p kept at same met adds (is, tells) =
      subst (IsKept has' kept) (sym (at_place p at))
      (kept_old p (drop n props) kept (sym (met_is p same tells) ∙ on (has key) met) is, more_told has has' p (drop n props) tells (of_key p same adds))
    where
      on : (b : Bool) → false ≡ not b → b ≡ true
      on true e = refl
      on false e = absurd (cc)
