-- Walks through lists of numbers: one step, and the end.
use Rattle.std.proofs.Common.{◌≡◌, ℕ, zero, suc, List, [], ◌∷◌, ◌++◌, drop, get_or, length, slice_get, unwrap_or, ◌<◌, ◌≤◌, ◌+◌, arith, refl, sym, ap, ◌∙◌, drop-cons, append_assoc, min, inl, inr}
use Rattle.std.proofs.lemmas.List.{append-nil}
use Rattle.std.proofs.lemmas.Bool.{cases_lt}
use Rattle.std.proofs.lemmas.Grind.{common_steps}
use Rattle.type_values.specs.declared.types.FlowProp.{FlowProp}
use Rattle.subtype_rules.specs.declared.terms.Node.{Node}
use Rattle.subtype_rules.specs.Terms.{Link, both_links, zip_links, param_links, entry_at, links_at, all_links}

none_left : {A : Type 0} (xs : List A) (i : ℕ) → length xs ≤ i → drop i xs ≡ []
none_left xs i h = grind (arith, common_steps)

both_step : (ks ls : List ℕ) (i d e : ℕ) (way : List Link) → i < length ks → i < length ls →
    way ++ both_links (drop i ks) (drop i ls) ≡ ((way ++ (get_or ks i d, get_or ls i e) ∷ []) ++ (get_or ls i e, get_or ks i d) ∷ []) ++ both_links (drop (i + 1) ks) (drop (i + 1) ls)
both_step ks ls i d e way h k = grind (arith, common_steps, drop-cons, append_assoc)

pub both_goes : (ks ls : List ℕ) (i d e : ℕ) (way new : List Link) → i < length ks → i < length ls → new ≡ (way ++ (get_or ks i d, get_or ls i e) ∷ []) ++ (get_or ls i e, get_or ks i d) ∷ [] →
    way ++ both_links (drop i ks) (drop i ls) ≡ new ++ both_links (drop (i + 1) ks) (drop (i + 1) ls)
both_goes ks ls i d e way new h g push = both_step ks ls i d e way h g ∙ ap (λ (w : List Link). w ++ both_links (drop (i + 1) ks) (drop (i + 1) ls)) (sym push)

both_none : (ks : List ℕ) → both_links ks [] ≡ []
both_none [] = refl
both_none (k ∷ ks) = refl

pub both_ends : (ks ls : List ℕ) (i : ℕ) → min (length ks) (length ls) ≤ i → both_links (drop i ks) (drop i ls) ≡ []
both_ends ks ls i h = elim (cases_lt i (length ks)) [
  | inr short ↦ ap (λ (l : List ℕ). both_links l (drop i ls)) (none_left ks i short)
  | inl long ↦ ap (both_links (drop i ks)) (none_left ls i (omega (arith, h, long))) ∙ both_none (drop i ks)
]

pub both_all : (ks ls : List ℕ) (i : ℕ) (way : List Link) → min (length ks) (length ls) ≤ i → both_links ks ls ≡ way ++ both_links (drop i ks) (drop i ls) → way ≡ both_links ks ls
both_all ks ls i way h e = sym (e ∙ ap (λ (w : List Link). way ++ w) (both_ends ks ls i h) ∙ append-nil way)

zip_step : (ks ls : List ℕ) (i d e : ℕ) (way : List Link) → i < length ks → i < length ls →
    way ++ zip_links (drop i ks) (drop i ls) ≡ (way ++ (get_or ks i d, get_or ls i e) ∷ []) ++ zip_links (drop (i + 1) ks) (drop (i + 1) ls)
zip_step ks ls i d e way h k = grind (arith, common_steps, drop-cons, append_assoc)

pub zip_goes : (ks ls : List ℕ) (i d e : ℕ) (way new : List Link) → i < length ks → i < length ls → new ≡ way ++ (get_or ks i d, get_or ls i e) ∷ [] →
    way ++ zip_links (drop i ks) (drop i ls) ≡ new ++ zip_links (drop (i + 1) ks) (drop (i + 1) ls)
zip_goes ks ls i d e way new h g push = zip_step ks ls i d e way h g ∙ ap (λ (w : List Link). w ++ zip_links (drop (i + 1) ks) (drop (i + 1) ls)) (sym push)

zip_none : (ks : List ℕ) → zip_links ks [] ≡ []
zip_none [] = refl
zip_none (k ∷ ks) = refl

pub zip_all : (ks ls : List ℕ) (i : ℕ) (way : List Link) → min (length ks) (length ls) ≤ i → zip_links ks ls ≡ way ++ zip_links (drop i ks) (drop i ls) → way ≡ zip_links ks ls
zip_all ks ls i way h e = sym (e ∙ ap (λ (w : List Link). way ++ w) ends ∙ append-nil way)
  where
    ends : zip_links (drop i ks) (drop i ls) ≡ []
    ends = elim (cases_lt i (length ks)) [
      | inr short ↦ ap (λ (l : List ℕ). zip_links l (drop i ls)) (none_left ks i short)
      | inl long ↦ ap (zip_links (drop i ks)) (none_left ls i (omega (arith, h, long))) ∙ zip_none (drop i ks)
    ]

params_step : (blank : ℕ) (ks ls : List ℕ) (i d : ℕ) → i < length ks → param_links blank (drop i ks) (drop i ls) ≡ (unwrap_or (slice_get ls i) blank, get_or ks i d) ∷ param_links blank (drop (suc i) ks) (drop (suc i) ls)
params_step blank [] ls i d h = absurd (omega (arith, h))
params_step blank (x ∷ ks) [] zero d h = refl
params_step blank (x ∷ ks) (y ∷ ls) zero d h = refl
params_step blank (x ∷ ks) [] (suc i) d h =
    ap (λ (ls : List ℕ). param_links blank (drop i ks) ls) (sym (nothing i)) ∙ params_step blank ks [] i d (omega (arith, h))
    ∙ ap (λ (ls : List ℕ). (blank, get_or ks i d) ∷ param_links blank (drop (suc i) ks) ls) (nothing (suc i))
  where
    nothing : (i : ℕ) → drop {A = ℕ} i [] ≡ []
    nothing zero = refl
    nothing (suc i) = refl
params_step blank (x ∷ ks) (y ∷ ls) (suc i) d h = params_step blank ks ls i d (omega (arith, h))

pub params_goes : (blank : ℕ) (ks ls : List ℕ) (i d taken : ℕ) (way new : List Link) → i < length ks → taken ≡ unwrap_or (slice_get ls i) blank → new ≡ way ++ (taken, get_or ks i d) ∷ [] →
    way ++ param_links blank (drop i ks) (drop i ls) ≡ new ++ param_links blank (drop (i + 1) ks) (drop (i + 1) ls)
params_goes blank ks ls i d taken way new h is push =
    grind (arith, common_steps, append_assoc, params_step blank ks ls i d h)
    ∙ (λ j. (way ++ (sym is j, get_or ks i d) ∷ []) ++ param_links blank (drop (i + 1) ks) (drop (i + 1) ls))
    ∙ ap (λ (w : List Link). w ++ param_links blank (drop (i + 1) ks) (drop (i + 1) ls)) (sym push)

pub params_ends : (blank : ℕ) (ks ls : List ℕ) (i : ℕ) → length ks ≤ i → param_links blank (drop i ks) (drop i ls) ≡ []
params_ends blank ks ls i h = grind (arith, common_steps)

pub all_goes : (ps : List FlowProp) (x : Node) (all : List FlowProp) (y : Node) (qs : List FlowProp) (i : ℕ) (d : FlowProp) (way : List Link) → i < length qs →
    way ++ all_links ps x all y (drop i qs) ≡ (way ++ links_at (entry_at ps x (get_or qs i d).key) (entry_at all y (get_or qs i d).key)) ++ all_links ps x all y (drop (i + 1) qs)
all_goes ps x all y qs i d way h = grind (arith, common_steps, drop-cons, append_assoc)

pub all_ends : (ps : List FlowProp) (x : Node) (all : List FlowProp) (y : Node) (qs : List FlowProp) (i : ℕ) → length qs ≤ i → all_links ps x all y (drop i qs) ≡ []
all_ends ps x all y qs i h = grind (arith, common_steps)
