-- Totals over the passes.
use Rattle.std.proofs.Common.{◌≡◌, ◌≢◌, ℕ, zero, suc, ◌+◌, ◌≤◌, List, [], ◌∷◌, ◌++◌, set, refl, sym, ap, arith}
use mathlib.Core.Option.{some, some-ne-none}
use lib.ListN.{get_elem?}
use Rattle.number_draws.specs.declared.hand.Hand.{Hand}
use Rattle.number_draws.specs.Hands.{total}

same_hand : (a b : Hand) → some a ≡ some b → a ≡ b
same_hand a b e = cc

module _ (f : Hand → ℕ) where
  pub total_set : (views : List Hand) (port : ℕ) (v w : Hand) → get_elem? views port ≡ some v → total f (set views port w) + f v ≡ total f views + f w
  total_set [] port v w at = absurd (some-ne-none v (sym at))
  total_set (x ∷ views) zero v w at = let e : f x ≡ f v = ap f (same_hand x v at) in omega arith
  total_set (x ∷ views) (suc port) v w at = let rest = total_set views port v w at in omega arith

  pub total_snoc : (views : List Hand) (w : Hand) → total f (views ++ w ∷ []) ≡ total f views + f w
  total_snoc [] w = omega arith
  total_snoc (x ∷ views) w = let rest = total_snoc views w in omega arith

  pub total_at : (views : List Hand) (port : ℕ) (v : Hand) → get_elem? views port ≡ some v → f v ≤ total f views
  total_at [] port v at = absurd (some-ne-none v (sym at))
  total_at (x ∷ views) zero v at = let e : f x ≡ f v = ap f (same_hand x v at) in omega arith
  total_at (x ∷ views) (suc port) v at = let rest = total_at views port v at in omega arith

  pub total_two : (views : List Hand) (port other : ℕ) (v u : Hand) → get_elem? views port ≡ some v → get_elem? views other ≡ some u → other ≢ port → f v + f u ≤ total f views
  total_two [] port other v u at there apart = absurd (some-ne-none v (sym at))
  total_two (x ∷ views) zero zero v u at there apart = absurd (apart refl)
  total_two (x ∷ views) zero (suc other) v u at there apart = let e : f x ≡ f v = ap f (same_hand x v at) in let rest = total_at views other u there in omega arith
  total_two (x ∷ views) (suc port) zero v u at there apart = let e : f x ≡ f u = ap f (same_hand x u there) in let rest = total_at views port v at in omega arith
  total_two (x ∷ views) (suc port) (suc other) v u at there apart = let rest = total_two views port other v u at there (λ e. apart (ap suc e)) in omega arith

  total_none : (views : List Hand) → ((j : ℕ) (u : Hand) → get_elem? views j ≡ some u → f u ≡ 0) → total f views ≡ 0
  total_none [] none_of = refl
  total_none (x ∷ views) none_of = let first = none_of zero x refl in let rest = total_none views (λ j u. none_of (suc j) u) in omega arith

  -- where f is 0 of all others
  pub total_alone : (views : List Hand) (port : ℕ) (v : Hand) → get_elem? views port ≡ some v → ((j : ℕ) (u : Hand) → get_elem? views j ≡ some u → j ≢ port → f u ≡ 0) → total f views ≡ f v
  total_alone [] port v at others = absurd (some-ne-none v (sym at))
  total_alone (x ∷ views) zero v at others =
      let e : f x ≡ f v = ap f (same_hand x v at) in
      let rest = total_none views (λ j u there. others (suc j) u there (λ z. omega arith)) in
      omega arith
  total_alone (x ∷ views) (suc port) v at others =
      let first = others zero x refl (λ z. omega arith) in
      let rest = total_alone views port v at (λ j u there apart. others (suc j) u there (λ z. apart (omega arith))) in
      omega arith
