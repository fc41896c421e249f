-- What can be told of each path can be told of all in a list; what has a code is told apart.
use Rattle.std.proofs.Common.{◌≡◌, ◌⊎◌, true, false, List, [], ◌∷◌, Option, Some, None, IsSome, refl, sym, ap, inl, inr, subst}
use Rattle.std.specs.Coded.{Coded}
use Rattle.flow_base.specs.Program.{Bytes}
use Rattle.affected_sizes.proofs.Coding.{code_decided}
use Rattle.graph_laws.proofs.Ways.{Told, HasPlace}

pub told_is : {X : Type 0} (o : Option X) → Told (IsSome o)
told_is None = inr (λ e. let z : false ≡ true = e in absurd (cc))
told_is (Some x) = inl refl

-- one of the paths in a list, where those of which it holds stand there
pub told_some : (P : Bytes → Type 0) (paths : List Bytes) → ((p : Bytes) → HasPlace paths p → Told (P p)) → ((p : Bytes) → P p → HasPlace paths p) → Told ((p : Bytes) × P p)
told_some P paths told inside = elim (one_of paths told) [
  | inl found ↦ inl found
  | inr none ↦ inr (λ found. none found.0 (inside found.0 found.1) found.1)
]
  where
    one_of : (ps : List Bytes) → ((p : Bytes) → HasPlace ps p → Told (P p)) → ((p : Bytes) × P p) ⊎ ((p : Bytes) → HasPlace ps p → P p → ⊥)
    one_of [] told = inr (λ p has holds. has)
    one_of (q ∷ ps) told = go (told q (inl refl)) (one_of ps (λ p has. told p (inr has)))
      where
        go : Told (P q) → ((p : Bytes) × P p) ⊎ ((p : Bytes) → HasPlace ps p → P p → ⊥) → ((p : Bytes) × P p) ⊎ ((p : Bytes) → HasPlace (q ∷ ps) p → P p → ⊥)
        go (inl holds) rest = inl (q, holds)
        go (inr never) (inl found) = inl found
        go (inr never) (inr none) = inr (λ p has holds. elim has [ inl same ↦ never (subst P (sym same) holds) | inr later ↦ none p later holds ])

-- what has a code
pub told_by : {A : Type 0} → Coded A → (a b : A) → Told (a ≡ b)
told_by c a b = go (code_decided (c.code a) (c.code b))
  where
    go : Dec (c.code a ≡ c.code b) → Told (a ≡ b)
    go (yes e) = inl (c.inj a b e)
    go (no e) = inr (λ same. e (ap c.code same))
