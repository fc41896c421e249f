-- A list that grows at its end, made from a list in order: one more at the end of the one is one more at the end of the other.
use Rattle.std.proofs.Common.{◌≡◌, List, [], ◌∷◌, ◌++◌, map, refl, sym, ap, ◌∙◌}

-- some value stands for it
abbrev pub Seen : {X A : Type 0} → (X → A) → A → Type 0
Seen {X} view a = (x : X) × (view x ≡ a)

module _ {L A : Type 0} (more : L → A → L) (from : L → List A → L) (start : (acc : L) → from acc [] ≡ acc) (next : (acc : L) (a : A) (rest : List A) → from acc (a ∷ rest) ≡ from (more acc a) rest) where
  pushed : (acc : L) (xs : List A) (b : A) → from acc (xs ++ b ∷ []) ≡ more (from acc xs) b
  pushed acc [] b = next acc b [] ∙ (start (more acc b) ∙ ap (λ l. more l b) (sym (start acc)))
  pushed acc (a ∷ xs) b = next acc a (xs ++ b ∷ []) ∙ (pushed (more acc a) xs b ∙ ap (λ l. more l b) (sym (next acc a xs)))

  -- the same over what each element stands for
  pub one_more : {X : Type 0} (view : X → A) (acc l : L) (a : A) → Seen (λ xs. from acc (map view xs)) l → Seen view a → Seen (λ xs. from acc (map view xs)) (more l a)
  one_more {X} view acc l a list one = (list.0 ++ one.0 ∷ [], ap (from acc) (mapped one.0 list.0) ∙ (pushed acc (map view list.0) (view one.0) ∙ (λ i. more (list.1 i) (one.1 i))))
    where
      mapped : (x : X) (ys : List X) → map view (ys ++ x ∷ []) ≡ map view ys ++ view x ∷ []
      mapped x [] = refl
      mapped x (y ∷ ys) = ap (λ zs. view y ∷ zs) (mapped x ys)
