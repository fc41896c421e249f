-- What is chosen is what a test that decides passes, and nothing else.
use Rattle.std.proofs.Common.{◌≡◌, Bool, true, false, List, [], ◌∷◌, filter, refl, sym, ap, ◌∙◌, cond}
use Rattle.local_signatures.specs.LocalSignature.{AreChosen, none_left, is_chosen, not_chosen}

module _ {X : Type 0} (P : X → Type 0) (p : X → Bool) (sound : (x : X) → p x ≡ true → P x) (complete : (x : X) → P x → p x ≡ true) where
  pub filter_chosen : (xs : List X) → AreChosen P xs (filter p xs)
  filter_chosen [] = none_left
  filter_chosen (x ∷ xs) = go (p x) refl (filter_chosen xs)
    where
      go : (b : Bool) → p x ≡ b → AreChosen P xs (filter p xs) → AreChosen P (x ∷ xs) (cond b (x ∷ filter p xs) (filter p xs))
      go true e rest = is_chosen x xs (filter p xs) (sound x e) rest
      go false e rest = not_chosen x xs (filter p xs) (λ h. let f = sym e ∙ complete x h in let g : false ≡ true = f in cc) rest

  pub chosen_filter : (xs ys : List X) → AreChosen P xs ys → ys ≡ filter p xs
  chosen_filter _ _ none_left = refl
  chosen_filter _ _ (is_chosen x xs ys h rest) = go (p x) (complete x h) (chosen_filter xs ys rest)
    where
      go : (b : Bool) → b ≡ true → ys ≡ filter p xs → x ∷ ys ≡ cond b (x ∷ filter p xs) (filter p xs)
      go true e same = ap (λ (l : List X). x ∷ l) same
      go false e same = absurd (cc)
  chosen_filter _ _ (not_chosen x xs ys h rest) = go (p x) refl (chosen_filter xs ys rest)
    where
      go : (b : Bool) → p x ≡ b → ys ≡ filter p xs → ys ≡ cond b (x ∷ filter p xs) (filter p xs)
      go true e same = absurd (h (sound x e))
      go false e same = same
