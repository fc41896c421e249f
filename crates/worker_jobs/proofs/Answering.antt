-- Answers side by side with their jobs.
use Rattle.std.proofs.Common.{◌≡◌, List, [], ◌∷◌, map, refl, Result, Ok, Err}
use Rattle.std.specs.Prelude.{IfOk}
use Rattle.std.specs.List.{AllZip}

module _ {J X : Type 0} (f : J → X) where
  each_is : (js : List J) (xs : List X) → AllZip (λ j x. x ≡ f j) js xs → xs ≡ map f js
  each_is [] [] all = refl
  each_is [] (x ∷ xs) all = absurd all
  each_is (j ∷ js) [] all = absurd all
  each_is (j ∷ js) (x ∷ xs) all = λ k. all.0 k ∷ each_is js xs all.1 k

  pub answers_are : {E : Type 0} (result : Result (List X) E) (js : List J) → IfOk result (AllZip (λ j x. x ≡ f j) js) → IfOk result (λ all. all ≡ map f js)
  answers_are (Ok xs) js all = each_is js xs all
  answers_are (Err e) js all = tt
