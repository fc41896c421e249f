-- A list whose last element was put there and goes again.
use Rattle.std.proofs.Common.{◌≡◌, List, [], ◌∷◌, ◌++◌, Option, Some, None, sym, ◌∙◌}
use Rattle.std.specs.Option.{MatchOption}
use Rattle.std.proofs.lemmas.List.{same_from_push}

pub popped : {X : Type 0} (before grown after : List X) (x : X) (last : Option X) → grown ≡ before ++ x ∷ [] → MatchOption last ((grown ≡ []) × (after ≡ [])) (λ l. grown ≡ after ++ l ∷ []) → after ≡ before
popped {X} before grown after x None is h = absurd (some before (sym is ∙ h.0))
  where
    some : (l : List X) → l ++ x ∷ [] ≡ [] → ⊥
    some [] h = cc
    some (y ∷ l) h = cc
popped before grown after x (Some last) is h = sym (same_from_push before after x last (sym is ∙ h)).0
