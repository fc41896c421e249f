-- What is done at each of some places.
use Rattle.std.specs.Prelude.{List, [], ◌∷◌, Result, Ok, Err}

module _ {L A X : Type 0} where
  -- something of each place: its lane, its asker and its row before and after
  abbrev pub AllDone : (L → L → A → A → X → X → Type 0) → List L → List L → List A → List A → List X → List X → Type 0
  AllDone F [] [] [] [] [] [] = Unit {0}
  AllDone F (l ∷ ls) (m ∷ ms) (a ∷ before) (b ∷ now) (r ∷ rs) (t ∷ ts) = F l m a b r t × AllDone F ls ms before now rs ts
  AllDone F ls ms before now rs ts = ⊥

-- there is an end where both have one
abbrev pub Both : {T E : Type 0} → Result T E → Result T E → Result T E → Type 0
Both (Ok x) (Ok y) (Ok z) = Unit {0}
Both front back (Ok z) = ⊥
Both front back (Err e) = Unit {0}
