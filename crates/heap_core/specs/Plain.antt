-- A plain heap's lists: what is committed, and what is staged over it.
use Rattle.std.specs.Prelude.{Bool, List, [], ◌∷◌, map, Option, is_some, unwrap_or}
use Rattle.std.specs.Arc.{arc_value}
use Rattle.std.specs.declared.sync.Arc.{Arc}

module _ {P Z : Type 0} where
  -- the payloads, each behind its `Arc`
  abbrev pub values : List (Arc P Z) → List P
  values cs = map arc_value cs

  -- the pending payload where there is one, and else the committed one
  abbrev pub overlaid : List (Arc P Z) → List (Option (Arc P Z)) → List P
  overlaid (c ∷ cs) (x ∷ xs) = arc_value (unwrap_or x c) ∷ overlaid cs xs
  overlaid [] xs = []
  overlaid (c ∷ cs) [] = values (c ∷ cs)

  -- an entity is staged where a payload of it pends
  abbrev pub staged_of : List (Option (Arc P Z)) → List Bool
  staged_of xs = map is_some xs
