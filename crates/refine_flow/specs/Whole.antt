-- All facts as rows, and facts that are set row by row.
use Rattle.std.specs.Prelude.{◌≡◌, Bool, true, List, [], ◌∷◌, Some}
use Rattle.std.specs.List.{list_any}
use Rattle.flow_facts.specs.declared.place.Place.{Place}
use Rattle.flow_facts.specs.Known.{Map, at_place, is_place, both}
use Rattle.refine_flow.specs.declared.whole.Row.{Row}

-- the map with the facts of rows, the first of which counts
abbrev pub told : List Row → Map → Map
told [] m = m
told (row ∷ rows) m = at_place row.place (Some row.ty) (told rows m)

-- the map with the facts of rows joined with others
abbrev pub met : Map → List Row → Map → Map
met others [] m = m
met others (row ∷ rows) m = at_place row.place (both (Some row.ty) (others row.place)) (met others rows m)

-- there is a row for the place
abbrev pub is_listed : List Row → Place → Bool
is_listed rows q = list_any (λ row. is_place row.place q) rows

-- each row has its place's fact
abbrev pub AreTrue : Map → List Row → Type 0
AreTrue m [] = Unit {0}
AreTrue m (row ∷ rows) = (m row.place ≡ Some row.ty) × AreTrue m rows

-- more rows, each of which has its place's fact
abbrev pub AddsTrue : Map → List Row → List Row → Type 0
AddsTrue m old new = (AreTrue m old → AreTrue m new) × ((q : Place) → is_listed old q ≡ true → is_listed new q ≡ true)
