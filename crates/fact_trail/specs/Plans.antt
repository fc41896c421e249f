-- What slots are to have, planned before it is made.
use Rattle.std.specs.Prelude.{◌≡◌, true, false, List, [], ◌∷◌, Option, Some, None}
use Rattle.std.specs.Option.{is_some}
use Rattle.fact_trail.specs.declared.fact.Fact.{Fact}
use Rattle.fact_trail.specs.declared.plans.Planned.{Planned}
use Rattle.fact_trail.specs.Slots.{Map, at_slot}

-- the map with what is planned, the last one first
abbrev pub planned : List Planned → Map → Map
planned [] m = m
planned (p ∷ plan) m = at_slot p.slot p.fact (planned plan m)

-- A fact is planned in place of another one, and is not rough, or none is planned.
abbrev pub Replaces : Option Fact → Option Fact → Type 0
Replaces None before = Unit {0}
Replaces (Some fact) before = (fact.rough ≡ false) × (is_some before ≡ true)

-- each planned fact is in place of another one
abbrev pub Fits : List Planned → Map → Type 0
Fits [] m = Unit {0}
Fits (p ∷ plan) m = Replaces p.fact (planned plan m p.slot) × Fits plan m
