-- What facts become where they are joined with others, planned before it is made.
use Rattle.std.specs.Prelude.{◌≡◌, ◌⊎◌, List}
use Rattle.flow_facts.specs.declared.place.Place.{Place}
use Rattle.flow_facts.specs.Known.{Map, both}
use Rattle.fact_trail.specs.declared.plans.Planned.{Planned}
use Rattle.fact_trail.specs.Plans.{planned, Fits}
use Rattle.fact_trail.specs.Slots.{Map as Slots}
use Rattle.refine_flow.specs.declared.names.Names.{Names}
use Rattle.refine_flow.specs.declared.whole.Row.{Row}
use Rattle.refine_flow.specs.Standing.{types_by}
use Rattle.refine_flow.specs.Whole.{met}

-- a map in which some places are joined with others
abbrev pub IsBetween : Map → Map → Map → Type 0
IsBetween others m n = (q : Place) → (n q ≡ m q) ⊎ (n q ≡ both (m q) (others q))

-- a plan joins the places of rows with others, wherever some of them are joined already
abbrev pub JoinsRows : Names → Map → Map → List Row → List Planned → Type 0
JoinsRows names others m rows plan =
    (n : Slots) → IsBetween others m (types_by names n) → (types_by names (planned plan n) ≡ met others rows (types_by names n)) × Fits plan n
