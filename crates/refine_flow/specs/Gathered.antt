-- What ways made of facts where they met, which is not on the trail yet.
use Rattle.std.specs.Prelude.{Some, None, if◌then◌else◌}
use Rattle.fact_trail.specs.declared.slot.Slot.{Slot}
use Rattle.fact_trail.specs.Moments.{map_of}
use Rattle.fact_arms.specs.declared.gathered.Gathered.{Gathered}
use Rattle.fact_arms.specs.Differences.{over, Leaves}
use Rattle.fact_arms.specs.Gathering.{Settled}
use Rattle.flow_facts.specs.Known.{Known}
use Rattle.refine_flow.specs.Numbers.{IsBeyond}
use Rattle.refine_flow.specs.Standing.{types_by}
use Rattle.refine_flow.specs.declared.facts.Facts.{Facts}

-- what is gathered makes of the facts as they stand
abbrev pub known_with : Gathered → Facts → Known
known_with g f = if f.dead then None else Some (types_by f.names (over g.difference (map_of f.trail)))

-- It is gathered over the facts as they stand, and it never had a fact on a property of a name that has no number.
pub record IsGathered (g : Gathered) (f : Facts) : Type 0 where
  pub settled : Settled g (map_of f.trail)
  pub leaves : (s : Slot) → IsBeyond f.names s → Leaves s g.difference
