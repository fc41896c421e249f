-- Copies of all facts.
use Rattle.std.specs.Prelude.{◌≡◌, ◌≤◌, ◌+◌, None, length, vec_len, vec_capacity}
use Rattle.std.specs.BTreeMap.{btree_map_len}
use Rattle.fact_trail.specs.declared.slot.Slot.TheVariants.{Variable, Property}
use Rattle.fact_trail.specs.declared.spare.Spare.{Spare}
use Rattle.fact_trail.specs.declared.trail.Trail.{Trail}
use Rattle.fact_trail.specs.Slots.{Slot, Map}
use Rattle.fact_trail.specs.Rows.{facts_count, variables_of, properties_of}
use Rattle.fact_trail.specs.Moments.{map_of, KeepsMoments, IsNew}

-- the facts
abbrev pub spare_map : Spare → Map
spare_map spare (Variable b) = variables_of spare.variables b
spare_map spare (Property k) = properties_of spare.properties k

-- a trail has room to take them over
abbrev pub CanTake : Spare → Trail → Type 0
CanTake spare f = vec_len f.changes + (facts_count spare.variables + btree_map_len spare.properties.rows) + 3 ≤ vec_capacity f.changes

-- They are taken over, the moments before stay, and no slot that they leave without gets its first fact.
pub record TakesOver (spare : Spare) (old new : Trail) : Type 0 where
  pub facts : map_of new ≡ spare_map spare
  pub longer : length old.changes.items ≤ length new.changes.items
  pub moments : KeepsMoments (length old.changes.items) old new
  pub fresh : (s : Slot) → spare_map spare s ≡ None → IsNew s old → IsNew s new
