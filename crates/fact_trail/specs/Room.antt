-- Room on a trail.
use Rattle.std.specs.Prelude.{ℕ, ◌≤◌, ◌+◌, vec_len, vec_capacity}
use Rattle.std.specs.BTreeMap.{btree_map_len}
use Rattle.fact_trail.specs.Rows.{facts_count}
use Rattle.fact_trail.specs.declared.trail.Trail.{Trail}

-- room for this many changes, beside those that drop the facts
abbrev pub HasRoom : ℕ → Trail → Type 0
HasRoom count f = vec_len f.changes + (facts_count f.variables + btree_map_len f.properties.rows) + count ≤ vec_capacity f.changes

-- what has room keeps it
abbrev pub KeepsRoom : Trail → Trail → Type 0
KeepsRoom old new = (count : ℕ) → HasRoom count old → HasRoom count new
