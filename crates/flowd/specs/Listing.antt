-- When the paths of a folder are refused.
use Rattle.std.specs.Prelude.{List}
use Rattle.std.specs.List.Sorted.{IsPermutation, IsSorted}
use Rattle.std.specs.Ordering.{nat_cmp}
use Rattle.std.specs.Cmp.Lexicographic.{slice_cmp}
use Rattle.flow_base.specs.Program.{Bytes, IsRising}

-- put in order, the paths still don't rise: one of them is there twice
pub record RepeatsPath (paths : List Bytes) : Type 0 where
  pub sorted : List Bytes
  pub whole : IsPermutation paths sorted
  pub in_order : IsSorted (slice_cmp nat_cmp) sorted
  pub repeats : IsRising sorted → ⊥
