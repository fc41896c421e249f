use Rattle.std.proofs.Common.{◌≡◌, ℕ, ◌<◌, Bool, List, true, slice_get, Some}
use Rattle.heap_world.proofs.world.looks.is_filled.Given as goal

abbrev pub invariant-loop-row : goal.invariant-loop-row
invariant-loop-row l = (n : ℕ) (row : List Bool) → n < l.row-index → slice_get l.rows n ≡ Some row → slice_get row l.e ≡ Some true
