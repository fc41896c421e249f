use Rattle.std.proofs.Common.{◌≡◌, ◌≢◌, ℕ, ◌<◌, ◌+◌, slice_get, Some}
use Rattle.heap_world.proofs.world.looks.none_before.Given as goal

abbrev pub invariant-loop-pin : goal.invariant-loop-pin
invariant-loop-pin l = (n c : ℕ) → n < l.pin-index → slice_get l.pins n ≡ Some (Some c) → c + 1 ≢ l.current
