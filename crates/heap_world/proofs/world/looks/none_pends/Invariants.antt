use Rattle.std.proofs.Common.{◌≢◌, ℕ, ◌<◌, map, slice_get, Some}
use Rattle.std.specs.Option.{option_map}
use Rattle.std.specs.Arc.{arc_value}
use Rattle.heap_world.proofs.world.looks.none_pends.Given as goal

abbrev pub invariant-loop-payload : goal.invariant-loop-payload
invariant-loop-payload g l = (e : ℕ) (x : _) → e < l.payload-index → slice_get (map (option_map arc_value) l.pending) e ≢ Some (Some x)
