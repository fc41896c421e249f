use Rattle.std.proofs.Common.{◌≡◌, ℕ, ◌<◌, slice_get, Some, true}
use Rattle.heap_world.specs.World.{Pends, IsFilled}
use Rattle.heap_world.specs.Seen.{world_of}
use Rattle.heap_world.proofs.world.World.is_ready.Given as goal

abbrev pub invariant-loop-e : goal.invariant-loop-e
invariant-loop-e g l = (e : ℕ) → e < l.e → Pends (world_of l.self) e → IsFilled (world_of l.self) e × (slice_get l.self.published e ≡ Some true)
