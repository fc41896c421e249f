use Rattle.std.proofs.Common.{◌≡◌, ℕ, ◌<◌, arith, true, Some, slice_get, below_more}
use Rattle.heap_world.specs.World.{Pends, IsFilled}
use Rattle.heap_world.specs.Seen.{world_of}
use Rattle.heap_world.proofs.Worlds.{pends_within, length-seen}
use Rattle.heap_world.proofs.world.World.is_ready.Goals as goal

pub loop-e-preserved : goal.loop-e-preserved
loop-e-preserved g c = below_more (λ (e : ℕ). Pends (world_of c.args.self.now) e → IsFilled (world_of c.args.self.now) e × (slice_get c.args.self.now.published e ≡ Some true)) c.loop-e.e c.loop-e.invariant (c.is_ready_at.ensures.yes c.if-not-is_ready_at.false)

pub returns-clause-yes : goal.returns-clause-yes
returns-clause-yes g c _ e p =
    let n = pends_within c.args.self.now.pending e p.0 p.1 in let m = c.requires.pending in let k = length-seen c.args.self.now.pending in
    let lower : e < c.loop-e.e = omega arith in c.loop-e.invariant e lower p
