use Rattle.std.proofs.Common.{arith}
use Rattle.std.specs.Arc.{arc_value}
use Rattle.heap_core.proofs.Overlays.{state_more}
use Rattle.heap_core.proofs.plain.opens.first_state.Goals as goal

pub loop-i-preserved : goal.loop-i-preserved
loop-i-preserved g c =
    state_more c.loop-i.payloads.items c.push-in-loop-i.new.self.items _ (arc_value c.args.root) (arc_value c.args.absent.now) c.loop-i._i (omega arith) c.loop-i.invariant c.in_ok-push-2.ensures.items c.in_ok-try_clone.ensures
