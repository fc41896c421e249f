use Rattle.std.proofs.Common.{ℕ, ◌<◌, arith, ◌∙◌, length, map}
use Rattle.std.specs.Prelude.{unwrap_or}
use Rattle.std.specs.Option.{option_map}
use Rattle.std.specs.Arc.{arc_value}
use Rattle.heap_world.specs.World.{replaced}
use Rattle.heap_core.specs.PlainLaws.{length-values}
use Rattle.heap_core.proofs.Lists.{get_index}
use Rattle.heap_world.proofs.Worlds.{replaced_at, get-values, get-seen, seen_step, take_past}
use Rattle.heap_world.proofs.Lengths.{length-replaced}
use Rattle.heap_world.proofs.world.lists.next_state.Goals as goal

pub loop-e-preserved : goal.loop-e-preserved
loop-e-preserved g c =
    let i : ℕ = c.loop-e.e in let m = c.requires in let cs = c.args.state.now in let xs = c.args.pending.now in
    let here : i < length cs = omega arith in let there : i < length xs = omega arith in
    let old = c.index-state-e.result in let next = c.index-pending-e.result in
    seen_step c.loop-e.list c.push.new.self (replaced (map arc_value cs) (map (option_map arc_value) xs)) i c.in_ok-latest.field-0 (unwrap_or (option_map arc_value next) (arc_value old)) c.in_ok-push.ensures.ok c.loop-e.invariant c.in_ok-latest.ensures
    (replaced_at (map arc_value cs) (map (option_map arc_value) xs) i (arc_value old) (option_map arc_value next) (get-values cs i old (get_index cs i old here c.index-state-e.is)) (get-seen xs i next (get_index xs i next there c.index-pending-e.is)))

pub returns : goal.returns
returns g c =
    let cs = c.args.state.now in let xs = c.args.pending.now in let n = length-replaced (map arc_value cs) (map (option_map arc_value) xs) in let m = length-values cs in
    c.loop-e.invariant ∙ take_past (replaced (map arc_value cs) (map (option_map arc_value) xs)) c.loop-e.e (omega arith)
