use Rattle.std.proofs.Common.{ℕ, ◌<◌, arith, sym, ◌∙◌, ap, cond, length, map, get_or, Some}
use Rattle.std.proofs.lemmas.Option.{slice_get-get_or}
use Rattle.std.specs.Option.{option_map}
use Rattle.std.specs.Arc.{arc_value}
use Rattle.heap_world.specs.World.{renewed}
use Rattle.heap_core.proofs.Lists.{get_index}
use Rattle.heap_world.proofs.Worlds.{renewed_at, get-seen, front_step, take_past, is_some-seen}
use Rattle.heap_world.proofs.Lengths.{length-renewed}
use Rattle.heap_world.proofs.world.lists.next_versions.Goals as goal
use Rattle.heap_world.proofs.world.lists.next_versions.Goals.{then-is_some, else-is_some}

pub loop-e-preserved : goal.loop-e-preserved
loop-e-preserved g c =
    let i : ℕ = c.loop-e.e in let m = c.requires in let ns = c.args.versions.now in let xs = c.args.pending.now in
    let here : i < length ns = omega arith in let there : i < length xs = omega arith in
    let next = c.index-pending-e.result in
    let at = renewed_at c.args.version (map (option_map arc_value) xs) ns i (get_or ns i 0) (option_map arc_value next) (slice_get-get_or ns i 0 here) (get-seen xs i next (get_index xs i next there c.index-pending-e.is)) in
    let is = c.is_some.ensures ∙ sym (is_some-seen next) in
    front_step c.loop-e.list c.push.new.self (renewed c.args.version (map (option_map arc_value) xs) ns) i _ c.in_ok-push.ensures.ok c.loop-e.invariant
    (at ∙ elim c.if-is_some.branch [
      | then-is_some w ↦ (λ j. Some (cond ((sym is ∙ w.if-is_some.true) j) c.args.version (get_or ns i 0))) ∙ ap Some (sym w.push-is)
      | else-is_some w ↦ (λ j. Some (cond ((sym is ∙ w.if-is_some.false) j) c.args.version (get_or ns i 0))) ∙ ap Some (sym w.push-is)
    ])

pub returns : goal.returns
returns g c =
    let ns = c.args.versions.now in let xs = c.args.pending.now in let n = length-renewed c.args.version (map (option_map arc_value) xs) ns in
    c.loop-e.invariant ∙ take_past (renewed c.args.version (map (option_map arc_value) xs) ns) c.loop-e.e (omega arith)
