use Rattle.std.proofs.Common.{sym, ◌∙◌, false, map}
use Rattle.std.specs.Option.{option_map}
use Rattle.std.specs.Arc.{arc_value}
use Rattle.heap_world.specs.World.{commit, renewed, replaced, last_state}
use Rattle.heap_world.specs.Seen.{world_of}
use Rattle.heap_world.proofs.Worlds.{agrees, seen_push, seen_nothing, length-states}
use Rattle.heap_world.proofs.world.World.commit.Goals as goal

pub returns-clause-answers : goal.returns-clause-answers
returns-clause-answers g c =
    let s = c.args.self.now in let w = world_of s in
    let history = seen_push s.history c.push.new.self c.in_ok-state.state (replaced (last_state w.history) w.pending) c.in_ok-push.ensures.ok c.in_ok-state.ensures in
    let count = c.len-version.ensures ∙ sym (length-states s.history) in
    let versions = c.in_ok-versions.ensures ∙ (λ j. renewed (count j) (map (option_map arc_value) (c.as_slice-2.ensures j)) (c.as_slice.ensures j)) in
    let pending = seen_nothing c.in_ok-pending.pending s.entities c.in_ok-pending.ensures in
    agrees w commit _ (c.if-not-self.false, c.is_ready.ensures.yes c.if-not-is_ready.false)
    (λ j. record { entities = w.entities; lanes = w.lanes; history = history j; versions = versions j; is_open = false; drained = false; pending = pending j; filled = c.in_ok-filled.ensures j; published = c.in_ok-published.ensures j; pins = w.pins })
