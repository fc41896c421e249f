use Rattle.std.proofs.Common.{◌-◌, sym, ◌∙◌, ap, length, map}
use Rattle.std.specs.Option.{option_map}
use Rattle.std.specs.Arc.{arc_value}
use Rattle.heap_world.specs.World.{replaced, last_state}
use Rattle.heap_core.specs.PlainLaws.{length-values}
use Rattle.heap_world.proofs.Worlds.{last_here, next_is, length-seen}
use Rattle.heap_world.proofs.Lengths.{last_there}
use Rattle.heap_world.proofs.world.World.next_state.Goals as goal

pub next_state-requires : goal.next_state-requires
next_state-requires g c =
    let s = c.args.self.now in let h = map (map arc_value) s.history in
    let last = last_here s.history c.as_slice.result.now c.len.result c.index-as_slice-len.result c.as_slice-2.result.now c.as_slice.ensures c.len.ensures c.requires.some_state c.index-as_slice-len.is c.as_slice-2.ensures in
    sym (length-values c.as_slice-2.result.now) ∙ (ap length last ∙ (c.requires.states (length h - 1) (last_state h) (last_there h c.requires.some_state) ∙ (sym c.requires.pending ∙ (length-seen s.pending ∙ ap length (sym c.as_slice-3.ensures)))))

pub returns : goal.returns
returns g c =
    let s = c.args.self.now in
    let last = last_here s.history c.as_slice.result.now c.len.result c.index-as_slice-len.result c.as_slice-2.result.now c.as_slice.ensures c.len.ensures c.requires.some_state c.index-as_slice-len.is c.as_slice-2.ensures in
    next_is c.next_state.result _ _ (λ j. replaced (last j) (map (option_map arc_value) (c.as_slice-3.ensures j))) c.next_state.ensures
