use Rattle.std.proofs.Common.{◌≡◌, ◌∷◌, ◌-◌, replicate}
use Rattle.std.specs.Arc.{arc_value}
use Rattle.heap_core.specs.Plain.{values}
use Rattle.heap_core.proofs.plain.opens.first_state.Given as goal

abbrev pub invariant-loop-i : goal.invariant-loop-i
invariant-loop-i g l = values l.payloads.items ≡ arc_value l.fn.root ∷ replicate (l._i - 1) (arc_value l.absent)
