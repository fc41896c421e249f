use Rattle.std.proofs.Common.{◌≡◌, ℕ, ◌≤◌, ◌<◌, ◌-◌, true, length, drop, slice_get, Some}
use Rattle.edited_root.specs.Numbering.{offs}
use Rattle.edited_root.proofs.numbering.next_free.Given as goal

abbrev pub invariant-loop-at : goal.invariant-loop-at
invariant-loop-at l = (l.fn.at ≤ l.at) × ((k : ℕ) → l.fn.at ≤ k → k < l.at → slice_get l.marks k ≡ Some true) × (0 < offs (drop l.at l.marks))

abbrev pub decreases-loop-at : goal.decreases-loop-at
decreases-loop-at l = length l.marks - l.at
