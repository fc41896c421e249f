use Rattle.std.proofs.Common.{◌≡◌, ◌==◌, ℕ, false, None}
use Rattle.std.specs.List.{list_any}
use Rattle.fact_trail.specs.declared.slot.Slot.TheVariants.{Variable}
use Rattle.fact_trail.specs.Moments.{map_of}
use Rattle.fact_trail.proofs.Changes.{Loses}
use Rattle.refine_flow.specs.Standing.{is_lost}
use Rattle.refine_flow.proofs.Losing.{IsBefore, left_from}
use Rattle.refine_flow.proofs.facts.Facts.drop_others.Given as goal

-- those before the next one are dropped, and the others are as they were
abbrev pub invariant-loop-next : goal.invariant-loop-next
invariant-loop-next l = record {
  lost : Loses (is_lost (λ b. list_any (λ c. c == b) l.constants)) l.fn.self.trail l.self.trail;
  before : (b : ℕ) → IsBefore b l.next → list_any (λ c. c == b) l.constants ≡ false → map_of l.self.trail (Variable b) ≡ None;
  names : l.self.names ≡ l.fn.self.names;
  dead : l.self.dead ≡ l.fn.self.dead;
  marks : l.self.marks ≡ l.fn.self.marks;
}

abbrev pub decreases-loop-next : goal.decreases-loop-next
decreases-loop-next l = left_from l.next
