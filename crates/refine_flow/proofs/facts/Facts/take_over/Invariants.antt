use Rattle.std.proofs.Common.{◌≡◌, length}
use Rattle.refine_flow.specs.Whole.{told}
use Rattle.refine_flow.specs.Standing.{shown, KeepsMarks}
use Rattle.refine_flow.proofs.facts.Facts.take_over.Given as goal

-- the rows that are left lead to where all rows lead
abbrev pub invariant-loop-row : goal.invariant-loop-row
invariant-loop-row l = record {
  facts : told l.rows.items (shown l.self) ≡ told l.fn.rows.items (shown l.fn.self);
  dead : l.self.dead ≡ l.fn.self.dead;
  marks : KeepsMarks l.fn.self l.self;
}

abbrev pub decreases-loop-row : goal.decreases-loop-row
decreases-loop-row l = length l.rows.items
