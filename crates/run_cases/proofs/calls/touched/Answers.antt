use Rattle.std.proofs.Common.{ℕ, ◌≤◌, List, [], ◌∙◌, sym, subst, arith}
use Rattle.check_values.specs.Rows.{Rows}
use Rattle.check_values.specs.Roots.{paths_of_rows}
use Rattle.check_values.specs.declared.root.RootRow.{RootRow}
use Rattle.pending_edits.specs.Counting.{counted, StandsOn}
use Rattle.pending_edits.specs.declared.edit.Edit.{Edit}
use Rattle.run_cases.proofs.calls.touched.Goals as goal

pub loop-i-init : goal.loop-i-init
loop-i-init c = record {
  capacity = c.new-edits.ensures.capacity;
  stands = c.new-edits.ensures.stands [];
  few = subst (λ (edits : Rows Edit). counted [] edits ≤ 3) (sym c.new-edits.ensures.edits) (omega arith);
}

pub loop-i-preserved : goal.loop-i-preserved
loop-i-preserved c = record {
  capacity = c.touch.ensures.capacity ∙ c.loop-i.invariant.capacity;
  stands = subst (λ (none : List RootRow). StandsOn (paths_of_rows none) c.touch.new.edits) c.new.ensures c.touch.ensures.stands;
  few =
      subst (λ (most : ℕ). counted [] c.touch.new.edits.edits ≤ most) c.loop-i.invariant.capacity
      (subst (λ (none : List RootRow). counted (paths_of_rows none) c.touch.new.edits.edits ≤ c.loop-i.edits.capacity) c.new.ensures c.in_ok-touch.ensures.few);
}
