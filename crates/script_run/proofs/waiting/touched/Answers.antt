use Rattle.std.proofs.Common.{◌≤◌, List, sym, ap, ◌∙◌, subst, arith}
use Rattle.flow_base.specs.Program.{Bytes}
use Rattle.check_values.specs.Roots.{paths_of_rows}
use Rattle.check_values.specs.declared.root.RootRow.{RootRow}
use Rattle.pending_edits.specs.Counting.{counted, StandsOn}
use Rattle.pending_edits.specs.Pending.{with_edit}
use Rattle.pending_edits.specs.declared.edit.Edit.TheVariants.{Touch}
use Rattle.script_run.proofs.PendingEdits.{more_touched, few_touched}
use Rattle.script_run.proofs.waiting.touched.Goals as goal

pub touch-requires-clause-few : goal.touch-requires-clause-few
touch-requires-clause-few c =
    rw c.in_ok-share.ensures
    (subst (λ (none : List RootRow). counted (paths_of_rows none) (with_edit c.loop-i.edits.edits c.index-listed-i.result Touch) ≤ c.loop-i.edits.capacity) (sym c.new.ensures)
    (few_touched c.args.listed.now c.loop-i.i c.index-listed-i.result c.loop-i.edits.edits c.loop-i.edits.capacity c.requires.rising (omega arith) c.index-listed-i.is c.loop-i.invariant.edits
    (omega (arith, c.requires.few, c.loop-i.invariant.capacity))))

pub loop-i-preserved : goal.loop-i-preserved
loop-i-preserved c = record {
  edits =
      more_touched c.args.listed.now c.loop-i.i c.index-listed-i.result c.loop-i.edits.edits c.touch.new.edits.edits c.requires.rising (omega arith) c.index-listed-i.is c.loop-i.invariant.edits
      (c.in_ok-touch.ensures.ok ∙ ap (λ (path : Bytes). with_edit c.loop-i.edits.edits path Touch) c.in_ok-share.ensures);
  capacity = c.touch.ensures.capacity ∙ c.loop-i.invariant.capacity;
  stands = subst (λ (none : List RootRow). StandsOn (paths_of_rows none) c.touch.new.edits) c.new.ensures c.touch.ensures.stands;
}
