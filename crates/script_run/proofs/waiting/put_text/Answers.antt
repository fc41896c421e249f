use Rattle.std.proofs.Common.{sym, ap, ◌∙◌, subst}
use Rattle.flow_values.specs.Path.{IsRising}
use Rattle.check_values.specs.Roots.{paths_of}
use Rattle.check_values.specs.declared.root.Root.{Root}
use Rattle.std.proofs.Common.{◌<◌, ◌^◌, length}
use Rattle.heap_core.specs.PlainHeaps.{plain_sound}
use Rattle.beside.specs.Writers.{meaning_in}
use Rattle.pending_edits.specs.Counting.{counted, StandsOn, LimitsModules}
use Rattle.pending_edits.specs.Pending.{with_edit}
use Rattle.pending_edits.specs.declared.edit.Edit.TheVariants.{Put}
use Rattle.script_run.proofs.PendingEdits.{root_rising, root_few, stands_there, stand_still, counted_there, limits_there, few_edited}
use Rattle.script_run.proofs.waiting.put_text.Goals as goal

pub put-requires-clause-rising : goal.put-requires-clause-rising
put-requires-clause-rising c =
    subst (λ (r : Root). IsRising (paths_of r)) (sym c.get.ensures)
    (root_rising (meaning_in c.args.writer.now) c.in_ok-root.root c.args.edits.now.capacity (plain_sound c.args.writer.now.plain) c.requires.room c.in_ok-root.ensures)

pub put-requires-clause-few : goal.put-requires-clause-few
put-requires-clause-few c =
    subst (λ (r : Root). length r.modules < 2 ^ 32) (sym c.get.ensures)
    (root_few (meaning_in c.args.writer.now) c.in_ok-root.root c.args.edits.now.capacity (plain_sound c.args.writer.now.plain) c.requires.room c.in_ok-root.ensures)

pub put-requires-clause-stands : goal.put-requires-clause-stands
put-requires-clause-stands c =
    subst (λ (r : Root). StandsOn (paths_of r) c.args.edits.now) (sym c.get.ensures)
    (stands_there (meaning_in c.args.writer.now) c.in_ok-root.root c.args.edits.now c.in_ok-root.ensures c.requires.stands)

pub returns-clause-too_many : goal.returns-clause-too_many
returns-clause-too_many c =
    limits_there c.args.edits.now.capacity _ _ c.put.result
    (ap (λ (r : Root). counted (paths_of r) (with_edit c.args.edits.now.edits c.args.path (Put c.args.text))) c.get.ensures
    ∙ counted_there (meaning_in c.args.writer.now) c.in_ok-root.root c.in_ok-root.ensures (with_edit c.args.edits.now.edits c.args.path (Put c.args.text))) c.put.ensures.too_many

pub returns-clause-few : goal.returns-clause-few
returns-clause-few c =
    few_edited (meaning_in c.args.writer.now) c.in_ok-root.root c.args.edits.now c.put.new.self c.args.path (Put c.args.text) c.put.result c.in_ok-root.ensures c.put.ensures.ok c.put.ensures.err c.put.ensures.capacity
    (subst (λ (r : Root). LimitsModules c.args.edits.now.capacity (counted (paths_of r) (with_edit c.args.edits.now.edits c.args.path (Put c.args.text))) c.put.result) c.get.ensures c.put.ensures.too_many) c.requires.few

pub returns-clause-stands : goal.returns-clause-stands
returns-clause-stands c =
    stand_still (meaning_in c.args.writer.now) c.in_ok-root.root c.put.new.self c.in_ok-root.ensures
    (subst (λ (r : Root). StandsOn (paths_of r) c.put.new.self) c.get.ensures c.put.ensures.stands)
