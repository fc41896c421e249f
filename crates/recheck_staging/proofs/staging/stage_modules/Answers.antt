use Rattle.std.proofs.Common.{◌∙◌, ap}
use Rattle.check_values.specs.declared.root.Root.{Root}
use Rattle.recheck_staging.proofs.Steps.{parts_staged}
use Rattle.recheck_staging.proofs.staging.stage_modules.Goals as goal

pub returns-clause-ok : goal.returns-clause-ok
returns-clause-ok g c =
    let meaning = g.W.HeapWriter.meaning in
    parts_staged c.args.made.now c.args.anew.now c.as_slice-modules.result.now c.as_slice-parses.result.now c.as_slice-lists.result.now c.as_slice-signatures.result.now c.as_slice-errors.result.now c.as_slice-fresh.result.now c.as_slice-relisted.result.now
    c.as_slice-moved.result.now c.as_slice-checked.result.now (meaning c.args.writer.now) (meaning c.stage_parts.new.writer) (meaning c.stage_parts-2.new.writer) (meaning c.stage_parts-3.new.writer) (meaning c.stage_parts-4.new.writer)
    (c.as_slice-modules.ensures ∙ ap (λ (r : Root). r.modules) c.get-root.ensures) c.as_slice-parses.ensures.value c.as_slice-lists.ensures.value c.as_slice-signatures.ensures.value c.as_slice-errors.ensures.value c.as_slice-fresh.ensures.value
    c.as_slice-relisted.ensures.value c.as_slice-moved.ensures.value c.as_slice-checked.ensures.value c.in_ok-stage_parts.ensures.ok c.in_ok-stage_parts-2.ensures.ok c.in_ok-stage_parts-3.ensures.ok c.in_ok-stage_parts-4.ensures.ok
