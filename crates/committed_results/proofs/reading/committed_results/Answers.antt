use Rattle.std.proofs.Common.{List, ap, ◌∙◌}
use Rattle.check_values.specs.declared.root.Root.{Root}
use Rattle.recheck_staging.specs.check_phases.specs.declared.phases.Made.{Made}
use Rattle.state_law.specs.payloads.specs.Entities.{parse_entity, deps_entity, signature_entity, errors_entity}
use Rattle.recheck_staging.specs.result_parts.specs.Kinds.{is_parse, is_deps, is_sig, is_errs}
use Rattle.committed_results.proofs.RightKinds.{parse_kinds, deps_kinds, sig_kinds, errs_kinds}
use Rattle.committed_results.proofs.Whole.{rows_within, kinds_in, all_read, are_made, has_state}
use Rattle.committed_results.proofs.reading.committed_results.Goals as goal

pub parts_of-requires-clause-within : goal.parts_of-requires-clause-within
parts_of-requires-clause-within g c =
    rows_within (g.W.HeapWriter.meaning c.args.writer.now).committed c.in_ok-root.root c.as_slice-modules.result.now (g.met.W.HeapWriter.sound c.args.writer.now).fit c.in_ok-root.ensures (c.as_slice-modules.ensures ∙ ap (λ (r : Root). r.modules) c.get.ensures)

pub parts_of-requires-clause-numbered : goal.parts_of-requires-clause-numbered
parts_of-requires-clause-numbered g c = g.met.W.HeapWriter.numbered c.args.writer.now

pub parts_of-requires-clause-kinds : goal.parts_of-requires-clause-kinds
parts_of-requires-clause-kinds g c =
    let state = (g.W.HeapWriter.meaning c.args.writer.now).committed in
    kinds_in is_parse parse_entity state c.in_ok-root.root c.as_slice-modules.result.now (parse_kinds c.each_state_has_a_check.ensures state c.in_ok-root.root (g.met.W.HeapWriter.sound c.args.writer.now).fit c.in_ok-root.ensures)
    (c.as_slice-modules.ensures ∙ ap (λ (r : Root). r.modules) c.get.ensures)

pub parts_of-requires-2-clause-within : goal.parts_of-requires-2-clause-within
parts_of-requires-2-clause-within g c =
    rows_within (g.W.HeapWriter.meaning c.args.writer.now).committed c.in_ok-root.root c.as_slice-modules.result.now (g.met.W.HeapWriter.sound c.args.writer.now).fit c.in_ok-root.ensures (c.as_slice-modules.ensures ∙ ap (λ (r : Root). r.modules) c.get.ensures)

pub parts_of-requires-2-clause-numbered : goal.parts_of-requires-2-clause-numbered
parts_of-requires-2-clause-numbered g c = g.met.W.HeapWriter.numbered c.args.writer.now

pub parts_of-requires-2-clause-kinds : goal.parts_of-requires-2-clause-kinds
parts_of-requires-2-clause-kinds g c =
    let state = (g.W.HeapWriter.meaning c.args.writer.now).committed in
    kinds_in is_deps deps_entity state c.in_ok-root.root c.as_slice-modules.result.now (deps_kinds c.each_state_has_a_check.ensures state c.in_ok-root.root (g.met.W.HeapWriter.sound c.args.writer.now).fit c.in_ok-root.ensures)
    (c.as_slice-modules.ensures ∙ ap (λ (r : Root). r.modules) c.get.ensures)

pub parts_of-requires-3-clause-within : goal.parts_of-requires-3-clause-within
parts_of-requires-3-clause-within g c =
    rows_within (g.W.HeapWriter.meaning c.args.writer.now).committed c.in_ok-root.root c.as_slice-modules.result.now (g.met.W.HeapWriter.sound c.args.writer.now).fit c.in_ok-root.ensures (c.as_slice-modules.ensures ∙ ap (λ (r : Root). r.modules) c.get.ensures)

pub parts_of-requires-3-clause-numbered : goal.parts_of-requires-3-clause-numbered
parts_of-requires-3-clause-numbered g c = g.met.W.HeapWriter.numbered c.args.writer.now

pub parts_of-requires-3-clause-kinds : goal.parts_of-requires-3-clause-kinds
parts_of-requires-3-clause-kinds g c =
    let state = (g.W.HeapWriter.meaning c.args.writer.now).committed in
    kinds_in is_sig signature_entity state c.in_ok-root.root c.as_slice-modules.result.now (sig_kinds c.each_state_has_a_check.ensures state c.in_ok-root.root (g.met.W.HeapWriter.sound c.args.writer.now).fit c.in_ok-root.ensures)
    (c.as_slice-modules.ensures ∙ ap (λ (r : Root). r.modules) c.get.ensures)

pub parts_of-requires-4-clause-within : goal.parts_of-requires-4-clause-within
parts_of-requires-4-clause-within g c =
    rows_within (g.W.HeapWriter.meaning c.args.writer.now).committed c.in_ok-root.root c.as_slice-modules.result.now (g.met.W.HeapWriter.sound c.args.writer.now).fit c.in_ok-root.ensures (c.as_slice-modules.ensures ∙ ap (λ (r : Root). r.modules) c.get.ensures)

pub parts_of-requires-4-clause-numbered : goal.parts_of-requires-4-clause-numbered
parts_of-requires-4-clause-numbered g c = g.met.W.HeapWriter.numbered c.args.writer.now

pub parts_of-requires-4-clause-kinds : goal.parts_of-requires-4-clause-kinds
parts_of-requires-4-clause-kinds g c =
    let state = (g.W.HeapWriter.meaning c.args.writer.now).committed in
    kinds_in is_errs errors_entity state c.in_ok-root.root c.as_slice-modules.result.now (errs_kinds c.each_state_has_a_check.ensures state c.in_ok-root.root (g.met.W.HeapWriter.sound c.args.writer.now).fit c.in_ok-root.ensures)
    (c.as_slice-modules.ensures ∙ ap (λ (r : Root). r.modules) c.get.ensures)

pub returns-clause-made : goal.returns-clause-made
returns-clause-made g c =
    let state = (g.W.HeapWriter.meaning c.args.writer.now).committed in
    are_made c.one_full.ensures c.each_full.ensures c.each_state_has_a_check.ensures c.each_module_has_a_tree.ensures c.few_exports.ensures.names c.few_exports-2.ensures state _ (g.met.W.HeapWriter.sound c.args.writer.now).fit (g.met.W.HeapWriter.numbered c.args.writer.now)
    (all_read state _ c.as_slice-modules.result.now c.in_ok-root.ensures (c.as_slice-modules.ensures ∙ ap (λ (r : Root). r.modules) c.get.ensures) c.in_ok-parses.ensures c.in_ok-lists.ensures c.in_ok-signatures.ensures c.in_ok-errors.ensures)

pub returns-clause-held : goal.returns-clause-held
returns-clause-held g c =
    let state = (g.W.HeapWriter.meaning c.args.writer.now).committed in
    let made : Made = record {
      sources = record { root = c.in_ok-root.root; parses = c.in_ok-parses.parses; lists = c.in_ok-lists.lists };
      signatures = c.in_ok-signatures.signatures;
      errors = c.in_ok-errors.errors;
    } in
    has_state c.one_full.ensures c.each_full.ensures c.each_state_has_a_check.ensures c.each_module_has_a_tree.ensures c.few_exports.ensures.names c.few_exports-2.ensures state made (g.met.W.HeapWriter.sound c.args.writer.now).fit (g.met.W.HeapWriter.numbered c.args.writer.now)
    (all_read state made c.as_slice-modules.result.now c.in_ok-root.ensures (c.as_slice-modules.ensures ∙ ap (λ (r : Root). r.modules) c.get.ensures) c.in_ok-parses.ensures c.in_ok-lists.ensures c.in_ok-signatures.ensures c.in_ok-errors.ensures)
