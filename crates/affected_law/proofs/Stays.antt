-- Outside the affected paths the full check of the new program is that of the old one.
use Rattle.std.proofs.Common.{◌≡◌, map, sym, ◌∙◌, subst}
use Rattle.flow_base.specs.Program.{Bytes, text_at}
use Rattle.check_values.specs.declared.signatures.Deps.{Deps}
use Rattle.program_check.specs.source_front.specs.Front.{IsParse}
use Rattle.program_check.specs.source_front.specs.Law.{OneParse}
use Rattle.merged_signatures.specs.Imports.{IsLocal}
use Rattle.reach_law.specs.errors_by_reach.specs.Law.{HasErrors, Agree, OneAnswer}
use Rattle.reach_law.specs.Law.{KeyLaw}
use Rattle.program_check.specs.check_job.specs.Jobs.{source_in}
use Rattle.program_check.specs.Full.{Results, beside, view_in, sigs_in}
use Rattle.affected_law.specs.Affected.{by_text}
use Rattle.affected_law.specs.Law.{ParsesStay, SignaturesStay, ErrorsStay, ResultsStay, KeepsCheck, ParsedAreChecked, ChecksGoByMerging}
use Rattle.affected_law.proofs.Outside.{keeps_imports, unparsed_keeps_text, unmerged_keeps_imports, unchecked_keeps_check}
use Rattle.affected_law.proofs.Places.{some_same, module_at, module_results, sigs_are_merged}
use Rattle.affected_law.proofs.Kept.{sig_serves, errors_serve}
use Rattle.affected_law.proofs.Inside.{reach_stays_inside}

pub parses_stay : OneParse → ParsesStay
parses_stay one_parse old new before after path r s full full' at there outside =
    let m = module_at old before path r full at in
    let n = module_at new after path s full' there in
    let same : text_at new path ≡ text_at old path = (unparsed_keeps_text old new before after path r s full full' at there).0 outside in
    one_parse m.0 r.parse s.parse (module_results old before path m.0 r m.1).parse
    (subst (λ (t : Bytes). IsParse t s.parse) (some_same n.0 m.0 (sym n.1.has_text ∙ (same ∙ m.1.has_text))) (module_results new after path n.0 s n.1).parse)

pub signatures_stay : IsLocal → SignaturesStay
signatures_stay local old new before after path r s full full' at there outside =
    let m = module_at old before path r full at in
    let n = module_at new after path s full' there in
    let keeps = (unmerged_keeps_imports old new before after path r s full full' at there).0 outside in
    some_same r.sig s.sig (sym (sig_serves local old before path m.0 r m.1 (view_in new after) keeps) ∙ (module_results new after path n.0 s n.1).sig)

pub errors_stay : OneParse → KeyLaw → OneAnswer → ErrorsStay
errors_stay one_parse key one_answer old new before after path r s full full' at there outside =
    let m = module_at old before path r full at in
    let n = module_at new after path s full' there in
    let are = module_results new after path n.0 s n.1 in
    let keeps : KeepsCheck old new before after path r s = (unchecked_keeps_check old new before after path r s full full' at there).0 outside in
    let text : n.0 ≡ m.0 = some_same n.0 m.0 (sym n.1.has_text ∙ (keeps.text ∙ m.1.has_text)) in
    one_answer path r.deps (source_in s.parse.tree) (sigs_in new after) r.errors s.errors
    (errors_serve one_parse key old before path m.0 r m.1 s.parse (beside new (map (λ (x : Results). x.sig) after)) (subst (λ (t : Bytes). IsParse t s.parse) text are.parse)
    (subst (λ (d : Deps). Agree (sigs_in new after) d (sigs_in old before)) keeps.deps keeps.reach))
    (subst (λ (d : Deps). HasErrors path d (source_in s.parse.tree) (sigs_in new after) s.errors) keeps.deps are.errors)

pub results_stay : OneParse → IsLocal → KeyLaw → OneAnswer → ResultsStay
results_stay one_parse local key one_answer old new before after path r s full full' at there unmerged unchecked = record {
  parse = parses_stay one_parse old new before after path r s full full' at there (λ parsed. unchecked (by_text parsed));
  deps = sym ((unchecked_keeps_check old new before after path r s full full' at there).0 unchecked).deps;
  sig = signatures_stay local old new before after path r s full full' at there unmerged;
  errors = errors_stay one_parse key one_answer old new before after path r s full full' at there unchecked;
}

-- ---- how the sets lie

pub parsed_are_checked : ParsedAreChecked
parsed_are_checked old new before after path parsed = by_text parsed

pub checks_go_by_merging : IsLocal → ChecksGoByMerging
checks_go_by_merging local old new before after path r s full full' at there unparsed same unmerged =
    (unchecked_keeps_check old new before after path r s full full' at there).1 (record {
      text = (unparsed_keeps_text old new before after path r s full full' at there).0 unparsed;
      deps = same;
      reach = λ other reach.
          let keeps = keeps_imports old new before after other (reach_stays_inside new after full' path other s there reach) (unmerged other reach) in
          sigs_are_merged old before other full ∙ (sym (local (view_in old before) (view_in new after) other keeps) ∙ sym (sigs_are_merged new after other full'));
    })
