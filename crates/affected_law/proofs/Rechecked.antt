-- A check of which a part is made anew and a part is kept, where it stays, is full.
use Rattle.std.proofs.Common.{◌≡◌, ◌⊎◌, inl, inr, List, [], ◌∷◌, map, Some, sym, ap, ◌∙◌, subst}
use Rattle.flow_base.specs.Program.{Bytes, Program, paths_of, text_at}
use Rattle.check_values.specs.declared.signatures.Deps.{Deps}
use Rattle.program_check.specs.source_front.specs.Front.{IsParse}
use Rattle.program_check.specs.source_front.specs.Law.{OneParse}
use Rattle.merged_signatures.specs.Merged.{merged}
use Rattle.merged_signatures.specs.Imports.{IsLocal}
use Rattle.reach_law.specs.errors_by_reach.specs.Law.{HasErrors, Agree}
use Rattle.reach_law.specs.Law.{KeyLaw}
use Rattle.program_check.specs.check_job.specs.Jobs.{source_in}
use Rattle.program_check.specs.Full.{Results, beside, view_in, sigs_in, deps_in, AreResultsOf, AreResults, IsFull}
use Rattle.affected_law.specs.Affected.{results_at}
use Rattle.affected_law.specs.Kept.{KeepsImports, IsModuleOf}
use Rattle.affected_law.specs.Recheck.{Kept, IsRechecked, AreRechecked, RecheckedIsFull}
use Rattle.affected_law.proofs.Places.{module_at}
use Rattle.affected_law.proofs.Kept.{parse_serves, deps_serve, sig_serves, errors_serve}

module _ (one_parse : OneParse) (local : IsLocal) (key : KeyLaw) (old new : Program) (before after : List Results) (full : IsFull old before) where
  module _ (path text : Bytes) (s : Results) where
    is_module : (r : Results) → results_at old before path ≡ Some r → text_at old path ≡ Some text → IsModuleOf old before path text r
    is_module r at had = record { full = full; has_text = had; has_results = at }

    is_parse : IsParse text s.parse ⊎ Kept old before path (λ r. (s.parse ≡ r.parse) × (text_at old path ≡ Some text)) → IsParse text s.parse
    is_parse (inl made) = made
    is_parse (inr (r, at, (same, had))) = subst (IsParse text) (sym same) (parse_serves old before path text r (is_module r at had))

    are_deps : IsParse text s.parse → (s.deps ≡ deps_in (paths_of new) path s.parse) ⊎ Kept old before path (λ r. (s.deps ≡ r.deps) × (text_at old path ≡ Some text) × (paths_of new ≡ paths_of old)) → s.deps ≡ deps_in (paths_of new) path s.parse
    are_deps is (inl made) = made
    are_deps is (inr (r, at, (same, had, paths))) =
        same ∙ (deps_serve one_parse old before path text r (is_module r at had) s.parse is ∙ ap (λ (ps : List Bytes). deps_in ps path s.parse) (sym paths))

    is_sig : (merged (view_in new after) path ≡ Some s.sig) ⊎ Kept old before path (λ r. (s.sig ≡ r.sig) × KeepsImports (view_in old before) (view_in new after) path) → merged (view_in new after) path ≡ Some s.sig
    is_sig (inl made) = made
    is_sig (inr (r, at, (same, keeps))) =
        let m = module_at old before path r full at in
        sig_serves local old before path m.0 r m.1 (view_in new after) keeps ∙ ap Some (sym same)

    are_errors : IsParse text s.parse
        → HasErrors path s.deps (source_in s.parse.tree) (sigs_in new after) s.errors ⊎ Kept old before path (λ r. (s.errors ≡ r.errors) × (text_at old path ≡ Some text) × (s.deps ≡ r.deps) × Agree (sigs_in new after) s.deps (sigs_in old before))
        → HasErrors path s.deps (source_in s.parse.tree) (sigs_in new after) s.errors
    are_errors is (inl made) = made
    are_errors is (inr (r, at, (same, had, list, agree))) =
        subst (HasErrors path s.deps (source_in s.parse.tree) (sigs_in new after)) (sym same)
        (subst (λ (d : Deps). HasErrors path d (source_in s.parse.tree) (sigs_in new after) r.errors) (sym list)
        (errors_serve one_parse key old before path text r (is_module r at had) s.parse (beside new (map (λ (x : Results). x.sig) after)) is (subst (λ (d : Deps). Agree (sigs_in new after) d (sigs_in old before)) list agree)))

    are_results : IsRechecked old new before after path text s → AreResultsOf (paths_of new) (view_in new after) (sigs_in new after) path text s
    are_results h = let is : IsParse text s.parse = is_parse h.parse in record { parse = is; deps = are_deps is h.deps; sig = is_sig h.sig; errors = are_errors is h.errors }

  all_results : (program : Program) (results : List Results) → AreRechecked old new before after program results → AreResults (paths_of new) (view_in new after) (sigs_in new after) program results
  all_results [] [] are = tt
  all_results [] (s ∷ results) are = absurd are
  all_results (m ∷ program) [] are = absurd are
  all_results (m ∷ program) (s ∷ results) are = (are_results m.0 m.1 s are.0, all_results program results are.1)

pub rechecked_is_full : OneParse → IsLocal → KeyLaw → RecheckedIsFull
rechecked_is_full one_parse local key old new before after full are = all_results one_parse local key old new before after full new after are
