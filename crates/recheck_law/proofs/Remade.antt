-- What is remade is a full check.
use Rattle.std.proofs.Common.{◌≡◌, ◌⊎◌, inl, inr, List, [], ◌∷◌, Option, Some, None, option_map, refl, sym, ap, ◌∙◌, subst}
use Rattle.std.specs.Prelude.{MatchOption}
use Rattle.flow_base.specs.Program.{Bytes, Program, paths_of, text_at}
use Rattle.check_values.specs.declared.faults.Fault.{Fault}
use Rattle.check_values.specs.declared.signatures.Deps.{Deps}
use Rattle.check_values.specs.declared.signatures.Sig.{Sig}
use Rattle.affected_law.specs.source_front.specs.declared.parse.Parse.{Parse}
use Rattle.affected_law.specs.source_front.specs.Front.{IsParse}
use Rattle.merged_signatures.specs.Merged.{merged}
use Rattle.errors_by_reach.specs.Law.{HasErrors, Agree}
use Rattle.affected_law.specs.check_job.specs.Jobs.{source_in}
use Rattle.affected_law.specs.program_check.specs.Full.{Results, view_in, sigs_in, deps_in, IsFull}
use Rattle.affected_law.specs.Affected.{results_at}
use Rattle.affected_law.specs.Kept.{KeepsImports, IsModuleOf, ParseServes, DepsServe}
use Rattle.affected_law.specs.Recheck.{Kept, IsRechecked, AreRechecked, RecheckedIsFull}
use Rattle.recheck_law.specs.Remade.{Remade, IsPart, IsLaid, IsListAgain, IsRight, AreRemade, RemadeIsFull}
use Rattle.recheck_law.proofs.Lists.{deps_serve_again}

-- a part that wasn't made is that of the old results
part_kept : {X : Type 0} (f : Results → X) (o : Option Results) (part : X) → option_map f o ≡ Some part → (r : Results) × (o ≡ Some r) × (part ≡ f r)
part_kept f None part is = absurd (let z : None ≡ Some part = is in cc)
part_kept f (Some r) part is = (r, refl, (let z : Some (f r) ≡ Some part = is in let same : f r ≡ part = cc in sym same))

module _ (parse_serves : ParseServes) (deps_serve : DepsServe) (old new : Program) (before after : List Results) (full : IsFull old before) where
  module _ (path text : Bytes) (s : Results) where
    is_module : (r : Results) → results_at old before path ≡ Some r → text_at old path ≡ Some text → IsModuleOf old before path text r
    is_module r at had = record { full = full; has_text = had; has_results = at }

    abbrev ParseStays : Type 0
    ParseStays = Kept old before path (λ r. (s.parse ≡ r.parse) × (text_at old path ≡ Some text))

    is_parse : (made : Option Parse) → IsPart made (option_map (λ (r : Results). r.parse) (results_at old before path)) s.parse
        → MatchOption made (text_at old path ≡ Some text) (IsParse text) → IsParse text s.parse ⊎ ParseStays
    is_parse (Some p) laid right = inl (subst (IsParse text) (sym laid) right)
    is_parse None laid right = let k = part_kept (λ (r : Results). r.parse) (results_at old before path) s.parse laid in inr (k.0, k.1, (k.2, right))

    parse_of : IsParse text s.parse ⊎ ParseStays → IsParse text s.parse
    parse_of (inl made) = made
    parse_of (inr (r, at, (same, had))) = subst (IsParse text) (sym same) (parse_serves old before path text r (is_module r at had))

    list_again : IsParse text s.parse → (deps : Deps) → IsListAgain old new before after path text deps → deps ≡ deps_in (paths_of new) path s.parse
    list_again parse deps (r, at, (had, is)) = is ∙ deps_serve_again deps_serve old before path text r (is_module r at had) (paths_of new) s.parse parse

    are_deps : IsParse text s.parse → (made : Option Deps) → IsPart made (option_map (λ (r : Results). r.deps) (results_at old before path)) s.deps
        → MatchOption made (IsListAgain old new before after path text s.deps) (λ deps. (deps ≡ deps_in (paths_of new) path s.parse) ⊎ IsListAgain old new before after path text deps)
        → s.deps ≡ deps_in (paths_of new) path s.parse
    are_deps parse (Some d) laid (inl made) = laid ∙ made
    are_deps parse (Some d) laid (inr again) = laid ∙ list_again parse d again
    are_deps parse None laid again = list_again parse s.deps again

    is_sig : (made : Option Sig) → IsPart made (option_map (λ (r : Results). r.sig) (results_at old before path)) s.sig
        → MatchOption made (KeepsImports (view_in old before) (view_in new after) path) (λ sig. merged (view_in new after) path ≡ Some sig)
        → (merged (view_in new after) path ≡ Some s.sig) ⊎ Kept old before path (λ r. (s.sig ≡ r.sig) × KeepsImports (view_in old before) (view_in new after) path)
    is_sig (Some g) laid right = inl (right ∙ ap Some (sym laid))
    is_sig None laid right = let k = part_kept (λ (r : Results). r.sig) (results_at old before path) s.sig laid in inr (k.0, k.1, (k.2, right))

    are_errors : (made : Option (List Fault)) → IsPart made (option_map (λ (r : Results). r.errors) (results_at old before path)) s.errors
        → MatchOption made (Kept old before path (λ r. (text_at old path ≡ Some text) × (s.deps ≡ r.deps) × Agree (sigs_in new after) s.deps (sigs_in old before)))
        (HasErrors path s.deps (source_in s.parse.tree) (sigs_in new after))
        → HasErrors path s.deps (source_in s.parse.tree) (sigs_in new after) s.errors
        ⊎ Kept old before path (λ r. (s.errors ≡ r.errors) × (text_at old path ≡ Some text) × (s.deps ≡ r.deps) × Agree (sigs_in new after) s.deps (sigs_in old before))
    are_errors (Some e) laid right = inl (subst (HasErrors path s.deps (source_in s.parse.tree) (sigs_in new after)) (sym laid) right)
    are_errors None laid (r, at, (had, deps, agree)) =
        let k = part_kept (λ (q : Results). q.errors) (results_at old before path) s.errors laid in
        let both : Some k.0 ≡ Some r = sym k.1 ∙ at in
        let one : k.0 ≡ r = cc in
        inr (r, at, (k.2 ∙ ap (λ (q : Results). q.errors) one, had, deps, agree))

    is_rechecked : (made : Remade) → IsLaid (results_at old before path) made s → IsRight old new before after path text made s → IsRechecked old new before after path text s
    is_rechecked made laid right =
        let parse = is_parse made.parse laid.parse right.parse in
        record {
          parse = parse;
          deps = inl (are_deps (parse_of parse) made.deps laid.deps right.deps);
          sig = is_sig made.sig laid.sig right.sig;
          errors = are_errors made.errors laid.errors right.errors;
        }

  all_rechecked : (program : Program) (made : List Remade) (results : List Results) → AreRemade old new before after program made results → AreRechecked old new before after program results
  all_rechecked [] [] [] are = tt
  all_rechecked [] [] (s ∷ results) are = absurd are
  all_rechecked [] (x ∷ made) results are = absurd are
  all_rechecked (m ∷ program) [] results are = absurd are
  all_rechecked (m ∷ program) (x ∷ made) [] are = absurd are
  all_rechecked (m ∷ program) (x ∷ made) (s ∷ results) are = (is_rechecked m.0 m.1 s x are.0.0 are.0.1, all_rechecked program made results are.1)

pub remade_is_full : ParseServes → DepsServe → RecheckedIsFull → RemadeIsFull
remade_is_full parse_serves deps_serve rechecked old new before after made full are =
    rechecked old new before after full (all_rechecked parse_serves deps_serve old new before after full new made after are)
