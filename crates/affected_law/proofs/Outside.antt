-- To be outside the affected paths is to keep what each part depends on.
use Rattle.std.proofs.Common.{◌≡◌, Bool, true, List, Some, sym, ap, ◌∙◌, subst}
use Rattle.flow_base.specs.Program.{Bytes, Program, text_at}
use Rattle.merged_signatures.specs.Chains.{View}
use Rattle.merged_signatures.specs.Imports.{Imports, itself, further, Edge}
use Rattle.merged_signatures.specs.Reach.{Reach}
use Rattle.program_check.specs.Full.{Results, view_in, sigs_in}
use Rattle.affected_law.specs.Affected.{IsPathOf, results_at, Merged, Checked, by_text, by_deps, by_reach}
use Rattle.affected_law.specs.Kept.{KeepsImports, MarksKeepImports}
use Rattle.affected_law.specs.Law.{KeepsCheck, UnparsedKeepsText, UnmergedKeepsImports, UncheckedKeepsCheck}
use Rattle.affected_law.proofs.Deciding.{same_text, same_deps, same_sig, same_known}
use Rattle.affected_law.proofs.Places.{one_at, is_path, module_at}

module _ (old new : Program) (before after : List Results) (path : Bytes) where
  pub keeps_imports : IsPathOf new path → ¬ (Merged old new before after path) → KeepsImports (view_in old before) (view_in new after) path
  keeps_imports there outside other leads =
      same_known (view_in new after other) (view_in old before other) (λ differs. outside (there, other, leads, differs))

  module _ (r s : Results) (at : results_at old before path ≡ Some r) (there : results_at new after path ≡ Some s) where
    keeps_check : IsPathOf new path → ¬ (Checked old new before after path) → KeepsCheck old new before after path r s
    keeps_check is outside = record {
      text = same_text (text_at new path) (text_at old path) (λ differs. outside (by_text (is, differs)));
      deps = same_deps s.deps r.deps (λ differs. outside (by_deps r s at there differs));
      reach = λ other reach. sym (same_sig (sigs_in new after other) (sigs_in old before other) (λ differs. outside (by_reach s other there reach differs)));
    }

    is_outside : KeepsCheck old new before after path r s → Checked old new before after path → ⊥
    is_outside keeps (by_text parsed) = parsed.1 keeps.text
    is_outside keeps (by_deps x y is_x is_y differs) =
        differs (ap (λ (t : Results). t.deps) (one_at (results_at new after path) y s is_y there) ∙ (keeps.deps ∙ ap (λ (t : Results). t.deps) (one_at (results_at old before path) r x at is_x)))
    is_outside keeps (by_reach y other is_y reach differs) =
        differs (sym (keeps.reach other (subst (λ (t : Results). Reach (sigs_in new after) t.deps other) (one_at (results_at new after path) y s is_y there) reach)))

pub unparsed_keeps_text : UnparsedKeepsText
unparsed_keeps_text old new before after path r s full full' at there =
    let m = module_at new after path s full' there in
    (λ outside. same_text (text_at new path) (text_at old path) (λ differs. outside (is_path new path m.0 m.1.has_text, differs)), λ same parsed. parsed.1 same)

pub unmerged_keeps_imports : UnmergedKeepsImports
unmerged_keeps_imports old new before after path r s full full' at there =
    let m = module_at new after path s full' there in
    (λ outside. keeps_imports old new before after path (is_path new path m.0 m.1.has_text) outside, λ keeps merged. merged.3 (keeps merged.1 merged.2))

pub unchecked_keeps_check : UncheckedKeepsCheck
unchecked_keeps_check old new before after path r s full full' at there =
    let m = module_at new after path s full' there in
    (λ outside. keeps_check old new before after path r s at there (is_path new path m.0 m.1.has_text) outside, λ keeps. is_outside old new before after path r s at there keeps)

module _ (new : View) (marked : Bytes → Bool) (closed : (path other : Bytes) → marked path ≡ true → Edge new path other → marked other ≡ true) where
  stays_marked : (path other : Bytes) → marked path ≡ true → Imports new path other → marked other ≡ true
  stays_marked path _ on itself = on
  stays_marked path _ on (further p q leads edge) = closed p q (stays_marked path p on leads) edge

pub marks_keep_imports : MarksKeepImports
marks_keep_imports old new marked closed same path on other leads = same other (stays_marked new marked closed path other on leads)
