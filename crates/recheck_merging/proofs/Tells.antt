-- The plan of what differs is that of the paths that an edit affects.
use Rattle.std.proofs.Common.{◌≡◌, ℕ, List, slice_get, Some, sym, ap, ◌∙◌, subst}
use Rattle.flow_base.specs.Program.{Bytes, Program}
use Rattle.graph_search.specs.Cycles.{Has}
use Rattle.merged_signatures.specs.Chains.{View}
use Rattle.merged_signatures.specs.Imports.{Imports}
use Rattle.check_phases.specs.program_check.specs.Full as full
use Rattle.check_phases.specs.program_check.specs.Full.{Results}
use Rattle.path_numbers.specs.affected_law.specs.Affected.{IsPathOf, Differs, Merged}
use Rattle.path_numbers.specs.affected_sizes.specs.Polls.{AreWavesAmong}
use Rattle.path_numbers.specs.Sets.{paths_at, ArePlaces}
use Rattle.path_numbers.proofs.Sets.{are_paths}
use Rattle.path_numbers.proofs.Ways.{is_path_of, has_path_of}
use Rattle.check_phases.specs.Sourced.{program_in, paths_in, view_in, AreSources}
use Rattle.check_phases.specs.declared.merging.Sources.{Sources}
use Rattle.check_phases.proofs.Lists.{one_value, same_paths}
use Rattle.recheck_merging.specs.Affected.{PlansAreOfMerged}
use Rattle.recheck_merging.specs.Plans.{IsPlanOf}
use Rattle.recheck_merging.specs.declared.planning.MergePlan.{MergePlan}
use Rattle.recheck_merging.proofs.Keeps.{imports_place}

module _ (s : Sources) (touched : List ℕ) (p : MergePlan) (old : Program) (before after : List Results) (sources : AreSources s) (seen : full.view_in (program_in s) after ≡ view_in s)
    (places : ArePlaces (Differs (full.view_in old before) (full.view_in (program_in s) after)) (paths_in s) touched) (plan : IsPlanOf s touched p) where
  abbrev Affected : Bytes → Type 0
  Affected = Merged old (program_in s) before after

  path_is : (x : ℕ) (path : Bytes) → slice_get (paths_in s) x ≡ Some path → IsPathOf (program_in s) path
  path_is x path at = is_path_of (program_in s) path (x, ap (λ (ps : List Bytes). slice_get ps x) (same_paths s.root) ∙ at)

  path_has : (path : Bytes) → IsPathOf (program_in s) path → (x : ℕ) × (slice_get (paths_in s) x ≡ Some path)
  path_has path is = let has = has_path_of (program_in s) path is in (has.0, ap (λ (ps : List Bytes). slice_get ps has.0) (sym (same_paths s.root)) ∙ has.1)

  sound : (x : ℕ) → Has p.merged x → (path : Bytes) × (slice_get (paths_in s) x ≡ Some path) × Affected path
  sound x has =
      let is = plan.merged.sound x has in
      let t = places.sound is.number is.is_touched in
      let same : t.0 ≡ is.other = one_value t.0 is.other (sym t.1 ∙ is.at_other) in
      (is.path, is.at_path, (path_is x is.path is.at_path, is.other, subst (λ (v : View). Imports v is.path is.other) (sym seen) is.leads, subst (Differs (full.view_in old before) (full.view_in (program_in s) after)) same t.2))

  complete : (path : Bytes) → Affected path → (x : ℕ) × (slice_get (paths_in s) x ≡ Some path) × Has p.merged x
  complete path (is, other, leads, differs) =
      let x = path_has path is in
      let ways : Imports (view_in s) path other = subst (λ (v : View). Imports v path other) seen leads in
      let y = imports_place s sources path other ways x.0 x.1 in (
        x.0,
        x.1,
        plan.merged.complete x.0 (record {
          number = y.0;
          path = path;
          other = other;
          is_touched = places.complete y.0 other y.1 differs;
          at_path = x.1;
          at_other = y.1;
          leads = ways;
        }),
      )

pub plans_are_of_merged : PlansAreOfMerged
plans_are_of_merged s touched p old before after sources seen places plan = record {
  merged =
      are_paths (Merged old (program_in s) before after) (paths_in s) sources.rising p.merged plan.merged.rising (sound s touched p old before after sources seen places plan) (complete s touched p old before after sources seen places plan);
  waves = subst (λ (v : View). AreWavesAmong v (paths_at (paths_in s) p.merged) p.waves) (sym seen) plan.plan.waves;
}
