-- The checks begin, as the code has them.
use Rattle.std.proofs.Common.{◌≡◌, ℕ, ◌^◌, ◌<◌, ◌≤◌, Bool, List, All, map, length, Option, Some, sym, ap, ◌∙◌, subst, arith}
use Rattle.std.specs.Global.{Vec}
use Rattle.committed_results.specs.full_law.specs.Law.{EachFull}
use Rattle.check_values.specs.declared.faults.Errs.{Errs}
use Rattle.check_values.specs.declared.root.Root.{Root}
use Rattle.check_values.specs.declared.signatures.Sig.{Sig}
use Rattle.recheck_reach.specs.recheck_merging.specs.check_job.specs.signature_table.specs.declared.table.SignatureTable.{SignatureTable}
use Rattle.graph_search.specs.Cycles.{Has, IsOn}
use Rattle.recheck_reach.specs.affected_sizes.specs.Polls.{AreImports}
use Rattle.recheck_plan.specs.Affected.{AreExactly}
use Rattle.recheck_reach.specs.check_phases.specs.Phases.{AreMerged}
use Rattle.recheck_reach.specs.check_phases.specs.Sourced.{program_in, paths_in, view_in}
use Rattle.recheck_reach.specs.recheck_merging.specs.Merging.{WavesMakeAll}
use Rattle.recheck_reach.specs.recheck_sources.specs.Parts.{TellsOthers}
use Rattle.recheck_reach.specs.recheck_sources.specs.Changed.{IsChanged}
use Rattle.recheck_reach.specs.Moved.{IsSameOutside}
use Rattle.recheck_reach.specs.Checked.{AreLeading, IsToCheckIn}
use Rattle.recheck_reach.specs.Law.{RestIsSame, CheckedAreOfChecked, DiffersAreTouched}
use Rattle.recheck_checking.specs.Keeping as errors
use Rattle.recheck_checking.specs.Full.{MadeIsFull}
use Rattle.recheck_checking.specs.Right.{KeptErrorsAreRight}
use Rattle.recheck_reach.specs.recheck_merging.specs.Still.{AreOld}
use Rattle.recheck_run.specs.Stages.{IsBase, IsMerging, AreAffected, KeepsErrors, IsChecking}
use Rattle.recheck_run.specs.declared.stages.Base.{Base}
use Rattle.recheck_run.specs.declared.stages.Merging.{Merging}
use Rattle.recheck_checking.specs.Checking.{TellsAll, AreCheckedTo}
use Rattle.recheck_run.proofs.Planned.{places_low, signatures_merged, many_signatures, many_from, outside_same, plan_within, plan_leads, moved_edges, affected, errors_right, errors_kept}

module _ (b : Base) (m : Merging) (base : IsBase b) (is : IsMerging b m) (past : length m.plan.waves ≤ m.wave) (law : DiffersAreTouched) (make : WavesMakeAll) (sigs : List Sig) (same : map Some sigs ≡ m.slots.items) (all : List Sig) (is_all : all ≡ sigs) where
  mine : map Some all ≡ m.slots.items
  mine = ap (map Some) is_all ∙ same

  pub few_modules : length m.listed.sources.root.modules < 2 ^ 32
  few_modules = (let few = base.new_few in let many = ap (λ (r : Root). length r.modules) is.listed.root in omega (arith, few, many))

  pub merged_all : AreMerged (view_in m.listed.sources) (program_in m.listed.sources) all
  merged_all = signatures_merged b m base is past law make all mine

  pub many_all : length all ≡ length m.listed.sources.root.modules
  many_all = many_signatures b m base is past law make all mine

  pub changed_low : All (λ x. x < length m.listed.sources.root.modules) m.listed.changed
  changed_low = places_low m.listed.sources (IsChanged b.was.sources m.listed.sources) m.listed.changed is.changed.1

  module _ (from : List (Option ℕ)) (is_from : from ≡ b.from.items) where
    pub from_all : length from ≡ length all
    from_all = ap length is_from ∙ many_from b m base is past law make all mine

    pub plan_low : (merged : List ℕ) → merged ≡ m.plan.merged → All (λ x. x < length all) merged
    plan_low merged is_merged = subst (All (λ (x : ℕ). x < length all)) (sym is_merged) (plan_within b m base is past law make all mine)

    pub leading_low : (merged : List ℕ) → merged ≡ m.plan.merged → All (λ x. x < length m.listed.sources.root.modules) merged
    leading_low merged is_merged = subst (All (λ (x : ℕ). x < length m.listed.sources.root.modules)) (sym is_merged) is.plan.plan.within

    pub rest_here : RestIsSame → (was : List Sig) (merged : List ℕ) → was ≡ b.was.signatures.items → merged ≡ m.plan.merged → IsSameOutside was from merged all
    rest_here rest was merged is_was is_merged =
        subst (λ (w : List Sig). IsSameOutside w from merged all) (sym is_was)
        (subst (λ (f : List (Option ℕ)). IsSameOutside b.was.signatures.items f merged all) (sym is_from)
        (subst (λ (l : List ℕ). IsSameOutside b.was.signatures.items b.from.items l all) (sym is_merged) (outside_same b m base is past law make all mine rest)))

    pub same_here : (was : List Sig) (flags : List Bool) → was ≡ b.was.signatures.items → flags ≡ m.same.items → AreOld was from (map Some all) flags
    same_here was flags is_was is_flags =
        subst (λ (w : List Sig). AreOld w from (map Some all) flags) (sym is_was)
        (subst (λ (f : List (Option ℕ)). AreOld b.was.signatures.items f (map Some all) flags) (sym is_from)
        (subst (λ (l : List (Option Sig)). AreOld b.was.signatures.items b.from.items l flags) (sym mine) (subst (λ (g : List Bool). AreOld b.was.signatures.items b.from.items m.slots.items g) (sym is_flags) is.same)))

    module _ (was : List Sig) (is_was : was ≡ b.was.signatures.items) (moved : List Bool) (tells : TellsOthers was from all moved) where
      tells_here : TellsOthers b.was.signatures.items b.from.items all moved
      tells_here = subst (λ (w : List Sig). TellsOthers w b.from.items all moved) is_was (subst (λ (f : List (Option ℕ)). TellsOthers was f all moved) is_from tells)

      pub many_moved : (flags : List Bool) → flags ≡ moved → length flags ≡ length m.listed.sources.root.modules
      many_moved flags is_flags = ap length is_flags ∙ (tells.many ∙ many_all)

      pub leads_here : RestIsSame → (flags : List Bool) (merged : List ℕ) → flags ≡ moved → merged ≡ m.plan.merged → AreLeading m.listed.sources flags merged
      leads_here rest flags merged is_flags is_merged =
          subst (AreLeading m.listed.sources flags) (sym is_merged) (subst (λ (l : List Bool). AreLeading m.listed.sources l m.plan.merged) (sym is_flags) (plan_leads b m base is past law make all mine rest moved tells_here))

      pub edges_here : RestIsSame → (flags : List Bool) (imports : List (List ℕ)) → flags ≡ moved → imports ≡ m.edges.items → (x : ℕ) → IsOn flags x → AreImports (view_in m.listed.sources) (paths_in m.listed.sources) imports
      edges_here rest flags imports is_flags is_imports x on =
          subst (AreImports (view_in m.listed.sources) (paths_in m.listed.sources)) (sym is_imports) (moved_edges b m base is past law make all mine rest moved tells_here x (subst (λ (l : List Bool). IsOn l x) is_flags on))

      module _ (checks : CheckedAreOfChecked) (flags : List Bool) (is_flags : flags ≡ moved) (checked : List ℕ) (exactly : AreExactly (IsToCheckIn m.listed.sources all flags m.listed.changed) checked) where
        are_affected : AreAffected b m.listed.sources checked
        are_affected = affected b m base is past law make all mine checks moved checked tells_here (subst (λ (l : List Bool). AreExactly (IsToCheckIn m.listed.sources all l m.listed.changed) checked) is_flags exactly)

        pub affected_here : AreAffected b m.listed.sources checked
        affected_here = are_affected

        pub checked_low : (numbers : List ℕ) → numbers ≡ checked → All (λ x. x < length m.listed.sources.root.modules) numbers
        checked_low numbers is_numbers = subst (All (λ (x : ℕ). x < length m.listed.sources.root.modules)) (sym is_numbers) are_affected.within

        pub numbers_low : (numbers : List ℕ) → numbers ≡ checked → All (λ x. x < length from) numbers
        numbers_low numbers is_numbers =
            let many : length from ≡ length m.listed.sources.root.modules = from_all ∙ many_all in
            subst (All (λ (x : ℕ). x < length from)) (sym is_numbers) (subst (λ (n : ℕ). All (λ x. x < n) checked) (sym many) are_affected.within)

        pub checking_is : EachFull → MadeIsFull → KeptErrorsAreRight → (relisted moved_vec : Vec Bool) (signatures : Vec Sig) (table : SignatureTable) (numbers : List ℕ) (old : List Errs) (slots : Vec (Option Errs)) → relisted ≡ m.listed.relisted → moved_vec.items ≡ moved → signatures.items ≡ sigs
            → numbers ≡ checked → old ≡ b.was.errors.items → errors.AreKept old from numbers slots.items → TellsAll m.listed.sources all numbers table.rows
            → IsChecking b (record { sources = m.listed.sources; relisted = relisted; signatures = signatures; moved = moved_vec; table = table; checked = checked; done = 0; errors = slots })
        checking_is each full right relisted moved_vec signatures table numbers old slots is_relisted is_moved is_signatures is_numbers is_old kept told =
            let kept_own : errors.AreKept b.was.errors.items b.from.items checked slots.items =
            subst (λ (o : List Errs). errors.AreKept o b.from.items checked slots.items) is_old
            (subst (λ (f : List (Option ℕ)). errors.AreKept old f checked slots.items) is_from (subst (λ (l : List ℕ). errors.AreKept old from l slots.items) is_numbers kept)) in
            let own : all ≡ signatures.items = is_all ∙ sym is_signatures in
            let right_errors = errors_right b m base is past law make all mine checked are_affected slots.items kept_own each full right in
            record {
              listed = record {
                root = is.listed.root;
                sources = is.listed.sources;
                parses = is.listed.parses;
                lists = subst (λ (v : Vec Bool). TellsOthers b.was.sources.lists.items b.from.items m.listed.sources.lists.items v.items) (sym is_relisted) is.listed.lists;
              };
              merged = subst (AreMerged (view_in m.listed.sources) (program_in m.listed.sources)) own merged_all;
              moved = subst (λ (l : List Bool). TellsOthers b.was.signatures.items b.from.items signatures.items l) (sym is_moved) (subst (λ (l : List Sig). TellsOthers b.was.signatures.items b.from.items l moved) own tells_here);
              to_check = are_affected;
              told = subst (λ (l : List Sig). TellsAll m.listed.sources l checked table.rows) own (subst (λ (l : List ℕ). TellsAll m.listed.sources all l table.rows) is_numbers told);
              kept = subst (λ (l : List Sig). (x : ℕ) → x < length m.listed.sources.root.modules → ¬ (Has checked x) → KeepsErrors b m.listed.sources l x) own (errors_kept b m base is past law make all mine checked are_affected slots.items kept_own right_errors);
              errors = subst (λ (l : List Sig). AreCheckedTo m.listed.sources l checked 0 slots.items) own right_errors;
              low = omega arith;
            }
