-- All results are made, and which of them anew.
use Rattle.std.proofs.Common.{◌≡◌, ℕ, ◌^◌, ◌<◌, ◌≤◌, Bool, true, false, List, [], All, map, length, count_by, get_or, slice_get, Option, Some, sym, ap, ◌∙◌, subst, arith}
use Rattle.std.specs.Global.{Vec}
use Rattle.std.proofs.lemmas.List.Sums.{count_by-le-length}
use Rattle.flow_base.specs.Program.{Bytes, Program}
use Rattle.heap_core.proofs.Lists.{get_there}
use Rattle.check_values.specs.declared.faults.Errs.{Errs}
use Rattle.check_values.specs.declared.signatures.Deps.{Deps}
use Rattle.check_values.specs.declared.root.Root.{Root}
use Rattle.committed_results.specs.source_front.specs.declared.parse.Parse.{Parse}
use Rattle.graph_search.specs.Cycles.{Has}
use Rattle.errors_by_reach.specs.Seen.{Sigs}
use Rattle.errors_by_reach.specs.Law.{HasErrors, OneAnswer}
use Rattle.committed_results.specs.check_job.specs.Jobs.{source_in}
use Rattle.recheck_checking.specs.affected_law.specs.Affected.{Checked}
use Rattle.recheck_plan.specs.Marks.{AreMarksOf}
use Rattle.recheck_reach.specs.check_phases.specs.Phases.{IsCheckedAt}
use Rattle.recheck_reach.specs.check_phases.specs.Sourced.{program_in, paths_in}
use Rattle.recheck_reach.specs.check_phases.proofs.Lists.{one_value, within_there, value_at}
use Rattle.recheck_checking.specs.edited_root.proofs.Users.{many_from, many_fresh}
use Rattle.recheck_reach.specs.recheck_merging.proofs.Mapped.{get_mapped, all_has}
use Rattle.recheck_reach.specs.recheck_sources.specs.Parts.{AreKeptBy}
use Rattle.recheck_checking.specs.Keeping.{AreFilled}
use Rattle.recheck_checking.specs.Checking.{AreCheckedTo, AreAllErrors, AllAreChecked}
use Rattle.recheck_run.specs.Stages.{old_of, IsBase, IsChecking}
use Rattle.recheck_run.specs.Steps.{TellsChecked, AreAnew}
use Rattle.recheck_run.specs.declared.stages.Base.{Base}
use Rattle.recheck_run.specs.declared.stages.Checking.{Checking}
use Rattle.recheck_run.proofs.Counting.{few_numbers}

-- a module has one list of errors
one_errors : OneAnswer → (sigs : Sigs) (program : Program) (parses : List Parse) (lists : List Deps) (x : ℕ) (a b : Errs) → IsCheckedAt sigs program parses lists x a → IsCheckedAt sigs program parses lists x b → a ≡ b
one_errors one sigs program parses lists x a b p q =
    let path : p.path ≡ q.path = one_value p.path q.path (sym p.at_path ∙ q.at_path) in
    let parse : p.parse ≡ q.parse = one_value p.parse q.parse (sym p.at_parse ∙ q.at_parse) in
    let deps : p.deps ≡ q.deps = one_value p.deps q.deps (sym p.at_deps ∙ q.at_deps) in
    let mine : HasErrors q.path.0 q.deps (source_in q.parse.tree) sigs a.faults =
    subst (λ (k : Bytes × Bytes). HasErrors k.0 q.deps (source_in q.parse.tree) sigs a.faults) path
    (subst (λ (d : Deps). HasErrors p.path.0 d (source_in q.parse.tree) sigs a.faults) deps (subst (λ (t : Parse). HasErrors p.path.0 p.deps (source_in t.tree) sigs a.faults) parse p.errors)) in
    let same : a.faults ≡ b.faults = one q.path.0 q.deps (source_in q.parse.tree) sigs a.faults b.faults mine q.errors in
    λ j. record { faults = same j }

module _ (b : Base) (c : Checking) (base : IsBase b) (is : IsChecking b c) (past : length c.checked ≤ c.done) where
  all_checked : AreCheckedTo c.sources c.signatures.items c.checked (length c.checked) c.errors.items
  all_checked = (let low = is.low in let e : c.done ≡ length c.checked = omega (arith, low, past) in subst (λ (d : ℕ). AreCheckedTo c.sources c.signatures.items c.checked d c.errors.items) e is.errors)

  pub errors_filled : AllAreChecked → AreFilled c.errors.items
  errors_filled all = (all c.sources c.signatures.items c.checked c.errors.items is.listed.sources all_checked).0

  module _ (all : AllAreChecked) (errors : List Errs) (same : map Some errors ≡ c.errors.items) where
    whole : AreAllErrors c.sources c.signatures.items errors
    whole = (all c.sources c.signatures.items c.checked c.errors.items is.listed.sources all_checked).1 errors same

    pub errors_right : AreAllErrors c.sources c.signatures.items errors
    errors_right = whole

    -- the errors of the modules that are not checked are kept
    kept_errors : OneAnswer → (x : ℕ) → x < length c.sources.root.modules → ¬ (Has c.checked x) → (o : ℕ) × (part : Errs) × (slice_get b.from.items x ≡ Some (Some o)) × (slice_get b.was.errors.items o ≡ Some part) × (slice_get errors x ≡ Some part)
    kept_errors one x low out =
        let k = is.kept x low out in
        let e = get_there errors x (let many = whole.many in omega (arith, many, low)) in
        let there = ap (λ (l : List (Option Errs)). slice_get l x) (sym same) ∙ get_mapped Some errors x e.0 e.1 in
        let equal : k.1 ≡ e.0 = one_errors one _ (program_in c.sources) c.sources.parses.items c.sources.lists.items x k.1 e.0 k.4 (all_checked.right x e.0 there) in
        (k.0, k.1, k.2, k.3, e.1 ∙ ap Some (sym equal))

    module _ (flags : List Bool) (count : ℕ) (marks : AreMarksOf count c.checked flags) (modules : count ≡ length b.root.modules) where
      sized : length flags ≡ length c.sources.root.modules
      sized = marks.len ∙ modules ∙ ap (λ (r : Root). length r.modules) (sym is.listed.root)

      errors_kept : OneAnswer → AreKeptBy b.was.errors.items b.from.items flags errors
      errors_kept one = record {
        many = whole.many ∙ ap (λ (r : Root). length r.modules) is.listed.root ∙ sym (many_from (old_of b) b.root b.from.items base.from);
        kept = λ x off. kept_errors one x (let low = within_there flags x false off in let many = sized in omega (arith, low, many)) (λ has. let z : Some true ≡ Some false = sym (marks.turned x has) ∙ off in cc);
      }

      tells_checked : TellsChecked b c.sources flags
      tells_checked = record {
        many = sized;
        each = λ before after was_full is_full x path at on.
            let has = marks.only x on in
            let paths = is.to_check.paths before after was_full is_full in
            let mine : get_or (paths_in c.sources) x [] ≡ path = sym (value_at (paths_in c.sources) x path [] at) in
            subst (Checked (program_in b.was.sources) (program_in c.sources) before after) mine (paths.sound (get_or (paths_in c.sources) x []) (has.0, get_mapped (λ (y : ℕ). get_or (paths_in c.sources) y []) c.checked has.0 x has.1));
      }

  -- ---- as the code has them

  pub numbers_low : (numbers : List ℕ) (count : ℕ) → numbers ≡ c.checked → count ≡ length b.root.modules → All (λ x. x < count) numbers
  numbers_low numbers count is_numbers is_count =
      let many : count ≡ length c.sources.root.modules = is_count ∙ ap (λ (r : Root). length r.modules) (sym is.listed.root) in
      subst (All (λ (x : ℕ). x < count)) (sym is_numbers) (subst (λ (n : ℕ). All (λ x. x < n) c.checked) (sym many) is.to_check.within)

  pub anew_is : AllAreChecked → OneAnswer → (errors : Vec Errs) → map Some errors.items ≡ c.errors.items → (flags fresh : Vec Bool) (numbers : List ℕ) (count : ℕ) → AreMarksOf count numbers flags.items → numbers ≡ c.checked → count ≡ length b.root.modules → fresh.items ≡ b.fresh.items
      → AreAnew b (record { sources = c.sources; signatures = c.signatures; errors = errors }) (record { fresh = fresh; relisted = c.relisted; moved = c.moved; checked = flags })
  anew_is all one errors same flags fresh numbers count marks is_numbers is_count is_fresh =
      let mine : AreMarksOf count c.checked flags.items = subst (λ (l : List ℕ). AreMarksOf count l flags.items) is_numbers marks in
      let w = errors_right all errors.items same in
      record {
        are = record { sources = is.listed.sources; merged = is.merged; checked = w.checked; many = w.many };
        root = is.listed.root;
        fresh = is_fresh;
        parses = subst (λ (f : List Bool). AreKeptBy b.was.sources.parses.items b.from.items f c.sources.parses.items) (sym is_fresh) is.listed.parses;
        lists = is.listed.lists;
        moved = is.moved;
        errors = errors_kept all errors.items same flags.items count mine is_count one;
        checked = tells_checked all errors.items same flags.items count mine is_count;
      }

  -- they are few
  pub few_checked : length c.checked < 2 ^ 30
  few_checked =
      let most = few_numbers c.checked (length c.sources.root.modules) is.to_check.rising (λ i x at. all_has (λ (y : ℕ). y < length c.sources.root.modules) c.checked is.to_check.within x (i, at)) in
      let many = ap (λ (r : Root). length r.modules) is.listed.root in
      let few = base.new_few in
      omega (arith, most, many, few)

pub few_fresh : (b : Base) → IsBase b → count_by (λ on. on) b.fresh.items < 2 ^ 30
few_fresh b base =
    let most = count_by-le-length (λ (on : Bool). on) b.fresh.items in
    let many = many_fresh (old_of b) b.root b.fresh.items base.fresh in
    let few = base.new_few in
    omega (arith, most, many, few)
