-- Old errors that are kept are right.
use Rattle.std.proofs.Common.{◌≡◌, ℕ, zero, suc, ◌<◌, true, false, List, [], ◌∷◌, length, get_or, slice_get, Option, Some, None, is_some, refl, sym, ap, ◌∙◌, subst, arith}
use Rattle.flow_base.specs.Program.{Bytes, Program, paths_of, text_at}
use Rattle.heap_core.proofs.Lists.{get_there}
use Rattle.check_values.specs.declared.root.RootRow.{RootRow}
use Rattle.check_values.specs.declared.faults.Errs.{Errs}
use Rattle.check_values.specs.declared.faults.Fault.{Fault}
use Rattle.check_values.specs.declared.signatures.Deps.{Deps}
use Rattle.check_values.specs.declared.signatures.Sig.{Sig}
use Rattle.recheck_merging.specs.source_front.specs.Front.{IsParse}
use Rattle.recheck_merging.specs.source_front.specs.Law.{OneParse}
use Rattle.recheck_merging.specs.source_front.specs.declared.parse.Parse.{Parse}
use Rattle.module_resolution.specs.Dependencies.{dependencies_of}
use Rattle.graph_search.specs.Cycles.{Has}
use Rattle.merged_signatures.specs.Chains.{View}
use Rattle.errors_by_reach.specs.Seen.{Sigs}
use Rattle.errors_by_reach.specs.Law.{Source, HasErrors}
use Rattle.recheck_merging.specs.check_job.specs.Jobs.{source_in}
use Rattle.edited_root.specs.program_check.specs.Full as full
use Rattle.edited_root.specs.program_check.specs.Full.{Results, beside, deps_in, AreResultsOf, AreResults, IsFull}
use Rattle.edited_root.specs.affected_law.specs.Affected.{results_at, Checked, by_text}
use Rattle.edited_root.specs.affected_law.specs.Law.{ErrorsStay}
use Rattle.recheck_merging.specs.path_numbers.proofs.Ways.{one_place, is_path_of}
use Rattle.recheck_merging.specs.check_phases.specs.Phases.{AreMerged}
use Rattle.recheck_merging.specs.check_phases.specs.Sourced.{program_in, paths_in, view_in, AreSources}
use Rattle.recheck_merging.specs.check_phases.specs.Whole.{sigs_by, AreMade}
use Rattle.recheck_merging.specs.check_phases.specs.declared.merging.Sources.{Sources}
use Rattle.recheck_merging.specs.check_phases.specs.declared.phases.Made.{Made}
use Rattle.recheck_merging.specs.check_phases.proofs.Jobs.{beside_at, zip_at}
use Rattle.recheck_merging.specs.check_phases.proofs.Lists.{one_value, within_there, place_at, same_paths}
use Rattle.recheck_merging.specs.check_phases.proofs.Merges.{beside_get, program_get}
use Rattle.edited_root.specs.From.{number_in, numbers_from}
use Rattle.recheck_merging.proofs.Imported.{IsHere, here, low_path, rising_program}
use Rattle.recheck_merging.proofs.Mapped.{get_mapped, mapped_from, length_mapped, all_has}
use Rattle.recheck_checking.specs.Keeping.{AreKept}
use Rattle.recheck_checking.specs.Checking.{IsCheckedBy, AreCheckedTo}
use Rattle.recheck_checking.specs.Full.{results_of}
use Rattle.recheck_checking.specs.Right.{AreToCheck, KeptErrorsAreRight}
use Rattle.recheck_checking.proofs.Old.{number_stands, no_number, results_get}
use Rattle.recheck_checking.proofs.Sees.{same_module, same_source, signatures, made_is_full}

-- the results of the module of a number
module _ (paths : List Bytes) (view : View) (sigs : Sigs) where
  result_of : (program : Program) (results : List Results) (x : ℕ) (m : Bytes × Bytes) → AreResults paths view sigs program results → slice_get program x ≡ Some m
      → (r : Results) × (slice_get results x ≡ Some r) × AreResultsOf paths view sigs m.0 m.1 r
  result_of [] results x m are at = absurd (let z : None ≡ Some m = at in cc)
  result_of (n ∷ program) [] x m are at = absurd are
  result_of (n ∷ program) (r ∷ results) zero m are at = (r, refl, subst (λ (k : Bytes × Bytes). AreResultsOf paths view sigs k.0 k.1 r) (one_value n m at) are.0)
  result_of (n ∷ program) (r ∷ results) (suc x) m are at = result_of program results x m are.1 at

module _ (one_parse : OneParse) (stay : ErrorsStay) (was : Made) (s : Sources) (sigs : List Sig) (from : List (Option ℕ)) (checked : List ℕ) (slots : List (Option Errs)) (made : AreMade was) (sources : AreSources s)
    (merged : AreMerged (view_in s) (program_in s) sigs) (is_from : from ≡ numbers_from was.sources.root s.root) (to_check : AreToCheck was s checked) (kept : AreKept was.errors.items from checked slots) where
  abbrev old : Program
  old = program_in was.sources

  abbrev new : Program
  new = program_in s

  abbrev before : List Results
  before = results_of was

  abbrev after : List Results
  after = to_check.after

  abbrev IsToCheck : Bytes → Type 0
  IsToCheck = Checked old new before after

  many_from : length from ≡ length s.root.modules
  many_from = ap length is_from ∙ length_mapped _ s.root.modules

  -- a module of which the path is to be checked is checked
  has_number : (x : ℕ) (path : Bytes) → slice_get (paths_in s) x ≡ Some path → IsToCheck path → Has checked x
  has_number x path at is =
      let there = to_check.paths.complete path is in
      let y = mapped_from (λ (n : ℕ). get_or (paths_in s) n []) checked there.0 path there.1 in
      let low : y.0 < length s.root.modules = all_has (λ (n : ℕ). n < length s.root.modules) checked to_check.within y.0 (there.0, y.1) in
      let at_y : slice_get (paths_in s) y.0 ≡ Some path = place_at (paths_in s) y.0 [] (let many = length_mapped (λ (m : RootRow). m.path) s.root.modules in omega arith) ∙ ap Some (sym y.2) in
      (there.0, y.1 ∙ ap Some (one_place (paths_in s) sources.rising y.0 x path at_y at))

  -- what it was
  number_of : (x : ℕ) (m : RootRow) → slice_get s.root.modules x ≡ Some m → slice_get from x ≡ Some (number_in was.sources.root.modules m.path)
  number_of x m at = ap (λ (l : List (Option ℕ)). slice_get l x) is_from ∙ get_mapped (λ (n : RootRow). number_in was.sources.root.modules n.path) s.root.modules x m at

  -- one that is not checked was a module
  old_number : (x : ℕ) (h : IsHere s x) → ¬ (Has checked x) → (o : ℕ) × (slice_get from x ≡ Some (Some o)) × (slice_get (paths_in was.sources) o ≡ Some h.row.path)
  old_number x h outside = go (number_in was.sources.root.modules h.row.path) refl
    where
      differs : text_at old h.row.path ≡ None → text_at new h.row.path ≡ text_at old h.row.path → ⊥
      differs none same =
          let is = is_path_of new h.row.path (x, ap (λ (ps : List Bytes). slice_get ps x) (same_paths s.root) ∙ h.at_path) in
          let z : false ≡ true = sym (ap is_some (same ∙ none)) ∙ is in cc

      go : (n : Option ℕ) → number_in was.sources.root.modules h.row.path ≡ n → (o : ℕ) × (slice_get from x ≡ Some (Some o)) × (slice_get (paths_in was.sources) o ≡ Some h.row.path)
      go (Some o) is = (o, number_of x h.row h.at_row ∙ ap Some is, number_stands was.sources.root.modules h.row.path o is)
      go None is =
          let path = is_path_of new h.row.path (x, ap (λ (ps : List Bytes). slice_get ps x) (same_paths s.root) ∙ h.at_path) in
          absurd (outside (has_number x h.row.path h.at_path (by_text (path, differs (no_number was.sources.root.modules h.row.path is)))))

  -- its old errors
  pub record WasChecked (x : ℕ) (h : IsHere s x) : Type 0 where
    number : ℕ
    errs : Errs
    was_number : slice_get from x ≡ Some (Some number)
    stood : slice_get was.errors.items number ≡ Some errs
    right : IsCheckedBy s sigs x errs

  old_errors : (x : ℕ) (h : IsHere s x) → ¬ (Has checked x) → WasChecked x h
  old_errors x h outside =
      let o = old_number x h outside in
      let low = low_path was.sources o.0 h.row.path o.2 in
      let k = here was.sources made.sources o.0 low in
      let same : k.row.path ≡ h.row.path = one_value k.row.path h.row.path (sym k.at_path ∙ o.2) in
      let sig = zip_at _ old was.signatures.items o.0 (k.row.path, k.row.text) made.merged (program_get was.sources.root.modules o.0 k.row k.at_row) in
      let errs = get_there was.errors.items o.0 (let many = made.many in omega arith) in
      let r : Results = record { parse = k.parse; deps = k.deps; sig = sig.0; errors = errs.0.faults } in
      let at_old : results_at old before k.row.path ≡ Some r =
      beside_at old before o.0 (k.row.path, r) (rising_program was.sources made.sources)
      (beside_get was.sources.root.modules before o.0 k.row r k.at_row (results_get was.sources.parses.items was.sources.lists.items was.signatures.items was.errors.items o.0 k.parse k.deps sig.0 errs.0 k.at_parse k.at_deps sig.1 errs.1)) in
      let at_row : slice_get new x ≡ Some (h.row.path, h.row.text) = program_get s.root.modules x h.row h.at_row in
      let t = result_of (paths_of new) (full.view_in new after) (full.sigs_in new after) new after x (h.row.path, h.row.text) to_check.full at_row in
      let at_new : results_at new after h.row.path ≡ Some t.0 = beside_at new after x (h.row.path, t.0) (rising_program s sources) (beside_get s.root.modules after x h.row t.0 h.at_row t.1) in
      let stays : errs.0.faults ≡ t.0.errors =
      stay old new before after h.row.path r t.0 (made_is_full was made) to_check.full (ap (results_at old before) (sym same) ∙ at_old) at_new (λ is. outside (has_number x h.row.path h.at_path is)) in
      let p = zip_at (λ (m : Bytes × Bytes) (q : Parse). IsParse m.1 q) new s.parses.items x (h.row.path, h.row.text) sources.parsed at_row in
      let parsed : IsParse h.row.text h.parse = subst (IsParse h.row.text) (one_value p.0 h.parse (sym p.1 ∙ h.at_parse)) p.2 in
      let alike = one_parse h.row.text t.0.parse h.parse t.2.parse parsed in
      let deps : t.0.deps ≡ h.deps =
      t.2.deps ∙ (ap (dependencies_of (paths_of new) h.row.path) (same_module t.0.parse.tree h.parse.tree alike.0) ∙ (ap (λ (ps : List Bytes). deps_in ps h.row.path h.parse) (same_paths s.root) ∙ sym h.is_list)) in
      let seen : full.sigs_in new after ≡ sigs_by s sigs = signatures one_parse s after sources to_check.full sigs merged in
      record {
        number = o.0;
        errs = errs.0;
        was_number = o.1;
        stood = errs.1;
        right = record {
          path = (h.row.path, h.row.text);
          parse = h.parse;
          deps = h.deps;
          at_path = at_row;
          at_parse = h.at_parse;
          at_deps = h.at_deps;
          errors =
              subst (λ (sg : Sigs). HasErrors h.row.path h.deps (source_in h.parse.tree) sg errs.0.faults) seen
              (subst (λ (d : Deps). HasErrors h.row.path d (source_in h.parse.tree) (full.sigs_in new after) errs.0.faults) deps
              (subst (λ (source : Source). HasErrors h.row.path t.0.deps source (full.sigs_in new after) errs.0.faults) (same_source t.0.parse.tree h.parse.tree alike.0)
              (subst (λ (faults : List Fault). HasErrors h.row.path t.0.deps (source_in t.0.parse.tree) (full.sigs_in new after) faults) (sym stays) t.2.errors)));
        };
      }

  -- they stand in its slot
  slot_of : (x : ℕ) (h : IsHere s x) → ¬ (Has checked x) → (w : WasChecked x h) × (slice_get slots x ≡ Some (Some w.errs))
  slot_of x h outside = let w = old_errors x h outside in (w, kept.kept x (Some w.number) w.was_number outside ∙ ap Some w.stood)

  -- nothing stands in the slot of a module that is checked
  unchecked : (x : ℕ) (errs : Errs) → slice_get slots x ≡ Some (Some errs) → ¬ (Has checked x)
  unchecked x errs there has =
      let low = within_there slots x (Some errs) there in
      let none = kept.anew x (let many = kept.many in omega arith) has in
      let z : None ≡ Some errs = one_value None (Some errs) (sym none ∙ there) in
      let f : ⊥ = cc in f

  right_each : (x : ℕ) (errs : Errs) → slice_get slots x ≡ Some (Some errs) → IsCheckedBy s sigs x errs
  right_each x errs there =
      let outside = unchecked x errs there in
      let low = within_there slots x (Some errs) there in
      let h = here s sources x (let many = kept.many in let modules = many_from in omega arith) in
      let slot = slot_of x h outside in
      let same : slot.0.errs ≡ errs = one_value slot.0.errs errs (one_value (Some slot.0.errs) (Some errs) (sym slot.1 ∙ there)) in
      subst (IsCheckedBy s sigs x) same slot.0.right

  all_kept : AreCheckedTo s sigs checked 0 slots
  all_kept = record {
    many = kept.many ∙ many_from;
    right = right_each;
    kept = λ x low outside. (let slot = slot_of x (here s sources x low) outside in (slot.0.errs, slot.1));
    so_far = λ i x less at. absurd (omega arith);
  }

pub kept_errors_are_right : OneParse → ErrorsStay → KeptErrorsAreRight
kept_errors_are_right one_parse stay was s sigs from checked slots made sources merged is_from to_check kept =
    all_kept one_parse stay was s sigs from checked slots made sources merged is_from to_check kept
