-- The lists that the phases made are the full check.
use Rattle.std.proofs.Common.{◌≡◌, List, [], ◌∷◌, map, length, sum_by, refl, sym, ap, subst, arith}
use Rattle.std.proofs.lemmas.List.Sums.{sum_by-cons}
use Rattle.flow_base.specs.Program.{Bytes, Program, paths_of}
use Rattle.check_values.specs.Rows.{row_at}
use Rattle.check_values.specs.declared.faults.Errs.{Errs}
use Rattle.check_values.specs.declared.signatures.Deps.{Deps}
use Rattle.check_values.specs.declared.signatures.Sig.{Sig}
use Rattle.analyst.specs.source_front.specs.declared.parse.Parse.{Parse}
use Rattle.merged_signatures.specs.Chains.{Known, View}
use Rattle.errors_by_reach.specs.Seen.{Sigs}
use Rattle.payloads.specs.program_check.specs.Full.{Results, beside, known_of, deps_in, AreResults, IsFull}
use Rattle.payloads.specs.program_check.specs.Status.{error_count}
use Rattle.check_phases.specs.Phases.{AreParsed, lists_in, knowns, view_by, AreMerged, AreChecked, results_by}

module _ (paths : List Bytes) (v : View) (s : Sigs) where
  -- what is known of the modules by their results
  known_results : (program : Program) (parses : List Parse) (sigs : List Sig) (errors : List Errs)
      → AreParsed program parses → AreMerged v program sigs → AreChecked s program parses (lists_in paths program parses) errors → length errors ≡ length program
      → map known_of (results_by parses (lists_in paths program parses) sigs errors) ≡ knowns parses (lists_in paths program parses)
  known_results [] [] sigs errors p m c l = refl
  known_results [] (x ∷ parses) sigs errors p m c l = absurd p
  known_results (m ∷ program) [] sigs errors p q c l = absurd p
  known_results (m ∷ program) (x ∷ parses) [] errors p q c l = absurd q
  known_results (m ∷ program) (x ∷ parses) (y ∷ sigs) [] p q c l = absurd (omega (arith, l))
  known_results (m ∷ program) (x ∷ parses) (y ∷ sigs) (e ∷ errors) p q c l =
      ap (λ (ks : List Known). record { sig = x.sig; deps = deps_in paths m.0 x } ∷ ks) (known_results program parses sigs errors p.1 q.1 c.1 (omega (arith, l)))

  -- their signatures
  sig_results : (program : Program) (parses : List Parse) (sigs : List Sig) (errors : List Errs)
      → AreParsed program parses → AreMerged v program sigs → AreChecked s program parses (lists_in paths program parses) errors → length errors ≡ length program
      → map (λ (r : Results). r.sig) (results_by parses (lists_in paths program parses) sigs errors) ≡ sigs
  sig_results [] [] [] errors p m c l = refl
  sig_results [] [] (y ∷ sigs) errors p m c l = absurd m
  sig_results [] (x ∷ parses) sigs errors p m c l = absurd p
  sig_results (m ∷ program) [] sigs errors p q c l = absurd p
  sig_results (m ∷ program) (x ∷ parses) [] errors p q c l = absurd q
  sig_results (m ∷ program) (x ∷ parses) (y ∷ sigs) [] p q c l = absurd (omega (arith, l))
  sig_results (m ∷ program) (x ∷ parses) (y ∷ sigs) (e ∷ errors) p q c l =
      ap (λ (ks : List Sig). y ∷ ks) (sig_results program parses sigs errors p.1 q.1 c.1 (omega (arith, l)))

  -- they are results, in a program that is seen so
  all_results : (program : Program) (parses : List Parse) (sigs : List Sig) (errors : List Errs)
      → AreParsed program parses → AreMerged v program sigs → AreChecked s program parses (lists_in paths program parses) errors → length errors ≡ length program
      → AreResults paths v s program (results_by parses (lists_in paths program parses) sigs errors)
  all_results [] [] sigs errors p m c l = tt
  all_results [] (x ∷ parses) sigs errors p m c l = absurd p
  all_results (m ∷ program) [] sigs errors p q c l = absurd p
  all_results (m ∷ program) (x ∷ parses) [] errors p q c l = absurd q
  all_results (m ∷ program) (x ∷ parses) (y ∷ sigs) [] p q c l = absurd (omega (arith, l))
  all_results (m ∷ program) (x ∷ parses) (y ∷ sigs) (e ∷ errors) p q c l =
      (record { parse = p.0; deps = refl; sig = q.0; errors = c.0 }, all_results program parses sigs errors p.1 q.1 c.1 (omega (arith, l)))

-- and how many errors they have
pub errors_counted : (paths : List Bytes) (v : View) (s : Sigs) (program : Program) (parses : List Parse) (sigs : List Sig) (errors : List Errs)
    → AreParsed program parses → AreMerged v program sigs → AreChecked s program parses (lists_in paths program parses) errors → length errors ≡ length program
    → error_count (results_by parses (lists_in paths program parses) sigs errors) ≡ sum_by (λ (e : Errs). length e.faults) errors
errors_counted paths v s [] [] sigs [] p m c l = refl
errors_counted paths v s [] [] sigs (e ∷ errors) p m c l = absurd (omega (arith, l))
errors_counted paths v s [] (x ∷ parses) sigs errors p m c l = absurd p
errors_counted paths v s (m ∷ program) [] sigs errors p q c l = absurd p
errors_counted paths v s (m ∷ program) (x ∷ parses) [] errors p q c l = absurd q
errors_counted paths v s (m ∷ program) (x ∷ parses) (y ∷ sigs) [] p q c l = absurd (omega (arith, l))
errors_counted paths v s (m ∷ program) (x ∷ parses) (y ∷ sigs) (e ∷ errors) p q c l =
    let rest = errors_counted paths v s program parses sigs errors p.1 q.1 c.1 (omega (arith, l)) in
    let first = sum_by-cons (λ (e : Errs). length e.faults) e errors in
    omega (arith, rest, first)

-- the full check of a program, by its lists
pub full_by : (program : Program) (parses : List Parse) (lists : List Deps) (sigs : List Sig) (errors : List Errs)
    → AreParsed program parses → lists ≡ lists_in (paths_of program) program parses → AreMerged (view_by program parses lists) program sigs
    → AreChecked (row_at (beside program sigs)) program parses lists errors → length errors ≡ length program
    → IsFull program (results_by parses lists sigs errors)
full_by program parses lists sigs errors p listed m c l =
    let paths = paths_of program in
    let made = lists_in paths program parses in
    let s : Sigs = row_at (beside program sigs) in
    let v : View = view_by program parses made in
    let m_made : AreMerged v program sigs = subst (λ (ds : List Deps). AreMerged (view_by program parses ds) program sigs) listed m in
    let c_made : AreChecked s program parses made errors = subst (λ (ds : List Deps). AreChecked s program parses ds errors) listed c in
    let results = results_by parses made sigs errors in
    let all : AreResults paths v s program results = all_results paths v s program parses sigs errors p m_made c_made l in
    let views : v ≡ row_at (beside program (map known_of results)) = ap (λ (ks : List Known). row_at (beside program ks)) (sym (known_results paths v s program parses sigs errors p m_made c_made l)) in
    let signed : s ≡ row_at (beside program (map (λ (r : Results). r.sig) results)) = ap (λ (ks : List Sig). row_at (beside program ks)) (sym (sig_results paths v s program parses sigs errors p m_made c_made l)) in
    let full : IsFull program results =
    subst (λ (t : Sigs). AreResults paths (row_at (beside program (map known_of results))) t program results) signed
    (subst (λ (w : View). AreResults paths w s program results) views all) in
    subst (λ (ds : List Deps). IsFull program (results_by parses ds sigs errors)) (sym listed) full
