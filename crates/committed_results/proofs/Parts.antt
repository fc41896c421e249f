-- The parts of a full check, kind by kind.
use Rattle.std.proofs.Common.{◌≡◌, ℕ, zero, suc, ◌≤◌, List, [], ◌∷◌, map, length, slice_get, Option, Some, None, refl, sym, ap, ◌∙◌, arith}
use Rattle.flow_base.specs.Program.{Bytes, Program}
use Rattle.check_values.specs.declared.faults.Errs.{Errs}
use Rattle.check_values.specs.declared.signatures.Deps.{Deps}
use Rattle.check_values.specs.declared.signatures.Sig.{Sig}
use Rattle.export_counts.specs.source_front.specs.declared.parse.Parse.{Parse}
use Rattle.merged_signatures.specs.Chains.{Known, View}
use Rattle.errors_by_reach.specs.Seen.{Sigs}
use Rattle.export_counts.specs.Law as counts
use Rattle.full_law.specs.program_check.specs.Full.{Results, beside, known_of, AreResults}
use Rattle.recheck_staging.specs.check_phases.specs.Phases.{AreParsed, lists_in, knowns, AreMerged, AreChecked, results_by}
use Rattle.recheck_staging.specs.check_phases.proofs.Lists.{one_value}

-- as many results of each kind as of the first
pub record HaveSize (n : ℕ) (parses : List Parse) (lists : List Deps) (sigs : List Sig) (errors : List Errs) : Type 0 where
  pub parses_many : length parses ≡ n
  pub lists_many : length lists ≡ n
  pub sigs_many : length sigs ≡ n
  pub errors_many : length errors ≡ n

one_less : (n : ℕ) (p : Parse) (d : Deps) (s : Sig) (e : Errs) (parses : List Parse) (lists : List Deps) (sigs : List Sig) (errors : List Errs) → HaveSize (suc n) (p ∷ parses) (d ∷ lists) (s ∷ sigs) (e ∷ errors) → HaveSize n parses lists sigs errors
one_less n p d s e parses lists sigs errors size =
    let a = size.parses_many in
    let b = size.lists_many in
    let c = size.sigs_many in
    let f = size.errors_many in
    record { parses_many = omega arith; lists_many = omega arith; sigs_many = omega arith; errors_many = omega arith }

-- what is known of the modules, by their results
pub known_by : (n : ℕ) (parses : List Parse) (lists : List Deps) (sigs : List Sig) (errors : List Errs) → HaveSize n parses lists sigs errors → map known_of (results_by parses lists sigs errors) ≡ knowns parses lists
known_by n [] lists sigs errors size = refl
known_by n (p ∷ parses) [] sigs errors size = refl
known_by n (p ∷ parses) (d ∷ lists) [] errors size = absurd (let a = size.parses_many in let b = size.sigs_many in omega arith)
known_by n (p ∷ parses) (d ∷ lists) (s ∷ sigs) [] size = absurd (let a = size.parses_many in let b = size.errors_many in omega arith)
known_by zero (p ∷ parses) (d ∷ lists) (s ∷ sigs) (e ∷ errors) size = absurd (let a = size.parses_many in omega arith)
known_by (suc n) (p ∷ parses) (d ∷ lists) (s ∷ sigs) (e ∷ errors) size = ap (λ (ks : List Known). record { sig = p.sig; deps = d } ∷ ks) (known_by n parses lists sigs errors (one_less n p d s e parses lists sigs errors size))

-- their signatures
pub sigs_by : (n : ℕ) (parses : List Parse) (lists : List Deps) (sigs : List Sig) (errors : List Errs) → HaveSize n parses lists sigs errors → map (λ (r : Results). r.sig) (results_by parses lists sigs errors) ≡ sigs
sigs_by n [] lists [] errors size = refl
sigs_by n [] lists (s ∷ sigs) errors size = absurd (let a = size.parses_many in let b = size.sigs_many in omega arith)
sigs_by n (p ∷ parses) [] sigs errors size = absurd (let a = size.parses_many in let b = size.lists_many in omega arith)
sigs_by n (p ∷ parses) (d ∷ lists) [] errors size = absurd (let a = size.parses_many in let b = size.sigs_many in omega arith)
sigs_by n (p ∷ parses) (d ∷ lists) (s ∷ sigs) [] size = absurd (let a = size.parses_many in let b = size.errors_many in omega arith)
sigs_by zero (p ∷ parses) (d ∷ lists) (s ∷ sigs) (e ∷ errors) size = absurd (let a = size.parses_many in omega arith)
sigs_by (suc n) (p ∷ parses) (d ∷ lists) (s ∷ sigs) (e ∷ errors) size = ap (λ (l : List Sig). s ∷ l) (sigs_by n parses lists sigs errors (one_less n p d s e parses lists sigs errors size))

-- how many there are
pub results_many : (n : ℕ) (parses : List Parse) (lists : List Deps) (sigs : List Sig) (errors : List Errs) → HaveSize n parses lists sigs errors → length (results_by parses lists sigs errors) ≡ n
results_many n [] lists sigs errors size = size.parses_many
results_many n (p ∷ parses) [] sigs errors size = absurd (let a = size.parses_many in let b = size.lists_many in omega arith)
results_many n (p ∷ parses) (d ∷ lists) [] errors size = absurd (let a = size.parses_many in let b = size.sigs_many in omega arith)
results_many n (p ∷ parses) (d ∷ lists) (s ∷ sigs) [] size = absurd (let a = size.parses_many in let b = size.errors_many in omega arith)
results_many zero (p ∷ parses) (d ∷ lists) (s ∷ sigs) (e ∷ errors) size = absurd (let a = size.parses_many in omega arith)
results_many (suc n) (p ∷ parses) (d ∷ lists) (s ∷ sigs) (e ∷ errors) size = ap suc (results_many n parses lists sigs errors (one_less n p d s e parses lists sigs errors size))

-- those of a number
pub results_get : (parses : List Parse) (lists : List Deps) (sigs : List Sig) (errors : List Errs) (x : ℕ) (p : Parse) (d : Deps) (s : Sig) (e : Errs) → slice_get parses x ≡ Some p → slice_get lists x ≡ Some d → slice_get sigs x ≡ Some s → slice_get errors x ≡ Some e
    → slice_get (results_by parses lists sigs errors) x ≡ Some (record { parse = p; deps = d; sig = s; errors = e.faults })
results_get [] lists sigs errors x p d s e a b c f = absurd (let z : None ≡ Some p = a in cc)
results_get (q ∷ parses) [] sigs errors x p d s e a b c f = absurd (let z : None ≡ Some d = b in cc)
results_get (q ∷ parses) (r ∷ lists) [] errors x p d s e a b c f = absurd (let z : None ≡ Some s = c in cc)
results_get (q ∷ parses) (r ∷ lists) (t ∷ sigs) [] x p d s e a b c f = absurd (let z : None ≡ Some e = f in cc)
results_get (q ∷ parses) (r ∷ lists) (t ∷ sigs) (u ∷ errors) zero p d s e a b c f =
    let qa = one_value q p a in let rb = one_value r d b in let tc = one_value t s c in let uf = one_value u e f in
    λ j. Some (record { parse = qa j; deps = rb j; sig = tc j; errors = (uf j).faults })
results_get (q ∷ parses) (r ∷ lists) (t ∷ sigs) (u ∷ errors) (suc x) p d s e a b c f = results_get parses lists sigs errors x p d s e a b c f

module _ (paths : List Bytes) (v : View) (s : Sigs) where
  -- the results of modules, kind by kind
  pub record ArePartsOf (program : Program) (parses : List Parse) (lists : List Deps) (sigs : List Sig) (errors : List Errs) : Type 0 where
    pub parsed : AreParsed program parses
    pub listed : lists ≡ lists_in paths program parses
    pub merged : AreMerged v program sigs
    pub checked : AreChecked s program parses lists errors

  pub parts_of : (program : Program) (parses : List Parse) (lists : List Deps) (sigs : List Sig) (errors : List Errs) → HaveSize (length program) parses lists sigs errors → AreResults paths v s program (results_by parses lists sigs errors)
      → ArePartsOf program parses lists sigs errors
  parts_of [] [] [] [] [] size are = record { parsed = tt; listed = refl; merged = tt; checked = tt }
  parts_of [] (p ∷ parses) lists sigs errors size are = absurd (let a = size.parses_many in omega arith)
  parts_of [] [] (d ∷ lists) sigs errors size are = absurd (let a = size.lists_many in omega arith)
  parts_of [] [] [] (g ∷ sigs) errors size are = absurd (let a = size.sigs_many in omega arith)
  parts_of [] [] [] [] (e ∷ errors) size are = absurd (let a = size.errors_many in omega arith)
  parts_of (m ∷ program) [] lists sigs errors size are = absurd (let a = size.parses_many in omega arith)
  parts_of (m ∷ program) (p ∷ parses) [] sigs errors size are = absurd (let a = size.lists_many in omega arith)
  parts_of (m ∷ program) (p ∷ parses) (d ∷ lists) [] errors size are = absurd (let a = size.sigs_many in omega arith)
  parts_of (m ∷ program) (p ∷ parses) (d ∷ lists) (g ∷ sigs) [] size are = absurd (let a = size.errors_many in omega arith)
  parts_of (m ∷ program) (p ∷ parses) (d ∷ lists) (g ∷ sigs) (e ∷ errors) size are =
      let rest = parts_of program parses lists sigs errors (one_less (length program) p d g e parses lists sigs errors size) are.1 in
      let first = are.0 in
      let deps = first.deps in
      let listed = rest.listed in
      record { parsed = (first.parse, rest.parsed); listed = λ j. deps j ∷ listed j; merged = (first.sig, rest.merged); checked = (first.errors, rest.checked) }

-- the sources of modules are such as exports are counted of
pub counted_parses : (program : Program) (parses : List Parse) (lists : List Deps) → AreParsed program parses → counts.AreParsed (beside program (knowns parses lists))
counted_parses [] parses lists parsed = tt
counted_parses (m ∷ program) [] lists parsed = tt
counted_parses (m ∷ program) (p ∷ parses) [] parsed = tt
counted_parses (m ∷ program) (p ∷ parses) (d ∷ lists) parsed = ((m.1, p, parsed.0, refl), counted_parses program parses lists parsed.1)

pub few_beside : {X : Type 0} (program : Program) (xs : List X) → length (beside program xs) ≤ length program
few_beside [] xs = omega arith
few_beside (m ∷ program) [] = omega arith
few_beside (m ∷ program) (x ∷ xs) = let rest = few_beside program xs in omega arith
