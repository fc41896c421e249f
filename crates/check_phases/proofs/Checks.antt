-- The errors of the modules, one after the other.
use Rattle.std.proofs.Common.{◌≡◌, ℕ, suc, ◌+◌, ◌<◌, ◌≤◌, List, [], ◌∷◌, ◌++◌, map, length, take, take_all, get_or, slice_get, Option, Some, refl, sym, ap, ◌∙◌, subst, arith, append-nil}
use Rattle.std.specs.Prelude.{option_to_list}
use Rattle.std.specs.List.{flat_map}
use Rattle.std.proofs.lemmas.Option.{slice_get_past}
use Rattle.heap_core.proofs.Lists.{get_index}
use Rattle.flow_base.specs.Program.{Bytes}
use Rattle.check_values.specs.Rows.{Rows, row_at}
use Rattle.check_values.specs.declared.root.RootRow.{RootRow}
use Rattle.check_values.specs.declared.faults.Errs.{Errs}
use Rattle.check_values.specs.declared.signatures.Deps.{Deps}
use Rattle.check_values.specs.declared.signatures.Sig.{Sig}
use Rattle.check_values.specs.declared.faults.Fault.{Fault}
use Rattle.check_values.specs.declared.signatures.LocalSig.{LocalSig}
use Rattle.analyst.specs.source_front.specs.Front.{Says, IsParse}
use Rattle.analyst.specs.source_front.specs.declared.parse.Parse.{Parse}
use Rattle.analyst.specs.source_front.specs.declared.parse.ParseTree.{ParseTree}
use Rattle.analyst.specs.source_front.specs.declared.parse.ParseTree.TheVariants.{Tree, Broken}
use Rattle.errors_by_reach.specs.Law.{HasErrors, Agree}
use Rattle.reach_law.specs.Law.{KeyLaw}
use Rattle.named_rows.proofs.Lists.{flat_last}
use Rattle.std.proofs.lemmas.List.{take_more}
use Rattle.analyst.specs.check_job.specs.Jobs.{source_in, source_of, IsFronted, HasFaults}
use Rattle.analyst.specs.check_job.specs.declared.job.CheckJob.{CheckJob}
use Rattle.payloads.specs.program_check.specs.Full.{beside}
use Rattle.check_phases.specs.Phases.{IsCheckedAt}
use Rattle.check_phases.specs.Sourced.{program_in, AreSources}
use Rattle.check_phases.specs.Checking.{IsJobOf, picked}
use Rattle.check_phases.specs.declared.merging.Sources.{Sources}
use Rattle.check_phases.proofs.Jobs.{zip_at}
use Rattle.check_phases.proofs.Lists.{one_value, take_next, take_whole}
use Rattle.check_phases.proofs.Merges.{beside_get, program_get}

-- ---- the signatures of a job

pub signed_more : (s : Sources) (sigs : List Sig) (ms : List RootRow) (i : ℕ) (m : RootRow) (sig mine : Sig) (path : Bytes) (old new : Rows Sig) → ms ≡ s.root.modules → i < length ms → m ≡ get_or ms i m → i < length sigs → sig ≡ get_or sigs i sig
    → path ≡ m.path → mine ≡ sig → old ≡ take i (beside (program_in s) sigs) → new ≡ old ++ (path, mine) ∷ [] → new ≡ take (i + 1) (beside (program_in s) sigs)
signed_more s sigs ms i m sig mine path old new same low is low_sig is_sig is_path is_mine so_far pushed =
    let at_m : slice_get s.root.modules i ≡ Some m = ap (λ (l : List RootRow). slice_get l i) (sym same) ∙ get_index ms i m low is in
    let at = beside_get s.root.modules sigs i m sig at_m (get_index sigs i sig low_sig is_sig) in
    let next = take_next (beside (program_in s) sigs) i (m.path, sig) at in
    pushed ∙ ((λ j. so_far j ++ (is_path j, is_mine j) ∷ []) ∙ sym next)

length_beside : {X : Type 0} (ms : List RootRow) (xs : List X) → length xs ≡ length ms → length (beside (map (λ (r : RootRow). (r.path, r.text)) ms) xs) ≡ length ms
length_beside [] xs many = refl
length_beside (m ∷ ms) [] many = absurd (omega (arith, many))
length_beside (m ∷ ms) (x ∷ xs) many = ap suc (length_beside ms xs (omega (arith, many)))

pub signed_all : (s : Sources) (sigs : List Sig) (i : ℕ) (rows : Rows Sig) → length sigs ≡ length s.root.modules → i ≡ length s.root.modules → rows ≡ take i (beside (program_in s) sigs) → rows ≡ beside (program_in s) sigs
signed_all s sigs i rows many all is =
    is ∙ (ap (λ (n : ℕ). take n (beside (program_in s) sigs)) (all ∙ sym (length_beside s.root.modules sigs many)) ∙ take_whole (beside (program_in s) sigs))

-- ---- some of them

pub none_picked : (rows : Rows Sig) (n : ℕ) (start : Rows Sig) → length rows ≤ n → start ≡ start ++ picked rows n
none_picked rows n start past = sym (ap (λ (o : Option (Bytes × Sig)). start ++ option_to_list o) (slice_get_past rows n past) ∙ append-nil start)

pub picked_none : (rows : Rows Sig) (numbers : List ℕ) (some : Rows Sig) → some ≡ [] → some ≡ flat_map (picked rows) (take 0 numbers)
picked_none rows numbers some none = none

pub picked_more : (rows : Rows Sig) (numbers : List ℕ) (i n : ℕ) (before after : Rows Sig) → i < length numbers → n ≡ get_or numbers i n → before ≡ flat_map (picked rows) (take i numbers) → after ≡ before ++ picked rows n → after ≡ flat_map (picked rows) (take (i + 1) numbers)
picked_more rows numbers i n before after within is so_far adds =
    adds ∙ ap (λ (l : Rows Sig). l ++ picked rows n) so_far
    ∙ sym (ap (flat_map (picked rows)) (take_more numbers i n within ∙ ap (λ (m : ℕ). take i numbers ++ m ∷ []) (sym is)) ∙ flat_last (picked rows) (take i numbers) n)

pub picked_all : (rows : Rows Sig) (numbers : List ℕ) (i : ℕ) (some : Rows Sig) → length numbers ≤ i → some ≡ flat_map (picked rows) (take i numbers) → some ≡ flat_map (picked rows) numbers
picked_all rows numbers i some past is = is ∙ ap (flat_map (picked rows)) (take_all i numbers past)

-- ---- the job

pub job_made : (s : Sources) (rows : Rows Sig) (ms : List RootRow) (x : ℕ) (m : RootRow) (parse : Parse) (deps : Deps) (job : CheckJob) → ms ≡ s.root.modules → x < length ms → m ≡ get_or ms x m
    → x < length s.parses.items → parse ≡ get_or s.parses.items x parse → x < length s.lists.items → deps ≡ get_or s.lists.items x deps
    → job.path ≡ m.path → job.text ≡ m.text → job.parse ≡ parse → job.deps ≡ deps → Agree (row_at rows) deps (row_at job.sigs.rows) → IsJobOf s rows x job
job_made s rows ms x m parse deps job same low is low_p is_p low_d is_d path text p d signed = record {
  at_module = program_get s.root.modules x m (ap (λ (l : List RootRow). slice_get l x) (sym same) ∙ get_index ms x m low is) ∙ (λ j. Some (sym path j, sym text j));
  parse = get_index s.parses.items x parse low_p is_p ∙ ap Some (sym p);
  deps = get_index s.lists.items x deps low_d is_d ∙ ap Some (sym d);
  signed = subst (λ (ds : Deps). Agree (row_at rows) ds (row_at job.sigs.rows)) (sym d) signed;
}

-- what a source says goes with the faults of its tree
says_faults : (text : Bytes) (job : CheckJob) (tree : ParseTree) (sig : LocalSig) (faults : List Fault) → job.parse.faults ≡ faults → Says text tree sig faults → HasFaults job (source_in tree)
says_faults text job (Tree m spans) sig faults is says = is ∙ says.2
says_faults text job (Broken f) sig faults is says = tt

pub job_fronted : (s : Sources) (rows : Rows Sig) (x : ℕ) (job : CheckJob) → AreSources s → IsJobOf s rows x job → IsFronted job
job_fronted s rows x job sources is =
    let there = zip_at (λ (m : Bytes × Bytes) (p : Parse). IsParse m.1 p) (program_in s) s.parses.items x (job.path, job.text) sources.parsed is.at_module in
    let same : there.0 ≡ job.parse = one_value there.0 job.parse (sym there.1 ∙ is.parse) in
    let says : IsParse job.text job.parse = subst (λ (p : Parse). IsParse job.text p) same there.2 in
    says_faults job.text job job.parse.tree job.parse.sig job.parse.faults refl says

-- its errors are those of the module of its number
pub job_checked : KeyLaw → (s : Sources) (rows : Rows Sig) (x : ℕ) (job : CheckJob) (errs : Errs) → IsJobOf s rows x job → HasErrors job.path job.deps (source_of job) (row_at job.sigs.rows) errs.faults
    → IsCheckedAt (row_at rows) (program_in s) s.parses.items s.lists.items x errs
job_checked key s rows x job errs is are = record {
  path = (job.path, job.text);
  parse = job.parse;
  deps = job.deps;
  at_path = is.at_module;
  at_parse = is.parse;
  at_deps = is.deps;
  errors = (key job.path job.deps (source_of job) rows job.sigs.rows errs.faults is.signed).1 are;
}

pub job_errors : KeyLaw → (s : Sources) (rows : Rows Sig) (x : ℕ) (job : CheckJob) (errs mine : Errs) → IsJobOf s rows x job → HasErrors job.path job.deps (source_of job) (row_at job.sigs.rows) errs.faults → mine ≡ errs
    → IsCheckedAt (row_at rows) (program_in s) s.parses.items s.lists.items x mine
job_errors key s rows x job errs mine is are same = subst (λ (e : Errs). IsCheckedAt (row_at rows) (program_in s) s.parses.items s.lists.items x e) (sym same) (job_checked key s rows x job errs is are)

-- ---- batches
