-- Errors are put into their slots, one batch after the other.
use Rattle.std.proofs.Common.{◌≡◌, ℕ, zero, suc, ◌+◌, ◌-◌, ◌<◌, ◌≤◌, min, List, [], ◌∷◌, ◌++◌, All, length, take, drop, set, get_or, slice_get, Option, Some, None, refl, sym, ap, ◌∙◌, subst, arith}
use Rattle.std.specs.Prelude.{slice_range}
use Rattle.std.specs.List.{AllZip}
use Rattle.std.proofs.lemmas.List.{length-take, length-drop}
use Rattle.heap_core.proofs.Lists.{get_index}
use Rattle.recheck_merging.specs.check_job.proofs.Fronted.{fronted_errors}
use Rattle.recheck_merging.specs.check_job.specs.declared.job.CheckJob.{CheckJob}
use Rattle.check_values.specs.Rows.{Rows}
use Rattle.check_values.specs.declared.faults.Errs.{Errs}
use Rattle.check_values.specs.declared.signatures.Sig.{Sig}
use Rattle.recheck_merging.specs.check_phases.specs.Checking.{IsJobOf, batch_after}
use Rattle.recheck_merging.specs.check_phases.specs.Sourced.{AreSources}
use Rattle.recheck_merging.specs.check_phases.specs.declared.merging.Sources.{Sources}
use Rattle.recheck_merging.specs.check_phases.proofs.Checks.{job_errors, job_fronted}
use Rattle.recheck_merging.specs.check_phases.proofs.Lists.{one_value, value_at, place_at, take_whole, within_there, zip_more}
use Rattle.recheck_merging.proofs.Mapped.{all_has, has_all}
use Rattle.reach_law.specs.Law.{KeyLaw}
use Rattle.recheck_checking.specs.Checking.{rows_by, TellsAll, IsCheckedBy, AreCheckedTo}
use Rattle.recheck_checking.specs.Keeping.{put_all}
use Rattle.recheck_checking.proofs.Batches.{number_low, more_checked}
use Rattle.recheck_merging.specs.worker_jobs.specs.Checking.{HasErrors}

-- ---- jobs

pub jobs_more : (s : Sources) (sigs : List Sig) (numbers : List ℕ) (i : ℕ) (job : CheckJob) (old new : List CheckJob) → i < length numbers → AllZip (IsJobOf s (rows_by s sigs)) (take i numbers) old → IsJobOf s (rows_by s sigs) (get_or numbers i 0) job → new ≡ old ++ job ∷ []
    → AllZip (IsJobOf s (rows_by s sigs)) (take (i + 1) numbers) new
jobs_more s sigs numbers i job old new low so_far is pushed =
    subst (λ (l : List CheckJob). AllZip (IsJobOf s (rows_by s sigs)) (take (i + 1) numbers) l) (sym pushed) (zip_more (IsJobOf s (rows_by s sigs)) numbers old i (get_or numbers i 0) job so_far (place_at numbers i 0 low) is)

module _ (key : KeyLaw) (s : Sources) (sigs : List Sig) (sources : AreSources s) where
  -- the errors of a job are those of its number
  job_checked : (x : ℕ) (job : CheckJob) (errs : Errs) → IsJobOf s (rows_by s sigs) x job → HasErrors job errs → IsCheckedBy s sigs x errs
  job_checked x job errs is has = job_errors key s (rows_by s sigs) x job errs errs is (fronted_errors job errs.faults (job_fronted s (rows_by s sigs) x job sources is) has) refl

  pub jobs_checked : (numbers : List ℕ) (jobs : List CheckJob) (errors : List Errs) → AllZip (IsJobOf s (rows_by s sigs)) numbers jobs → AllZip HasErrors jobs errors → AllZip (IsCheckedBy s sigs) numbers errors
  jobs_checked [] [] [] are have = tt
  jobs_checked [] [] (e ∷ errors) are have = absurd have
  jobs_checked [] (j ∷ jobs) errors are have = absurd are
  jobs_checked (x ∷ numbers) [] errors are have = absurd are
  jobs_checked (x ∷ numbers) (j ∷ jobs) [] are have = absurd have
  jobs_checked (x ∷ numbers) (j ∷ jobs) (e ∷ errors) are have = (job_checked x j e are.0 have.0, jobs_checked numbers jobs errors are.1 have.1)

-- ---- as the loop puts them

puts_next : (xs : List ℕ) (es : List Errs) (i x : ℕ) (errs : Errs) (slots : List (Option Errs)) → slice_get xs i ≡ Some x → slice_get es i ≡ Some errs → put_all (take (i + 1) xs) (take (i + 1) es) slots ≡ set (put_all (take i xs) (take i es) slots) x (Some errs)
puts_next [] es i x errs slots at_x at = absurd (let z : None ≡ Some x = at_x in cc)
puts_next (y ∷ xs) [] i x errs slots at_x at = absurd (let z : None ≡ Some errs = at in cc)
puts_next (y ∷ xs) (e ∷ es) zero x errs slots at_x at = let a = one_value y x at_x in let b = one_value e errs at in λ j. set slots (a j) (Some (b j))
puts_next (y ∷ xs) (e ∷ es) (suc i) x errs slots at_x at = let n : suc i + 1 ≡ suc (i + 1) = omega arith in rw n (puts_next xs es i x errs (set slots y (Some e)) at_x at)

pub puts_more : (numbers : List ℕ) (errors : List Errs) (i x : ℕ) (errs mine : Errs) (slots old new : List (Option Errs)) → i < length numbers → x ≡ get_or numbers i 0 → i < length errors → errs ≡ get_or errors i errs → mine ≡ errs → new ≡ set old x (Some mine)
    → old ≡ put_all (take i numbers) (take i errors) slots → new ≡ put_all (take (i + 1) numbers) (take (i + 1) errors) slots
puts_more numbers errors i x errs mine slots old new low is low_errs is_errs same put so_far =
    put ∙ ((λ j. set (so_far j) x (Some (same j))) ∙ sym (puts_next numbers errors i x errs slots (place_at numbers i 0 low ∙ ap Some (sym is)) (get_index errors i errs low_errs is_errs)))

pub puts_all : (numbers : List ℕ) (errors : List Errs) (i : ℕ) (slots now : List (Option Errs)) → i ≡ length numbers → length errors ≡ length numbers → now ≡ put_all (take i numbers) (take i errors) slots → now ≡ put_all numbers errors slots
puts_all numbers errors i slots now all many so_far =
    let sizes : i ≡ length errors = omega arith in
    so_far ∙ ((λ j. put_all (take (all j) numbers) (take (sizes j) errors) slots) ∙ (λ j. put_all (take_whole numbers j) (take_whole errors j) slots))

-- ---- a batch

module _ (s : Sources) (sigs : List Sig) (checked : List ℕ) where
  -- numbers that stand in `checked` from a place on
  abbrev StandFrom : ℕ → List ℕ → Type 0
  StandFrom d numbers = (k x : ℕ) → slice_get numbers k ≡ Some x → slice_get checked (d + k) ≡ Some x

  put_checked : (numbers : List ℕ) (errors : List Errs) (d : ℕ) (slots : List (Option Errs)) → StandFrom d numbers → All (λ x. x < length s.root.modules) checked → AllZip (IsCheckedBy s sigs) numbers errors → AreCheckedTo s sigs checked d slots
      → AreCheckedTo s sigs checked (d + length numbers) (put_all numbers errors slots)
  put_checked [] [] d slots stand within are to = subst (λ (n : ℕ). AreCheckedTo s sigs checked n slots) (omega arith) to
  put_checked [] (e ∷ errors) d slots stand within are to = absurd are
  put_checked (x ∷ numbers) [] d slots stand within are to = absurd are
  put_checked (x ∷ numbers) (e ∷ errors) d slots stand within are to =
      let at : slice_get checked (d + 0) ≡ Some x = stand 0 x refl in
      let first : d + 0 ≡ d = omega arith in
      let here : slice_get checked d ≡ Some x = ap (slice_get checked) (sym first) ∙ at in
      let low : d < length checked = within_there checked d x here in
      let mine : x ≡ get_or checked d 0 = value_at checked d x 0 here in
      let one = more_checked s sigs checked d e slots (number_low s checked d within low) (subst (λ (y : ℕ). IsCheckedBy s sigs y e) mine are.0) to in
      let next : AreCheckedTo s sigs checked (d + 1) (set slots x (Some e)) = subst (λ (y : ℕ). AreCheckedTo s sigs checked (d + 1) (set slots y (Some e))) (sym mine) one in
      let rest = put_checked numbers errors (d + 1) (set slots x (Some e)) (λ k y there. (let n : d + 1 + k ≡ d + suc k = omega arith in ap (slice_get checked) n ∙ stand (suc k) y there)) within are.1 next in
      let n : d + 1 + length numbers ≡ d + suc (length numbers) = omega arith in
      subst (λ (m : ℕ). AreCheckedTo s sigs checked m (put_all numbers errors (set slots x (Some e)))) n rest

  module _ (d end : ℕ) (numbers : List ℕ) (is_end : end ≡ min (length checked) (d + 64)) (are : numbers ≡ slice_range checked d end) (begun : d ≤ length checked) where
    pub many_batch : length numbers ≡ batch_after d (length checked) - d
    many_batch =
        let taken = length-take (end - d) (drop d checked) in
        let dropped = length-drop d checked in
        let many = ap length are in
        omega (arith, taken, dropped, many, is_end, begun)

    stand : StandFrom d numbers
    stand k x at = from_drop checked d k x (from_take (drop d checked) (end - d) k x (ap (λ (l : List ℕ). slice_get l k) (sym are) ∙ at))
      where
        from_take : (xs : List ℕ) (n k x : ℕ) → slice_get (take n xs) k ≡ Some x → slice_get xs k ≡ Some x
        from_take [] zero k x at = at
        from_take [] (suc n) k x at = at
        from_take (y ∷ xs) zero k x at = absurd (let z : None ≡ Some x = at in cc)
        from_take (y ∷ xs) (suc n) zero x at = at
        from_take (y ∷ xs) (suc n) (suc k) x at = from_take xs n k x at

        from_drop : (xs : List ℕ) (d k x : ℕ) → slice_get (drop d xs) k ≡ Some x → slice_get xs (d + k) ≡ Some x
        from_drop [] zero k x at = absurd (let z : None ≡ Some x = at in cc)
        from_drop [] (suc d) k x at = absurd (let z : None ≡ Some x = at in cc)
        from_drop (y ∷ xs) zero k x at = let n : k ≡ 0 + k = omega arith in subst (λ (j : ℕ). slice_get (y ∷ xs) j ≡ Some x) n at
        from_drop (y ∷ xs) (suc d) k x at = let n : suc (d + k) ≡ suc d + k = omega arith in subst (λ (j : ℕ). slice_get (y ∷ xs) j ≡ Some x) n (from_drop xs d k x at)

    pub batch_told : (rows : Rows Sig) → TellsAll s sigs checked rows → TellsAll s sigs numbers rows
    batch_told rows told k x deps at there = told (d + k) x deps (stand k x at) there

    pub batch_within : All (λ x. x < length s.root.modules) checked → All (λ x. x < length s.root.modules) numbers
    batch_within within = has_all (λ (x : ℕ). x < length s.root.modules) numbers (λ x has. all_has (λ (y : ℕ). y < length s.root.modules) checked within x (d + has.0, stand has.0 x has.1))

    pub batch_slots : (slots : List (Option Errs)) → All (λ x. x < length s.root.modules) checked → AreCheckedTo s sigs checked d slots → All (λ x. x < length slots) numbers
    batch_slots slots within to = subst (λ (n : ℕ). All (λ x. x < n) numbers) (sym to.many) (batch_within within)

    pub batch_checked : (found errors : List Errs) (old new : List (Option Errs)) → All (λ x. x < length s.root.modules) checked → AllZip (IsCheckedBy s sigs) numbers found → errors ≡ found → AreCheckedTo s sigs checked d old → new ≡ put_all numbers errors old
        → AreCheckedTo s sigs checked (batch_after d (length checked)) new
    batch_checked found errors old new within each same to put =
        let all = put_checked numbers errors d old stand within (subst (λ (l : List Errs). AllZip (IsCheckedBy s sigs) numbers l) (sym same) each) to in
        let n : d + length numbers ≡ batch_after d (length checked) = (let many = many_batch in omega (arith, many, begun)) in
        subst (λ (p : ℕ × List (Option Errs)). AreCheckedTo s sigs checked p.0 p.1) (λ j. (n j, sym put j)) all
