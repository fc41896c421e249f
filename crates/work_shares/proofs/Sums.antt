-- The work of some jobs, of more of them, and of all.
use Rattle.std.proofs.Common.{◌≡◌, ℕ, ◌+◌, ◌<◌, List, ◌++◌, length, take, get_or, sym, ap, ◌∙◌}
use Rattle.std.proofs.lemmas.List.Sums.{sum_by_more, sum_by-append, sum_by-take-le}
use Rattle.analyst.specs.Work.{Work, work_of}
use Rattle.work_shares.specs.Shares.{both, work_sum}
use Rattle.work_shares.proofs.Works.{IsPart}

module _ {J : Type 0} (f : J → Work) where
  pub sum_next : (js : List J) (i : ℕ) (d : J) → i < length js → work_sum f (take (i + 1) js) ≡ both (work_sum f (take i js)) (f (get_or js i d))
  sum_next js i d low = λ k. work_of (sum_by_more (λ (j : J). (f j).fronts) js i d low k) (sum_by_more (λ (j : J). (f j).merges) js i d low k) (sum_by_more (λ (j : J). (f j).checks) js i d low k)

  sum_joined : (first second : List J) → both (work_sum f first) (work_sum f second) ≡ work_sum f (first ++ second)
  sum_joined first second = λ k. work_of (sym (sum_by-append (λ (j : J). (f j).fronts) first second) k) (sym (sum_by-append (λ (j : J). (f j).merges) first second) k) (sym (sum_by-append (λ (j : J). (f j).checks) first second) k)

  pub sum_of_parts : (jobs first second : List J) → jobs ≡ first ++ second → both (work_sum f first) (work_sum f second) ≡ work_sum f jobs
  sum_of_parts jobs first second parts = sum_joined first second ∙ ap (λ (js : List J). work_sum f js) (sym parts)

  pub sum_part : (js : List J) (i : ℕ) → IsPart (work_sum f (take i js)) (work_sum f js)
  sum_part js i = record {
    fronts = sum_by-take-le (λ (j : J). (f j).fronts) js i;
    merges = sum_by-take-le (λ (j : J). (f j).merges) js i;
    checks = sum_by-take-le (λ (j : J). (f j).checks) js i;
  }
