-- Sums over lists.
use Rattle.std.proofs.Common.{◌≡◌, ℕ, ◌+◌, ◌<◌, List, length, take, get_or, sum_by, ap, ◌∙◌, arith}
use Rattle.std.proofs.lemmas.List.Sums.{sum_by_more}
use Rattle.check_values.specs.declared.faults.Errs.{Errs}
use Rattle.check_phases.proofs.Lists.{take_whole}

pub more_errors : (all : List Errs) (i n more : ℕ) (errs : Errs) (m : ℕ) → i < length all → errs ≡ get_or all i errs → n ≡ sum_by (λ (e : Errs). length e.faults) (take i all) → more ≡ length errs.faults → m ≡ n + more
    → m ≡ sum_by (λ (e : Errs). length e.faults) (take (i + 1) all)
more_errors all i n more errs m within is so_far adds sum =
    let next = sum_by_more (λ (e : Errs). length e.faults) all i errs within in
    let here : length errs.faults ≡ length (get_or all i errs).faults = ap (λ (e : Errs). length e.faults) is in
    omega (arith, next, here, so_far, adds, sum)

pub all_errors : (all : List Errs) (n : ℕ) → n ≡ sum_by (λ (e : Errs). length e.faults) (take (length all) all) → n ≡ sum_by (λ (e : Errs). length e.faults) all
all_errors all n is = is ∙ ap (sum_by (λ (e : Errs). length e.faults)) (take_whole all)
