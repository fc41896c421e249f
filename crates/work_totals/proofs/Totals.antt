-- Sums of counts rise as one count would.
use Rattle.std.proofs.Common.{◌≡◌, ℕ, suc, ◌+◌, ◌-◌, ◌^◌, ◌<◌, ◌≤◌, min, List, [], ◌∷◌, length, map, sum_by, refl, sym, ap, ◌∙◌, arith, Result, Ok, Err}
use Rattle.std.proofs.lemmas.List.Sums.{sum_by-cons}
use Rattle.std.proofs.lemmas.List.{length-map}
use Rattle.work_shares.specs.analyst.specs.Work.{Work, work_of, no_work, risen, done, RisesWithin, IsWithin, Works, IsCounted}
use Rattle.work_shares.specs.Shares.{both, AreDone, AreWithin, AreWorked}
use Rattle.work_shares.proofs.Rises.{sums}
use Rattle.work_shares.proofs.Works.{within_same}
use Rattle.work_totals.specs.Totals.{sum_up_to, total, TotalLaw}

-- ---- one of the counts
module _ (count : Work → ℕ) (of_done : (b m : Work) → count (done b m) ≡ risen (count b) (count m)) (of_both : (a b : Work) → count (both a b) ≡ count a + count b) (of_none : count no_work ≡ 0) where
  rose : (before now : List Work) (w : Work) → AreDone before now w → sum_up_to count now ≡ risen (sum_up_to count before) (count w)
  rose [] [] w h = let z : count w ≡ 0 = ap count h ∙ of_none in omega arith
  rose [] (n ∷ now) w h = absurd h
  rose (b ∷ before) [] w h = absurd h
  rose (b ∷ before) (n ∷ now) w h =
      let mine = h.0 in let rest = h.1 in
      let whole : count w ≡ count mine + count rest = ap count h.2 ∙ of_both mine rest in
      let this : count n ≡ risen (count b) (count mine) = ap count h.3 ∙ of_done b mine in
      let others : sum_up_to count now ≡ risen (sum_up_to count before) (count rest) = rose before now rest h.4 in
      omega (arith, sum_by-cons count n now, sum_by-cons count b before)

within_up_to : (before now more : ℕ) → (before ≤ now) × (now ≤ before + more) → RisesWithin (min before (2 ^ 64 - 1)) (min now (2 ^ 64 - 1)) more
within_up_to before now more h = let low = h.0 in let high = h.1 in (omega arith, omega arith)

up_to_counted : (count : Work → ℕ) (works : List Work) → sum_up_to count works < 2 ^ 64
up_to_counted count works = omega arith

-- ---- how many there are
many_done : (before now : List Work) (w : Work) → AreDone before now w → length now ≡ length before
many_done [] [] w h = refl
many_done [] (n ∷ now) w h = absurd h
many_done (b ∷ before) [] w h = absurd h
many_done (b ∷ before) (n ∷ now) w h = ap suc (many_done before now h.1 h.4)

many_within : (before now : List Work) (w : Work) → AreWithin before now w → length now ≡ length before
many_within [] [] w h = refl
many_within [] (n ∷ now) w h = absurd h
many_within (b ∷ before) [] w h = absurd h
many_within (b ∷ before) (n ∷ now) w h = ap suc (many_within before now h.1 h.4)

pub law : TotalLaw
law = record {
  done = λ before now w h. λ k. work_of
      (rose (λ (w : Work). w.fronts) (λ b m. refl) (λ a b. refl) refl before now w h k)
      (rose (λ (w : Work). w.merges) (λ b m. refl) (λ a b. refl) refl before now w h k)
      (rose (λ (w : Work). w.checks) (λ b m. refl) (λ a b. refl) refl before now w h k);
  within = λ before now w h. record {
    fronts = within_up_to (sum_by (λ (w : Work). w.fronts) before) (sum_by (λ (w : Work). w.fronts) now) w.fronts (sums.no_more_fronts before now w h);
    merges = within_up_to (sum_by (λ (w : Work). w.merges) before) (sum_by (λ (w : Work). w.merges) now) w.merges (sums.no_more_merges before now w h);
    checks = within_up_to (sum_by (λ (w : Work). w.checks) before) (sum_by (λ (w : Work). w.checks) now) w.checks (sums.no_more_checks before now w h);
  };
  many = many_done;
  many_within = many_within;
  counted = λ works. record {
    fronts = up_to_counted (λ (w : Work). w.fronts) works;
    merges = up_to_counted (λ (w : Work). w.merges) works;
    checks = up_to_counted (λ (w : Work). w.checks) works;
  };
}

-- ---- what a call did

-- nothing, where it has no answer
pub none_within : (works : List Work) (w : Work) → IsWithin (total works) (total works) w
none_within works w = within_same_of (total works) w (law.counted works)
  where
    rises_none : (count more : ℕ) → count < 2 ^ 64 → RisesWithin count count more
    rises_none count more low = (omega arith, omega arith)

    within_same_of : (now w : Work) → IsCounted now → IsWithin now now w
    within_same_of now w counted = record {
      fronts = rises_none now.fronts w.fronts counted.fronts;
      merges = rises_none now.merges w.merges counted.merges;
      checks = rises_none now.checks w.checks counted.checks;
    }

module _ {V E : Type 0} where
  pub worked : (result : Result V E) (w : Work) (before now : List Work) → AreWorked result w before now → Works result w (total before) (total now)
  worked (Ok x) w before now h = law.done before now w h
  worked (Err e) w before now h = law.within before now w h

  pub many_worked : (result : Result V E) (w : Work) (before now : List Work) → AreWorked result w before now → length now ≡ length before
  many_worked (Ok x) w before now h = many_done before now w h
  many_worked (Err e) w before now h = many_within before now w h

  -- all of it was done, whatever the answer is
  pub done_anyhow : (result : Result V E) (w : Work) (before now : List Work) → total now ≡ done (total before) w → Works result w (total before) (total now)
  done_anyhow (Ok x) w before now is = is
  done_anyhow (Err e) w before now is = within_same (total before) (total now) w (law.counted before) is

  -- those who did it stay as many
  pub as_many : {A : Type 0} (work : A → Work) (result : Result V E) (w : Work) (before now : List A) → AreWorked result w (map work before) (map work now) → length now ≡ length before
  as_many work result w before now h = sym (length-map now work) ∙ (many_worked result w (map work before) (map work now) h ∙ length-map before work)
