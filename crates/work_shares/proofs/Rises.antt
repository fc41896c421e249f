-- The sums of what was done, and what was done in two goes.
use Rattle.std.proofs.Common.{◌≡◌, ℕ, ◌+◌, ◌-◌, ◌^◌, ◌<◌, ◌≤◌, List, [], ◌∷◌, sum_by, refl, ap, ◌∙◌, arith}
use Rattle.std.specs.List.{AllByRecursion}
use Rattle.std.proofs.lemmas.List.Sums.{sum_by-cons}
use Rattle.analyst.specs.Work.{Work, work_of, no_work, risen, done, RisesWithin, IsWithin, IsCounted}
use Rattle.work_shares.specs.Shares.{both, AreDone, AreWithin, SumLaw}
use Rattle.work_shares.proofs.Works.{done_twice, within_more, within_both, IsPart}

-- ---- one of the counts
module _ (count : Work → ℕ) (of_done : (b m : Work) → count (done b m) ≡ risen (count b) (count m)) (of_both : (a b : Work) → count (both a b) ≡ count a + count b)
    (of_none : count no_work ≡ 0) (of_within : (b n m : Work) → IsWithin b n m → RisesWithin (count b) (count n) (count m)) where
  rose_exactly : (before now : List Work) (w : Work) → AreDone before now w → AllByRecursion (λ n. count n < 2 ^ 64 - 1) now → sum_by count now ≡ sum_by count before + count w
  rose_exactly [] [] w h all = let z : count w ≡ 0 = ap count h ∙ of_none in omega arith
  rose_exactly [] (n ∷ now) w h all = absurd h
  rose_exactly (b ∷ before) [] w h all = absurd h
  rose_exactly (b ∷ before) (n ∷ now) w h all =
      let mine = h.0 in let rest = h.1 in
      let whole : count w ≡ count mine + count rest = ap count h.2 ∙ of_both mine rest in
      let this : count n ≡ risen (count b) (count mine) = ap count h.3 ∙ of_done b mine in
      let low = all.0 in
      let others : sum_by count now ≡ sum_by count before + count rest = rose_exactly before now rest h.4 all.1 in
      omega (arith, sum_by-cons count n now, sum_by-cons count b before)

  rose_within : (before now : List Work) (w : Work) → AreWithin before now w → (sum_by count before ≤ sum_by count now) × (sum_by count now ≤ sum_by count before + count w)
  rose_within [] [] w h = (omega arith, omega arith)
  rose_within [] (n ∷ now) w h = absurd h
  rose_within (b ∷ before) [] w h = absurd h
  rose_within (b ∷ before) (n ∷ now) w h =
      let mine = h.0 in let rest = h.1 in
      let whole : count w ≡ count mine + count rest = ap count h.2 ∙ of_both mine rest in
      let this = of_within b n mine h.3 in
      let others = rose_within before now rest h.4 in (
        (let t = this.0 in let o = others.0 in omega (arith, sum_by-cons count n now, sum_by-cons count b before)),
        (let t = this.1 in let o = others.1 in omega (arith, sum_by-cons count n now, sum_by-cons count b before)),
      )

pub sums : SumLaw
sums = record {
  fronts = λ before now w h all. rose_exactly (λ (w : Work). w.fronts) (λ b m. refl) (λ a b. refl) refl (λ b n m h. h.fronts) before now w h all;
  merges = λ before now w h all. rose_exactly (λ (w : Work). w.merges) (λ b m. refl) (λ a b. refl) refl (λ b n m h. h.merges) before now w h all;
  checks = λ before now w h all. rose_exactly (λ (w : Work). w.checks) (λ b m. refl) (λ a b. refl) refl (λ b n m h. h.checks) before now w h all;
  no_more_fronts = λ before now w h. rose_within (λ (w : Work). w.fronts) (λ b m. refl) (λ a b. refl) refl (λ b n m h. h.fronts) before now w h;
  no_more_merges = λ before now w h. rose_within (λ (w : Work). w.merges) (λ b m. refl) (λ a b. refl) refl (λ b n m h. h.merges) before now w h;
  no_more_checks = λ before now w h. rose_within (λ (w : Work). w.checks) (λ b m. refl) (λ a b. refl) refl (λ b n m h. h.checks) before now w h;
}

-- ---- in two goes
plus_swap : (a b c d : ℕ) → (a + b) + (c + d) ≡ (a + c) + (b + d)
plus_swap a b c d = omega arith

both_swap : (a b c d : Work) → both (both a b) (both c d) ≡ both (both a c) (both b d)
both_swap a b c d = λ i. work_of (plus_swap a.fronts b.fronts c.fronts d.fronts i) (plus_swap a.merges b.merges c.merges d.merges i) (plus_swap a.checks b.checks c.checks d.checks i)

two_parts : (w w' a b c d : Work) → w ≡ both a b → w' ≡ both c d → both w w' ≡ both (both a c) (both b d)
two_parts w w' a b c d e e' = (λ i. both (e i) (e' i)) ∙ both_swap a b c d

pub done_then : (before mid now : List Work) (w w' : Work) → AreDone before mid w → AreDone mid now w' → AreDone before now (both w w')
done_then [] [] [] w w' h h' = λ i. both (h i) (h' i)
done_then [] [] (n ∷ now) w w' h h' = absurd h'
done_then [] (m ∷ mid) now w w' h h' = absurd h
done_then (b ∷ before) [] now w w' h h' = absurd h
done_then (b ∷ before) (m ∷ mid) [] w w' h h' = absurd h'
done_then (b ∷ before) (m ∷ mid) (n ∷ now) w w' h h' =
    (both h.0 h'.0, both h.1 h'.1, two_parts w w' h.0 h.1 h'.0 h'.1 h.2 h'.2, h'.3 ∙ (ap (λ (k : Work). done k h'.0) h.3 ∙ done_twice b h.0 h'.0), done_then before mid now h.1 h'.1 h.4 h'.4)

part_same : (a : Work) → IsPart a a
part_same a = record { fronts = omega arith; merges = omega arith; checks = omega arith }

pub within_then : (before mid now : List Work) (w w' : Work) → AllByRecursion IsCounted before → AreDone before mid w → AreWithin mid now w' → AreWithin before now (both w w')
within_then [] [] [] w w' c h h' = tt
within_then [] [] (n ∷ now) w w' c h h' = absurd h'
within_then [] (m ∷ mid) now w w' c h h' = absurd h
within_then (b ∷ before) [] now w w' c h h' = absurd h
within_then (b ∷ before) (m ∷ mid) [] w w' c h h' = absurd h'
within_then (b ∷ before) (m ∷ mid) (n ∷ now) w w' c h h' =
    (both h.0 h'.0, both h.1 h'.1, two_parts w w' h.0 h.1 h'.0 h'.1 h.2 h'.2, within_more b m n h.0 h'.0 (both h.0 h'.0) c.0 h.3 h'.3 (part_same (both h.0 h'.0)), within_then before mid now h.1 h'.1 c.1 h.4 h'.4)

pub within_twice : (before mid now : List Work) (w w' : Work) → AreWithin before mid w → AreWithin mid now w' → AreWithin before now (both w w')
within_twice [] [] [] w w' h h' = tt
within_twice [] [] (n ∷ now) w w' h h' = absurd h'
within_twice [] (m ∷ mid) now w w' h h' = absurd h
within_twice (b ∷ before) [] now w w' h h' = absurd h
within_twice (b ∷ before) (m ∷ mid) [] w w' h h' = absurd h'
within_twice (b ∷ before) (m ∷ mid) (n ∷ now) w w' h h' =
    (both h.0 h'.0, both h.1 h'.1, two_parts w w' h.0 h.1 h'.0 h'.1 h.2 h'.2, within_both b m n h.0 h'.0 h.3 h'.3, within_twice before mid now h.1 h'.1 h.4 h'.4)
