-- What is taken of what a deque still holds.
use Rattle.std.proofs.Common.{◌≡◌, ℕ, ◌+◌, ◌-◌, ◌<◌, ◌≤◌, List, [], ◌∷◌, sum_by, Option, Some, None, MatchOption, IfSome, sym, ap, ◌∙◌, subst, arith}
use Rattle.std.proofs.lemmas.List.Sums.{sum_by-append, sum_by-cons}
use Rattle.number_draws.specs.declared.hand.Hand.{Hand}
use Rattle.number_draws.specs.Drawing.{Takes}
use Rattle.job_seats.specs.Left.{IsWhole, AllTaken, left_in}

module _ (v w : Hand) where
  -- what a call tells that takes one of them
  abbrev Told : Option ℕ → Type 0
  Told r = MatchOption r ((w ≡ v) × AllTaken v) (λ n. Takes v (n ∷ []) w)

  pub told_plainly : (r : Option ℕ) → Told r → MatchOption r (w ≡ v) (λ n. Takes v (n ∷ []) w)
  told_plainly None h = h.0
  told_plainly (Some n) h = h

  pub left_whole : (r : Option ℕ) → IsWhole v → Told r → IsWhole w
  left_whole None is h = subst (λ (u : Hand). IsWhole u) (sym h.0) is
  left_whole (Some n) is h = record {
    parts = ap (λ (u : Hand). u.parts) h.0 ∙ is.parts;
    taken = λ g.
        let t = ap (λ (u : Hand). sum_by g u.taken) h.0 in
        let p = ap (λ (u : Hand). sum_by g u.put) h.0 in
        let b = h.1 g in
        omega (arith, sum_by-append g v.taken (n ∷ []));
  }

  pub left_fewer : (r : Option ℕ) → Told r → MatchOption r (AllTaken w) (λ n. left_in w < left_in v)
  left_fewer None h = subst (λ (u : Hand). AllTaken u) (sym h.0) h.1
  left_fewer (Some n) h =
      let t = ap (λ (u : Hand). sum_by (λ _. 1) u.taken) h.0 in
      let p = ap (λ (u : Hand). sum_by (λ _. 1) u.put) h.0 in
      let b = h.1 (λ _. 1) in
      omega (arith, sum_by-append (λ _. 1) v.taken (n ∷ []), sum_by-cons (λ _. 1) n [])
