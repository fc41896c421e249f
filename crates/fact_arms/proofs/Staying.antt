-- Going back, or staying.
use Rattle.std.proofs.Common.{◌≡◌, ◌≤◌, ℕ, drop, length, vec_capacity, ap, ◌∙◌, arith}
use Rattle.fact_trail.specs.declared.spare.Spare.{Spare}
use Rattle.fact_trail.specs.declared.trail.Trail.{Trail}
use Rattle.fact_trail.specs.Slots.{Map}
use Rattle.fact_trail.specs.Moments.{map_of, map_at, undone, IsSame}
use Rattle.fact_trail.specs.Spares.{spare_map, CanTake, TakesOver}
use Rattle.fact_trail.proofs.Changes.{none_now, new_same}
use Rattle.fact_arms.specs.Differences.{GoesBack, KeepsUpTo}

-- changes that are taken back leave room for a copy
pub can_take : (spare : Spare) (old new : Trail) → GoesBack old new → vec_capacity old.changes ≤ vec_capacity new.changes → CanTake spare old → CanTake spare new
can_take spare old new goes grows can = let shorter = goes.shorter in let was = old.changes.ok.0 in let is = new.changes.ok.0 in omega (arith, shorter, was, is, grows, can)

pub went_back : (number : ℕ) (old new : Trail) → number ≤ length new.changes.items → GoesBack old new → KeepsUpTo number old new
went_back number old new within goes = record {
  within = within;
  moments = λ n up. goes.moments n (omega (arith, up, within));
  fresh = goes.fresh;
}

-- a copy is taken over
pub stayed : (number : ℕ) (spare : Spare) (old mid new : Trail) → number ≤ length mid.changes.items → spare_map spare ≡ map_of old → GoesBack old mid → TakesOver spare mid new → KeepsUpTo number old new
stayed number spare old mid new within copy goes takes = record {
  within = (let longer = takes.longer in omega (arith, within, longer));
  moments = λ n up. takes.moments n (omega (arith, up, within)) ∙ goes.moments n (omega (arith, up, within));
  fresh = λ s was. takes.fresh s (ap (λ (m : Map). m s) copy ∙ none_now old s was) (goes.fresh s was);
}

pub stays_same : (number : ℕ) (old new : Trail) → number ≤ length old.changes.items → IsSame old new → KeepsUpTo number old new
stays_same number old new within same = record {
  within = omega (arith, within, ap length same.1);
  moments = λ n up. λ i. undone (drop n (same.1 i)) (same.0 i);
  fresh = λ s was. new_same old new s same was;
}

pub same_then : (number : ℕ) (old mid new : Trail) → IsSame old mid → KeepsUpTo number mid new → KeepsUpTo number old new
same_then number old mid new same keeps = record {
  within = keeps.within;
  moments = λ n up. keeps.moments n up ∙ (λ i. undone (drop n (same.1 i)) (same.0 i));
  fresh = λ s was. keeps.fresh s (new_same old mid s same was);
}

pub same_at : (number : ℕ) (old mid : Trail) → IsSame old mid → map_at number mid ≡ map_at number old
same_at number old mid same = λ i. undone (drop number (same.1 i)) (same.0 i)
