-- The numbers of which a flag is on.
use Rattle.std.proofs.Common.{◌≡◌, ℕ, ◌+◌, ◌<◌, ◌≤◌, Bool, true, false, List, [], ◌∷◌, ◌++◌, length, get_or, Some, sym, ap, ◌∙◌, subst, arith}
use Rattle.graph_search.specs.Cycles.{IsOn}
use Rattle.graph_search.proofs.Lists.{off_here, get_small}
use Rattle.recheck_merging.specs.check_phases.proofs.Lists.{place_at}
use Rattle.recheck_plan.specs.Affected.{AreExactly}
use Rattle.recheck_plan.specs.Marks.{AreBelow}
use Rattle.recheck_plan.proofs.Listed.{below_skip, below_more}

-- one more that is off, or on
pub on_skipped : (flags : List Bool) (x : ℕ) (all : List ℕ) → x < length flags → get_or flags x false ≡ false → AreBelow (IsOn flags) x all → AreBelow (IsOn flags) (x + 1) all
on_skipped flags x all low off below = below_skip (IsOn flags) x all (off_here flags x low off) below

pub on_listed : (flags : List Bool) (x : ℕ) (old new : List ℕ) → x < length flags → get_or flags x false ≡ true → new ≡ old ++ x ∷ [] → AreBelow (IsOn flags) x old → AreBelow (IsOn flags) (x + 1) new
on_listed flags x old new low on pushed below = subst (λ (l : List ℕ). AreBelow (IsOn flags) (x + 1) l) (sym pushed) (below_more (IsOn flags) x old (place_at flags x false low ∙ ap Some on) below)

-- all of them
pub all_on : (flags : List Bool) (i : ℕ) (all : List ℕ) → length flags ≤ i → AreBelow (IsOn flags) i all → AreExactly (IsOn flags) all
all_on flags i all whole below = record {
  rising = below.rising;
  sound = λ x has. (below.sound x has).1;
  complete = λ x on. below.complete x (let low = get_small flags x true on in omega arith) on;
}
