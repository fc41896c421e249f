use Rattle.std.proofs.Common.{◌≡◌, ℕ, [], ◌∷◌, sum_by, Option, Some, None, MatchOption, arith}
use Rattle.number_draws.specs.declared.hand.Hand.{Hand}
use Rattle.number_draws.specs.Drawing.{Takes, AllTaken}
use Rattle.number_draws.specs.Hands.{all_parts}
use Rattle.number_draws.proofs.Moves.{takes, finds}
use Rattle.number_draws.proofs.deque.leftover.Goals as goal

pub pop_as-requires-clause-fifo : goal.pop_as-requires-clause-fifo
pop_as-requires-clause-fifo c = λ _. takes _ _ (let whole = c.requires.1 in omega arith)

pub pop_as-requires-clause-lifo : goal.pop_as-requires-clause-lifo
pop_as-requires-clause-lifo c = λ z. let f = c.requires.0 in absurd (omega arith)

pub pop_as-requires-clause-empty : goal.pop_as-requires-clause-empty
pop_as-requires-clause-empty c = finds _ _

all_of : (r : Option ℕ) (v w : Hand) → v.parts ≡ all_parts → MatchOption r ((w ≡ v) × AllTaken v) (λ x. Takes v (x ∷ []) w)
    → MatchOption r ((w ≡ v) × ((h : ℕ → ℕ) → sum_by h v.put ≡ sum_by h v.taken)) (λ x. Takes v (x ∷ []) w)
all_of None v w whole h = (h.0, h.1 whole)
all_of (Some x) v w whole h = h

pub returns-clause-taken : goal.returns-clause-taken
returns-clause-taken c = all_of _ _ _ c.requires.1 c.pop_as.ensures.rule
