use Rattle.std.proofs.Common.{◌≡◌, map, take, Some}
use Rattle.chain_ends.specs.Walking.{end_marked}
use Rattle.chain_ends.proofs.walking.ends_in.Given as goal

abbrev pub invariant-loop-i : goal.invariant-loop-i
invariant-loop-i l = l.ends.items ≡ map (λ mark. end_marked (Some mark)) (take l.i l.marks)
