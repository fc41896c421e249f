use Rattle.std.proofs.Common.{◌≡◌, map, take}
use Rattle.chain_ends.specs.Walking.{first_mark}
use Rattle.chain_ends.proofs.walking.first_marks.Given as goal

abbrev pub invariant-loop-i : goal.invariant-loop-i
invariant-loop-i l = l.marks.items ≡ map first_mark (take l.i l.links)
