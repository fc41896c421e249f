use Rattle.std.proofs.Common.{◌≡◌, drop}
use Rattle.typing.specs.Members.{element_at}
use Rattle.member_steps.proofs.index.element_at.Given as goal

-- no place before this one has the spelling
abbrev pub invariant-loop-i : goal.invariant-loop-i
invariant-loop-i l = element_at l.spelling 0 l.all ≡ element_at l.spelling l.i (drop l.i l.all)
