use Rattle.std.proofs.Common.{◌≡◌, take}
use Rattle.name_replacing.proofs.parts.front_of.Given as goal

abbrev pub invariant-loop-i : goal.invariant-loop-i
invariant-loop-i g l = l.front ≡ take l.i l.all
