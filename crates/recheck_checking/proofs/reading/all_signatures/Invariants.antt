use Rattle.std.proofs.Common.{◌≡◌, take}
use Rattle.signature_reach.specs.Along.{signed}
use Rattle.recheck_checking.proofs.reading.all_signatures.Given as goal

-- those of the first modules
abbrev pub invariant-loop-i : goal.invariant-loop-i
invariant-loop-i l = l.rows ≡ signed (take l.i l.modules) (take l.i l.signatures)
