use Rattle.std.proofs.Common.{◌≡◌, take}
use Rattle.asked_exports.specs.Asked.{rows_of}
use Rattle.asked_exports.proofs.cutting.rows_of.Given as goal

-- the rows so far
abbrev pub invariant-loop-i : goal.invariant-loop-i
invariant-loop-i l = l.rows ≡ rows_of l.exports (take l.i l.names)
