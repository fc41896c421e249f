use Rattle.std.proofs.Common.{◌≡◌, drop}
use Rattle.asked_exports.specs.Asked.{are_small}
use Rattle.asked_exports.proofs.job.are_small.Given as goal

-- those so far are small, so the others tell
abbrev pub invariant-loop-i : goal.invariant-loop-i
invariant-loop-i l = are_small l.rows ≡ are_small (drop l.i l.rows)
