use Rattle.std.proofs.Common.{◌≡◌, ◌++◌, drop}
use Rattle.asked_exports.specs.Asked.{cut_all}
use Rattle.asked_exports.specs.Gathering.{names_at}
use Rattle.asked_exports.proofs.cutting.cut_all.Given as goal

-- with those so far, what is left gives the whole
abbrev pub invariant-loop-i : goal.invariant-loop-i
invariant-loop-i l = l.own ++ cut_all (names_at l.asked) (drop l.i l.rows) ≡ cut_all (names_at l.initial.asked) l.rows
