use Rattle.std.proofs.Common.{take}
use Rattle.std.specs.List.{flat_map}
use Rattle.asked_exports.specs.Asked.{asked_by_export}
use Rattle.asked_exports.specs.Gathering.{Gathers}
use Rattle.asked_exports.proofs.asking.ask_exports.Given as goal

-- what the rows so far ask for
abbrev pub invariant-loop-i : goal.invariant-loop-i
invariant-loop-i l = Gathers l.fn.asked l.asked (flat_map (asked_by_export l.member.member.now.path l.member.member.now.deps) (take l.i l.member.member.now.sig.exports))
