use Rattle.std.proofs.Common.{take}
use Rattle.std.specs.List.{flat_map}
use Rattle.job_ends.specs.Jobs.{member_view}
use Rattle.asked_exports.specs.Asked.{asked_by_member}
use Rattle.asked_exports.specs.Gathering.{Gathers}
use Rattle.asked_exports.proofs.asking.asked_by.Given as goal

-- what the members so far ask for
abbrev pub invariant-loop-i : goal.invariant-loop-i
invariant-loop-i l = Gathers l.initial.asked l.asked (flat_map (λ own. asked_by_member (member_view own.member.now)) (take l.i l.members))
