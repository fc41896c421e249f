use Rattle.std.proofs.Common.{arith, refl, ap, ◌∙◌, length, map}
use Rattle.std.proofs.lemmas.List.{length_push}
use Rattle.job_ends.specs.Jobs.{member_view}
use Rattle.check_phases.proofs.Merges.{members_more, map_more}
use Rattle.recheck_merging.proofs.merging.members_for.Goals as goal

pub loop-i-preserved : goal.loop-i-preserved
loop-i-preserved c = record {
  members = members_more c.args.sources.now c.args.group.now c.loop-i.i _ (map member_view c.loop-i.members) _ _ (omega arith) refl c.loop-i.invariant.members c.in_ok-member.ensures (ap (map member_view) c.in_ok-push.ensures.ok ∙ map_more member_view _ _);
  many = (let m = c.loop-i.invariant.many in let n = ap length c.in_ok-push.ensures.ok ∙ length_push c.loop-i.members c.in_ok-member.member in omega arith);
}
