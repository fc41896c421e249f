use Rattle.std.proofs.Common.{map, ap, ◌∙◌}
use Rattle.job_ends.specs.declared.member.Member.{Member}
use Rattle.sig_merge.proofs.merging.merge_component.Goals as goal

pub merged-requires : goal.merged-requires
merged-requires c = ap (map (λ (own : Member). own.member.now)) c.as_slice-all.ensures.value ∙ c.in_ok-members.ensures
