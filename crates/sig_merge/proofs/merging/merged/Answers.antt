use Rattle.std.proofs.Common.{◌∙◌}
use Rattle.sig_merge.proofs.Merged.{job_merges}
use Rattle.sig_merge.proofs.merging.merged.Goals as goal

pub returns : goal.returns
returns c =
    c.in_ok-sigs.ensures
    ∙ job_merges c.args.job.now c.in_ok-ends.ends c.in_ok-exports.exports.items c.as_slice.result.now c.args.members.now
    c.in_ok-ends.ensures.tells c.in_ok-ends.ensures.aliases c.in_ok-exports.ensures c.as_slice.ensures.value c.requires
