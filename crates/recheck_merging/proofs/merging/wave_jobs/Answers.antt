use Rattle.std.proofs.Common.{◌<◌, [], ℕ, Some, length, get_or, map, ap, ◌∙◌, arith}
use Rattle.heap_core.proofs.Lists.{get_index}
use Rattle.job_ends.specs.Jobs.{job_view}
use Rattle.job_ends.specs.declared.job.MergeJob.{MergeJob}
use Rattle.recheck_merging.specs.Plans.{size_of}
use Rattle.recheck_merging.specs.Merging.{job_in}
use Rattle.recheck_merging.proofs.Unmoved.{none_there, some_there, made_more, made_less}
use Rattle.recheck_merging.proofs.merging.wave_jobs.Goals as goal
use Rattle.recheck_merging.proofs.merging.wave_jobs.Goals.{then-is_none+in_ok-job+in_ok-push, else-is_none}

pub loop-i-preserved : goal.loop-i-preserved
loop-i-preserved c =
    let ks = get_or c.args.edit.now.plan.now.waves c.args.wave [] in
    let at = get_index c.args.olds.now c.loop-i.i c.index-olds-i.result c.loop-i-test.true c.index-olds-i.is in
    let low : c.loop-i.i < length ks = (let many = c.requires.many in omega (arith, many, c.loop-i-test.true)) in
    let job = job_in c.args.edit.now.sources.now c.args.edit.now.plan.now c.args.slots.now in
    let members : MergeJob → ℕ = λ k. length k.members in
    elim c.if-is_none.branch [
      | then-is_none+in_ok-job+in_ok-push w ↦
          let none = at ∙ ap Some (none_there c.index-olds-i.result c.is_none.result c.is_none.ensures w.if-is_none.true) in
          record {
            jobs = ap (map job_view) w.jobs-is ∙ made_more job_view job ks c.args.olds.now c.loop-i.i w.in_ok-job.job c.loop-i.jobs w.push.new.self low none w.in_ok-job.ensures.job c.loop-i.invariant.jobs w.in_ok-push.ensures.ok;
            many = ap (map members) w.jobs-is ∙ made_more members (size_of c.args.edit.now.plan.now) ks c.args.olds.now c.loop-i.i w.in_ok-job.job c.loop-i.jobs w.push.new.self low none w.in_ok-job.ensures.many c.loop-i.invariant.many w.in_ok-push.ensures.ok;
          }
      | else-is_none w ↦
          let some = some_there c.index-olds-i.result c.is_none.result c.is_none.ensures w.if-is_none.false in
          record {
            jobs = ap (map job_view) w.jobs-is ∙ made_less job_view job ks c.args.olds.now c.loop-i.i some.0 c.loop-i.jobs low (at ∙ ap Some some.1) c.loop-i.invariant.jobs;
            many = ap (map members) w.jobs-is ∙ made_less members (size_of c.args.edit.now.plan.now) ks c.args.olds.now c.loop-i.i some.0 c.loop-i.jobs low (at ∙ ap Some some.1) c.loop-i.invariant.many;
          }
    ]
