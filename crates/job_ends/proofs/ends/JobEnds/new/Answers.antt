use Rattle.job_ends.specs.declared.ends.JobEnds.{JobEnds}
use Rattle.job_ends.specs.Jobs.{job_view}
use Rattle.job_ends.proofs.Ending.{job_told, job_aliases}
use Rattle.job_ends.proofs.ends.JobEnds.new.Goals as goal

pub returns-clause-tells : goal.returns-clause-tells
returns-clause-tells c =
    let ends : JobEnds = record { numbered = c.in_ok-numbered.numbered; ends = c.in_ok-ends.ends } in
    job_told c.args.job.now ends c.in_ok-modules.field-0.items c.in_ok-modules.ensures c.in_ok-numbered.ensures c.in_ok-ends.ensures

pub returns-clause-aliases : goal.returns-clause-aliases
returns-clause-aliases c =
    let ends : JobEnds = record { numbered = c.in_ok-numbered.numbered; ends = c.in_ok-ends.ends } in
    job_aliases (job_view c.args.job.now) ends (job_told c.args.job.now ends c.in_ok-modules.field-0.items c.in_ok-modules.ensures c.in_ok-numbered.ensures c.in_ok-ends.ensures)
