use Rattle.job_seats.specs.work_shares.proofs.Shared.{idle_worked}
use Rattle.job_crew.proofs.run.run_all.Goals as goal

pub returns-clause-work : goal.returns-clause-work
returns-clause-work g c = idle_worked g.K.Kind.work c.all_counted.ensures c.run_by.result c.args.analysts.now _ c.run_by.new.analysts _ _ c.split_at_mut-busy.ensures.value c.run_by.ensures.work
