use Rattle.generated_run.proofs.OneRun.{some_run, same_run}
use Rattle.generated_run.proofs.laws.one_generated_run.Goals as goal

pub returns-clause-some : goal.returns-clause-some
returns-clause-some c = λ most lanes n seed within. some_run c.each_edit_has_sizes.ensures most lanes n seed within.1

pub returns-clause-one : goal.returns-clause-one
returns-clause-one c = same_run c.one_full.ensures c.one_size_each.ensures
