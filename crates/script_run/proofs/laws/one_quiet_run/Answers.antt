use Rattle.script_run.proofs.Once.{some_quiet_run, one_end, same_run}
use Rattle.script_run.proofs.laws.one_quiet_run.Goals as goal

pub returns : goal.returns
returns c = record {
  some = some_quiet_run c.each_edit_has_sizes.ensures c.each_has_answer.ensures;
  one_end = one_end c.one_full.ensures c.one_size_each.ensures c.one_answer.ensures;
  one = same_run c.one_full.ensures c.one_size_each.ensures c.one_answer.ensures;
}
