use Rattle.script_run.proofs.Completing.{goes_on}
use Rattle.script_run.proofs.laws.a_front_goes_on.Goals as goal

pub returns : goal.returns
returns c = λ most lanes told listed script faults printed run. goes_on c.each_edit_has_sizes.ensures c.each_has_answer.ensures most told lanes listed script faults printed run
