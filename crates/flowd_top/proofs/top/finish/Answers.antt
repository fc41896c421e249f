use Rattle.flowd_top.proofs.Endings.{keeps_finished}
use Rattle.flowd_top.proofs.top.finish.Goals as goal

pub returns-in-Finished-clause-kept : goal.returns-in-Finished-clause-kept
returns-in-Finished-clause-kept c = keeps_finished c.args.ended.ending c.args.ended.server c.in-Finished.is c.requires.idle
