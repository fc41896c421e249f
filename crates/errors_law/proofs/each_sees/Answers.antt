use Rattle.errors_law.proofs.Views.{each_sees, each_sees_reached}
use Rattle.errors_law.proofs.each_sees.Goals as goal

pub returns-clause-all : goal.returns-clause-all
returns-clause-all c = each_sees

pub returns-clause-reached : goal.returns-clause-reached
returns-clause-reached c = each_sees_reached
