use Rattle.code_law.proofs.Within.{each_within, only_within}
use Rattle.code_law.proofs.reads_within.Goals as goal

pub returns-clause-each : goal.returns-clause-each
returns-clause-each c = each_within

pub returns-clause-only : goal.returns-clause-only
returns-clause-only c = only_within
