use Rattle.code_law.proofs.Main.{each_module, only_modules}
use Rattle.code_law.proofs.reads_modules.Goals as goal

pub returns-clause-each : goal.returns-clause-each
returns-clause-each c = each_module

pub returns-clause-only : goal.returns-clause-only
returns-clause-only c = only_modules
