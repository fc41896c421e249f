use Rattle.affected_law.proofs.Outside.{unparsed_keeps_text, unmerged_keeps_imports, unchecked_keeps_check, marks_keep_imports}
use Rattle.affected_law.proofs.what_is_outside.Goals as goal

pub returns-clause-text : goal.returns-clause-text
returns-clause-text c = unparsed_keeps_text

pub returns-clause-imports : goal.returns-clause-imports
returns-clause-imports c = unmerged_keeps_imports

pub returns-clause-check : goal.returns-clause-check
returns-clause-check c = unchecked_keeps_check

pub returns-clause-marks : goal.returns-clause-marks
returns-clause-marks c = marks_keep_imports
