use Rattle.recheck_law.proofs.Names as names
use Rattle.recheck_law.proofs.reach_is_by_names.Goals as goal

pub returns-clause-reach : goal.returns-clause-reach
returns-clause-reach c = names.reach_is_by_names

pub returns-clause-agree : goal.returns-clause-agree
returns-clause-agree c = names.agree_is_by_names

pub returns-clause-marks : goal.returns-clause-marks
returns-clause-marks c = names.marks_keep_names

pub returns-clause-checked : goal.returns-clause-checked
returns-clause-checked c = names.checked_is_by_names
