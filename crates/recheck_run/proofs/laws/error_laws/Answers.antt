use Rattle.recheck_run.proofs.laws.error_laws.Goals as goal

pub returns-clause-all : goal.returns-clause-all
returns-clause-all c = c.all_are_checked.ensures

pub returns-clause-full : goal.returns-clause-full
returns-clause-full c = c.made_is_full.ensures

pub returns-clause-kept : goal.returns-clause-kept
returns-clause-kept c = c.kept_errors_are_right.ensures
