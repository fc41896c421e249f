use Rattle.recheck_run.proofs.laws.reach_laws.Goals as goal

pub returns-clause-rest : goal.returns-clause-rest
returns-clause-rest c = c.rest_is_same.ensures

pub returns-clause-checked : goal.returns-clause-checked
returns-clause-checked c = c.checked_are_of_checked.ensures

pub returns-clause-unmoved : goal.returns-clause-unmoved
returns-clause-unmoved c = c.unmoved_are_changed.ensures

pub returns-clause-fresh : goal.returns-clause-fresh
returns-clause-fresh c = c.parsed_are_fresh.ensures

pub returns-clause-touched : goal.returns-clause-touched
returns-clause-touched c = c.differs_are_touched.ensures

pub returns-clause-seen : goal.returns-clause-seen
returns-clause-seen c = c.checks_are_of_sources.ensures.seen

pub returns-clause-signed : goal.returns-clause-signed
returns-clause-signed c = c.checks_are_of_sources.ensures.signed
