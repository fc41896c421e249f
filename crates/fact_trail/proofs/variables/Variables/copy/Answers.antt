use Rattle.fact_trail.specs.Rows.{class_facts_of}
use Rattle.fact_trail.proofs.Classes.{same_both}
use Rattle.fact_trail.proofs.variables.Variables.copy.Goals as goal

pub returns-clause-facts : goal.returns-clause-facts
returns-clause-facts c =
    same_both (class_facts_of c.args.self.now.constants) (class_facts_of c.in_ok-constants.constants) (class_facts_of c.args.self.now.changing) (class_facts_of c.in_ok-changing.changing) c.in_ok-constants.ensures.facts c.in_ok-changing.ensures.facts
