use Rattle.std.proofs.Common.{None, refl, sym, ◌∙◌}
use Rattle.fact_trail.specs.Rows.{class_facts_of}
use Rattle.fact_trail.proofs.Classes.{changed_one, changed_other}
use Rattle.fact_trail.proofs.variables.Variables.remove.Goals as goal

pub returns-then-is_constant-clause-facts : goal.returns-then-is_constant-clause-facts
returns-then-is_constant-clause-facts c =
    let before = c.args.self.now in
    changed_one (class_facts_of before.constants) (class_facts_of c.remove.new.self) (class_facts_of before.changing) (class_facts_of before.changing) c.args.binding None (sym c.is_constant.ensures ∙ c.if-is_constant.true) c.remove.ensures.facts refl

pub returns-clause-facts : goal.returns-clause-facts
returns-clause-facts c =
    let before = c.args.self.now in
    changed_other (class_facts_of before.constants) (class_facts_of before.constants) (class_facts_of before.changing) (class_facts_of c.remove-2.new.self) c.args.binding None (sym c.is_constant.ensures ∙ c.if-is_constant.false) c.remove-2.ensures.facts refl
