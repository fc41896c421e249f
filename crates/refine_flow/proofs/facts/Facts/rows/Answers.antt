use Rattle.refine_flow.proofs.Copying.{all_rows, all_true}
use Rattle.refine_flow.proofs.facts.Facts.rows.Goals as goal

pub returns-clause-told : goal.returns-clause-told
returns-clause-told c =
    all_rows c.args.self.now c.new-rows.result.items c.add_variables.new.rows.items c.add_properties.new.rows.items c.new-rows.ensures.items c.in_ok-add_variables.ensures.adds c.in_ok-add_variables.ensures.listed c.in_ok-add_properties.ensures.adds
    c.in_ok-add_properties.ensures.listed

pub returns-clause-each : goal.returns-clause-each
returns-clause-each c = all_true c.args.self.now c.new-rows.result.items c.add_variables.new.rows.items c.add_properties.new.rows.items c.new-rows.ensures.items c.in_ok-add_variables.ensures.adds c.in_ok-add_properties.ensures.adds
