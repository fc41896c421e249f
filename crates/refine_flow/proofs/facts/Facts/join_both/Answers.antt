use Rattle.std.proofs.Common.{List, refl, sym, subst}
use Rattle.refine_flow.specs.declared.whole.Row.{Row}
use Rattle.refine_flow.specs.Standing.{shown}
use Rattle.refine_flow.specs.Whole.{AreTrue}
use Rattle.refine_flow.specs.Planning.{JoinsRows}
use Rattle.refine_flow.proofs.Joints.{plan_fits, both_joined, same_known, extends_marks}
use Rattle.refine_flow.proofs.facts.Facts.join_both.Goals as goal

pub plan-requires : goal.plan-requires
plan-requires c = subst (AreTrue (shown c.args.self.now)) (sym c.as_slice.ensures.value) c.in_ok-rows.ensures.each

pub make_planned-requires : goal.make_planned-requires
make_planned-requires c = plan_fits c.args.self.now c.args.other.now c.as_slice.result.now c.in_ok-plan.plan.items c.in_ok-plan.ensures

pub returns-clause-facts : goal.returns-clause-facts
returns-clause-facts c =
    both_joined c.make_planned.result c.args.self.now c.args.other.now c.make_planned.new.self c.in_ok-rows.rows.items c.in_ok-plan.plan.items c.requires.own c.requires.live c.in_ok-rows.ensures.told
    (subst (λ (rows : List Row). JoinsRows c.args.self.now.names (shown c.args.other.now) (shown c.args.self.now) rows c.in_ok-plan.plan.items) c.as_slice.ensures.value c.in_ok-plan.ensures) c.make_planned.ensures.facts

pub returns-clause-err : goal.returns-clause-err
returns-clause-err c = same_known c.make_planned.result c.args.self.now c.make_planned.new.self c.make_planned.ensures.err

pub returns-clause-marks : goal.returns-clause-marks
returns-clause-marks c = extends_marks c.args.self.now _ refl refl c.make_planned.ensures.extends

pub invariant_of-self : goal.invariant_of-self
invariant_of-self c = record { tidy = λ s beyond. c.make_planned.ensures.extends.fresh s (c.args.self.now.tidy s beyond) }
