use Rattle.std.proofs.Common.{List, ℕ, arith, ap, ◌∙◌}
use Rattle.type_values.specs.declared.types.FlowType.{out-FlowType}
use Rattle.typing.specs.Members.{target_of_prop}
use Rattle.part_steps.proofs.Steps.{wants_more}
use Rattle.part_steps.proofs.goals.property_wants.Goals as goal

pub loop-i-preserved : goal.loop-i-preserved
loop-i-preserved c =
    wants_more (target_of_prop c.args.key.now) c.args.members.now c.loop-i.i c.index-members-i.result c.in_ok-target_of_prop.field-0 c.loop-i.wants c.add_want.new.wants (omega arith)
    c.index-members-i.is (c.in_ok-target_of_prop.ensures ∙ ap (λ (key : List ℕ). target_of_prop key (out-FlowType c.index-members-i.result.now)) c.as_bytes.ensures)
    c.loop-i.invariant c.in_ok-add_want.ensures
