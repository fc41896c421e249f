use Rattle.std.proofs.Common.{ap, ◌∙◌}
use Rattle.alias_table.specs.Members.{seen}
use Rattle.check_world.specs.View.{world_view}
use Rattle.member_steps.specs.View.{steps_view}
use Rattle.part_steps.specs.View.{target_view}
use Rattle.part_steps.proofs.Steps.{goal_all}
use Rattle.part_steps.proofs.goals.property_goal.Goals as goal

pub returns : goal.returns
returns c =
    goal_all (world_view c.args.world.now) c.args.tokens.0 c.args.tokens.1 c.args.tokens.2 c.in_ok-next.field-0 c.args.key.now c.args.place c.args.object_type.now c.as_slice-members.result.now
    c.in_ok-property_wants.field-0 c.in_ok-property_faults.field-0 (target_view c.in_ok-target_of_property.field-0) c.in_ok-declared.declared (steps_view c.in_ok-read_properties.field-0)
    c.in_ok-next.ensures (ap seen c.as_slice-members.ensures ∙ c.in_ok-all.ensures) c.in_ok-property_wants.ensures c.in_ok-property_faults.ensures c.in_ok-read_properties.ensures
    c.in_ok-declared.ensures c.in_ok-target_of_property.ensures
