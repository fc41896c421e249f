use Rattle.std.proofs.Common.{ℕ, suc, ap, ◌∙◌}
use Rattle.alias_table.specs.Members.{seen}
use Rattle.check_world.specs.View.{world_view}
use Rattle.member_steps.specs.View.{steps_view}
use Rattle.typing.specs.Members.{Part, property_read}
use Rattle.part_steps.specs.Members.{part_at}
use Rattle.part_steps.proofs.Steps.{given_all}
use Rattle.part_steps.proofs.members.property.Goals as goal

pub returns : goal.returns
returns c =
    given_all (λ (n : ℕ). part_at c.args.tokens.0 c.args.tokens.1 c.args.object_type.now n c.args.tokens.2 c.args.key.now)
    (λ (p : Part). property_read (world_view c.args.world.now) p c.args.key.now) c.in_ok-next.field-0 (suc c.args.tokens.1) c.as_slice.result.now
    ((world_view c.args.world.now).members c.args.object_type.now) c.gather.result (steps_view c.in_ok-steps.steps) c.in_ok-next.ensures (ap seen c.as_slice.ensures ∙ c.in_ok-all.ensures) c.in_ok-steps.ensures c.gather.ensures
