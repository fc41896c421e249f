use Rattle.std.proofs.Common.{ℕ, suc, map, ap, ◌∙◌, subst}
use Rattle.std.specs.Prelude.{IfOk}
use Rattle.alias_table.specs.Members.{seen}
use Rattle.check_world.specs.View.{world_view}
use Rattle.member_steps.specs.View.{steps_view}
use Rattle.type_terms.specs.Show.{brief}
use Rattle.typing.specs.Members.{Part, index_read, levels}
use Rattle.part_steps.specs.Members.{part_at}
use Rattle.part_steps.specs.View.{IsGiven}
use Rattle.part_steps.proofs.Steps.{given_all}
use Rattle.part_steps.proofs.members.element.Goals as goal

pub returns : goal.returns
returns c =
    subst
    (λ (end : ℕ). IfOk c.gather.result (λ g. IsGiven g (map (index_read (world_view c.args.world.now)
    (part_at c.args.tokens.0 c.args.tokens.1 c.args.object_type.now (suc c.args.tokens.1) end (brief c.args.index.now)) c.args.index.now)
    (levels (world_view c.args.world.now) c.args.object_type.now))))
    c.saturating_sub.ensures
    (given_all (λ (n : ℕ). part_at c.args.tokens.0 c.args.tokens.1 c.args.object_type.now n c.saturating_sub.result (brief c.args.index.now))
    (λ (p : Part). index_read (world_view c.args.world.now) p c.args.index.now) c.in_ok-next.field-0 (suc c.args.tokens.1) c.as_slice.result.now
    ((world_view c.args.world.now).members c.args.object_type.now) c.gather.result (steps_view c.in_ok-steps.steps) c.in_ok-next.ensures (ap seen c.as_slice.ensures ∙ c.in_ok-all.ensures)
    c.in_ok-steps.ensures c.gather.ensures)
