use Rattle.std.proofs.Common.{◌≡◌, List, refl, ap, ◌∙◌}
use Rattle.type_values.specs.declared.types.FlowType.{FlowType}
use Rattle.part_steps.specs.Goals.{asked_every}
use Rattle.part_steps.specs.View.{goal_view}
use Rattle.check_world.specs.View.{world_view, notes_view}
use Rattle.check_moves.specs.View.{around}
use Rattle.check_moves.proofs.Following.{follows_past}
use Rattle.statement_moves.proofs.Sequels.{value_assigned}
use Rattle.statement_moves.proofs.statements.assigned.Goals as goal

pub returns-clause-env : goal.returns-clause-env
unfolding around
returns-clause-env c e before first last scope returned breaks =
    let w = world_view c.args.world.now in
    let listed : c.as_slice.result.now ≡ c.args.goal.wants = cc in
    value_assigned w e c.args.tokens.0 c.args.tokens.1 (goal_view c.args.goal) c.args.value c.in_ok-ty.ty before c.args.state.now c.after.new.self (record c.after.new.self { notes = c.ask_each.new.notes })
    (record c.after.new.self { notes = c.add_faults.new.self }) c.set_target.new.state first last scope returned breaks c.in_ok-ty.ensures.around c.in_ok-ty.ensures.now c.in_ok-ty.ensures.ty refl refl refl
    (c.in_ok-ask_each.ensures ∙ ap (λ (wants : List FlowType). asked_every w c.args.tokens.0 c.args.tokens.1 wants c.in_ok-ty.ty (notes_view c.after.new.self.notes)) listed)
    c.in_ok-add_faults.ensures.ok c.in_ok-set_target.ensures.now c.in_ok-set_target.ensures.around

pub returns-clause-follows : goal.returns-clause-follows
returns-clause-follows c =
    follows_past _ _ _ _ _ _ c.in_ok-ty.ensures.follows refl refl c.in_ok-set_target.ensures.follows
