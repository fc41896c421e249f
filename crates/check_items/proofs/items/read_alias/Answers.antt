use Rattle.std.proofs.Common.{refl, ap, ◌∙◌}
use Rattle.check_moves.specs.View.{around, now}
use Rattle.check_world.specs.View.{world_view, notes_view}
use Rattle.js_tree.specs.View.{alias_view}
use Rattle.type_tree.specs.View.{type_view}
use Rattle.scopes.specs.View.{scope_view}
use Rattle.typing.specs.TypeFaults.{type_read}
use Rattle.module_errors.specs.Items.{alias_read}
use Rattle.check_items.proofs.Envs.{env_noted}
use Rattle.check_items.proofs.items.read_alias.Goals as goal

pub returns-clause-env : goal.returns-clause-env
unfolding around now
returns-clause-env c = λ p m sees.
    let s = c.args.state.now in
    let w = world_view c.args.around.now.world.now in
    env_noted s (record s { notes = c.read_type.new.notes }) (alias_read w p (scope_view s.scope) (alias_view c.args.alias.now) (notes_view s.notes)) refl refl refl refl
    (c.in_ok-read_type.ensures ∙ ap (type_read w (type_view c.args.alias.now.ty)) (c.in_ok-note_recursive.ensures p m sees))
