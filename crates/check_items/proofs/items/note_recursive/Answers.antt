use Rattle.check_world.specs.View.{world_view, notes_view}
use Rattle.type_tree.specs.View.{type_view}
use Rattle.scopes.specs.View.{scope_view}
use Rattle.check_items.proofs.Sayings.{recursive_yes, recursive_no}
use Rattle.check_items.proofs.items.note_recursive.Goals as goal

pub returns-then-not-recursive : goal.returns-then-not-recursive
returns-then-not-recursive c = λ p m sees.
    recursive_no (world_view c.args.around.now.world.now) p (scope_view c.args.scope.now) c.args.alias.now.first c.args.alias.now.end c.in_ok-token.token c.args.alias.now.name (type_view c.args.alias.now.ty) c.in_ok-recursive.recursive
    (notes_view c.args.notes.now) c.in_ok-token.ensures (c.in_ok-recursive.ensures p m sees) c.if-not-recursive.true

pub returns : goal.returns
returns c = λ p m sees.
    recursive_yes (world_view c.args.around.now.world.now) p (scope_view c.args.scope.now) c.args.alias.now.first c.args.alias.now.end c.in_ok-token.token c.args.alias.now.name (type_view c.args.alias.now.ty) c.in_ok-recursive.recursive
    (notes_view c.args.notes.now) (notes_view c.name_at.new.self) c.in_ok-token.ensures (c.in_ok-recursive.ensures p m sees) c.if-not-recursive.false c.in_ok-name_at.ensures.ok
