use Rattle.std.proofs.Common.{ℕ, ap, ◌∙◌}
use Rattle.check_world.specs.View.{world_view}
use Rattle.code_tree.specs.View.{declaration_view}
use Rattle.typing.specs.Functions.{bind_declaration}
use Rattle.binders.specs.View.{bound_since}
use Rattle.check_items.proofs.binding.bind_top_declaration.Goals as goal

pub returns-clause-bound : goal.returns-clause-bound
returns-clause-bound c = λ changes tells.
    c.in_ok-bind_declaration.ensures.bound changes tells
    ∙ ap (λ (d : ℕ). bind_declaration (world_view c.args.around.now.world.now) d changes (declaration_view c.args.declaration.now) (bound_since c.args.around.now.since c.args.scope.now c.args.notes.now)) c.requires.depth
