use Rattle.std.proofs.Common.{ℕ, ap, ◌∙◌}
use Rattle.check_world.specs.View.{world_view}
use Rattle.code_tree.specs.View.{function_view}
use Rattle.typing.specs.Functions.{bind_function}
use Rattle.binders.specs.View.{bound_since}
use Rattle.check_items.proofs.binding.bind_top_function.Goals as goal

pub returns-clause-bound : goal.returns-clause-bound
returns-clause-bound c =
    c.in_ok-bind_function.ensures.bound
    ∙ ap (λ (d : ℕ). bind_function (world_view c.args.around.now.world.now) d (function_view c.args.function.now) (bound_since c.args.around.now.since c.args.scope.now c.args.notes.now)) c.requires.depth
