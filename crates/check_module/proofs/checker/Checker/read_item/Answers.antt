use Rattle.std.proofs.Common.{refl, ap, ◌∙◌}
use Rattle.js_tree.specs.View.{item_view}
use Rattle.typing.specs.States.{World}
use Rattle.module_errors.specs.Items.{read_item}
use Rattle.check_module.specs.View.{checker_env}
use Rattle.check_module.proofs.Reading.{sees}
use Rattle.check_module.proofs.checker.Checker.read_item.Goals as goal

pub returns-clause-env : goal.returns-clause-env
unfolding checker_env
returns-clause-env c = λ p m is.
    c.in_ok-read_item.ensures.env p m (sees c.args.self.now.around _ p m refl c.world-world.ensures.table c.world-world.ensures.world is)
    ∙ ap (λ (w : World). read_item w p m (item_view c.args.item.now) (checker_env c.args.self.now)) c.world-world.ensures.world
