use Rattle.std.proofs.Common.{◌∙◌}
use Rattle.scopes.specs.View.{scope_view}
use Rattle.check_items.proofs.Sayings.{recursive_told}
use Rattle.check_items.proofs.items.is_recursive.Goals as goal

pub returns : goal.returns
returns c = λ p m sees.
    c.both.ensures
    ∙ recursive_told c.args.around.now p m (scope_view c.args.scope.now) c.args.token c.args.name.now c.in_ok-counts.counts c.is_on_cycle-on_cycle.result c.in_ok-t.t sees c.in_ok-counts.ensures c.in_ok-t.ensures c.is_on_cycle-on_cycle.ensures
