use Rattle.std.proofs.Common.{◌∙◌}
use Rattle.number_draws.proofs.Filling.{all_there, result_there}
use Rattle.number_draws.proofs.order.in_order.Goals as goal

pub returns : goal.returns
returns g c = result_there c.collect.result (λ v. v.items) c.args.kept.items c.fill.new.slots.items c.args.count c.collect.ensures (all_there c.args.kept.items c.fill.new.slots.items c.args.count (c.fill.ensures.long ∙ c.in_ok-slots.ensures) c.fill.ensures.placed)
