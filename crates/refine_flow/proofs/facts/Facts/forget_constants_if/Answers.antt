use Rattle.std.proofs.Common.{◌&&◌, not, sym, subst}
use Rattle.flow_facts.specs.Known.{without, is_property, is_constant_number}
use Rattle.refine_flow.specs.Standing.{Changes}
use Rattle.refine_flow.proofs.facts.Facts.forget_constants_if.Goals as goal

pub returns-then-all : goal.returns-then-all
returns-then-all c = subst (λ b. Changes (without (λ q. b && (not (is_property q) && is_constant_number q.binding))) c.args.self.now c.forget_class.new.self) (sym c.if-all.true) c.forget_class.ensures
