use Rattle.std.proofs.Common.{◌&&◌, sym, subst}
use Rattle.flow_facts.specs.Known.{without, is_property}
use Rattle.refine_flow.specs.Standing.{Changes}
use Rattle.refine_flow.proofs.facts.Facts.forget_properties_if.Goals as goal

pub returns-then-all : goal.returns-then-all
returns-then-all c = subst (λ b. Changes (without (λ q. b && is_property q)) c.args.self.now c.forget_properties.new.self) (sym c.if-all.true) c.forget_properties.ensures
