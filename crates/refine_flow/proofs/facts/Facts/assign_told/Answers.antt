use Rattle.std.proofs.Common.{Option, OnOk, sym, subst}
use Rattle.type_values.specs.declared.types.FlowType.{FlowType}
use Rattle.flow_facts.specs.Known.{without, overwrites}
use Rattle.refine_flow.specs.Standing.{with_told, Changes}
use Rattle.refine_flow.proofs.facts.Facts.assign_told.Goals as goal

pub returns-in-Some-clause-facts : goal.returns-in-Some-clause-facts
returns-in-Some-clause-facts c =
    subst (λ (o : Option FlowType). OnOk c.put_over.result (Changes (λ m. with_told c.args.place.now o (without (overwrites c.args.place.now) m)) c.args.self.now c.put_over.new.self)) (sym c.in-Some.is) c.put_over.ensures.facts

pub returns-in-None-clause-facts : goal.returns-in-None-clause-facts
returns-in-None-clause-facts c =
    subst (λ (o : Option FlowType). Changes (λ m. with_told c.args.place.now o (without (overwrites c.args.place.now) m)) c.args.self.now c.overwrite.new.self) (sym c.in-None.is) c.overwrite.ensures
