use Rattle.std.proofs.Common.{refl}
use Rattle.fact_trail.specs.Moments.{map_of}
use Rattle.fact_arms.proofs.Settling.{first_settled}
use Rattle.fact_arms.proofs.gathered.Gathered.of.Goals as goal

pub returns-clause-settled : goal.returns-clause-settled
returns-clause-settled c =
    first_settled _ c.args.difference c.in_ok-fresh.fresh c.add_rough.new.slots.items (map_of c.args.trail.now) refl refl (λ s is. c.in_ok-add_rough.ensures.keeps s (c.in_ok-add_said.ensures.adds s is)) c.in_ok-add_rough.ensures.adds c.in_ok-fresh.ensures
