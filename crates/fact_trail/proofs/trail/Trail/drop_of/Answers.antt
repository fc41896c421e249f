use Rattle.fact_trail.specs.declared.slot.Slot.TheVariants.{Property}
use Rattle.fact_trail.specs.Slots.{is_of}
use Rattle.fact_trail.specs.Moments.{map_of}
use Rattle.fact_trail.proofs.Dropped.{of_gone}
use Rattle.fact_trail.proofs.Same.{owned_apart}
use Rattle.fact_trail.proofs.Changes.{loses_itself, loses_more, all_lost}
use Rattle.fact_trail.proofs.trail.Trail.drop_of.Goals as goal

pub loop-key-init : goal.loop-key-init
loop-key-init c = loses_itself (is_of c.args.binding) c.args.self.now

pub loop-key-preserved : goal.loop-key-preserved
loop-key-preserved c =
    loses_more (is_of c.args.binding) (Property c.in-Some.key) c.args.self.now c.loop-key.self _ (λ s other. owned_apart c.in-Some.key s c.args.binding c.in-Some.ensures.0 other) c.loop-key.invariant c.drop_property.ensures.drops

pub returns : goal.returns
returns c = all_lost (is_of c.args.binding) c.args.self.now c.loop-key.self c.loop-key.invariant (of_gone (map_of c.loop-key.self) c.args.binding c.in_default.ensures)
