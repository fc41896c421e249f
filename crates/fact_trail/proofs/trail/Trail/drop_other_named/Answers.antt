use Rattle.fact_trail.specs.declared.slot.Slot.TheVariants.{Property}
use Rattle.fact_trail.specs.Slots.{is_other_named}
use Rattle.fact_trail.specs.Moments.{map_of}
use Rattle.fact_trail.proofs.Dropped.{others_gone}
use Rattle.fact_trail.proofs.Same.{other_apart}
use Rattle.fact_trail.proofs.Changes.{loses_itself, loses_more, all_lost}
use Rattle.fact_trail.proofs.trail.Trail.drop_other_named.Goals as goal

pub loop-other-init : goal.loop-other-init
loop-other-init c = loses_itself (is_other_named c.args.key) c.args.self.now

pub loop-other-preserved : goal.loop-other-preserved
loop-other-preserved c =
    loses_more (is_other_named c.args.key) (Property c.in-Some.other) c.args.self.now c.loop-other.self _ (λ s left. other_apart c.args.key c.in-Some.other s c.in-Some.ensures.0 left) c.loop-other.invariant c.drop_property.ensures.drops

pub returns : goal.returns
returns c = all_lost (is_other_named c.args.key) c.args.self.now c.loop-other.self c.loop-other.invariant (others_gone (map_of c.loop-other.self) c.args.key c.in_default.ensures)
