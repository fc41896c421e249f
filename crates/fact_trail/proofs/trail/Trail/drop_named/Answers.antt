use Rattle.fact_trail.specs.declared.slot.Slot.TheVariants.{Property}
use Rattle.fact_trail.specs.Slots.{is_named}
use Rattle.fact_trail.specs.Moments.{map_of}
use Rattle.fact_trail.proofs.Dropped.{named_gone}
use Rattle.fact_trail.proofs.Same.{named_apart}
use Rattle.fact_trail.proofs.Changes.{loses_itself, loses_more, all_lost}
use Rattle.fact_trail.proofs.trail.Trail.drop_named.Goals as goal

pub loop-key-init : goal.loop-key-init
loop-key-init c = loses_itself (is_named c.args.name) c.args.self.now

pub loop-key-preserved : goal.loop-key-preserved
loop-key-preserved c =
    loses_more (is_named c.args.name) (Property c.in-Some.key) c.args.self.now c.loop-key.self _ (λ s other. named_apart c.in-Some.key s c.args.name c.in-Some.ensures.0 other) c.loop-key.invariant c.drop_property.ensures.drops

pub returns : goal.returns
returns c = all_lost (is_named c.args.name) c.args.self.now c.loop-key.self c.loop-key.invariant (named_gone (map_of c.loop-key.self) c.args.name c.in_default.ensures)
