use Rattle.std.proofs.Common.{refl}
use Rattle.refine_flow.proofs.Dropping.{put_slot, put_refused, tidy_set}
use Rattle.refine_flow.proofs.Places.{placed_not_beyond}
use Rattle.refine_flow.proofs.facts.Facts.put.Goals as goal

pub returns-clause-facts : goal.returns-clause-facts
returns-clause-facts c =
    put_slot c.put.result c.args.self.now c.slot_for.new.self _ c.args.place.now c.in_ok-slot.slot c.of.result c.in_ok-slot.ensures.stays refl refl refl c.in_ok-slot.ensures.slot c.args.ty c.of.ensures c.put.ensures.facts c.put.ensures.adds

pub returns-clause-err : goal.returns-clause-err
returns-clause-err c = put_refused c.put.result c.args.self.now c.slot_for.new.self _ c.in_ok-slot.slot c.in_ok-slot.ensures.stays refl refl refl c.put.ensures.err c.put.ensures.adds

pub invariant_of-self : goal.invariant_of-self
invariant_of-self c = record {
  tidy = tidy_set c.slot_for.new.self.names c.in_ok-slot.slot c.slot_for.new.self.trail c.put.new.self (placed_not_beyond c.slot_for.new.self.names c.args.place.now c.in_ok-slot.slot c.in_ok-slot.ensures.slot) c.put.ensures.adds
      c.slot_for.new.self.tidy;
}
