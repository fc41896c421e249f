use Rattle.std.proofs.Common.{sym, ◌∙◌}
use Rattle.fact_trail.specs.Moments.{map_of}
use Rattle.refine_flow.proofs.Joints.{no_slot}
use Rattle.refine_flow.proofs.facts.Facts.plan_at.Goals as goal

pub unreachable-requires : goal.unreachable-requires
unreachable-requires c = no_slot c.args.self.now.names (map_of c.args.self.now.trail) c.args.place.now (sym c.slot.ensures ∙ c.in_default.is) c.requires

pub returns : goal.returns
returns c = (c.in-Some.slot, sym c.slot.ensures ∙ c.in-Some.is, c.in_ok-push.ensures.items)
