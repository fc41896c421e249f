use Rattle.std.proofs.Common.{length, arith}
use Rattle.number_draws.proofs.Filling.{in_bounds, filled_more, all_filled}
use Rattle.number_draws.proofs.order.fill.Goals as goal

pub index_mut-requires : goal.index_mut-requires
index_mut-requires g c =
    let low = in_bounds c.args.kept.items c.places.kept.items c.pop.new.self.items c.places.slots.items (length c.args.slots.now.items) c.in-Some.number c.in-Some.answer c.requires c.places.invariant c.in-Some.ensures.items in
    let long = c.places.invariant.long in
    let len = c.places.slots.ok.0 in
    omega arith

pub places-preserved-in-Some : goal.places-preserved-in-Some
places-preserved-in-Some g c = filled_more c.args.kept.items c.places.kept.items c.pop.new.self.items c.places.slots.items (length c.args.slots.now.items) c.in-Some.number c.in-Some.answer c.requires c.places.invariant c.in-Some.ensures.items

pub places-preserved : goal.places-preserved
places-preserved g c = filled_more c.args.kept.items c.places.kept.items c.pop.new.self.items c.places.slots.items (length c.args.slots.now.items) c.in-Some.number c.in-Some.answer c.requires c.places.invariant c.in-Some.ensures.items

pub returns-clause-placed : goal.returns-clause-placed
returns-clause-placed g c = λ n within.
    let none = c.in_default.ensures.cases.0 in
    let len = c.places.kept.ok.0 in
    let long = c.places.invariant.long in
    all_filled c.args.kept.items c.places.kept.items c.places.slots.items (length c.args.slots.now.items) c.requires c.places.invariant (omega arith) n (omega arith)
