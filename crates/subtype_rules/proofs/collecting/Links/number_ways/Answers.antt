use Rattle.std.proofs.Common.{arith, subst, sym, take, Contains}
use Rattle.subtype_rules.specs.Terms.{IsLinkAdded, IsLinkRow, InWays}
use Rattle.subtype_rules.proofs.Grown.{row_start, row_end, row_next, adds_none, adds_more, adds_extends, in_ways}
use Rattle.subtype_rules.proofs.collecting.Links.number_ways.Goals as goal

pub loop-i-init : goal.loop-i-init
loop-i-init c = record {
  numbers = subst (λ l. IsLinkRow c.args.types.now c.args.self.now.all l (take 0 c.args.all.now)) (sym c.new-row.ensures) (row_start c.args.types.now c.args.self.now.all c.args.all.now);
  adds = adds_none (InWays c.args.all.now) c.args.self.now.all;
}

pub loop-i-preserved : goal.loop-i-preserved
loop-i-preserved c = record {
  numbers = row_next c.args.types.now c.loop-i.self.all c.add_way.new.self.all c.loop-i.row c.add_way.new.row c.args.all.now c.loop-i.i c.index-all-i.result (omega (arith, c.loop-i-test.true)) c.index-all-i.is (adds_extends _ _ _ c.in_ok-add_way.ensures.adds) c.loop-i.invariant.numbers
      (subst (IsLinkAdded c.args.types.now c.add_way.new.self.all c.loop-i.row c.add_way.new.row) c.as_slice.ensures c.in_ok-add_way.ensures.added);
  adds = adds_more (InWays c.args.all.now) _ c.args.self.now.all c.loop-i.self.all c.add_way.new.self.all c.loop-i.invariant.adds c.in_ok-add_way.ensures.adds
      (λ l d. in_ways c.args.all.now c.loop-i.i c.index-all-i.result (omega (arith, c.loop-i-test.true)) c.index-all-i.is l (subst (λ w. Contains w l) c.as_slice.ensures d));
}

pub returns-clause-numbers : goal.returns-clause-numbers
returns-clause-numbers c = row_end c.args.types.now c.loop-i.self.all c.loop-i.row c.args.all.now c.loop-i.i (omega (arith, c.loop-i-test.false)) c.loop-i.invariant.numbers
