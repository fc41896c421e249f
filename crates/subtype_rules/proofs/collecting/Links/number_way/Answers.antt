use Rattle.std.proofs.Common.{arith, subst, Contains}
use Rattle.subtype_rules.proofs.Grown.{way_next, adds_more, adds_extends, here_at}
use Rattle.subtype_rules.proofs.collecting.Links.number_way.Goals as goal

pub loop-i-preserved : goal.loop-i-preserved
loop-i-preserved c = record {
  numbers = way_next c.loop-i.self.all _ c.loop-i.ks _ c.args.way.now c.loop-i.i c.in_ok-k.k _ (omega arith) (adds_extends _ _ _ c.in_ok-k.ensures.adds) c.loop-i.invariant.numbers c.in_ok-k.ensures.number c.in_ok-push.ensures.ok;
  adds = adds_more (Contains c.args.way.now) _ c.args.self.now.all c.loop-i.self.all _ c.loop-i.invariant.adds c.in_ok-k.ensures.adds (λ m e. subst (Contains c.args.way.now) e (here_at c.args.way.now c.loop-i.i _ (omega arith)));
}
