use Rattle.std.proofs.Common.{arith, ◌∙◌}
use Rattle.subtype_rules.proofs.Grown.{extends_more}
use Rattle.subtype_rules.proofs.Linked.{named_next}
use Rattle.subtype_rules.proofs.terms.Terms.number_all.Goals as goal

pub loop-i-preserved : goal.loop-i-preserved
loop-i-preserved c = record {
  numbers = named_next c.loop-i.self.types _ c.loop-i.ks _ c.args.all.now c.loop-i.i c.in_ok-k.k c.index-all-i.result (omega (arith, c.loop-i-test.true)) c.index-all-i.is c.in_ok-k.ensures.grows c.loop-i.invariant.numbers c.in_ok-k.ensures.number c.in_ok-push.ensures.ok;
  grows = extends_more c.args.self.now.types c.loop-i.self.types _ c.loop-i.invariant.grows c.in_ok-k.ensures.grows;
  nodes = c.in_ok-k.ensures.nodes ∙ c.loop-i.invariant.nodes;
}
