use Rattle.std.proofs.Common.{arith, ◌∙◌}
use Rattle.subtype_rules.proofs.LinkWalks.{both_goes, both_all}
use Rattle.subtype_rules.proofs.links.both_links.Goals as goal

pub loop-i-preserved : goal.loop-i-preserved
loop-i-preserved c = c.loop-i.invariant ∙ both_goes c.args.ks.now c.args.ls.now c.loop-i.i _ _ c.loop-i.way _ (omega arith) (omega arith) c.in_ok-add_both.ensures

pub returns : goal.returns
returns c = both_all c.args.ks.now c.args.ls.now c.loop-i.i c.loop-i.way (omega arith) c.loop-i.invariant
