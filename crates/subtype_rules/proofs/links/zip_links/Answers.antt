use Rattle.std.proofs.Common.{arith, ◌∙◌}
use Rattle.subtype_rules.proofs.LinkWalks.{zip_goes, zip_all}
use Rattle.subtype_rules.proofs.links.zip_links.Goals as goal

pub loop-i-preserved : goal.loop-i-preserved
loop-i-preserved c = c.loop-i.invariant ∙ zip_goes c.args.ks.now c.args.ls.now c.loop-i.i _ _ c.loop-i.way _ (omega arith) (omega arith) c.in_ok-push.ensures.ok

pub returns : goal.returns
returns c = zip_all c.args.ks.now c.args.ls.now c.loop-i.i c.loop-i.way (omega arith) c.loop-i.invariant
