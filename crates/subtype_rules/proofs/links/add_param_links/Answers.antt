use Rattle.std.proofs.Common.{arith, refl, ◌∙◌}
use Rattle.subtype_rules.proofs.LinkWalks.{params_goes}
use Rattle.subtype_rules.proofs.links.add_param_links.Goals as goal

pub loop-i-preserved : goal.loop-i-preserved
loop-i-preserved c = c.loop-i.invariant ∙ params_goes c.args.blank c.args.ks.now c.args.ls.now c.loop-i.i _ _ c.loop-i.way _ (omega arith) refl c.in_ok-add_taken.ensures
