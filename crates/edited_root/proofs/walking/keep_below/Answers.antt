use Rattle.std.proofs.Common.{refl, sym, ◌∙◌, arith}
use Rattle.edited_root.proofs.Walked.{walks_none, walks_more, below_there}
use Rattle.edited_root.proofs.walking.keep_below.Goals as goal

pub loop-drafts-init : goal.loop-drafts-init
loop-drafts-init c = record { within = c.requires.within; walks = walks_none c.args.modules.now c.args.path.now c.args.at c.args.drafts.now.items }

pub loop-drafts-preserved : goal.loop-drafts-preserved
loop-drafts-preserved c =
    let below = sym c.is_below.ensures ∙ c.loop-drafts-test.true in
    let low = below_there c.args.modules.now c.args.path.now c.loop-drafts.at below in
    record {
      within = omega (arith, low);
      walks = walks_more c.args.modules.now c.args.path.now c.args.at c.loop-drafts.at _ c.args.drafts.now.items c.loop-drafts.drafts.items c.keep.new.drafts.items c.requires.rising below c.in_ok-keep.ensures refl c.loop-drafts.invariant.walks;
    }
