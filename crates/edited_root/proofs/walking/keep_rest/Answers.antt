use Rattle.std.proofs.Common.{arith}
use Rattle.edited_root.proofs.Walked.{rest_more, stands_last}
use Rattle.edited_root.proofs.walking.keep_rest.Goals as goal

pub loop-i-preserved : goal.loop-i-preserved
loop-i-preserved c = rest_more c.args.modules.now c.args.at c.loop-i.i c.args.drafts.now.items c.loop-i.drafts.items c.keep.new.drafts.items c.requires.rising c.in_ok-keep.ensures c.loop-i.invariant

pub returns : goal.returns
returns c = λ program stands. stands_last c.args.modules.now program c.loop-i.i c.loop-i.drafts.items (omega arith) (c.loop-i.invariant program stands)
