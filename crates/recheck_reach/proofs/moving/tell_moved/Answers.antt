use Rattle.std.proofs.Common.{rules}
use Rattle.recheck_reach.proofs.Moved.{merged_low, said_old, told_more}
use Rattle.recheck_reach.proofs.moving.tell_moved.Goals as goal

pub has_moved-requires : goal.has_moved-requires
has_moved-requires c =
    said_old c.args.was.now c.args.from.now c.args.signatures.now c.args.same.now _ c.index-signatures-x.result c.get.result.now c.requires.same (merged_low c.args.merged.now _ c.args.i c.requires.within c.requires.low) c.index-signatures-x.is (search rules)

pub returns : goal.returns
returns c =
    told_more c.args.was.now c.args.from.now c.args.signatures.now c.args.merged.now c.args.i c.args.moved.now.items c.index-signatures-x.result c.get.result.now c.has_moved.result c.requires.within c.requires.many c.requires.low c.index-signatures-x.is
    (search rules) c.has_moved.ensures c.requires.told
