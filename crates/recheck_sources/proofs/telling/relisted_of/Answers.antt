use Rattle.std.proofs.Common.{arith}
use Rattle.recheck_sources.proofs.Loops.{seen_at, off_at, Tells, each_more, tells_here, none_other, they_tell}
use Rattle.recheck_sources.proofs.telling.relisted_of.Goals as goal

pub list_flag-flag-requires : goal.list_flag-flag-requires
list_flag-flag-requires c = λ stays off.
    none_other c.args.was.now c.args.from.now c.args.lists.now c.args.fresh.now c.loop-i.i c.get-list.result.now (c.requires.kept stays) (off_at c.args.fresh.now c.loop-i.i (let f = c.requires.fresh in omega arith) off)
    (seen_at c.args.lists.now c.loop-i.i c.index-lists-i.result c.get-list.result.now (omega arith) c.index-lists-i.is c.get-list.ensures)

pub loop-i-preserved : goal.loop-i-preserved
loop-i-preserved c =
    each_more (Tells c.args.was.now c.args.from.now c.args.lists.now) c.loop-i.i c.list_flag-flag.result c.loop-i.flags.items c.push.new.self.items c.loop-i.invariant
    (tells_here c.args.was.now c.args.from.now c.args.lists.now c.loop-i.i c.get-list.result.now c.list_flag-flag.result
    (seen_at c.args.lists.now c.loop-i.i c.index-lists-i.result c.get-list.result.now (omega arith) c.index-lists-i.is c.get-list.ensures) c.list_flag-flag.ensures) c.in_ok-push.ensures.items

pub returns : goal.returns
returns c = they_tell c.args.was.now c.args.from.now c.args.lists.now c.loop-i.i c.loop-i.flags.items (omega arith) c.requires.from c.loop-i.invariant
