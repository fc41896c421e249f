use Rattle.std.proofs.Common.{arith}
use Rattle.moved_paths.proofs.Turned.{one_more, past_more}
use Rattle.moved_paths.proofs.flags.meet.Goals as goal

pub returns-then-place-len : goal.returns-then-place-len
returns-then-place-len c =
    let n = c.len.ensures in
    let low = c.if-place-len.true in
    one_more c.args.from.now c.args.i c.in-Some.number c.args.flags.now.items c.requires.low c.requires.met c.in-Some.is (omega (arith, n, low))

pub returns-else-place-len : goal.returns-else-place-len
returns-else-place-len c =
    let n = c.len.ensures in
    let past = c.if-place-len.false in
    past_more c.args.from.now c.args.i c.in-Some.number c.args.flags.now.items c.requires.low c.requires.met c.in-Some.is (omega (arith, n, past))
