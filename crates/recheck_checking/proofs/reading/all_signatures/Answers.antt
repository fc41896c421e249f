use Rattle.std.proofs.Common.{arith}
use Rattle.recheck_checking.proofs.Signed.{signed_more}
use Rattle.recheck_checking.proofs.reading.all_signatures.Goals as goal

pub loop-i-preserved : goal.loop-i-preserved
loop-i-preserved c =
    signed_more c.args.modules.now c.args.signatures.now c.loop-i.i c.index-modules-i.result c.index-signatures-i.result c.in_ok-share-2.field-0 c.in_ok-share.field-0 c.loop-i.rows _ c.loop-i-test.true
    (omega (arith, c.loop-i-test.true, c.requires.many)) c.index-modules-i.is c.index-signatures-i.is c.in_ok-share.ensures c.in_ok-share-2.ensures c.loop-i.invariant c.in_ok-push.ensures.ok
