use Rattle.asked_exports.proofs.Outside.{cut_next}
use Rattle.asked_exports.proofs.cutting.cut_all.Goals as goal

pub loop-i-preserved : goal.loop-i-preserved
loop-i-preserved c =
    cut_next c.args.rows.now c.loop-i.i c.index-rows-i.result c.loop-i.asked c.take_names-names.new.asked c.loop-i.own c.push.new.self _ c.in_ok-share.field-0 c.take_names-names.result c.as_slice.result.now c.in_ok-sig.sig
    c.loop-i-test.true c.index-rows-i.is c.take_names-names.ensures.names c.take_names-names.ensures.rest c.as_slice.ensures c.in_ok-sig.ensures c.in_ok-share.ensures c.in_ok-push.ensures.ok c.loop-i.invariant
