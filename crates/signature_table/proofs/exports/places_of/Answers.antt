use Rattle.std.proofs.Common.{◌-◌, refl, arith}
use Rattle.signature_table.proofs.Placing.{one_placed}
use Rattle.signature_table.proofs.exports.places_of.Goals as goal

pub loop-i-preserved : goal.loop-i-preserved
loop-i-preserved c =
    one_placed c.args.rows.now (c.loop-i.i - 1) c.loop-i.i c.index-rows-i.result c.in_ok-share.field-0 c.loop-i.places c.insert.new.self (omega arith) (omega arith) c.index-rows-i.is c.in_ok-share.ensures c.loop-i.invariant c.in_ok-insert.ensures.updates
