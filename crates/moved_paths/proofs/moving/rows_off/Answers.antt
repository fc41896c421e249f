use Rattle.std.proofs.Common.{refl, arith}
use Rattle.std.proofs.lemmas.Option.{slice_get_read, slice_get-get_or}
use Rattle.moved_paths.proofs.Turned.{off_next}
use Rattle.moved_paths.proofs.moving.rows_off.Goals as goal

pub loop-i-preserved : goal.loop-i-preserved
loop-i-preserved c =
    let low = c.loop-i-test.true in
    off_next c.args.flags.now c.args.rows.now c.loop-i.i _ c.index-rows-i.result c.loop-i.modules c.add_off.new.modules c.requires (omega (arith, low)) (slice_get_read c.args.rows.now _ c.loop-i.i c.index-rows-i.result refl (omega (arith, low)) c.index-rows-i.is)
    (slice_get-get_or c.args.flags.now c.loop-i.i _ (let m = c.requires in omega (arith, low, m))) c.loop-i.invariant c.in_ok-add_off.ensures
