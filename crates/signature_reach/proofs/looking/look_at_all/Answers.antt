use Rattle.std.proofs.Common.{refl, arith}
use Rattle.check_values.specs.Roots.{paths_of_rows}
use Rattle.check_values.specs.Rows.{row_at}
use Rattle.std.proofs.lemmas.Option.{slice_get_read}
use Rattle.signature_reach.specs.Along.{signed}
use Rattle.signature_reach.proofs.Reached.{grows_none, grows_through, one_more_met}
use Rattle.signature_reach.proofs.looking.look_at_all.Goals as goal

pub loop-i-init : goal.loop-i-init
loop-i-init c = record { grows = grows_none _ _ _ _ c.requires.known; met = tt }

pub loop-i-preserved : goal.loop-i-preserved
loop-i-preserved c =
    let sigs = row_at (signed c.args.modules.now c.args.signatures.now) in
    let names = paths_of_rows c.args.modules.now in
    let step = c.in_ok-look_at.ensures.grows in
    let low = c.loop-i-test.true in
    record {
      grows = grows_through sigs names c.args.seen.now c.loop-i.seen c.look_at.new.seen c.args.found.now c.loop-i.found c.look_at.new.found c.loop-i.invariant.grows step;
      met = one_more_met sigs names c.loop-i.seen c.look_at.new.seen c.loop-i.found c.look_at.new.found c.args.paths.now c.loop-i.i c.index-paths-i.result (omega arith)
          (slice_get_read c.args.paths.now _ c.loop-i.i c.index-paths-i.result refl (omega arith) c.index-paths-i.is) step c.loop-i.invariant.met c.in_ok-look_at.ensures.met;
    }
