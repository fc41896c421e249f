use Rattle.std.proofs.Common.{arith}
use Rattle.check_values.specs.Roots.{paths_of_rows}
use Rattle.check_values.specs.Rows.{row_at}
use Rattle.signature_reach.specs.Along.{signed}
use Rattle.signature_reach.proofs.Reached.{grows_none, grows_through, none_started, one_started}
use Rattle.signature_reach.proofs.looking.look_at_starts.Goals as goal

pub loop-i-init : goal.loop-i-init
loop-i-init c = record { grows = grows_none _ _ _ _ c.requires.known; started = none_started _ _ _ _ }

pub loop-i-preserved : goal.loop-i-preserved
loop-i-preserved c =
    let sigs = row_at (signed c.args.modules.now c.args.signatures.now) in
    let names = paths_of_rows c.args.modules.now in
    let step = c.in_ok-look_at_found.ensures.grows in
    record {
      grows = grows_through sigs names c.args.seen.now c.loop-i.seen c.look_at_found.new.seen c.args.found.now c.loop-i.found c.look_at_found.new.found c.loop-i.invariant.grows step;
      started = one_started sigs names c.loop-i.seen c.look_at_found.new.seen c.loop-i.found c.look_at_found.new.found c.args.lists.now c.args.numbers.now c.loop-i.i c.index-lists-numbers.result c.get.result.now (omega arith) (omega arith) c.index-lists-numbers.is step c.loop-i.invariant.started c.get.ensures c.in_ok-look_at_found.ensures.met;
    }
