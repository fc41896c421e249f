use Rattle.std.proofs.Common.{subst, arith}
use Rattle.check_values.specs.Roots.{paths_of_rows}
use Rattle.check_values.specs.Rows.{Rows, row_at}
use Rattle.check_values.specs.declared.signatures.Sig.{Sig}
use Rattle.signature_reach.specs.Along.{signed, AreMet, AreNamedAt}
use Rattle.signature_reach.proofs.Reached.{grows_none, grows_through, grows_longer, none_closed, one_closed}
use Rattle.signature_reach.proofs.reaching.follow.Goals as goal

pub loop-at-init : goal.loop-at-init
loop-at-init c = record { grows = grows_none _ _ _ _ c.requires.known; closed = none_closed _ _; within = omega arith }

pub loop-at-preserved : goal.loop-at-preserved
loop-at-preserved c =
    let sigs = row_at (signed c.args.modules.now c.args.signatures.now) in
    let names = paths_of_rows c.args.modules.now in
    let step = c.in_ok-look_at_all.ensures.grows in
    let met : AreMet sigs c.look_at_all.new.found c.in_ok-named.named = subst (AreMet sigs c.look_at_all.new.found) c.as_slice-in-loop-at.ensures c.in_ok-look_at_all.ensures.met in
    let named : AreNamedAt c.loop-at.found c.loop-at.at c.in_ok-named.named = subst (λ (rows : Rows Sig). AreNamedAt rows c.loop-at.at c.in_ok-named.named) c.as_slice.ensures c.in_ok-named.ensures in
    let longer = grows_longer sigs names c.loop-at.seen c.look_at_all.new.seen c.loop-at.found c.look_at_all.new.found step in
    record {
      grows = grows_through sigs names c.args.seen.now c.loop-at.seen c.look_at_all.new.seen c.args.found.now c.loop-at.found c.look_at_all.new.found c.loop-at.invariant.grows step;
      closed = one_closed sigs names c.loop-at.seen c.look_at_all.new.seen c.loop-at.found c.look_at_all.new.found c.loop-at.at c.in_ok-named.named (omega arith) c.loop-at.invariant.closed named step met;
      within = omega (arith, longer);
    }
