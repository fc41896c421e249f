use Rattle.std.proofs.Common.{◌<◌, ◌+◌, [], List, Option, Vec, Global, get_or, length, take, IfSome, ap, sym, subst, arith}
use Rattle.std.specs.List.{AllZip}
use Rattle.check_values.specs.declared.signatures.Sig.{Sig}
use Rattle.check_phases.proofs.Lists.{place_at, zip_more}
use Rattle.recheck_merging.specs.Merging.{AreSigsOf}
use Rattle.recheck_merging.specs.Still.{TellsKept}
use Rattle.recheck_merging.proofs.still.wave_old.Goals as goal

pub loop-i-preserved : goal.loop-i-preserved
loop-i-preserved c =
    let ks = get_or c.args.edit.now.plan.now.waves c.args.wave [] in
    let many = ap length c.wave_at-numbers.ensures in
    let low : c.loop-i.i < length ks = omega (arith, many, c.loop-i-test.true) in
    let at = place_at ks c.loop-i.i 0 low in
    record {
      kept =
          subst (λ (l : List (Option (Vec Sig Global))). AllZip (TellsKept c.args.edit.now.touched.now c.args.same.now c.args.edit.now.plan.now) (take (c.loop-i.i + 1) ks) l) (sym c.in_ok-push.ensures.items)
          (zip_more (TellsKept c.args.edit.now.touched.now c.args.same.now c.args.edit.now.plan.now) ks c.loop-i.olds.items c.loop-i.i (get_or ks c.loop-i.i 0) c.in_ok-own.own c.loop-i.invariant.kept at c.in_ok-own.ensures.kept);
      right =
          subst (λ (l : List (Option (Vec Sig Global))). AllZip (λ k o. IfSome o (λ own. AreSigsOf c.args.edit.now.sources.now c.args.edit.now.plan.now k own.items)) (take (c.loop-i.i + 1) ks) l) (sym c.in_ok-push.ensures.items)
          (zip_more (λ k o. IfSome o (λ own. AreSigsOf c.args.edit.now.sources.now c.args.edit.now.plan.now k own.items)) ks c.loop-i.olds.items c.loop-i.i (get_or ks c.loop-i.i 0) c.in_ok-own.own c.loop-i.invariant.right at c.in_ok-own.ensures.right);
    }
