use Rattle.std.proofs.Common.{[], get_or, take, IfSome}
use Rattle.std.specs.List.{AllZip}
use Rattle.recheck_merging.specs.Merging.{AreSigsOf}
use Rattle.recheck_merging.specs.Still.{TellsKept}
use Rattle.recheck_merging.proofs.still.wave_old.Given as goal

-- what is there so far
abbrev pub invariant-loop-i : goal.invariant-loop-i
invariant-loop-i l = record {
  kept : AllZip (TellsKept l.edit.touched.now l.same l.edit.plan.now) (take l.i (get_or l.edit.plan.now.waves l.wave [])) l.olds.items;
  right : AllZip (λ k o. IfSome o (λ own. AreSigsOf l.edit.sources.now l.edit.plan.now k own.items)) (take l.i (get_or l.edit.plan.now.waves l.wave [])) l.olds.items;
}
