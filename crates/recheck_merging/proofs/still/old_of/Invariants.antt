use Rattle.std.proofs.Common.{◌≡◌, get_or, take, Some, None}
use Rattle.std.specs.List.{AllZip}
use Rattle.recheck_merging.specs.Keeping.{kept_in}
use Rattle.recheck_merging.proofs.still.old_of.Given as goal

-- the old signatures so far
abbrev pub invariant-loop-i : goal.invariant-loop-i
invariant-loop-i l = AllZip (λ x sig. kept_in l.edit.was.now.signatures.items (get_or l.edit.from.now x None) ≡ Some sig) (take l.i l.group) l.olds.items
