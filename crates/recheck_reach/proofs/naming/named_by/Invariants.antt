use Rattle.std.proofs.Common.{take}
use Rattle.check_values.specs.Roots.{paths_of}
use Rattle.recheck_reach.specs.Named.{FollowNamesOf}
use Rattle.recheck_reach.proofs.naming.named_by.Given as goal

abbrev pub invariant-loop-i : goal.invariant-loop-i
invariant-loop-i l = FollowNamesOf (paths_of l.root) l.signatures (take l.i l.numbers) l.named.items
