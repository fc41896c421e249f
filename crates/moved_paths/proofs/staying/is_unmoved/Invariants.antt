use Rattle.std.proofs.Common.{take}
use Rattle.std.specs.List.{AllByRecursion}
use Rattle.moved_paths.specs.Moved.{IsRowUnmoved}
use Rattle.moved_paths.proofs.staying.is_unmoved.Given as goal

abbrev pub invariant-loop-i : goal.invariant-loop-i
invariant-loop-i l = AllByRecursion (IsRowUnmoved l.moved l.from) (take l.i l.rows)
