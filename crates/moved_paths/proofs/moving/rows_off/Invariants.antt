use Rattle.std.proofs.Common.{◌≡◌, take}
use Rattle.moved_paths.specs.Flags.{where_off}
use Rattle.moved_paths.proofs.moving.rows_off.Given as goal

abbrev pub invariant-loop-i : goal.invariant-loop-i
invariant-loop-i l = l.modules ≡ where_off (take l.i l.flags) (take l.i l.rows)
