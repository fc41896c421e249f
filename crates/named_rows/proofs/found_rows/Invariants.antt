use Rattle.std.proofs.Common.{◌≡◌, take}
use Rattle.std.specs.Option.{option_copied}
use Rattle.named_rows.specs.Seen.{seen, found_by_spec}
use Rattle.named_rows.proofs.found_rows.Given as goal

abbrev pub invariant-loop-i : goal.invariant-loop-i
invariant-loop-i l = seen option_copied l.named.items ≡ found_by_spec (take l.i l.rows)
