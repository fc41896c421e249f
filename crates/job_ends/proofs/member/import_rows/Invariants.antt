use Rattle.std.proofs.Common.{◌≡◌, take}
use Rattle.named_rows.specs.Seen.{seen}
use Rattle.job_ends.specs.Jobs.{imports_by_local}
use Rattle.job_ends.proofs.member.import_rows.Given as goal

abbrev pub invariant-loop-i : goal.invariant-loop-i
invariant-loop-i l = seen (λ row. row.now) l.named.items ≡ imports_by_local (take l.i l.rows)
