use Rattle.std.proofs.Common.{◌≡◌, map, take}
use Rattle.job_ends.specs.Telling.{end_in}
use Rattle.sig_merge.specs.Merging.{export_in}
use Rattle.sig_merge.proofs.merging.exports_of.Given as goal

abbrev pub invariant-loop-i : goal.invariant-loop-i
invariant-loop-i l = l.rows ≡ map (λ row. (row.0, export_in l.exports (end_in l.ends l.member.member.now.path row.0))) (take l.i l.origins)
