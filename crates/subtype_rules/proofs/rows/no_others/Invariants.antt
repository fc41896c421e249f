use Rattle.std.proofs.Common.{◌≡◌, drop}
use Rattle.subtyping.specs.Rows.{no_others}
use Rattle.subtype_rules.proofs.rows.no_others.Given as goal

abbrev pub invariant-loop-i : goal.invariant-loop-i
invariant-loop-i l = no_others l.qs.all.now l.ps ≡ no_others l.qs.all.now (drop l.i l.ps)
