use Rattle.std.proofs.Common.{◌≡◌, ◌++◌, drop}
use Rattle.subtype_rules.specs.Terms.{all_links}
use Rattle.subtype_rules.proofs.links.all_links.Given as goal

abbrev pub invariant-loop-i : goal.invariant-loop-i
invariant-loop-i l = all_links l.ps.all.now l.x l.qs.all.now l.y l.qs.all.now ≡ l.way ++ all_links l.ps.all.now l.x l.qs.all.now l.y (drop l.i l.qs.all.now)
