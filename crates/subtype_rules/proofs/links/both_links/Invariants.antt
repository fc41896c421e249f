use Rattle.std.proofs.Common.{◌≡◌, ◌++◌, drop}
use Rattle.subtype_rules.specs.Terms.{both_links}
use Rattle.subtype_rules.proofs.links.both_links.Given as goal

abbrev pub invariant-loop-i : goal.invariant-loop-i
invariant-loop-i l = both_links l.ks l.ls ≡ l.way ++ both_links (drop l.i l.ks) (drop l.i l.ls)
