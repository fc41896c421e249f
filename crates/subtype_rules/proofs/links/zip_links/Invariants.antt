use Rattle.std.proofs.Common.{◌≡◌, ◌++◌, drop}
use Rattle.subtype_rules.specs.Terms.{zip_links}
use Rattle.subtype_rules.proofs.links.zip_links.Given as goal

abbrev pub invariant-loop-i : goal.invariant-loop-i
invariant-loop-i l = zip_links l.ks l.ls ≡ l.way ++ zip_links (drop l.i l.ks) (drop l.i l.ls)
