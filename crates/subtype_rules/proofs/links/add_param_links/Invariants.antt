use Rattle.std.proofs.Common.{◌≡◌, ◌++◌, drop}
use Rattle.subtype_rules.specs.Terms.{param_links}
use Rattle.subtype_rules.proofs.links.add_param_links.Given as goal

abbrev pub invariant-loop-i : goal.invariant-loop-i
invariant-loop-i l = l.fn.way ++ param_links l.blank l.ks l.ls ≡ l.way ++ param_links l.blank (drop l.i l.ks) (drop l.i l.ls)
