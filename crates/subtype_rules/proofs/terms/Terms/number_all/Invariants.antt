use Rattle.std.proofs.Common.{◌≡◌, take}
use Rattle.subtype_rules.specs.Terms.{Extends, AreNamed}
use Rattle.subtype_rules.proofs.terms.Terms.number_all.Given as goal

abbrev pub invariant-loop-i : goal.invariant-loop-i
invariant-loop-i l = record {
  numbers : AreNamed l.self.types l.ks (take l.i l.all);
  grows : Extends l.fn.self.types l.self.types;
  nodes : l.self.nodes ≡ l.fn.self.nodes;
}
