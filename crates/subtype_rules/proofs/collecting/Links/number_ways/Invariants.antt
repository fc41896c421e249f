use Rattle.std.proofs.Common.{take}
use Rattle.subtype_rules.specs.Terms.{IsLinkRow, Adds, InWays}
use Rattle.subtype_rules.proofs.collecting.Links.number_ways.Given as goal

abbrev pub invariant-loop-i : goal.invariant-loop-i
invariant-loop-i l = record {
  numbers : IsLinkRow l.types l.self.all l.row (take l.i l.all);
  adds : Adds (InWays l.all) l.fn.self.all l.self.all;
}
