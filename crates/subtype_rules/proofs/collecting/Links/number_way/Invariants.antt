use Rattle.std.proofs.Common.{take, Contains}
use Rattle.subtype_rules.specs.Terms.{StandAt, Adds}
use Rattle.subtype_rules.proofs.collecting.Links.number_way.Given as goal

abbrev pub invariant-loop-i : goal.invariant-loop-i
invariant-loop-i l = record {
  numbers : StandAt l.self.all l.ks (take l.i l.way);
  adds : Adds (Contains l.way) l.fn.self.all l.self.all;
}
