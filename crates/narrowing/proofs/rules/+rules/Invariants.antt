use Rattle.std.proofs.Common.{◌≡◌, take}
use Rattle.alias_table.specs.Members.{seen}
use Rattle.alias_members.specs.MembersIn.{members_in}
use Rattle.flow_facts.specs.Narrowing.{rule_of, left_by, changes}
use Rattle.narrowing.proofs.rules.+rules.Given as goal

abbrev pub invariant-left-loop-i : goal.invariant-left-loop-i
invariant-left-loop-i l = record {
  types : l.left.types ≡ left_by (rule_of (members_in l.table) l.test) (seen (take l.i l.all));
  changed : l.left.changed ≡ changes (rule_of (members_in l.table) l.test) (seen (take l.i l.all));
}
