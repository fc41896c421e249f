-- The function that gives the members, and the relation.
use Rattle.std.proofs.Common.{◌≡◌, List, [], ◌∷◌, refl}
use Rattle.type_values.specs.declared.types.FlowType.{FlowType}
use Rattle.alias_table.specs.declared.table.AliasTable.{AliasTable}
use Rattle.alias_table.specs.Table.{unfolded}
use Rattle.alias_table.specs.Members.{AreMembers}
use Rattle.alias_members.specs.MembersIn.{members_in}
use Rattle.alias_table.proofs.Ending.{table_ends}
use Rattle.alias_members.proofs.MemberLemmas.{one_way}

pub are_members : (table : AliasTable) (t : FlowType) → AreMembers (unfolded table) (t ∷ []) (members_in table t)
unfolding members_in
are_members table t = (table_ends table (t ∷ [])).1

pub one_list : (table : AliasTable) (t : FlowType) (all : List FlowType) → AreMembers (unfolded table) (t ∷ []) all → all ≡ members_in table t
one_list table t all m = (one_way (unfolded table) m (are_members table t) refl).0
