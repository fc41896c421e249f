-- The functions over rows, and a table that was built from them.
use Rattle.std.proofs.Common.{◌≡◌, List, [], ◌∷◌, refl, subst}
use Rattle.type_values.specs.declared.types.FlowType.{FlowType}
use Rattle.alias_table.specs.declared.table.AliasTable.{AliasTable}
use Rattle.alias_table.specs.Aliases.{Row, Key}
use Rattle.alias_table.specs.Table.{unfolded}
use Rattle.alias_table.specs.Unfolding.{Unfolds}
use Rattle.alias_table.specs.Members.{AreMembers}
use Rattle.alias_table.proofs.OneType.{some_type, one_type}
use Rattle.alias_table.proofs.Ending.{rows_end}
use Rattle.alias_members.specs.MembersIn.{members_in}
use Rattle.alias_members.specs.Rows.{unfolded_by, members_by}
use Rattle.alias_members.proofs.MemberLemmas.{one_way}
use Rattle.alias_members.proofs.MembersIn.{are_members}

pub rows_unfold : (rows : List Row) → Unfolds rows (unfolded_by rows)
unfolding unfolded_by
rows_unfold rows key = (some_type rows key).1

pub members_by_rows : (rows : List Row) (t : FlowType) → AreMembers (unfolded_by rows) (t ∷ []) (members_by rows t)
unfolding unfolded_by members_by
members_by_rows rows t = (rows_end rows (λ key. (some_type rows key).0) (λ key. (some_type rows key).1) (t ∷ [])).1

same_unfolding : (rows : List Row) (table : AliasTable) → Unfolds rows (unfolded table) → unfolded table ≡ unfolded_by rows
same_unfolding rows table right = λ i key. one_type rows key (unfolded table key) (unfolded_by rows key) (right key) (rows_unfold rows key) i

pub same_members : (rows : List Row) (table : AliasTable) → Unfolds rows (unfolded table) → (t : FlowType) → members_in table t ≡ members_by rows t
same_members rows table right t =
    (one_way (unfolded_by rows) (subst (λ (f : Key → FlowType). AreMembers f (t ∷ []) (members_in table t)) (same_unfolding rows table right) (are_members table t)) (members_by_rows rows t) refl).0
