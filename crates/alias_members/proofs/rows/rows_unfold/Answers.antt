use Rattle.alias_members.proofs.ByRows.{rows_unfold, members_by_rows, same_members}
use Rattle.alias_members.proofs.rows.rows_unfold.Goals as goal

pub returns-clause-unfolds : goal.returns-clause-unfolds
returns-clause-unfolds c = rows_unfold

pub returns-clause-members : goal.returns-clause-members
returns-clause-members c = members_by_rows

pub returns-clause-table : goal.returns-clause-table
returns-clause-table c = same_members
