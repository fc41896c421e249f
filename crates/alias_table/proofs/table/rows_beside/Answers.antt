use Rattle.alias_table.proofs.Splits.{if_some_all}
use Rattle.alias_table.proofs.table.rows_beside.Goals as goal

pub returns-clause-within : goal.returns-clause-within
returns-clause-within c = if_some_all c.in_ok-found.found (c.stays_within.ensures c.if-not-stays_within.false)
