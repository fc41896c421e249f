use Rattle.std.proofs.Common.{◌∙◌, ◌++◌, ap, sym, subst, List}
use Rattle.std.specs.Option.{option_or}
use Rattle.alias_table.specs.Aliases.{Row, alias_type, StaysWithin}
use Rattle.alias_table.specs.Splitting.{Splits}
use Rattle.alias_table.specs.declared.aliases.Aliases.{Aliases}
use Rattle.alias_table.proofs.Beside.{types_append}
use Rattle.alias_table.proofs.Splits.{all_types, of_some}
use Rattle.alias_table.proofs.table.AliasTable.over.Goals as goal

pub beside-requires-clause-within : goal.beside-requires-clause-within
beside-requires-clause-within c =
    subst (λ (a : Aliases). StaysWithin (alias_type a.rows)) (c.get.ensures ∙ sym c.in_ok-share-in-Some.ensures)
    (of_some (λ (l : List Row). StaysWithin (alias_type c.get.result.now.rows)) c.in_ok-apart.field-0 c.in-Some.apart c.in-Some.is c.in_ok-apart.ensures.within)

pub returns-in_ok-table-in-Some-clause-types : goal.returns-in_ok-table-in-Some-clause-types
returns-in_ok-table-in-Some-clause-types c = λ key.
    c.in_ok-table-in-Some.ensures.types key ∙ ap (λ (a : Aliases). alias_type (c.in-Some.apart ++ a.rows) key) (c.in_ok-share-in-Some.ensures ∙ sym c.get.ensures)
    ∙ all_types c.args.own.now c.get.result.now.rows c.in-Some.apart (of_some (Splits c.get.result.now.rows c.args.own.now) c.in_ok-apart.field-0 c.in-Some.apart c.in-Some.is c.in_ok-apart.ensures.splits) key
    ∙ ap (λ (a : Aliases). option_or (alias_type c.args.own.now key) (alias_type a.rows key)) c.get.ensures

pub returns-in_ok-table-in-None-clause-types : goal.returns-in_ok-table-in-None-clause-types
returns-in_ok-table-in-None-clause-types c = λ key.
    c.in_ok-table-in-None.ensures.types key ∙ types_append c.args.own.now c.rows.result.now key
    ∙ ap (λ (l : List Row). option_or (alias_type c.args.own.now key) (alias_type l key)) (c.rows.ensures ∙ ap (λ (a : Aliases). a.rows) c.get-in-None.ensures)
