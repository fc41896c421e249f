use Rattle.std.proofs.Common.{◌∙◌, ap, sym, Option}
use Rattle.std.specs.Option.{option_or, option_copied}
use Rattle.type_values.specs.declared.types.FlowType.{FlowType}
use Rattle.alias_table.specs.Aliases.{Key, alias_type}
use Rattle.alias_table.specs.declared.aliases.Aliases.{Aliases}
use Rattle.alias_table.proofs.Beside.{types_append}
use Rattle.alias_table.proofs.table.AliasTable.ty.Goals as goal

pub returns-in-Some : goal.returns-in-Some
returns-in-Some c =
    let table = c.args.self.now in
    let key : Key = (c.args.module.now, c.args.name.now) in
    sym (types_append table.own.rows table.others.rows key ∙ ap (λ (o : Option FlowType). option_or o (alias_type table.others.rows key)) (sym c.ty.ensures ∙ ap option_copied c.in-Some.is))

pub returns-in-None : goal.returns-in-None
returns-in-None c =
    let table = c.args.self.now in
    let key : Key = (c.args.module.now, c.args.name.now) in
    c.ty-in-None.ensures ∙ ap (λ (a : Aliases). alias_type a.rows key) c.get.ensures
    ∙ sym (types_append table.own.rows table.others.rows key ∙ ap (λ (o : Option FlowType). option_or o (alias_type table.others.rows key)) (sym c.ty.ensures ∙ ap option_copied c.in-None.is))
