use Rattle.std.proofs.Common.{◌∙◌, sym, ap, map, slice_get}
use Rattle.std.specs.Option.{option_and_then}
use Rattle.alias_table.specs.Aliases.{Key, row_type}
use Rattle.alias_table.proofs.Graph.{type_at}
use Rattle.alias_table.proofs.aliases.Aliases.ty.Goals as goal

pub returns-in-Some : goal.returns-in-Some
returns-in-Some c =
    let table = c.args.self.now in
    let key : Key = (c.args.module.now, c.args.name.now) in
    c.type_at.ensures ∙ sym (type_at table.rows key ∙ ap (option_and_then (slice_get (map row_type table.rows))) (sym (table.placed key) ∙ sym c.place.ensures ∙ c.in-Some.is))

pub returns-in-None : goal.returns-in-None
returns-in-None c =
    let table = c.args.self.now in
    let key : Key = (c.args.module.now, c.args.name.now) in
    sym (type_at table.rows key ∙ ap (option_and_then (slice_get (map row_type table.rows))) (sym (table.placed key) ∙ sym c.place.ensures ∙ c.in-None.is))
