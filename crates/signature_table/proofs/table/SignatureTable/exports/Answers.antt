use Rattle.std.proofs.Common.{ap, ◌∙◌, sym, Some, Option, ℕ}
use Rattle.std.specs.Option.{option_map, option_copied}
use Rattle.signature_table.specs.declared.exports.Exports.{Exports}
use Rattle.signature_table.proofs.Placing.{beside_place, no_value}
use Rattle.signature_table.proofs.table.SignatureTable.exports.Goals as goal

pub returns-in-Some : goal.returns-in-Some
returns-in-Some c =
    let table = c.args.self.now in
    ap (λ (o : Option Exports). option_map (λ own. own.sig) o) c.get-in-Some.ensures.value
    ∙ beside_place (λ (own : Exports). own.sig) table.exports table.rows table.places c.args.path.now c.in-Some.place.now table.exported table.placed (sym c.in-Some.ensures.value)

pub returns-in-None : goal.returns-in-None
returns-in-None c = no_value c.args.self.now.rows c.args.self.now.places c.args.path.now c.args.self.now.placed c.in-None.ensures.value
