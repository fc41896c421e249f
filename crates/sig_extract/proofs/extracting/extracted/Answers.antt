use Rattle.std.proofs.Common.{◌≡◌, List, ap, ◌∙◌, subst₂}
use Rattle.std.specs.List.{flat_map}
use Rattle.check_values.specs.Rows.{Rows, by_name}
use Rattle.check_values.specs.FaultOrder.{faults_in_order}
use Rattle.check_values.specs.declared.signatures.ImportRow.{ImportRow}
use Rattle.js_tree.specs.View.{item_view}
use Rattle.js_tree.specs.declared.items.Item.{Item}
use Rattle.local_signatures.specs.Exports.{told_by}
use Rattle.local_signatures.specs.Faults.{fault_of}
use Rattle.named_rows.specs.Seen.{seen}
use Rattle.told_signature.specs.declared.telling.Said.{Said}
use Rattle.told_signature.specs.Seen.{named_in, said_view}
use Rattle.told_signature.specs.Signing.{IsSignatureOf}
use Rattle.sig_extract.specs.Seen.{binding_view, rows_told}
use Rattle.sig_extract.proofs.Whole.{signature_is, faults_are}
use Rattle.sig_extract.proofs.extracting.extracted.Goals as goal

pub returns-clause-signature : goal.returns-clause-signature
returns-clause-signature c =
    let scope = seen binding_view c.args.scope.now.rows.items in
    let table = c.in_ok-named.named.entries in
    let tells : rows_told scope c.in_ok-exports.exports.items ≡ by_name (flat_map (λ item. told_by scope (item_view item)) c.args.module.now.items) =
    c.in_ok-exports.ensures ∙ ap (λ (items : List Item). by_name (flat_map (λ item. told_by scope (item_view item)) items)) c.as_slice.ensures in
    signature_is c.args.module.now scope table c.in_ok-told_by_names.field-0.items c.in_ok-exports.exports.items c.requires c.in_ok-named.ensures c.in_ok-told_by_names.ensures tells
    c.in_ok-aliases.aliases.items c.in_ok-imports.imports.items c.in_ok-aliases.ensures c.in_ok-imports.ensures c.in_ok-found.found
    (subst₂ (λ (said : Rows Said) (imports : List ImportRow). IsSignatureOf (seen (said_view (named_in table)) said) c.in_ok-aliases.aliases.items imports c.in_ok-found.found)
    c.as_slice-said.ensures.value c.as_slice-2.ensures.value c.in_ok-found.ensures)

pub returns-clause-faults : goal.returns-clause-faults
returns-clause-faults c =
    let scope = seen binding_view c.args.scope.now.rows.items in
    let table = c.in_ok-named.named.entries in
    let tells : rows_told scope c.in_ok-exports.exports.items ≡ by_name (flat_map (λ item. told_by scope (item_view item)) c.args.module.now.items) =
    c.in_ok-exports.ensures ∙ ap (λ (items : List Item). by_name (flat_map (λ item. told_by scope (item_view item)) items)) c.as_slice.ensures in
    faults_are c.args.module.now scope table c.in_ok-told_by_names.field-0.items c.in_ok-exports.exports.items c.requires c.in_ok-named.ensures c.in_ok-told_by_names.ensures tells
    c.args.spans.now c.in_ok-faults.faults
    (c.in_ok-faults.ensures ∙ ap (λ (said : Rows Said). faults_in_order (flat_map (fault_of c.args.spans.now) (seen (said_view (named_in table)) said))) c.as_slice-said.ensures.value)
