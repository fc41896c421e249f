use Rattle.std.proofs.Common.{arith, List, ◌++◌, ap, ◌∙◌}
use Rattle.js_tree.specs.View.{exporteds_view}
use Rattle.js_tree.specs.declared.items.Exported.{Exported}
use Rattle.local_signatures.specs.Exports.{told_listed}
use Rattle.named_rows.specs.Seen.{seen}
use Rattle.sig_extract.specs.Seen.{binding_view, rows_told, told_there}
use Rattle.sig_extract.proofs.Listed.{told_all}
use Rattle.sig_extract.proofs.exporting.tell_names.Goals as goal

pub returns : goal.returns
returns c =
    let scope = seen binding_view c.args.scope.now.rows.items in
    let tells = told_there scope c.args.is_type c.args.specifier in
    let before = rows_told scope c.args.exports.now.items in
    told_all tells c.as_slice-names.result.now c.loop-i.i before (rows_told scope c.loop-i.exports.items) (omega arith) c.loop-i.invariant
    ∙ ap (λ (ns : List Exported). before ++ told_listed tells (exporteds_view ns)) c.as_slice-names.ensures
