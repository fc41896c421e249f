use Rattle.std.proofs.Common.{arith, List, ◌++◌, ap, ◌∙◌}
use Rattle.js_tree.specs.View.{importeds_view}
use Rattle.js_tree.specs.declared.items.Imported.{Imported}
use Rattle.local_signatures.specs.Scope.{bound_importeds}
use Rattle.named_rows.specs.Seen.{seen}
use Rattle.sig_extract.specs.Seen.{binding_view}
use Rattle.sig_extract.proofs.Listed.{bound_all}
use Rattle.sig_extract.proofs.binding.bind_list.Goals as goal

pub returns : goal.returns
returns c =
    let before = seen binding_view c.args.rows.now.items in
    bound_all c.args.is_type c.args.specifier.now c.as_slice-names.result.now c.loop-i.i before (seen binding_view c.loop-i.rows.items) (omega arith) c.loop-i.invariant
    ∙ ap (λ (ns : List Imported). before ++ bound_importeds c.args.is_type c.args.specifier.now (importeds_view ns)) c.as_slice-names.ensures
