use Rattle.named_modules.proofs.Parts.{named_added}
use Rattle.named_modules.proofs.PathsIn.{ok_then}
use Rattle.named_modules.proofs.naming.add_named.Goals as goal

pub returns : goal.returns
returns c =
    ok_then c.add_aliases.result
    (named_added c.args.sig.now c.as_slice.result.now c.as_slice-2.result.now c.args.out.now c.add_exports.new.out c.add_aliases.new.out c.as_slice.ensures c.as_slice-2.ensures c.in_ok-add_exports.ensures)
    c.add_aliases.ensures
