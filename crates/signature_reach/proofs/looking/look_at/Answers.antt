use Rattle.std.proofs.Common.{sym, ◌∙◌}
use Rattle.check_values.specs.Roots.{paths_of_rows}
use Rattle.check_values.specs.Rows.{row_at}
use Rattle.signature_reach.specs.Along.{signed}
use Rattle.signature_reach.proofs.Signed.{signed_among}
use Rattle.signature_reach.proofs.Seen.{none_grows, one_grows, one_met, not_there, ok_then}
use Rattle.signature_reach.proofs.looking.look_at.Goals as goal

pub returns-in_ok-share-in-Some-clause-grows : goal.returns-in_ok-share-in-Some-clause-grows
returns-in_ok-share-in-Some-clause-grows c =
    let says = sym c.in-Some.is ∙ c.in_ok-sig.ensures in
    ok_then c.push.result
    (one_grows (row_at (signed c.args.modules.now c.args.signatures.now)) (paths_of_rows c.args.modules.now) c.args.path.now c.in_ok-share.field-0 c.args.seen.now c.insert.new.self c.args.found.now c.in_ok-share.ensures c.requires.known c.in_ok-insert.ensures.updates c.in_ok-share-in-Some.field-0
    c.in-Some.sig c.push.new.self c.in_ok-share-in-Some.ensures says (not_there c.in_ok-insert.field-0 _ c.in_ok-insert.ensures.added c.if-not-branch.false) (signed_among c.args.modules.now c.args.signatures.now c.args.path.now c.in-Some.sig (sym says)))
    c.push.ensures.ok

pub returns-in_ok-share-in-Some-clause-met : goal.returns-in_ok-share-in-Some-clause-met
returns-in_ok-share-in-Some-clause-met c =
    let says = sym c.in-Some.is ∙ c.in_ok-sig.ensures in
    ok_then c.push.result
    (one_met (row_at (signed c.args.modules.now c.args.signatures.now)) (paths_of_rows c.args.modules.now) c.args.path.now c.in_ok-share.field-0 c.args.seen.now c.insert.new.self c.args.found.now c.in_ok-share.ensures c.requires.known c.in_ok-insert.ensures.updates c.in_ok-share-in-Some.field-0
    c.in-Some.sig c.push.new.self c.in_ok-share-in-Some.ensures says)
    c.push.ensures.ok

pub returns-in-None-clause-grows : goal.returns-in-None-clause-grows
returns-in-None-clause-grows c =
    none_grows (row_at (signed c.args.modules.now c.args.signatures.now)) (paths_of_rows c.args.modules.now) c.args.path.now c.in_ok-share.field-0 c.args.seen.now c.insert.new.self c.args.found.now c.in_ok-share.ensures c.requires.known c.in_ok-insert.ensures.updates (sym c.in-None.is ∙ c.in_ok-sig.ensures)
