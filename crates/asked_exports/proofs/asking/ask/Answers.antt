use Rattle.asked_exports.proofs.Gathered.{one_asked}
use Rattle.asked_exports.proofs.asking.ask.Goals as goal

pub returns : goal.returns
returns c =
    one_asked c.args.asked.now c.take_names-names.new.asked c.insert.new.self c.args.path.now _ c.args.name.now _ c.take_names-names.result _ c.take_names-names.ensures.names c.take_names-names.ensures.rest c.in_ok-share.ensures c.in_ok-push.ensures.ok
    c.in_ok-share-2.ensures c.in_ok-insert.ensures.updates.0
