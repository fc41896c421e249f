use Rattle.told_signature.proofs.FaultKeys.{fault_added}
use Rattle.told_signature.proofs.faulting.add_untyped.Goals as goal

pub returns-in_ok-insert-in-None : goal.returns-in_ok-insert-in-None
returns-in_ok-insert-in-None c =
    fault_added c.args.spans.now c.args.name.now c.in_ok-share-in-None.field-0 c.args.ty.now c.args.place c.span_of-span.result c.args.keys.now.keys c.insert.new.self.keys c.in-None.is c.span_of-span.ensures c.in_ok-share-in-None.ensures
    c.in_ok-insert-in-None.ensures.keys
