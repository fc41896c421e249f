use Rattle.asked_exports.proofs.Gathered.{taken_rest}
use Rattle.asked_exports.proofs.asking.take_names.Goals as goal

pub returns-in-Some-clause-rest : goal.returns-in-Some-clause-rest
returns-in-Some-clause-rest c = taken_rest c.args.asked.now c.remove.new.self c.args.path.now c.in-Some.ensures.updates.0
