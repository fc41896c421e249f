use Rattle.code_changes.proofs.Telling.{own_set}
use Rattle.code_changes.proofs.walk.Walk.set_variable.Goals as goal

pub returns-then-contains : goal.returns-then-contains
returns-then-contains c = own_set c.args.self.now c.args.name.now c.contains.result c.contains.ensures c.if-contains.true
