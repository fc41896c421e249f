use Rattle.check_module.proofs.Reading.{watched_some, watched_none}
use Rattle.check_module.proofs.checker.Checker.watched.Goals as goal

pub returns-in-Some : goal.returns-in-Some
returns-in-Some c = watched_some c.args.self.now c.watched.result c.in-Some.seen c.watched.ensures c.in-Some.is

pub returns-in-None : goal.returns-in-None
returns-in-None c = watched_none c.args.self.now c.watched.result c.watched.ensures c.in-None.is
