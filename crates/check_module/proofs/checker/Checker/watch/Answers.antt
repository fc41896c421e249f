use Rattle.check_module.proofs.Reading.{watches, watches_world}
use Rattle.check_module.proofs.checker.Checker.watch.Goals as goal

pub returns-clause-stays : goal.returns-clause-stays
returns-clause-stays c = λ p m is. watches c.args.self.now.around c.args.at p m is

pub returns-clause-world : goal.returns-clause-world
returns-clause-world c = watches_world c.args.self.now.around c.args.at
