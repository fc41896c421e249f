use Rattle.scopes.proofs.Meanings.{since_some, since_none}
use Rattle.scopes.proofs.scope.Scope.binds_since.Goals as goal

pub returns-in-Some : goal.returns-in-Some
returns-in-Some c = since_some c.args.self.now.rows.items c.args.name.now c.args.height.rows c.in-Some.at c.in-Some.ensures

pub returns-in-None : goal.returns-in-None
returns-in-None c = since_none c.args.self.now.rows.items c.args.name.now c.args.height.rows c.in-None.ensures
