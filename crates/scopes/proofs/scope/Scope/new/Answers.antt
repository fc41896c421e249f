use Rattle.scopes.proofs.Named.{none_seen}
use Rattle.scopes.proofs.scope.Scope.new.Goals as goal

pub returns : goal.returns
returns c = none_seen c.new.result.items c.new.ensures.items
