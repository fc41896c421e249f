use Rattle.alias_table.specs.Table.{unfolded}
use Rattle.subtype_rules.proofs.Steps.{node_there}
use Rattle.subtype_rules.proofs.terms.Terms.open.Goals as goal

pub returns-in_ok-node-in-Some-clause-node : goal.returns-in_ok-node-in-Some-clause-node
returns-in_ok-node-in-Some-clause-node c = node_there (unfolded c.args.table.now) c.args.self.now.types c.args.self.now.nodes c.in-Some.m c.args.n c.in_ok-node-in-Some.node c.requires.nodes c.in_ok-node-in-Some.ensures.0 c.in_ok-node-in-Some.ensures.1
