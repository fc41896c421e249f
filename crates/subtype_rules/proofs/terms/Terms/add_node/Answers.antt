use Rattle.std.proofs.Common.{◌∙◌}
use Rattle.alias_table.specs.Table.{unfolded}
use Rattle.subtype_rules.proofs.Steps.{node_made, nodes_made}
use Rattle.subtype_rules.proofs.terms.Terms.add_node.Goals as goal

pub returns-clause-node : goal.returns-clause-node
returns-clause-node c = node_made (unfolded c.args.table.now) c.args.self.now.types _ c.args.n c.in_ok-t.t c.in_ok-made.made c.in_ok-node.node c.in_ok-t.ensures c.in_ok-made.ensures.grows c.in_ok-made.ensures.opened c.in_ok-node.ensures

pub returns-clause-nodes : goal.returns-clause-nodes
returns-clause-nodes c = nodes_made (unfolded c.args.table.now) c.args.self.now.types _ c.args.self.now.nodes _ _ c.args.n c.in_ok-t.t c.in_ok-made.made c.in_ok-more.more c.requires.nodes c.in_ok-made.ensures.grows c.in_ok-t.ensures
    c.in_ok-made.ensures.opened c.in_ok-made.ensures.number c.in_ok-made.ensures.nodes (c.in_ok-more.ensures ∙ c.in_ok-node.ensures) c.in_ok-push.ensures.ok
