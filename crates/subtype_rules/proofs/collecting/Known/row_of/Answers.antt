use Rattle.alias_table.specs.Table.{unfolded}
use Rattle.subtype_rules.proofs.Linked.{row_given}
use Rattle.subtype_rules.proofs.Steps.{link_left, link_right}
use Rattle.subtype_rules.proofs.collecting.Known.row_of.Goals as goal

pub ways-requires-clause-left : goal.ways-requires-clause-left
ways-requires-clause-left c = link_left c.args.self.now.terms.types c.args.self.now.links.all c.args.k c.at-link.result c.requires.linked c.at-link.ensures

pub ways-requires-clause-right : goal.ways-requires-clause-right
ways-requires-clause-right c = link_right c.args.self.now.terms.types c.args.self.now.links.all c.args.k c.at-link.result c.requires.linked c.at-link.ensures

pub returns-clause-row : goal.returns-clause-row
returns-clause-row c = row_given (unfolded c.args.table.now) c.args.self.now.terms.types _ _ c.args.self.now.links.all _ c.args.k c.at-link.result c.in_ok-all.all _ c.in_ok-row.row c.in_ok-all.ensures.grows c.at-link.ensures
    c.in_ok-all.ensures.ways c.as_slice.ensures c.as_slice-2.ensures c.in_ok-row.ensures.adds c.in_ok-row.ensures.numbers
