use Rattle.std.proofs.Common.{sym, ◌∙◌}
use Rattle.alias_table.specs.Table.{unfolded}
use Rattle.subtype_rules.proofs.Opened.{ways_read}
use Rattle.subtype_rules.proofs.collecting.ways.Goals as goal

pub returns-clause-ways : goal.returns-clause-ways
returns-clause-ways c = ways_read (unfolded c.args.table.now) c.args.terms.now.types _ _ c.args.link c.in_ok-a.a c.in_ok-b.b c.in_ok-x.x c.in_ok-y.y _ _ c.in_ok-all.all c.in_ok-a.ensures c.in_ok-b.ensures (sym c.is_free.ensures ∙ c.if-is_free.false)
    c.in_ok-x.ensures.grows c.in_ok-x.ensures.node c.in_ok-y.ensures.grows c.in_ok-y.ensures.node c.get.ensures c.get-2.ensures c.in_ok-all.ensures
