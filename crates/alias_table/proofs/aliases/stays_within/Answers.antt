use Rattle.std.proofs.Common.{◌∙◌, sym}
use Rattle.alias_table.specs.Aliases.{Row, names_of}
use Rattle.alias_table.specs.Indexing.{place_at}
use Rattle.alias_table.proofs.Placed.{placed_more, one_lacks}
use Rattle.alias_table.proofs.aliases.stays_within.Goals as goal

pub returns-then-not-is_placed : goal.returns-then-not-is_placed
returns-then-not-is_placed c =
    one_lacks (place_at c.args.modules.now) (λ (row : Row). names_of row.2) c.args.rows.now c.loop-i.i c.index-rows-i.result c.loop-i-test.true c.index-rows-i.is (sym c.is_placed.ensures ∙ c.if-not-is_placed.true)

pub loop-i-preserved : goal.loop-i-preserved
loop-i-preserved c =
    placed_more (place_at c.args.modules.now) (λ (row : Row). names_of row.2) c.args.rows.now c.loop-i.i c.index-rows-i.result c.loop-i-test.true c.index-rows-i.is c.loop-i.invariant (sym c.is_placed.ensures ∙ c.if-not-is_placed.false)
