use Rattle.std.proofs.Common.{◌∙◌, sym, ap}
use Rattle.std.specs.List.{flat_map}
use Rattle.alias_table.specs.Aliases.{names_of}
use Rattle.alias_table.specs.Indexing.{place_at, are_placed}
use Rattle.alias_table.proofs.NameLemmas.{names_union}
use Rattle.alias_table.proofs.Placed.{placed_more, one_lacks}
use Rattle.alias_table.proofs.aliases.+placed.Goals as goal

pub are_placed-returns-then-not-is_placed : goal.are_placed-returns-then-not-is_placed
are_placed-returns-then-not-is_placed t c =
    one_lacks (place_at c.args.modules.now) names_of c.args.all.now c.loop-i.i c.index-all-i.result c.loop-i-test.true c.index-all-i.is (sym c.is_placed.ensures ∙ c.if-not-is_placed.true)

pub are_placed-loop-i-preserved : goal.are_placed-loop-i-preserved
are_placed-loop-i-preserved t c =
    placed_more (place_at c.args.modules.now) names_of c.args.all.now c.loop-i.i c.index-all-i.result c.loop-i-test.true c.index-all-i.is c.loop-i.invariant (sym c.is_placed.ensures ∙ c.if-not-is_placed.false)

pub is_placed-returns-in-Union : goal.is_placed-returns-in-Union
is_placed-returns-in-Union t c =
    c.are_placed.ensures ∙ ap (are_placed (place_at c.args.modules.now)) (ap (flat_map names_of) c.as_slice.ensures ∙ sym (ap names_of c.in-Union.is ∙ names_union _))
