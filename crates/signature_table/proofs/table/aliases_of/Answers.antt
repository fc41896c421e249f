use Rattle.std.proofs.Common.{◌+◌, sym, subst, take}
use Rattle.signature_table.specs.Telling.{AreAliases}
use Rattle.signature_table.proofs.Aliases.{aliases_added, aliases_passed}
use Rattle.signature_table.proofs.table.aliases_of.Goals as goal
use Rattle.signature_table.proofs.table.aliases_of.Goals.{then-is_place+in_ok-add_rows, else-is_place}

pub loop-i-preserved : goal.loop-i-preserved
loop-i-preserved c = elim c.if-is_place.branch [
  | then-is_place+in_ok-add_rows w ↦
      subst (AreAliases (take (c.loop-i.i + 1) c.args.rows.now)) (sym w.aliases-is)
      (aliases_added c.args.rows.now c.args.places.now c.requires c.loop-i.i c.index-rows-i.result c.loop-i-test.true c.index-rows-i.is c.loop-i.aliases c.loop-i.invariant
      c.is_place.result c.index-rows-i.result.0 w.get.result.now w.as_slice.result.now w.add_rows.new.out c.is_place.ensures w.if-is_place.true w.get.ensures w.as_slice.ensures w.in_ok-add_rows.ensures)
  | else-is_place w ↦
      subst (AreAliases (take (c.loop-i.i + 1) c.args.rows.now)) (sym w.aliases-is)
      (aliases_passed c.args.rows.now c.args.places.now c.requires c.loop-i.i c.index-rows-i.result c.loop-i-test.true c.index-rows-i.is c.loop-i.aliases c.loop-i.invariant c.is_place.result c.is_place.ensures w.if-is_place.false)
]
