use Rattle.signature_table.proofs.Placing.{ArePlacesFrom}
use Rattle.signature_table.proofs.table.places_of.Given as goal

abbrev pub invariant-loop-i : goal.invariant-loop-i
invariant-loop-i l = ArePlacesFrom l.rows l.i l.places
