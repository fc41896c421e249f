use Rattle.std.proofs.Common.{◌≡◌, map, take}
use Rattle.signature_table.proofs.table.exports_of.Given as goal

abbrev pub invariant-loop-i : goal.invariant-loop-i
invariant-loop-i l = map (λ exports. exports.sig) l.all ≡ map (λ row. row.1) (take l.i l.rows)
