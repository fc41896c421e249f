use Rattle.std.proofs.Common.{◌≡◌, map, take}
use Rattle.sig_merge.specs.Merging.{type_in}
use Rattle.sig_merge.proofs.merging.aliases_of.Given as goal

abbrev pub invariant-loop-i : goal.invariant-loop-i
invariant-loop-i l = l.rows ≡ map (λ row. (row.0, type_in l.ends l.member.member.now row.1)) (take l.i l.aliases)
