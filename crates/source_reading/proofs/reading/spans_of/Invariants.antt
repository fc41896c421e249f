use Rattle.std.proofs.Common.{◌≡◌, map, take}
use Rattle.source_reading.proofs.reading.spans_of.Given as goal

abbrev pub invariant-loop-i : goal.invariant-loop-i
invariant-loop-i l = l.spans ≡ map (λ t. t.span) (take l.i l.tokens)
