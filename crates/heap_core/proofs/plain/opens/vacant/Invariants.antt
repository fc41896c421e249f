use Rattle.std.proofs.Common.{◌≡◌, replicate, None}
use Rattle.heap_core.proofs.plain.opens.vacant.Given as goal

abbrev pub invariant-loop-i : goal.invariant-loop-i
invariant-loop-i g l = l.payloads.items ≡ replicate l._i None
