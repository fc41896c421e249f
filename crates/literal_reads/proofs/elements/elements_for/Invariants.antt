use Rattle.literal_reads.proofs.Lists.{AreLists}
use Rattle.literal_reads.proofs.elements.elements_for.Given as goal

abbrev pub invariant-loop-i : goal.invariant-loop-i
invariant-loop-i l = AreLists l.members l.i l.found
