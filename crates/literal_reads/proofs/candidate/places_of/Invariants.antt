use Rattle.std.proofs.Common.{drop}
use Rattle.literal_reads.specs.Keys.{HasProps}
use Rattle.literal_reads.proofs.candidate.places_of.Given as goal

-- the places of the properties from here on
abbrev pub invariant-loop-i : goal.invariant-loop-i
invariant-loop-i l = HasProps l.places l.i (drop l.i l.props)
