use Rattle.std.proofs.Common.{◌≡◌, drop}
use Rattle.std.specs.List.{list_any}
use Rattle.type_terms.specs.Join.{level_is_any}
use Rattle.literal_reads.specs.View.{levels_seen}
use Rattle.literal_reads.proofs.choosing.has_any.Given as goal

-- no member before the place is `any`
abbrev pub invariant-loop-i : goal.invariant-loop-i
invariant-loop-i l = list_any level_is_any (levels_seen l.members) ≡ list_any level_is_any (levels_seen (drop l.i l.members))
