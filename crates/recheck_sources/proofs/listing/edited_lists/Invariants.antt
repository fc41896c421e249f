use Rattle.std.proofs.Common.{◌≡◌, true, take}
use Rattle.check_values.specs.Roots.{paths_of}
use Rattle.check_phases.specs.payloads.specs.State.{program_of}
use Rattle.check_phases.specs.Phases.{lists_in}
use Rattle.recheck_sources.specs.Keeping.{IsInPlace}
use Rattle.recheck_sources.proofs.Loops.{AreEach, kept_at}
use Rattle.recheck_sources.proofs.listing.edited_lists.Given as goal

-- as far as the loop has come
abbrev pub invariant-loop-i : goal.invariant-loop-i
invariant-loop-i l = record {
  lists : l.lists.items ≡ take l.i (lists_in (paths_of l.root) (program_of l.root) l.parses);
  kept : l.stays ≡ true → AreEach (λ x list. IsInPlace (kept_at l.was.lists.items l.from l.fresh x) list) l.i l.lists.items;
}
