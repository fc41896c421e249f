use Rattle.std.proofs.Common.{◌≡◌, take}
use Rattle.check_phases.proofs.Fronts.{SayTheirs}
use Rattle.recheck_sources.specs.Keeping.{IsInPlace}
use Rattle.recheck_sources.proofs.Counted.{ons}
use Rattle.recheck_sources.proofs.Loops.{AreEach, kept_at}
use Rattle.recheck_sources.proofs.parsing.placed_parses.Given as goal

-- as far as the loop has come
abbrev pub invariant-loop-i : goal.invariant-loop-i
invariant-loop-i l = record {
  parses : SayTheirs (take l.i l.root.modules) l.parses.items;
  kept : AreEach (λ x parse. IsInPlace (kept_at l.was.parses.items l.from l.fresh x) parse) l.i l.parses.items;
  next : l.next ≡ ons (take l.i l.fresh);
}
