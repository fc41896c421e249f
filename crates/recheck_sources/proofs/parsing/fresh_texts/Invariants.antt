use Rattle.std.proofs.Common.{◌≡◌, map, take}
use Rattle.recheck_sources.specs.Keeping.{where_on}
use Rattle.recheck_sources.proofs.parsing.fresh_texts.Given as goal

-- the texts so far
abbrev pub invariant-loop-i : goal.invariant-loop-i
invariant-loop-i l = l.texts ≡ map (λ m. m.text) (where_on (take l.i l.fresh) (take l.i l.modules))
