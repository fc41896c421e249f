use Rattle.std.proofs.Common.{◌≡◌, take, filter}
use Rattle.std.specs.List.{list_any}
use Rattle.alias_table.specs.Members.{seen}
use Rattle.subtype_rules.specs.Answer.{below}
use Rattle.refine_flow.proofs.facts.reached_among.Given as goal

-- those so far that some member of the value's type is below
abbrev pub invariant-loop-i : goal.invariant-loop-i
invariant-loop-i l = l.all ≡ filter (λ d. list_any (λ u. below l.table u d) (seen l.given)) (seen (take l.i l.wanted))
