use Rattle.std.proofs.Common.{◌≡◌, false, take}
use Rattle.std.specs.List.{list_any}
use Rattle.alias_table.specs.Members.{seen}
use Rattle.subtype_rules.specs.Answer.{below}
use Rattle.refine_flow.proofs.facts.some_below.Given as goal

-- none so far is below the other type
abbrev pub invariant-loop-i : goal.invariant-loop-i
invariant-loop-i l = list_any (λ t. below l.table t l.other) (seen (take l.i l.all)) ≡ false
