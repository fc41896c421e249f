use Rattle.std.proofs.Common.{take}
use Rattle.std.specs.List.{list_any}
use Rattle.flow_facts.specs.Known.{without, is_named}
use Rattle.refine_flow.specs.Standing.{Changes}
use Rattle.refine_flow.proofs.facts.Facts.forget_names.Given as goal

-- those so far are dropped
abbrev pub invariant-loop-i : goal.invariant-loop-i
invariant-loop-i l = Changes (without (λ q. list_any (λ x. is_named x q) (take l.i l.names))) l.fn.self l.self
