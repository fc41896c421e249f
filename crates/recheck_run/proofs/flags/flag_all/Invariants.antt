use Rattle.std.proofs.Common.{take}
use Rattle.graph_search.specs.Searching.{Marks}
use Rattle.recheck_run.proofs.flags.flag_all.Given as goal

abbrev pub invariant-loop-number : goal.invariant-loop-number
invariant-loop-number l = Marks (take l.number-index l.numbers) l.fn.flags l.flags
