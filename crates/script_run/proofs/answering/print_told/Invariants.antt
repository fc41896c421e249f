use Rattle.script_run.proofs.Asked.{PrintsTo}
use Rattle.script_run.proofs.answering.print_told.Given as goal

abbrev pub invariant-loop-i : goal.invariant-loop-i
invariant-loop-i l = record { printed : PrintsTo l.asks l.told l.i l.fn.printed.items l.printed.items }
