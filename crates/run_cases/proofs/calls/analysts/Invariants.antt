use Rattle.std.proofs.Common.{◌≡◌, length}
use Rattle.run_cases.proofs.calls.analysts.Given as goal

abbrev pub invariant-loop : goal.invariant-loop
invariant-loop l = length l.all.items ≡ l.counter
