use Rattle.std.proofs.Common.{Ok, Err, Result, ◌∙◌}
use Rattle.std.specs.Result.{OnErr}
use Rattle.literal_reads.proofs.candidate.Candidate.ask_all.Goals as goal

on_err : {T E P : Type 0} (r : Result T E) → P → OnErr r P
on_err (Ok x) p = tt
on_err (Err y) p = p

pub returns-in_err-ask_given-clause-err : goal.returns-in_err-ask_given-clause-err
returns-in_err-ask_given-clause-err c = on_err c.from_residual.result (c.loop-i.i, c.in_err-ask_given.ensures.err ∙ c.loop-i.invariant)
