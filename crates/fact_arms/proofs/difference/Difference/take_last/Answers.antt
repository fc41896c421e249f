use Rattle.fact_arms.proofs.Moving.{goes_same}
use Rattle.fact_arms.proofs.difference.Difference.take_last.Goals as goal

pub returns-in_err-change-clause-goes : goal.returns-in_err-change-clause-goes
returns-in_err-change-clause-goes c = goes_same c.args.trail.now c.undo.new.self c.in_err-change.ensures.err
