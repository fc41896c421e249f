use Rattle.refine_flow.proofs.Found.{rises_if}
use Rattle.refine_flow.proofs.among.Among.new.Goals as goal

pub invariant_of-result : goal.invariant_of-result
invariant_of-result c = record { rising = rises_if c.args.numbers.now c.is_sorted.result c.is_sorted.ensures.cases }
