use Rattle.fact_ways.proofs.Marks.{stands}
use Rattle.fact_ways.proofs.fork.stand.Goals as goal

pub returns-clause-leads : goal.returns-clause-leads
returns-clause-leads c =
    stands (record { mark = c.in_ok-mark.mark; arm = c.in_ok-arm.arm }) c.args.facts.now c.mark.new.self c.turn.new.self c.in_ok-mark.ensures.mark c.turn.ensures.marks c.in_ok-arm.ensures.arm.0
