use Rattle.std.proofs.Common.{rules}
use Rattle.script_reader.proofs.Joins.{part_taken, part_gone_on}
use Rattle.script_reader.proofs.reader.advance.Goals as goal

pub returns-then-branch-clause-step : goal.returns-then-branch-clause-step
returns-then-branch-clause-step g c = part_taken _ _ _ _ (g.S.Source.seen c.is_ready.new.source).left _ _ c.if-branch.true c.in_ok-is_ready.ensures.same c.in_ok-take_part.ensures.part

pub returns-else-branch-clause-step : goal.returns-else-branch-clause-step
returns-else-branch-clause-step g c = part_gone_on _ _ _ _ (g.S.Source.seen c.is_ready.new.source).left _ _ c.if-branch.false (search rules) c.in_ok-is_ready.ensures.same c.in_ok-take_part.ensures.part
