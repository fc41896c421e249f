use Rattle.expression_moves.proofs.Meeting.{branches_last}
use Rattle.expression_moves.proofs.branches.meet_branches.Goals as goal

pub loop-branch-preserved : goal.loop-branch-preserved
loop-branch-preserved c =
    branches_last _ _ _ _ _ c.in-Some.branch c.loop-branch.chosen.items c.pop.new.self.items c.loop-branch.read c.in_ok-read.read _ c.meet_branch.new.state c.loop-branch.invariant c.in-Some.ensures.items c.in_ok-read.ensures.told c.in_ok-read.ensures.around c.in_ok-read.ensures.follows
