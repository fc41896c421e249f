use Rattle.std.proofs.Common.{None}
use Rattle.std.proofs.lemmas.Result.{IfOk-weaker}
use Rattle.check_moves.proofs.Following.{follows_through}
use Rattle.expression_moves.proofs.Rounds.{follows_round}
use Rattle.expression_moves.proofs.branches.meet_branch.Goals as goal

pub returns-clause-follows : goal.returns-clause-follows
returns-clause-follows c =
    let met = follows_round c.args.branch.fork c.args.rest.fork None c.args.state.now c.after.new.self c.meet.new.self c.requires.nested c.in_ok-rest.ensures.follows c.in_ok-meet.ensures.follows in
    IfOk-weaker c.noted.result _ _ (λ r. follows_through _ _ r.fork _ _ c.noted.new.self met) c.noted.ensures.follows
