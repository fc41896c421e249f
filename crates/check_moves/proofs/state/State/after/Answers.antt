use Rattle.check_moves.proofs.state.State.after.Goals as goal

pub returns-clause-follows : goal.returns-clause-follows
returns-clause-follows c = c.in_ok-meet_both.ensures.follows
