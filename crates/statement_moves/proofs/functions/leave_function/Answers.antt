use Rattle.statement_moves.proofs.Outsides.{follows_left_function}
use Rattle.statement_moves.proofs.functions.leave_function.Goals as goal

pub returns-clause-follows : goal.returns-clause-follows
returns-clause-follows c before outside =
    follows_left_function c.args.outside before c.args.state.now _ outside c.leave_names.ensures.heights c.in_ok-end_function.ensures.marks
