use Rattle.std.proofs.Common.{refl}
use Rattle.check_moves.specs.View.{now}
use Rattle.statement_moves.proofs.Outsides.{is_outside}
use Rattle.statement_moves.proofs.functions.enter_function.Goals as goal

pub returns-clause-outside : goal.returns-clause-outside
unfolding now
returns-clause-outside c =
    is_outside _ c.args.state.now (record c.args.state.now { facts = c.begin_function.new.self; returned = c.replace-returned.new.dest; breaks = c.take-breaks.new.self }) c.enter_names.new.state refl
    c.in_ok-mark.ensures.mark c.height-height.ensures.top c.in_ok-depth.ensures.follows c.in_ok-depth.ensures.depth c.in_ok-depth.ensures.wanted
    c.replace-returned.ensures.value c.take-breaks.ensures.value c.is_stopped-stopped.ensures
