use Rattle.script_reader.specs.Lines.{lines_left}
use Rattle.script_run.proofs.Walks.{on_err, may_take, breaks_turn, breaks_end}
use Rattle.script_run.proofs.walk.step.Goals as goal

pub returns-in_err-answer-in-Takes-clause-breaks : goal.returns-in_err-answer-in-Takes-clause-breaks
returns-in_err-answer-in-Takes-clause-breaks g c =
    on_err c.from_residual-in_err-answer-in-Takes.result _
    (breaks_turn c.args.session.now.waiting.capacity c.in_ok-line.field-0 c.in-Takes.line c.args.taken (lines_left c.args.reader.now (g.S.Source.seen c.args.script.now).left)
    (lines_left c.read_command.new.reader (g.S.Source.seen c.read_command.new.script).left) _ _ _ c.in-Takes.is c.in_ok-line.ensures.reads c.in_err-answer-in-Takes.ensures.breaks)

pub returns-in_err-close-in-Ends-clause-breaks : goal.returns-in_err-close-in-Ends-clause-breaks
returns-in_err-close-in-Ends-clause-breaks g c =
    on_err c.from_residual-in_err-close-in-Ends.result _
    (breaks_end c.args.session.now.waiting.capacity c.in_ok-line.field-0 c.in-Ends.ending c.args.taken (lines_left c.args.reader.now (g.S.Source.seen c.args.script.now).left)
    (lines_left c.read_command.new.reader (g.S.Source.seen c.read_command.new.script).left) _ _ _ c.in-Ends.is c.in_ok-line.ensures.reads c.close.ensures.front)

pub answer-requires-clause-pins : goal.answer-requires-clause-pins
answer-requires-clause-pins g c κs within =
    may_take c.in_ok-line.field-0 c.in-Takes.line c.args.taken (lines_left c.args.reader.now (g.S.Source.seen c.args.script.now).left) (lines_left c.read_command.new.reader (g.S.Source.seen c.read_command.new.script).left)
    c.args.session.now.lanes c.in-Takes.is c.in_ok-line.ensures.reads c.requires.pins
