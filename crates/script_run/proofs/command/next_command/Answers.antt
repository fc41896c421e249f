use Rattle.std.proofs.Common.{arith, ap, subst}
use Rattle.std.specs.Prelude.{Err}
use Rattle.script_line.specs.Says.{Says, SaysTooMany, SaysNothing}
use Rattle.script_run.specs.Transcript.{end_line, bad, many_asks, many}
use Rattle.script_run.proofs.command.next_command.Goals as goal

pub returns-then-taken-ge-MOST_LINES-clause-means : goal.returns-then-taken-ge-MOST_LINES-clause-means
returns-then-taken-ge-MOST_LINES-clause-means c = λ rest. many c.args.line.now rest (omega arith)

pub returns-in-Ok-End-clause-means : goal.returns-in-Ok-End-clause-means
returns-in-Ok-End-clause-means c = λ rest.
    end_line c.args.line.now rest (omega arith) c.requires
    (subst (λ l. Says c.args.line.now l) c.in-Ok-End.field-0-is (subst (λ b. Says b c.in-Ok-End.field-0) c.as_bytes.ensures c.in-Ok-End.ensures.says))

pub returns-in-Err-BadLine-clause-means : goal.returns-in-Err-BadLine-clause-means
returns-in-Err-BadLine-clause-means c = λ rest.
    bad c.args.line.now rest (omega arith) c.requires (subst SaysNothing c.as_bytes.ensures (c.in-Err-BadLine.ensures.bad (ap Err c.in-Err-BadLine.field-0-is)))

pub returns-in-Err-TooManyAsks-clause-means : goal.returns-in-Err-TooManyAsks-clause-means
returns-in-Err-TooManyAsks-clause-means c = λ rest.
    many_asks c.args.line.now rest c.in-Err-TooManyAsks.count (omega arith) c.requires
    (subst (λ b. SaysTooMany b c.in-Err-TooManyAsks.count) c.as_bytes.ensures (c.in-Err-TooManyAsks.ensures.many c.in-Err-TooManyAsks.count (ap Err c.in-Err-TooManyAsks.field-0-is)))
