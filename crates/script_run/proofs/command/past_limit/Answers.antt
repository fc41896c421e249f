use Rattle.std.proofs.Common.{arith}
use Rattle.script_run.specs.Transcript.{long, many}
use Rattle.script_run.proofs.command.past_limit.Goals as goal

pub returns-then-taken-ge-MOST_LINES : goal.returns-then-taken-ge-MOST_LINES
returns-then-taken-ge-MOST_LINES c = λ bytes rest over. many bytes rest (omega arith)

pub returns-else-taken-ge-MOST_LINES : goal.returns-else-taken-ge-MOST_LINES
returns-else-taken-ge-MOST_LINES c = λ bytes rest over. long bytes rest (omega arith) over
