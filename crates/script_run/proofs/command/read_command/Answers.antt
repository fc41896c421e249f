use Rattle.std.proofs.Common.{ap}
use Rattle.std.specs.Prelude.{Err}
use Rattle.script_run.proofs.Commands.{next_reads, none_reads, reads_long}
use Rattle.script_run.proofs.command.read_command.Goals as goal

pub returns-in-Ok-None-clause-reads : goal.returns-in-Ok-None-clause-reads
returns-in-Ok-None-clause-reads g c = none_reads c.args.taken c.in-Ok-None.field-0 _ c.in-Ok-None.field-0-is c.in-Ok-None.ensures.end

pub returns-in-Ok-Some-clause-reads : goal.returns-in-Ok-Some-clause-reads
returns-in-Ok-Some-clause-reads g c =
    next_reads c.next_command.result c.args.taken c.in-Ok-Some.field-0 c.in-Ok-Some.line _ _ c.in-Ok-Some.field-0-is c.in-Ok-Some.ensures.line c.in-Ok-Some.ensures.short c.next_command.ensures.means

pub returns-in-Err-TooLong-clause-reads : goal.returns-in-Err-TooLong-clause-reads
returns-in-Err-TooLong-clause-reads g c = reads_long c.past_limit.result c.args.taken _ (c.in-Err-TooLong.ensures.long (ap Err c.in-Err-TooLong.field-0-is)) c.past_limit.ensures
