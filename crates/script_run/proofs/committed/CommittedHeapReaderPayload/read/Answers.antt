use Rattle.heap_core.specs.PlainHeaps.{plain_sound}
use Rattle.beside.specs.Writers.{meaning_in}
use Rattle.script_run.proofs.Latest.{committed_at}
use Rattle.script_run.proofs.committed.CommittedHeapReaderPayload.read.Goals as goal

pub returns-clause-payload : goal.returns-clause-payload
returns-clause-payload c = let writer = c.args.self.now.writer.now in committed_at (meaning_in writer) (plain_sound writer.plain) c.args.self.now.closed c.args.e c.latest.result c.requires c.latest.ensures
