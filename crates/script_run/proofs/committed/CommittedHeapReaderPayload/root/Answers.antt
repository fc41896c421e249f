use Rattle.heap_core.specs.PlainHeaps.{plain_sound}
use Rattle.beside.specs.Writers.{meaning_in}
use Rattle.script_run.proofs.Latest.{committed_at}
use Rattle.script_run.proofs.committed.CommittedHeapReaderPayload.root.Goals as goal

pub returns-clause-payload : goal.returns-clause-payload
returns-clause-payload c =
    let writer = c.args.self.now.writer.now in
    let sound = plain_sound writer.plain in
    committed_at (meaning_in writer) sound c.args.self.now.closed 0 c.latest.result sound.some_entity c.latest.ensures
