use Rattle.std.proofs.Common.{map, None}
use Rattle.std.specs.Prelude.{string_bytes}
use Rattle.flow_base.specs.Seen.{outside, folder_seen}
use Rattle.flowd.proofs.Answering.{answered}
use Rattle.flowd.proofs.answer.answer.Goals as goal

pub returns : goal.returns
returns g c =
    answered (map string_bytes c.args.words.now) c.flowd-status.result c.folder_of-folder.result.faults c.folder_of-folder.result.last c.new-script.result.faults c.new-out.result.faults
    (outside (folder_seen None c.flowd-status.new.folder.faults c.flowd-status.new.folder.last) (record { left = None; faults = c.flowd-status.new.script.faults }) (record { written = None; faults = c.flowd-status.new.out.faults })) c.flowd-status.new.kept
    c.folder_of-folder.ensures.faults c.folder_of-folder.ensures.last_fault c.new-script.ensures c.new-out.ensures c.flowd-status.ensures.printed c.flowd-status.ensures.script_counts c.flowd-status.ensures.sink_counts
    c.flowd-status.ensures.folder_fault
