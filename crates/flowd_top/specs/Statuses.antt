-- The statuses.
use Rattle.std.specs.Prelude.{ℕ}
use Rattle.flowd_top.specs.declared.status.Status.{Status}
use Rattle.flowd_top.specs.declared.status.Status.TheVariants.{Clean, Errors, Usage, BadLine, FolderFault, ScriptFault, SinkFault, Limit, NoMemory}

-- the number of a status
abbrev pub status_number : Status → ℕ
status_number Clean = 0
status_number Errors = 2
status_number Usage = 64
status_number BadLine = 65
status_number FolderFault = 66
status_number ScriptFault = 67
status_number SinkFault = 68
status_number Limit = 69
status_number NoMemory = 70
