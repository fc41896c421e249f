-- What the program answers to its words, over ends that tell nothing.
use Rattle.std.specs.Prelude.{◌≡◌, List, Option, None}
use Rattle.std.specs.Process.{exit_status}
use Rattle.std.specs.declared.process.ExitCode.{ExitCode}
use Rattle.flow_base.specs.Causes.{raised, Counts}
use Rattle.flow_base.specs.Program.{Bytes}
use Rattle.flow_base.specs.Seen.{Outside, outside, folder_seen}
use Rattle.flow_base.specs.declared.outside.LastFault.TheVariants.{Never}
use Rattle.flowd_top.specs.Run.{Leaves, Server}
use Rattle.flowd_top.specs.Statuses.{status_number}
use Rattle.flowd_top.specs.declared.status.Status.{Status}
use Rattle.flowd_top.specs.declared.status.Status.TheVariants as status

-- the real ends before the run: they tell nothing and have not failed
abbrev pub untouched : Outside
untouched = outside (folder_seen None 0 Never) (record { left = None; faults = 0 }) (record { written = None; faults = 0 })

-- the status is what a run with these words over the real ends answers
pub record IsAnswer (words : List Bytes) (result : Status) : Type 0 where
  pub now : Outside
  pub kept : Option Server
  pub leaves : Leaves result words untouched now kept
  pub script_counts : Counts (result ≡ status.ScriptFault) 0 now.script.faults
  pub sink_counts : Counts (result ≡ status.SinkFault) 0 now.out.faults
  pub folder_fault : result ≡ status.FolderFault → now.folder.faults ≡ raised 0

-- the same with some words, as the system gives them
abbrev pub HasAnswered : Status → Type 0
HasAnswered result = (words : List Bytes) × IsAnswer words result

-- the process ends with the number of such a status
abbrev pub EndsWith : ExitCode → Type 0
EndsWith code = (result : Status) × HasAnswered result × (exit_status code ≡ status_number result)
