-- What a run of the program prints, how it ends, and what it keeps. The words say where the modules come from, how many there may be, and
-- on how many lanes questions are answered.
use Rattle.std.specs.Prelude.{◌≡◌, ◌⊎◌, ◌==◌, ◌<◌, ◌≤◌, ℕ, List, [], ◌++◌, length, Option, Some, None, if◌then◌else◌}
use Rattle.flow_base.specs.Causes.{RoseBy}
use Rattle.flow_base.specs.Program.{Bytes, Program}
use Rattle.flow_base.specs.Outside.{appended, HoldsFront}
use Rattle.flow_base.specs.Seen.{Outside}
use Rattle.command_words.specs.Words.{Says, AreOfCommand, usage_line}
use Rattle.command_words.specs.declared.command.Command.{Command}
use Rattle.command_words.specs.declared.command.Form.TheVariants.{Folder, Generated}
pub use Rattle.generated_run.specs.Script.{Server}
use Rattle.generated_run.specs.Script.{meaning_in, LaneUse, IsIdle, uses_of, HasErrorCount, program_in, MayList, IsRun, RoseByAtLeast, HasRun, HasStopped, HasFront}
use Rattle.script_print.specs.Printed.{files_line}
use Rattle.generated_run.specs.WalkEnd.{WalkEnd}
use Rattle.generated_run.specs.WalkEnd.TheVariants as ending
use Rattle.script_reader.specs.Lines.{lines_left}
use Rattle.generated_run.specs.Run.{IsGeneratedRun, HasGenerated, HasGeneratedFront}
use Rattle.flowd_top.specs.declared.status.Status.{Status}
use Rattle.flowd_top.specs.declared.status.Status.TheVariants as status

-- the words tell this command, whose modules come from a folder
abbrev pub NamesFolder : List Bytes → Command → Type 0
NamesFolder words c = (place : ℕ) × Says words c × (c.form ≡ Folder place)

-- they tell this one, for which so many modules are made up by a seed
abbrev pub MakesUp : List Bytes → Command → ℕ → ℕ → Type 0
MakesUp words c n seed = Says words c × (c.form ≡ Generated n seed)

-- the status of a run that ended like this, where the program that was committed last has so many errors
abbrev pub status_after : WalkEnd → ℕ → Status
status_after ending.Finished errors = if errors == 0 then status.Clean else status.Errors
status_after ending.BadLine errors = status.BadLine
status_after ending.LongLine errors = status.Limit
status_after ending.ManyLines errors = status.Limit
status_after (ending.ManyAsks count) errors = status.Limit

-- ---- what is kept

-- where a run ended: the program that was committed last, its version, and what each lane has answered
pub record RunEnd : Type 0 where
  pub program : Program
  pub version : ℕ
  pub lanes : List LaneUse

-- where a run ended on a server that is as it left it
abbrev pub end_of : Server → RunEnd
end_of server = let m = meaning_in server.writer in record { program = program_in m.committed; version = m.version; lanes = uses_of server.lanes }

-- what is left of a run: where it ended, if it was not cut short
abbrev pub left_after : WalkEnd → RunEnd → Option RunEnd
left_after ending.Finished end = Some end
left_after ending.BadLine end = None
left_after ending.LongLine end = None
left_after ending.ManyLines end = None
left_after (ending.ManyAsks count) end = None

-- two runs that were not cut short ended at one program and one version
abbrev pub EndsAlike : Option RunEnd → Option RunEnd → Type 0
EndsAlike (Some x) (Some y) = (x.program ≡ y.program) × (x.version ≡ y.version)
EndsAlike x y = x ≡ y

-- a server on which a run ended here: it has the writer and all lanes of one heap, and no transaction is open
pub record IsLeft (end : RunEnd) (server : Server) : Type 0 where
  pub idle : IsIdle server
  pub ended : end_of server ≡ end

-- the server of a run is kept, if it was not cut short
abbrev pub Keeps : Option RunEnd → Option Server → Type 0
Keeps (Some end) kept = (server : Server) × (kept ≡ Some server) × IsLeft end server
Keeps None kept = kept ≡ None

-- ---- transcripts

-- What a run with these words prints, its read faults, its status and what is left of it, over a folder and a script that may tell what they
-- hold: the usage line; the line of a folder of too many files; the load, the answers to the script's lines, and the last line of a walk
-- that was cut short; or what a run on made-up modules prints.
pub data IsTranscript (words : List Bytes) (told : Option Program) (script : Option (List Bytes)) : ℕ → Bytes → Status → Option RunEnd → Type 0 where
  no_command : (AreOfCommand words → ⊥) → IsTranscript words told script 0 usage_line status.Usage None
  many_files : (c : Command) (listed : List Bytes) → NamesFolder words c → MayList told listed → c.modules < length listed
      → IsTranscript words told script 0 (files_line (length listed)) status.Limit None
  runs : (c : Command) (listed : List Bytes) (faults : ℕ) (printed : Bytes) (how : WalkEnd) (end : RunEnd) (errors : ℕ) → NamesFolder words c → MayList told listed
      → length listed ≤ c.modules → IsRun c.modules c.lanes told listed script faults printed how end.program end.version end.lanes → HasErrorCount end.program errors
      → IsTranscript words told script faults printed (status_after how errors) (left_after how end)
  generates : (c : Command) (n seed : ℕ) (printed : Bytes) (end : RunEnd) (errors : ℕ) → MakesUp words c n seed → IsGeneratedRun c.modules c.lanes n seed printed end.program end.version end.lanes
      → HasErrorCount end.program errors → IsTranscript words told script 0 printed (status_after ending.Finished errors) (Some end)

-- what was printed goes on to a whole transcript with so many read faults
pub record GoesOnTo (words : List Bytes) (told : Option Program) (script : Option (List Bytes)) (faults : ℕ) (printed : Bytes) : Type 0 where
  pub more : Bytes
  pub how : Status
  pub left : Option RunEnd
  pub transcript : IsTranscript words told script faults (printed ++ more) how left

-- A whole transcript with this status was printed, the folder counted exactly the read faults that it has, and the server of its run is
-- kept, where it has one that was not cut short.
pub record HasPrinted (how : Status) (words : List Bytes) (before now : Outside) (kept : Option Server) : Type 0 where
  pub read_faults : ℕ
  pub printed : Bytes
  pub left : Option RunEnd
  pub transcript : IsTranscript words before.folder.told (lines_left [] before.script.left) read_faults printed how left
  pub written : now.out.written ≡ appended before.out.written printed
  pub counted : RoseBy read_faults before.folder.faults now.folder.faults
  pub keeps : Keeps left kept

-- the script failed: the load and the answers to all whole lines that it gave were printed
pub record HasHalted (words : List Bytes) (before now : Outside) : Type 0 where
  pub command : Command
  pub listed : List Bytes
  pub names : NamesFolder words command
  pub lists : MayList before.folder.told listed
  pub few : length listed ≤ command.modules
  pub stopped : HasStopped command.modules command.lanes listed before now

-- nothing was printed, or a front of a whole transcript, one with no more read faults than the folder counted
pub data HasPrintedFront (words : List Bytes) (before now : Outside) : Type 0 where
  nothing_printed : now.out.written ≡ before.out.written → HasPrintedFront words before now
  front_printed : (faults : ℕ) (printed : Bytes) (how : Status) (left : Option RunEnd) → IsTranscript words before.folder.told (lines_left [] before.script.left) faults printed how left
      → HoldsFront before.out.written now.out.written printed → RoseByAtLeast faults before.folder.faults now.folder.faults → HasPrintedFront words before now

-- What a run with this status leaves. The server is kept where the script was not cut short, and else none is.
abbrev pub Leaves : Status → List Bytes → Outside → Outside → Option Server → Type 0
Leaves status.Clean words before now kept = HasPrinted status.Clean words before now kept
Leaves status.Errors words before now kept = HasPrinted status.Errors words before now kept
Leaves status.Usage words before now kept = HasPrinted status.Usage words before now kept
Leaves status.BadLine words before now kept = HasPrinted status.BadLine words before now kept
Leaves status.FolderFault words before now kept = (now.out.written ≡ before.out.written) × (kept ≡ None)
Leaves status.ScriptFault words before now kept = HasHalted words before now × (kept ≡ None)
Leaves status.SinkFault words before now kept = HasPrintedFront words before now × (kept ≡ None)
Leaves status.Limit words before now kept = HasPrinted status.Limit words before now kept
Leaves status.NoMemory words before now kept = HasPrintedFront words before now × (kept ≡ None)

-- ---- parts of a run

-- the sink failed, or memory was refused
abbrev pub BreaksOff : Status → Type 0
BreaksOff result = (result ≡ status.SinkFault) ⊎ (result ≡ status.NoMemory)

-- some last bytes were written, or a front of them, and the status says which
abbrev pub WritesLast : Option Bytes → Option Bytes → Bytes → Status → Status → Type 0
WritesLast before now bytes how result =
    ((result ≡ how) × (now ≡ appended before bytes)) ⊎ (BreaksOff result × HoldsFront before now bytes)

-- a whole run over these listed paths was printed, where there may be so many modules, on so many lanes
pub record RunsOver (most lanes : ℕ) (listed : List Bytes) (before now : Outside) (result : Status) (kept : Option Server) : Type 0 where
  pub how : WalkEnd
  pub errors : ℕ
  pub end : RunEnd
  pub status : result ≡ status_after how errors
  pub run : HasRun most lanes listed how errors end.program end.version end.lanes before now
  pub keeps : Keeps (left_after how end) kept

-- how such a run ends
abbrev pub RunLeaves : ℕ → ℕ → List Bytes → Outside → Outside → Status → Option Server → Type 0
RunLeaves most lanes listed before now result kept =
    RunsOver most lanes listed before now result kept
    ⊎ ((kept ≡ None) × (((result ≡ status.ScriptFault) × HasStopped most lanes listed before now) ⊎ (BreaksOff result × HasFront most lanes listed before now)))

-- a whole run on made-up modules was printed
pub record RunsMadeUp (most lanes n seed : ℕ) (before now : Option Bytes) (result : Status) (kept : Option Server) : Type 0 where
  pub errors : ℕ
  pub end : RunEnd
  pub status : result ≡ status_after ending.Finished errors
  pub run : HasGenerated most lanes n seed errors end.program end.version end.lanes before now
  pub keeps : Keeps (Some end) kept

-- how such a run ends
abbrev pub GeneratedLeaves : ℕ → ℕ → ℕ → ℕ → Option Bytes → Option Bytes → Status → Option Server → Type 0
GeneratedLeaves most lanes n seed before now result kept =
    RunsMadeUp most lanes n seed before now result kept ⊎ ((kept ≡ None) × BreaksOff result × HasGeneratedFront most lanes n seed before now)
