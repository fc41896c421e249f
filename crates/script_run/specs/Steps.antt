-- The steps of a walk: what is read, and what was done and printed so far.
use Rattle.std.specs.Prelude.{◌≡◌, ◌<◌, ◌≤◌, ℕ, ◌+◌, ◌*◌, ◌-◌, ◌^◌, min, List, [], ◌∷◌, ◌++◌, length, Option}
use Rattle.std.specs.Option.{option_map}
use Rattle.flow_base.specs.Program.{Bytes, Program}
use Rattle.flow_base.specs.Causes.{RoseBy}
use Rattle.flow_base.specs.Outside.{WhereTold, appended, HoldsFront}
use Rattle.flow_base.specs.Seen.{FolderSeen, SinkSeen, Outside}
use Rattle.script_line.specs.declared.line.Line.{Line}
use Rattle.script_line.specs.declared.line.Line.TheVariants as line
use Rattle.beside.specs.Uses.{LaneUse, AnsweredAtMost}
use Rattle.script_line.specs.Says.{Says, MOST_ASKS}
use Rattle.script_reader.specs.Lines.{LINE_LIMIT, script_lines, lines_left, HasNoFeed, TakesLine}
use Rattle.script_run.specs.Checked.{HasErrorCount}
use Rattle.script_run.specs.declared.ending.WalkEnd.{WalkEnd}
use Rattle.script_run.specs.declared.command.Command.{Command}
use Rattle.script_run.specs.declared.command.Command.TheVariants as command
use Rattle.script_run.specs.Transcript.{Standing, Walked, Ends, last_line, IsRun, IsRunSoFar, MOST_LINES}
use Rattle.script_run.specs.Session.{HasRechecked, HasTurned}

-- a line was taken from those that are left, which says this and doesn't end the script
pub record IsTaken (said : Line) (taken : ℕ) (before after : Option (List Bytes)) : Type 0 where
  pub bytes : Bytes
  pub takes : TakesLine bytes before after
  pub few : taken < MOST_LINES
  pub short : length bytes ≤ LINE_LIMIT
  pub says : Says bytes said
  pub goes_on : said ≡ line.End → ⊥

-- the walk ends before the lines that are left
pub record HasEnd (how : WalkEnd) (taken : ℕ) (before : Option (List Bytes)) : Type 0 where
  pub rest : List Bytes
  pub lines : WhereTold before (λ its. its ≡ rest)
  pub ends : Ends taken rest how

-- what a next line that is not too long means, after so many lines
abbrev pub Means : Command → ℕ → Bytes → Type 0
Means (command.Takes l) taken bytes = (taken < MOST_LINES) × Says bytes l × (l ≡ line.End → ⊥)
Means (command.Ends how) taken bytes = (rest : List Bytes) → Ends taken (bytes ∷ rest) how

-- what is to be done next, after so many lines
abbrev pub Reads : Command → ℕ → Option (List Bytes) → Option (List Bytes) → Type 0
Reads (command.Takes line) taken before after = IsTaken line taken before after
Reads (command.Ends how) taken before after = HasEnd how taken before

-- the walk and the outside between two lines of the script
pub record WalkState : Type 0 where
  pub standing : Standing
  pub folder : FolderSeen
  pub out : SinkSeen

abbrev pub walk_state : Standing → FolderSeen → SinkSeen → WalkState
walk_state standing folder out = record { standing = standing; folder = folder; out = out }

-- a folder's count rose by at least so many faults, or up to its end
abbrev pub RoseByAtLeast : ℕ → ℕ → ℕ → Type 0
RoseByAtLeast faults before now = min (before + faults) (2 ^ 64 - 1) ≤ now

-- a line was answered: it was printed what it prints
pub record HasAnswered (most : ℕ) (said : Line) (before now : WalkState) : Type 0 where
  pub printed : Bytes
  pub turned : HasTurned most said before.standing now.standing printed before.folder now.folder
  pub written : now.out.written ≡ appended before.out.written printed

-- an answer broke off, and the folder and the sink were then these: nothing more was written, or a front of the answer
pub data BreaksOff (most : ℕ) (said : Line) (before : WalkState) (folder : FolderSeen) (held : Option Bytes) : Type 0 where
  unsaid : held ≡ before.out.written → BreaksOff most said before folder held
  begun : (s : Standing) (printed : Bytes) → HasTurned most said before.standing s printed before.folder folder → HoldsFront before.out.written held printed → BreaksOff most said before folder held

-- the load was done and printed, from the standing before it
pub record HasLoaded (before now : WalkState) : Type 0 where
  pub printed : Bytes
  pub load : HasRechecked 0 [] before.standing now.standing printed before.folder now.folder
  pub written : now.out.written ≡ appended before.out.written printed

-- the load broke off, and the folder and the sink were then these: nothing more was written, or a front of its line
pub data BreaksLoad (before : WalkState) (folder : FolderSeen) (held : Option Bytes) : Type 0 where
  unsaid_load : held ≡ before.out.written → BreaksLoad before folder held
  begun_load : (s : Standing) (printed : Bytes) → HasRechecked 0 [] before.standing s printed before.folder folder → HoldsFront before.out.written held printed → BreaksLoad before folder held

-- a line of the script was taken and answered
pub record Takes (most taken : ℕ) (lines lines' : Option (List Bytes)) (before now : WalkState) : Type 0 where
  pub said : Line
  pub is : IsTaken said taken lines lines'
  pub answered : HasAnswered most said before now

-- the walk ended, and its last line was printed
pub record Closes (how : WalkEnd) (taken : ℕ) (lines : Option (List Bytes)) (before now : WalkState) : Type 0 where
  pub is : HasEnd how taken lines
  pub written : now.out.written ≡ appended before.out.written (last_line (taken + 1) how)
  pub standing : now.standing ≡ before.standing
  pub folder : now.folder ≡ before.folder

-- a walk broke off at a line, and the folder and the sink were then these: nothing more was written, or a front of what it prints there
pub data Breaks (most taken : ℕ) (lines : Option (List Bytes)) (before : WalkState) (folder : FolderSeen) (held : Option Bytes) : Type 0 where
  silent : held ≡ before.out.written → Breaks most taken lines before folder held
  in_turn : (said : Line) (lines' : Option (List Bytes)) → IsTaken said taken lines lines' → BreaksOff most said before folder held → Breaks most taken lines before folder held
  in_end : (how : WalkEnd) → HasEnd how taken lines → HoldsFront before.out.written held (last_line (taken + 1) how) → Breaks most taken lines before folder held

-- after so many lines each lane has answered no more asks than these may have
abbrev pub HaveAnswered : ℕ → Standing → Type 0
HaveAnswered taken s = AnsweredAtMost (MOST_ASKS * taken) s.lanes

-- the load was done and so many lines were taken and answered
pub record HasWalked (most lanes : ℕ) (listed : List Bytes) (script left : Option (List Bytes)) (taken : ℕ) (before now : WalkState) : Type 0 where
  pub lines : List Bytes
  pub number : length lines ≡ taken
  pub leaves : script ≡ option_map (λ rest. lines ++ rest) left
  pub read_faults : ℕ
  pub printed : Bytes
  pub walk : Walked most lanes before.folder.told listed lines now.standing read_faults printed
  pub written : now.out.written ≡ appended before.out.written printed
  pub counted : RoseBy read_faults before.folder.faults now.folder.faults
  pub version : now.standing.version ≤ taken + 1
  pub answered : HaveAnswered taken now.standing

-- a whole run was done and printed, and it ended with this program at this version, which has so many errors, and with these uses of the
-- lanes
pub record HasRun (most lanes : ℕ) (listed : List Bytes) (how : WalkEnd) (errors : ℕ) (program : Program) (version : ℕ) (uses : List LaneUse) (before now : Outside) : Type 0 where
  pub read_faults : ℕ
  pub printed : Bytes
  pub run : IsRun most lanes before.folder.told listed (lines_left [] before.script.left) read_faults printed how program version uses
  pub written : now.out.written ≡ appended before.out.written printed
  pub counted : RoseBy read_faults before.folder.faults now.folder.faults
  pub counts : HasErrorCount program errors

-- All whole lines that the script gave before it failed were taken: the last that it gave is a part of a line, with no LF in it, and
-- the script's lines are those that were taken, and then those of this part and what is left. The part may be empty.
pub record TookAllGiven (taken : List Bytes) (script left : Option Bytes) : Type 0 where
  pub front : Bytes
  pub part : Bytes
  pub no_feed : HasNoFeed part
  pub given : script ≡ option_map (λ rest. front ++ (part ++ rest)) left
  pub lines : lines_left [] script ≡ option_map (λ rest. taken ++ script_lines (part ++ rest)) left

-- The script failed: all whole lines that it gave were taken and answered, and all that the load and these lines print was printed.
pub record HasStopped (most lanes : ℕ) (listed : List Bytes) (before now : Outside) : Type 0 where
  pub read_faults : ℕ
  pub printed : Bytes
  pub run : IsRunSoFar most lanes before.folder.told listed (lines_left [] before.script.left) read_faults printed
  pub took_all : TookAllGiven run.taken before.script.left now.script.left
  pub written : now.out.written ≡ appended before.out.written printed
  pub counted : RoseBy read_faults before.folder.faults now.folder.faults

-- a front of what a whole run prints was printed, one with no more read faults than the folder counted
pub record HasFront (most lanes : ℕ) (listed : List Bytes) (before now : Outside) : Type 0 where
  pub read_faults : ℕ
  pub printed : Bytes
  pub how : WalkEnd
  pub program : Program
  pub version : ℕ
  pub uses : List LaneUse
  pub run : IsRun most lanes before.folder.told listed (lines_left [] before.script.left) read_faults printed how program version uses
  pub front : HoldsFront before.out.written now.out.written printed
  pub counted : RoseByAtLeast read_faults before.folder.faults now.folder.faults
