-- What a run with a script prints: the load, and then the walk over the script's lines. The most modules that there may be, `most`, and the
-- number of the lanes, `lanes`, are parameters of all of it.
use Rattle.std.specs.Prelude.{◌≡◌, ◌⊎◌, ◌<◌, ◌≤◌, ℕ, ◌+◌, List, [], ◌∷◌, ◌++◌, length, map, replicate, Option, Some}
use Rattle.std.specs.List.{AllByRecursion}
use Rattle.flow_base.specs.Path.{IsNormalPath}
use Rattle.flow_base.specs.Program.{Bytes, Program, paths_of, IsRising}
use Rattle.flow_base.specs.Outside.{WhereTold}
use Rattle.check_values.specs.Rows.{Rows}
use Rattle.beside.specs.affected_sizes.specs.Sizes.{AreSizes}
use Rattle.asks.specs.declared.ask.Ask.{Ask}
use Rattle.beside.specs.answers_law.specs.Answers.{Answered, IsAnswer}
use Rattle.answer_print.specs.Lines.{answer_lines}
use Rattle.beside.specs.Uses.{LaneUse, new_lane, lanes_after, NoneFalls}
use Rattle.pending_edits.specs.Pending as pending
use Rattle.pending_edits.specs.Pending.{MayBecome, IsTouched}
use Rattle.pending_edits.specs.Counting.{counted}
use Rattle.pending_edits.specs.declared.edit.Edit.{Edit}
use Rattle.pending_edits.specs.declared.edit.Edit.TheVariants.{Put, Touch, Delete}
use Rattle.script_line.specs.declared.line.Line.{Line}
use Rattle.script_line.specs.declared.line.Line.TheVariants as line
use Rattle.script_line.specs.Says.{Says, SaysTooMany, SaysNothing, asks_beside}
use Rattle.script_reader.specs.Lines.{LINE_LIMIT}
use Rattle.script_print.specs.Printed.{done_line, cancelled_line, fault_line, refused_line, bad_line, long_line, many_lines, many_asks_line}
use Rattle.script_run.specs.Checked.{HasErrorCount}
use Rattle.script_run.specs.declared.ending.WalkEnd.{WalkEnd}
use Rattle.script_run.specs.declared.ending.WalkEnd.TheVariants as ending

-- where the walk stands: the committed program, its version, the edits that wait for the next recheck, and what each lane has answered
pub record Standing : Type 0 where
  pub program : Program
  pub version : ℕ
  pub waiting : Rows Edit
  pub lanes : List LaneUse

-- the most lines of a script, blank ones counted
abbrev pub MOST_LINES : ℕ
MOST_LINES = 1048576

-- paths that a folder may list: they are normal paths and rise, and where the folder tells its program they are its paths
pub record MayList (told : Option Program) (listed : List Bytes) : Type 0 where
  pub normal : AllByRecursion IsNormalPath listed
  pub rising : IsRising listed
  pub same : WhereTold told (λ program. listed ≡ paths_of program)

-- edits by which the folder is to be read for each of these paths, which rise
abbrev pub to_touch : List Bytes → Rows Edit
to_touch listed = map (λ path. (path, Touch)) listed

-- the empty program, a folder of which each listed path is to be read, and so many lanes, which have answered nothing
abbrev pub start : List Bytes → ℕ → Standing
start listed lanes = record { program = []; version = 0; waiting = to_touch listed; lanes = replicate lanes new_lane }

-- how many modules are counted, while these edits wait
abbrev pub modules_counted : Standing → ℕ
modules_counted s = counted (paths_of s.program) s.waiting

-- a recheck with so many polls that is to stop at this one, or at none where that is 0, goes through all of them
abbrev pub GoesThrough : ℕ → ℕ → Type 0
GoesThrough stop polls = (stop ≡ 0) ⊎ (polls < stop)

-- The edits that wait may come to this program, of which so many modules are then parsed and checked, with so many polls.
pub record ComesTo (told : Option Program) (s : Standing) (program : Program) (parsed checked polls : ℕ) : Type 0 where
  pub may : MayBecome told s.program s.waiting program
  pub sizes : AreSizes s.program program parsed checked polls

-- A recheck that is to stop at a poll, or at none where that is 0, from one standing to the next, with the number of read faults and what
-- it prints: it commits the edited program, where it goes through all polls, and is cancelled where it doesn't; or it can't read a path
-- for which the folder is wanted. Where it commits nothing, nothing changes.
pub data Rechecks (told : Option Program) (stop : ℕ) : Standing → Standing → ℕ → Bytes → Type 0 where
  done : (s : Standing) (program : Program) (parsed checked polls errors : ℕ) → ComesTo told s program parsed checked polls → GoesThrough stop polls → HasErrorCount program errors →
      Rechecks told stop s (record { program = program; version = s.version + 1; waiting = []; lanes = s.lanes }) 0 (done_line (s.version + 1) parsed checked errors)
  cancelled : (s : Standing) (program : Program) (parsed checked polls : ℕ) → ComesTo told s program parsed checked polls → 1 ≤ stop → stop ≤ polls →
      Rechecks told stop s s 0 (cancelled_line stop s.version)
  cannot_read : (s : Standing) (path : Bytes) → IsTouched s.waiting path → Rechecks told stop s s 1 (fault_line path s.version)

-- the standing after an edit of this path, which the next recheck takes
abbrev pub with_edit : Standing → Bytes → Edit → Standing
with_edit s path edit = record { program = s.program; version = s.version; waiting = pending.with_edit s.waiting path edit; lanes = s.lanes }

-- the standing after asks that the lanes answered in turn from these versions
abbrev pub after_asks : Standing → List ℕ → Standing
after_asks s versions = record { program = s.program; version = s.version; waiting = s.waiting; lanes = lanes_after s.lanes versions }

-- ---- what is asked beside a recheck

-- an ask was answered from where the walk stands
abbrev pub IsAnsweredAt : Standing → ℕ → Ask → Answered → Type 0
IsAnsweredAt s version asked answer = (version ≡ s.version) × IsAnswer s.program asked answer

-- Each of these asks was answered from this version, the one before the recheck or the one after it; what the answers print, in order.
abbrev pub AnswersBeside : Standing → Standing → List Ask → List ℕ → Bytes → Type 0
AnswersBeside s s' [] [] printed = printed ≡ []
AnswersBeside s s' (asked ∷ asks) (version ∷ versions) printed =
    (answer : Answered) × (rest : Bytes) × (IsAnsweredAt s version asked answer ⊎ IsAnsweredAt s' version asked answer) × AnswersBeside s s' asks versions rest × (printed ≡ answer_lines version asked answer ++ rest)
AnswersBeside s s' asks versions printed = ⊥

-- A recheck with asks beside it: its line, and then the answers. Ask i is answered on lane i mod their number, and on no lane an answer is
-- from an earlier version than the one before it.
pub record RechecksBeside (told : Option Program) (stop : ℕ) (asks : List Ask) (s t : Standing) (faults : ℕ) (printed : Bytes) : Type 0 where
  pub next : Standing
  pub line : Bytes
  pub rechecks : Rechecks told stop s next faults line
  pub versions : List ℕ
  pub answered : Bytes
  pub answers : AnswersBeside s next asks versions answered
  pub falls_not : NoneFalls s.lanes versions
  pub leads : t ≡ after_asks next versions
  pub prints : printed ≡ line ++ answered

-- ---- the lines of a script

-- what a line of the script asks
abbrev pub asks_of : Line → List Ask
asks_of line.Blank = []
asks_of (line.Edit path text) = []
asks_of (line.Delete path) = []
asks_of (line.Touch path) = []
asks_of (line.Recheck stop asks) = asks
asks_of (line.Ask asked) = asked ∷ []
asks_of line.End = []

-- What one line of the script does and prints. An ask line is answered on the first lane, from the committed version.
pub data Turns (most : ℕ) (told : Option Program) : Line → Standing → Standing → ℕ → Bytes → Type 0 where
  blank : (s : Standing) → Turns most told line.Blank s s 0 []
  edits : (s : Standing) (path text : Bytes) → modules_counted (with_edit s path (Put text)) ≤ most → Turns most told (line.Edit path text) s (with_edit s path (Put text)) 0 []
  refuses : (s : Standing) (path text : Bytes) → most < modules_counted (with_edit s path (Put text)) →
      Turns most told (line.Edit path text) s s 0 (refused_line (modules_counted (with_edit s path (Put text))))
  touches : (s : Standing) (path : Bytes) → modules_counted (with_edit s path Touch) ≤ most → Turns most told (line.Touch path) s (with_edit s path Touch) 0 []
  refuses_touch : (s : Standing) (path : Bytes) → most < modules_counted (with_edit s path Touch) →
      Turns most told (line.Touch path) s s 0 (refused_line (modules_counted (with_edit s path Touch)))
  deletes : (s : Standing) (path : Bytes) → Turns most told (line.Delete path) s (with_edit s path Delete) 0 []
  rechecks : (s t : Standing) (stop : ℕ) (asks : List Ask) (faults : ℕ) (printed : Bytes) → RechecksBeside told stop asks s t faults printed → Turns most told (line.Recheck stop asks) s t faults printed
  answers : (s : Standing) (asked : Ask) (answer : Answered) → IsAnswer s.program asked answer → Turns most told (line.Ask asked) s (after_asks s (s.version ∷ [])) 0 (answer_lines s.version asked answer)

-- The load was done and these lines of the script were taken, one after the other: where the walk stands, how many read faults there
-- were, and what was printed.
pub data Walked (most lanes : ℕ) (told : Option Program) (listed : List Bytes) : List Bytes → Standing → ℕ → Bytes → Type 0 where
  loads : (s : Standing) (faults : ℕ) (printed : Bytes) → Rechecks told 0 (start listed lanes) s faults printed → Walked most lanes told listed [] s faults printed
  goes : (taken : List Bytes) (s : Standing) (faults : ℕ) (printed : Bytes) (bytes : Bytes) (line : Line) (s' : Standing) (more_faults : ℕ) (more : Bytes) →
      Walked most lanes told listed taken s faults printed → length taken < MOST_LINES → length bytes ≤ LINE_LIMIT → Says bytes line → Turns most told line s s' more_faults more →
      Walked most lanes told listed (taken ++ bytes ∷ []) s' (faults + more_faults) (printed ++ more)

-- After so many lines, with these to come, a walk ends like this: no line is left, or the next one says so; the next one is no command,
-- is too long, or is a recheck with more asks than there may be; or as many lines as there may be were taken, and one is left.
pub data Ends (taken : ℕ) : List Bytes → WalkEnd → Type 0 where
  no_line : Ends taken [] ending.Finished
  end_line : (bytes : Bytes) (rest : List Bytes) → taken < MOST_LINES → length bytes ≤ LINE_LIMIT → Says bytes line.End → Ends taken (bytes ∷ rest) ending.Finished
  bad : (bytes : Bytes) (rest : List Bytes) → taken < MOST_LINES → length bytes ≤ LINE_LIMIT → SaysNothing bytes → Ends taken (bytes ∷ rest) ending.BadLine
  long : (bytes : Bytes) (rest : List Bytes) → taken < MOST_LINES → LINE_LIMIT < length bytes → Ends taken (bytes ∷ rest) ending.LongLine
  many_asks : (bytes : Bytes) (rest : List Bytes) (count : ℕ) → taken < MOST_LINES → length bytes ≤ LINE_LIMIT → SaysTooMany bytes count → Ends taken (bytes ∷ rest) (ending.ManyAsks count)
  many : (bytes : Bytes) (rest : List Bytes) → MOST_LINES ≤ taken → Ends taken (bytes ∷ rest) ending.ManyLines

-- what such an end prints, by the number of the line that was not taken
abbrev pub last_line : ℕ → WalkEnd → Bytes
last_line number ending.Finished = []
last_line number ending.BadLine = bad_line number
last_line number ending.LongLine = long_line
last_line number ending.ManyLines = many_lines
last_line number (ending.ManyAsks count) = many_asks_line count

-- A run over a folder that lists these paths, and a script: where it tells its lines, these are they. The program, the version and the uses
-- of the lanes are those at which the walk ended.
pub record IsRun (most lanes : ℕ) (told : Option Program) (listed : List Bytes) (script : Option (List Bytes)) (faults : ℕ) (printed : Bytes) (how : WalkEnd) (program : Program) (version : ℕ) (uses : List LaneUse) : Type 0 where
  pub taken : List Bytes
  pub rest : List Bytes
  pub lines : WhereTold script (λ its. its ≡ taken ++ rest)
  pub waiting : Rows Edit
  pub before : Bytes
  pub walk : Walked most lanes told listed taken (record { program = program; version = version; waiting = waiting; lanes = uses }) faults before
  pub ends : Ends (length taken) rest how
  pub prints : printed ≡ before ++ last_line (length taken + 1) how

-- the same up to a line: the load was done, and some lines were taken
pub record IsRunSoFar (most lanes : ℕ) (told : Option Program) (listed : List Bytes) (script : Option (List Bytes)) (faults : ℕ) (printed : Bytes) : Type 0 where
  pub taken : List Bytes
  pub rest : List Bytes
  pub lines : WhereTold script (λ its. its ≡ taken ++ rest)
  pub standing : Standing
  pub walk : Walked most lanes told listed taken standing faults printed

-- what was printed up to a line goes on to what a whole run prints, with no further read fault
pub record GoesOn (most lanes : ℕ) (told : Option Program) (listed : List Bytes) (script : Option (List Bytes)) (faults : ℕ) (printed : Bytes) : Type 0 where
  pub more : Bytes
  pub how : WalkEnd
  pub program : Program
  pub version : ℕ
  pub uses : List LaneUse
  pub run : IsRun most lanes told listed script faults (printed ++ more) how program version uses

-- a run without a read fault, over a folder and a script that tell their content
abbrev pub IsQuietRun : ℕ → ℕ → Program → List Bytes → List Bytes → Bytes → WalkEnd → Program → ℕ → List LaneUse → Type 0
IsQuietRun most lanes folder listed script printed how program version uses = IsRun most lanes (Some folder) listed (Some script) 0 printed how program version uses

-- no line of a script asks something beside a recheck
abbrev pub AsksNothingBeside : List Bytes → Type 0
AsksNothingBeside script = AllByRecursion (λ (bytes : Bytes). (l : Line) → Says bytes l → asks_beside l ≡ []) script
