-- How a run of the program ends.
use Rattle.std.proofs.Common.{◌≡◌, ◌==◌, Bool, true, false, ℕ, ◌^◌, ◌<◌, ◌≤◌, List, [], ◌∷◌, length, Option, Some, None, refl, sym, ap, ◌∙◌, subst, arith, inl, inr, ◌⊎◌}
use Rattle.std.specs.Int.{IsInRange}
use Rattle.std.specs.List.{AllByRecursion}
use Rattle.std.specs.Prelude.{if◌then◌else◌, IfSome}
use Rattle.std.proofs.lemmas.Bool.{false≢true}
use Rattle.flow_base.specs.Causes.{RoseBy}
use Rattle.flow_base.specs.Path.{IsNormalPath}
use Rattle.flow_base.specs.Program.{Bytes, Program, IsRising, paths_of}
use Rattle.flow_base.specs.Outside.{WhereTold}
use Rattle.flow_base.specs.Seen.{FolderSeen, SourceSeen, SinkSeen, Outside, outside, folder_seen}
use Rattle.flow_base.specs.declared.outside.LastFault.{LastFault}
use Rattle.affected_sizes.specs.Law.{EachHasSizes}
use Rattle.answers_law.specs.Law.{EachHasAnswer}
use Rattle.generated_run.specs.Script.{LaneUse, Server, IsIdle, meaning_in, uses_of, program_in, MayList, start, HasRun, HasFront, RoseByAtLeast, walk_state, unsaid_load}
use Rattle.command_words.specs.Words.{Says, AreOfCommand, IsForm, usage_line}
use Rattle.command_words.specs.declared.command.Command.{Command}
use Rattle.command_words.specs.declared.command.Form.{Form}
use Rattle.command_words.specs.declared.command.Form.TheVariants.{Folder, Generated}
use Rattle.script_print.specs.Printed.{files_line}
use Rattle.script_reader.specs.Lines.{lines_left}
use Rattle.generated_run.specs.WalkEnd.{WalkEnd}
use Rattle.generated_run.specs.WalkEnd.TheVariants as ending
use Rattle.generated_run.proofs.Script.{front_none, front_of_load, walk_counts}
use Rattle.generated_run.specs.Run.{IsGeneratedRun, HasGenerated}
use Rattle.generated_run.proofs.OneRun.{errors_of}
use Rattle.flowd_top.specs.Run.{NamesFolder, MakesUp, status_after, RunEnd, left_after, end_of, IsLeft, Keeps, IsTranscript, no_command, many_files, runs, generates, HasPrinted, HasPrintedFront, nothing_printed, front_printed, Leaves, BreaksOff, WritesLast, RunsOver, RunLeaves, RunsMadeUp, GeneratedLeaves}
use Rattle.flowd_top.specs.declared.status.Status.{Status}
use Rattle.flowd_top.specs.declared.status.Status.TheVariants as status

rose_none : (before now : ℕ) → before < 2 ^ 64 → now ≡ before → RoseBy 0 before now
rose_none before now bounded same = omega (arith, bounded, same)

rose_least : (before now : ℕ) → now ≡ before → RoseByAtLeast 0 before now
rose_least before now same = omega (arith, same)

same_fields : (t u : Option Program) (m n : ℕ) (l k : LastFault) → t ≡ u → m ≡ n → l ≡ k → folder_seen t m l ≡ folder_seen u n k
same_fields t u m n l k told faults last_fault = cc

-- two folders of which the same is seen
same_folder : (a b : FolderSeen) → a.told ≡ b.told → a.faults ≡ b.faults → a.last_fault ≡ b.last_fault → a ≡ b
same_folder a b told faults last_fault = same_fields a.told b.told a.faults b.faults a.last_fault b.last_fault told faults last_fault

-- nothing was done, and nothing is kept
pub nothing_run : EachHasSizes → EachHasAnswer → (most lanes : ℕ) (listed : List Bytes) (before : Outside) (kept : Option Server) → kept ≡ None → RunLeaves most lanes listed before before status.NoMemory kept
nothing_run each answer most lanes listed before kept none =
    inr (none, inr (inr refl, front_of_load most lanes listed (walk_state (start listed lanes) before.folder before.out) before.script each answer before refl (omega arith) (unsaid_load refl)))

-- ---- what is kept

pub keeps_end : (server : Server) → IsIdle server → Keeps (Some (end_of server)) (Some server)
keeps_end server idle = (server, refl, record { idle = idle; ended = refl })

-- a run that was not cut short keeps its server
pub keeps_finished : (how : WalkEnd) (server : Server) → how ≡ ending.Finished → IsIdle server → Keeps (left_after how (end_of server)) (Some server)
keeps_finished how server finished idle = subst (λ (h : WalkEnd). Keeps (left_after h (end_of server)) (Some server)) (sym finished) (keeps_end server idle)

-- none has lanes
pub none_lanes : (n : ℕ) (kept : Option Server) → kept ≡ None → IfSome kept (λ server. length server.lanes ≡ n)
none_lanes n kept none = subst (λ (k : Option Server). IfSome k (λ server. length server.lanes ≡ n)) (sym none) tt

-- ---- what the words tell

-- the words tell one command, so its lanes are those that are meant
pub lanes_meant : (words : List Bytes) (c : Command) (kept : Option Server) → ((w : List Bytes) (a b : Command) → Says w a → Says w b → a ≡ b) → Says words c → IfSome kept (λ server. length server.lanes ≡ c.lanes)
    → (d : Command) → Says words d → IfSome kept (λ server. length server.lanes ≡ d.lanes)
lanes_meant words c kept one says lanes d told = subst (λ (e : Command). IfSome kept (λ server. length server.lanes ≡ e.lanes)) (one words c d says told) lanes

pub no_lanes_meant : (words : List Bytes) (kept : Option Server) → kept ≡ None → (d : Command) → Says words d → IfSome kept (λ server. length server.lanes ≡ d.lanes)
no_lanes_meant words kept none d told = none_lanes d.lanes kept none

-- the two forms are told apart
abbrev names : Form → Bool
names (Folder place) = true
names (Generated n seed) = false

pub not_both : (form : Form) (place n seed : ℕ) → form ≡ Folder place → form ≡ Generated n seed → ⊥
not_both form place n seed folder generated = false≢true (sym (ap names generated) ∙ ap names folder)

-- words that tell a command with a folder tell no other form
pub one_form : (words : List Bytes) (c d : Command) (place n seed : ℕ) → ((w : List Bytes) (a b : Command) → Says w a → Says w b → a ≡ b) → Says words c → c.form ≡ Folder place → MakesUp words d n seed → ⊥
one_form words c d place n seed one says folder makes = not_both c.form place n seed folder (ap (λ (e : Command). e.form) (one words c d says makes.0) ∙ makes.1)

made_of : (roots numbers seeds : List ℕ) (most : ℕ) (form : Form) (n seed : ℕ) → IsForm roots numbers seeds most form → form ≡ Generated n seed → IsInRange 1 most n
made_of [] [] seeds most form n seed is made = absurd is
made_of [] (m ∷ []) [] most form n seed is made = absurd is
made_of [] (m ∷ []) (x ∷ []) most form n seed is made = subst (IsInRange 1 most) (ap number (sym is.0 ∙ made)) is.1
  where
    number : Form → ℕ
    number (Folder place) = 0
    number (Generated k s) = k
made_of [] (m ∷ []) (x ∷ y ∷ more) most form n seed is made = absurd is
made_of [] (m ∷ k ∷ more) seeds most form n seed is made = absurd is
made_of (place ∷ []) [] [] most form n seed is made = absurd (not_both form place n seed is made)
made_of (place ∷ []) [] (x ∷ more) most form n seed is made = absurd is
made_of (place ∷ []) (m ∷ more) seeds most form n seed is made = absurd is
made_of (place ∷ next ∷ more) numbers seeds most form n seed is made = absurd is

-- no more modules are made up than there may be, and one at least
pub few_made : (words : List Bytes) (c : Command) (n seed : ℕ) → Says words c → c.form ≡ Generated n seed → IsInRange 1 c.modules n
few_made words c n seed says made = made_of _ _ _ c.modules c.form n seed says.tells.form made

pub modules_told : (words : List Bytes) (c : Command) → Says words c → IsInRange 1 4096 c.modules
modules_told words c says = says.tells.some_modules

pub lanes_told : (words : List Bytes) (c : Command) → Says words c → IsInRange 1 16 c.lanes
lanes_told words c says = says.tells.some_lanes

pub workers_told : (words : List Bytes) (c : Command) → Says words c → IsInRange 1 64 c.workers
workers_told words c says = says.tells.some_workers

-- ---- what is left

module _ (words : List Bytes) (before now : Outside) (kept : Option Server) where
  -- at want of memory, and after a fault of the sink
  front_leaves : (result : Status) → BreaksOff result → kept ≡ None → HasPrintedFront words before now → Leaves result words before now kept
  front_leaves result (inl is) none front = subst (λ r. Leaves r words before now kept) (sym is) (front, none)
  front_leaves result (inr is) none front = subst (λ r. Leaves r words before now kept) (sym is) (front, none)

  pub nothing_left : now.out.written ≡ before.out.written → HasPrintedFront words before now
  nothing_left same = nothing_printed same

  -- the last line was the whole transcript
  last_leaves : (result how : Status) (printed : Bytes) → IsTranscript words before.folder.told (lines_left [] before.script.left) 0 printed how None → (HasPrinted how words before now kept → Leaves how words before now kept)
      → kept ≡ None → before.folder.faults < 2 ^ 64 → now.folder.faults ≡ before.folder.faults → WritesLast before.out.written now.out.written printed how result → Leaves result words before now kept
  last_leaves result how printed transcript leaves none bounded same (inl (is, written)) =
      subst (λ r. Leaves r words before now kept) (sym is)
      (leaves (record {
        read_faults = 0;
        printed = printed;
        left = None;
        transcript = transcript;
        written = written;
        counted = rose_none before.folder.faults now.folder.faults bounded same;
        keeps = none;
      }))
  last_leaves result how printed transcript leaves none bounded same (inr (is, front)) =
      front_leaves result is none (front_printed 0 printed how None transcript front (rose_least before.folder.faults now.folder.faults same))

  pub usage_leaves : (result : Status) → (AreOfCommand words → ⊥) → kept ≡ None → before.folder.faults < 2 ^ 64 → now.folder.faults ≡ before.folder.faults
      → WritesLast before.out.written now.out.written usage_line status.Usage result → Leaves result words before now kept
  usage_leaves result other = last_leaves result status.Usage usage_line (no_command other) (λ printed. printed)

  files_leave : (result : Status) (c : Command) (listed : List Bytes) → NamesFolder words c → MayList before.folder.told listed → c.modules < length listed → kept ≡ None
      → before.folder.faults < 2 ^ 64 → now.folder.faults ≡ before.folder.faults → WritesLast before.out.written now.out.written (files_line (length listed)) status.Limit result → Leaves result words before now kept
  files_leave result c listed folder lists many = last_leaves result status.Limit (files_line (length listed)) (many_files c listed folder lists many) (λ printed. printed)

  chosen_leaves : (b : Bool) → HasPrinted (if b then status.Clean else status.Errors) words before now kept → Leaves (if b then status.Clean else status.Errors) words before now kept
  chosen_leaves true printed = printed
  chosen_leaves false printed = printed

  ended_leaves : (how : WalkEnd) (errors : ℕ) → HasPrinted (status_after how errors) words before now kept → Leaves (status_after how errors) words before now kept
  ended_leaves ending.Finished errors printed = chosen_leaves (errors == 0) printed
  ended_leaves ending.BadLine errors printed = printed
  ended_leaves ending.LongLine errors printed = printed
  ended_leaves ending.ManyLines errors printed = printed
  ended_leaves (ending.ManyAsks count) errors printed = printed

  module _ (c : Command) (listed : List Bytes) (folder : NamesFolder words c) (lists : MayList before.folder.told listed) (few : length listed ≤ c.modules) where
    printed_by : (result : Status) (run : RunsOver c.modules c.lanes listed before now result kept) → HasPrinted (status_after run.how run.errors) words before now kept
    printed_by result run = record {
      read_faults = run.run.read_faults;
      printed = run.run.printed;
      left = left_after run.how run.end;
      transcript = runs c listed run.run.read_faults run.run.printed run.how run.end run.errors folder lists few run.run.run run.run.counts;
      written = run.run.written;
      counted = run.run.counted;
      keeps = run.keeps;
    }

    front_of_transcript : HasFront c.modules c.lanes listed before now → HasPrintedFront words before now
    front_of_transcript front =
        let whole = front.run in
        let count = walk_counts whole.walk in
        let end : RunEnd = record { program = front.program; version = front.version; lanes = front.uses } in
        front_printed front.read_faults front.printed (status_after front.how count.0) (left_after front.how end)
        (runs c listed front.read_faults front.printed front.how end count.0 folder lists few front.run count.1) front.front front.counted

    over_leaves : (result : Status) → RunLeaves c.modules c.lanes listed before now result kept → Leaves result words before now kept
    over_leaves result (inl run) = subst (λ r. Leaves r words before now kept) (sym run.status) (ended_leaves run.how run.errors (printed_by result run))
    over_leaves result (inr (none, inl (is, stopped))) =
        subst (λ r. Leaves r words before now kept) (sym is) (record { command = c; listed = listed; names = folder; lists = lists; few = few; stopped = stopped }, none)
    over_leaves result (inr (none, inr (is, front))) = front_leaves result is none (front_of_transcript front)

  -- a run on made-up modules, beside which neither the folder nor the script was touched
  pub made_up_leaves : (c : Command) (n seed : ℕ) (result : Status) → MakesUp words c n seed → EachHasSizes → before.folder.faults < 2 ^ 64 → now.folder.faults ≡ before.folder.faults
      → GeneratedLeaves c.modules c.lanes n seed before.out.written now.out.written result kept → Leaves result words before now kept
  made_up_leaves c n seed result makes each bounded same (inl made) =
      subst (λ r. Leaves r words before now kept) (sym made.status)
      (ended_leaves ending.Finished made.errors (record {
        read_faults = 0;
        printed = made.run.printed;
        left = Some made.end;
        transcript = generates c n seed made.run.printed made.end made.errors makes made.run.run made.run.counts;
        written = made.run.written;
        counted = rose_none before.folder.faults now.folder.faults bounded same;
        keeps = made.keeps;
      }))
  made_up_leaves c n seed result makes each bounded same (inr (none, is, front)) =
      let count = errors_of each front.program in
      let end : RunEnd = record { program = front.program; version = front.version; lanes = front.uses } in
      front_leaves result is none
      (front_printed 0 front.printed (status_after ending.Finished count.0) (Some end) (generates c n seed front.printed end count.0 makes front.run count.1) front.front
      (rose_least before.folder.faults now.folder.faults same))

-- what is left at want of memory, whatever the words are
pub nothing_left_by : (c : Command) (before now : Outside) (kept : Option Server) → now.out.written ≡ before.out.written → kept ≡ None → (words : List Bytes) → NamesFolder words c → HasPrintedFront words before now × (kept ≡ None)
nothing_left_by c before now kept same none words folder = (nothing_printed same, none)

-- a folder that lists too many files
pub refused_leaves : (c : Command) (before now : Outside) (kept : Option Server) (result : Status) (listed : List Bytes) → AllByRecursion IsNormalPath listed → IsRising listed
    → WhereTold before.folder.told (λ program. listed ≡ paths_of program) → c.modules < length listed → kept ≡ None → before.folder.faults < 2 ^ 64 → now.folder.faults ≡ before.folder.faults
    → WritesLast before.out.written now.out.written (files_line (length listed)) status.Limit result → (words : List Bytes) → NamesFolder words c → Leaves result words before now kept
refused_leaves c before now kept result listed normal rising same many none bounded quiet writes words folder =
    files_leave words before now kept result c listed folder (record { normal = normal; rising = rising; same = same }) many none bounded quiet writes

-- the run over a listing of the folder, which this left as it was
pub run_leaves : (c : Command) (folder folder' : FolderSeen) (script : SourceSeen) (out : SinkSeen) (now : Outside) (kept : Option Server) (result : Status) (listed : List Bytes)
    → AllByRecursion IsNormalPath listed → IsRising listed → WhereTold folder.told (λ program. listed ≡ paths_of program) → length listed ≤ c.modules → folder'.told ≡ folder.told → folder'.faults ≡ folder.faults
    → folder'.last_fault ≡ folder.last_fault → RunLeaves c.modules c.lanes listed (outside folder' script out) now result kept → (words : List Bytes) → NamesFolder words c → Leaves result words (outside folder script out) now kept
run_leaves c folder folder' script out now kept result listed normal rising same few told faults last leaves words names_folder =
    over_leaves words (outside folder script out) now kept c listed names_folder (record { normal = normal; rising = rising; same = same }) few result
    (subst (λ f. RunLeaves c.modules c.lanes listed (outside f script out) now result kept) (same_folder folder' folder told faults last) leaves)

-- ---- made-up modules

-- nothing was done
pub nothing_made : (most lanes n seed : ℕ) (held : Option Bytes) (kept : Option Server) → kept ≡ None → ((printed : Bytes) × (program : Program) × (version : ℕ) × (uses : List LaneUse) × IsGeneratedRun most lanes n seed printed program version uses)
    → GeneratedLeaves most lanes n seed held held status.NoMemory kept
nothing_made most lanes n seed held kept none run =
    inr (none, inr refl, record { printed = run.0; program = run.1; version = run.2; uses = run.3; run = run.4; front = front_none held held run.0 refl })

-- a whole run was made
pub made_leaves : (most lanes n seed : ℕ) (before now : Option Bytes) (how : WalkEnd) (errors : ℕ) (server : Server) (result : Status) (kept : Option Server) (askers : ℕ) → askers ≡ lanes → how ≡ ending.Finished
    → HasGenerated most askers n seed errors (program_in (meaning_in server.writer).committed) (meaning_in server.writer).version (uses_of server.lanes) before now → result ≡ status_after how errors
    → Keeps (left_after how (end_of server)) kept → GeneratedLeaves most lanes n seed before now result kept
made_leaves most lanes n seed before now how errors server result kept askers same finished generated status keeps =
    inl (record {
      errors = errors;
      end = end_of server;
      status = subst (λ (h : WalkEnd). result ≡ status_after h errors) finished status;
      run = subst (λ (l : ℕ). HasGenerated most l n seed errors (program_in (meaning_in server.writer).committed) (meaning_in server.writer).version (uses_of server.lanes) before now) same generated;
      keeps = subst (λ (h : WalkEnd). Keeps (left_after h (end_of server)) kept) finished keeps;
    })
