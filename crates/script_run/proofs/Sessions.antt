-- A heap of modules and the edits that wait, as the walk sees them.
use Rattle.std.proofs.Common.{◌≡◌, ◌⊎◌, ℕ, zero, suc, ◌+◌, ◌^◌, ◌<◌, ◌≤◌, List, [], ◌∷◌, ◌++◌, length, replicate, Some, None, refl, sym, ap, ◌∙◌, subst, arith, inl, inr}
use Rattle.std.specs.Prelude.{slice_get, Result, Ok, Err, IfOk, OnOk, OnErr}
use Rattle.std.specs.Coded.{coded_list}
use Rattle.std.specs.List.{AllByRecursion}
use denote.Struct.Props.{≡_prop}
use mathlib.Core.Logic.{∥∥₁_elim, ∥∥₁_map}
use Rattle.std.proofs.lemmas.Bool.Decides.{leb_tells}
use Rattle.std.proofs.lemmas.Option.{same_Some}
use Rattle.flow_base.specs.Program.{Bytes, Program}
use Rattle.flow_base.specs.Causes.{raised, RoseBy}
use Rattle.flow_base.specs.Outside.{WhereTold}
use Rattle.flow_base.specs.Seen.{FolderSeen}
use Rattle.heap_core.proofs.Lists.{get_there}
use Rattle.heap_core.specs.Meaning.{Meaning, AllFit}
use Rattle.check_values.specs.Rows.{Rows}
use Rattle.check_values.specs.contracts.faults.Fault as fault_type
use Rattle.check_values.specs.declared.root.RootRow.{RootRow}
use Rattle.check_values.specs.declared.root.Root.{Root}
use Rattle.program_check.specs.Full.{Results, IsFull}
use Rattle.program_check.specs.Law.{OneFull}
use Rattle.program_check.specs.Status.{error_count}
use Rattle.asks.specs.declared.ask.Ask.{Ask}
use Rattle.answer_print.specs.Lines.{answer_lines}
use Rattle.payloads.specs.Entities.{errors_entity}
use Rattle.payloads.specs.State.{program_of, IsRoot, fits, payload_at, payload_in, StandsIn}
use Rattle.payloads.proofs.Places.{stand_here}
use Rattle.payloads.specs.declared.payload.Payload.{Payload}
use Rattle.payloads.specs.declared.payload.Payload.TheVariants as payload
use Rattle.pending_edits.specs.Pending.{Pending, MayBecome, IsTouched}
use Rattle.pending_edits.specs.Pending as pending
use Rattle.pending_edits.specs.declared.edit.Edit.{Edit}
use Rattle.pending_edits.specs.declared.edit.Edit.TheVariants.{Put, Touch, Delete}
use Rattle.pending_edits.specs.declared.edit.EditFault.{EditFault}
use Rattle.pending_edits.specs.declared.edit.EditFault.TheVariants.{TooManyModules, NoMemory}
use Rattle.stops.specs.Asked.{StopSeen, yes_answers_by}
use Rattle.beside.specs.Uses.{LaneUse, new_lane, lanes_after, NoneFalls}
use Rattle.beside.specs.Server.{uses_of}
use Rattle.beside.specs.Writers.{meaning_in}
use Rattle.beside.specs.declared.serving.Server.{Server}
use Rattle.beside.specs.Extent.{Extent, Affects, polls}
use Rattle.beside.specs.Recheck.{Commits, RecheckState, Rechecked, CountsReads}
use Rattle.beside.specs.Recheck as rechecking
use Rattle.beside.specs.Outcome.{Outcome}
use Rattle.beside.specs.Outcome.TheVariants as outcome
use Rattle.beside.specs.affected_sizes.specs.Polls.{AreBatches}
use Rattle.beside.specs.affected_sizes.specs.Sizes.{AreSizes}
use Rattle.script_print.specs.Printed.{done_line, cancelled_line, fault_line, refused_line}
use Rattle.script_line.specs.declared.line.Line.{Line}
use Rattle.script_line.specs.declared.line.Line.TheVariants as line
use Rattle.script_run.specs.Checked.{HasErrorCount}
use Rattle.script_run.specs.Transcript.{Standing, start, to_touch, with_edit, modules_counted, GoesThrough, ComesTo, Rechecks, done, cancelled, cannot_read, AnswersBeside, RechecksBeside, Turns, blank, edits, refuses, touches, refuses_touch, deletes, rechecks, answers}
use Rattle.script_run.specs.Session.{modules_of, modules_in, program_in, program_with, Held, held, held_by, standing_of, standing_in, IsNewServer, faults_of, faults_in, faults_at, count_in, HasPlace, recheck_state, StopsAt, HasEnded, HasRechecked, HasTurned, HasAsked, HasEdited, HasDeleted, Limits, Prints, PrintsEdit}
use Rattle.script_run.proofs.Checks.{same_errors, each_module}

-- ---- counts

pub rose_none : (before now : ℕ) → before < 2 ^ 64 → now ≡ before → RoseBy 0 before now
rose_none before now bounded same = omega (arith, bounded, same)

-- ---- the modules of a state

pub first_modules : (state : List Payload) (root : Payload) → slice_get state 0 ≡ Some root → modules_in state ≡ modules_of root
first_modules [] root at = absurd (let z : None ≡ Some root = at in cc)
first_modules (x ∷ state) root at = ap modules_of (same_Some x root at)

-- ---- the errors of a state

room_there : (n : ℕ) (ms : List RootRow) (x : ℕ) (m : RootRow) → AllByRecursion (λ m. errors_entity m.row < n) ms → slice_get ms x ≡ Some m → errors_entity m.row < n
room_there n [] x m room at = absurd (let z : None ≡ Some m = at in cc)
room_there n (k ∷ ms) zero m room at = let is : k ≡ m = same_Some k m at in subst (λ (j : RootRow). errors_entity j.row < n) is room.0
room_there n (k ∷ ms) (suc x) m room at = room_there n ms x m room.1 at

-- beyond the root's entity, it is what the modules have
beyond : (root : Root) (results : List Results) (e : ℕ) → 0 < e → payload_at root results e ≡ payload_in root.modules results e
beyond root results zero low = absurd (omega arith)
beyond root results (suc e) low = refl

-- each of these modules has the errors of these results in the state
abbrev HaveErrors : List Payload → List RootRow → List Results → Type 0
HaveErrors state [] [] = Unit {0}
HaveErrors state (m ∷ ms) (r ∷ rs) = (faults_at state m.row ≡ r.errors) × HaveErrors state ms rs
HaveErrors state ms rs = ⊥

have_all : (state : List Payload) (ms : List RootRow) (rs : List Results) → length rs ≡ length ms →
    ((x : ℕ) (m : RootRow) (r : Results) → slice_get ms x ≡ Some m → slice_get rs x ≡ Some r → faults_at state m.row ≡ r.errors) → HaveErrors state ms rs
have_all state [] [] same each = tt
have_all state [] (r ∷ rs) same each = absurd (omega (arith, same))
have_all state (m ∷ ms) [] same each = absurd (omega (arith, same))
have_all state (m ∷ ms) (r ∷ rs) same each = (each 0 m r refl refl, have_all state ms rs (omega (arith, same)) (λ x n s at of. each (suc x) n s at of))

count_by : (state : List Payload) (ms : List RootRow) (rs : List Results) → HaveErrors state ms rs → count_in state ms ≡ error_count rs
count_by state [] [] have = refl
count_by state [] (r ∷ rs) have = absurd have
count_by state (m ∷ ms) [] have = absurd have
count_by state (m ∷ ms) (r ∷ rs) have =
    let first = have.0 in
    let rest = count_by state ms rs have.1 in
    λ i. length (first i) + rest i

many_in : (ms : List RootRow) → length (program_with ms) ≡ length ms
many_in [] = refl
many_in (m ∷ ms) = ap (λ n. suc n) (many_in ms)

module _ (one : OneFull) (state : List Payload) (root : Root) (is_root : IsRoot (length state) root)
    (fit : (e : ℕ) (x : Payload) → slice_get state e ≡ Some x → ∥ StandsIn root e x ∥₁) (results : List Results) (full : IsFull (program_of root) results) where
  faults_there : (x : ℕ) (m : RootRow) (r : Results) → slice_get root.modules x ≡ Some m → slice_get results x ≡ Some r → faults_at state m.row ≡ r.errors
  faults_there x m r at of =
      let there = get_there state (errors_entity m.row) (room_there (length state) root.modules x m is_root.room at) in
      ap faults_in there.1 ∙ ∥∥₁_elim (fit (errors_entity m.row) there.0 there.1) (≡_prop (coded_list fault_type.the_row.coded) (faults_of there.0) r.errors) (λ (stood : StandsIn root (errors_entity m.row) there.0).
      let other = same_errors stood.0 results x r (one (program_of root) stood.0 results stood.1 full) of in
      let here = stand_here root.modules stood.0 x m other.0 is_root.rows at other.1 in
      ap faults_of (stood.2 ∙ (beyond root stood.0 (errors_entity m.row) (omega arith) ∙ here.errors)) ∙ other.2)

  have_errors : HaveErrors state root.modules results
  have_errors = have_all state root.modules results (each_module (program_of root) results full ∙ many_in root.modules) faults_there

module _ (one : OneFull) (state : List Payload) (fit : (0 < length state) × AllFit fits state) where
  module _ (count : ℕ) where
    count_of_root : (root : Payload) → slice_get state 0 ≡ Some root → count ≡ count_in state (modules_of root) → HasErrorCount (program_with (modules_of root)) count
    count_of_root payload.Absent first is = absurd (fit.1 payload.Absent first 0 payload.Absent first)
    count_of_root (payload.Parse parse) first is = absurd (fit.1 (payload.Parse parse) first 0 (payload.Parse parse) first)
    count_of_root (payload.Deps deps) first is = absurd (fit.1 (payload.Deps deps) first 0 (payload.Deps deps) first)
    count_of_root (payload.Sig sig) first is = absurd (fit.1 (payload.Sig sig) first 0 (payload.Sig sig) first)
    count_of_root (payload.Errs errs) first is = absurd (fit.1 (payload.Errs errs) first 0 (payload.Errs errs) first)
    count_of_root (payload.Root root) first is =
        let here = fit.1 (payload.Root root) first 0 (payload.Root root) first in
        ∥∥₁_map here.1 (λ (stood : StandsIn root 0 (payload.Root root)).
        (stood.0, stood.1, is ∙ count_by state root.modules stood.0 (have_errors one state root here.0 (λ e x at. (fit.1 (payload.Root root) first e x at).1) stood.0 stood.1)))

    pub counted : (root : Payload) (modules : List RootRow) → slice_get state 0 ≡ Some root → modules ≡ modules_of root → count ≡ count_in state modules → HasErrorCount (program_in state) count
    counted root modules first same is =
        subst (λ ms. HasErrorCount (program_with ms) count) (sym (first_modules state root first)) (count_of_root root first (is ∙ ap (count_in state) same))

-- ---- the places of the errors

all_placed : (state : List Payload) (ms : List RootRow) → length state < 2 ^ 32 → AllByRecursion (λ m. errors_entity m.row < length state) ms → AllByRecursion (HasPlace state) ms
all_placed state [] few room = tt
all_placed state (m ∷ ms) few room = let here = room.0 in (record { numbered = omega (arith, here, few); within = here }, all_placed state ms few room.1)

root_placed : (state : List Payload) (root : Payload) → length state < 2 ^ 32 → AllFit fits state → slice_get state 0 ≡ Some root → AllByRecursion (HasPlace state) (modules_of root)
root_placed state payload.Absent few fit first = tt
root_placed state (payload.Parse parse) few fit first = tt
root_placed state (payload.Deps deps) few fit first = tt
root_placed state (payload.Sig sig) few fit first = tt
root_placed state (payload.Errs errs) few fit first = tt
root_placed state (payload.Root root) few fit first = all_placed state root.modules few (fit (payload.Root root) first 0 (payload.Root root) first).0.room

pub placed : (state state' : List Payload) (root : Payload) (modules : List RootRow) → length state < 2 ^ 32 → (0 < length state) × AllFit fits state → slice_get state 0 ≡ Some root
    → state' ≡ state → modules ≡ modules_of root → AllByRecursion (HasPlace state') modules
placed state state' root modules few fit first same is =
    subst (λ ms. AllByRecursion (HasPlace state') ms) (sym is) (subst (λ st. AllByRecursion (HasPlace st) (modules_of root)) (sym same) (root_placed state root few fit.1 first))

-- ---- rechecks

same_standing : (p q : Program) (v w : ℕ) (r t : Rows Edit) (l k : List LaneUse) → p ≡ q → v ≡ w → r ≡ t → l ≡ k →
    (let a : Standing = record { program = p; version = v; waiting = r; lanes = l } in a) ≡ (let b : Standing = record { program = q; version = w; waiting = t; lanes = k } in b)
same_standing p q v w r t l k ps vs rs ls = cc

-- a recheck with nothing beside it, its line, and that the folder counted as many faults in it as it prints read faults
record OneRecheck (stop : ℕ) (s s' : Standing) (line : Bytes) (before now : FolderSeen) : Type 0 where
  faults : ℕ
  rechecks : Rechecks before.told stop s s' faults line
  counted : RoseBy faults before.faults now.faults

module _ (stop : ℕ) (s s' : Standing) (line : Bytes) (before now : FolderSeen) where
  rechecks_done : (program : Program) (parsed checked polls errors : ℕ) → ComesTo before.told s program parsed checked polls → GoesThrough stop polls → HasErrorCount program errors →
      (let t : Standing = record { program = program; version = s.version + 1; waiting = []; lanes = s.lanes } in t) ≡ s' →
      done_line (s.version + 1) parsed checked errors ≡ line → before.faults < 2 ^ 64 → now.faults ≡ before.faults → OneRecheck stop s s' line before now
  rechecks_done program parsed checked polls errors comes through counts is prints bounded same = record {
    faults = 0;
    rechecks = subst (λ t. Rechecks before.told stop s t 0 line) is
        (subst (λ l. Rechecks before.told stop s (record { program = program; version = s.version + 1; waiting = []; lanes = s.lanes }) 0 l) prints (done s program parsed checked polls errors comes through counts));
    counted = rose_none before.faults now.faults bounded same;
  }

  rechecks_cancelled : (program : Program) (parsed checked polls : ℕ) → ComesTo before.told s program parsed checked polls → 1 ≤ stop → stop ≤ polls → s ≡ s' → cancelled_line stop s'.version ≡ line
      → before.faults < 2 ^ 64 → now.faults ≡ before.faults → OneRecheck stop s s' line before now
  rechecks_cancelled program parsed checked polls comes some within is prints bounded same = record {
    faults = 0;
    rechecks = subst (λ t. Rechecks before.told stop s t 0 line) is
        (subst (λ l. Rechecks before.told stop s s 0 l) (ap (λ (t : Standing). cancelled_line stop t.version) is ∙ prints) (cancelled s program parsed checked polls comes some within));
    counted = rose_none before.faults now.faults bounded same;
  }

  rechecks_not : (path : Bytes) → IsTouched s.waiting path → s ≡ s' → fault_line path s'.version ≡ line → now.faults ≡ raised before.faults → OneRecheck stop s s' line before now
  rechecks_not path touched is prints rose = record {
    faults = 1;
    rechecks = subst (λ t. Rechecks before.told stop s t 1 line) is (subst (λ l. Rechecks before.told stop s s 1 l) (ap (λ (t : Standing). fault_line path t.version) is ∙ prints) (cannot_read s path touched));
    counted = rose;
  }

-- ---- what an edit affects

-- how much an edit affects are its sizes
sizes_by : (old new : Program) (n : Extent) → Affects old new n → AreSizes old new n.parsed n.checked (polls n)
sizes_by old new n affects = record {
  before = affects.before;
  after = affects.after;
  full_before = affects.full_before;
  full_after = affects.full_after;
  parsed_paths = affects.parsed_paths;
  checked_paths = affects.checked_paths;
  are_parsed = affects.are_parsed;
  are_checked = affects.are_checked;
  are_polls = record {
    merged = affects.merged_paths;
    waves = affects.waves;
    checked = affects.checked_paths;
    batches = n.batches;
    are_merged = affects.are_merged;
    are_waves = affects.are_waves;
    are_checked = affects.are_checked;
    are_batches = subst (λ k. AreBatches k n.batches) affects.checked_size affects.are_batches;
    total = ap (λ k. 4 + k + n.batches) affects.waves_size;
  };
  parsed_size = affects.parsed_size;
  checked_size = affects.checked_size;
}

-- ---- the poll at which a recheck stops

-- its question was asked, or not yet
abbrev Said : ℕ → ℕ → Type 0
Said stop asked = ((1 ≤ stop) × (stop ≤ asked) × (yes_answers_by stop asked ≡ 1)) ⊎ (((stop ≡ 0) ⊎ (asked < stop)) × (yes_answers_by stop asked ≡ 0))

said_or_not : (stop asked : ℕ) → Said stop asked
said_or_not stop asked = elim (leb_tells 1 stop) [
  | inr none ↦ rw none.0 (inr (inl (omega (arith, none.1)), refl))
  | inl some ↦ elim (leb_tells stop asked) [
    | inl there ↦ rw (some.0, there.0) (inl (some.1, there.1, refl))
    | inr later ↦ rw (some.0, later.0) (inr (inr (omega (arith, later.1)), refl))
  ]
]

not_said : (stop asked : ℕ) → yes_answers_by stop asked ≡ yes_answers_by stop 0 → (stop ≡ 0) ⊎ (asked < stop)
not_said stop asked same = by (said_or_not stop asked) (said_or_not stop 0) where
  by : Said stop asked → Said stop 0 → (stop ≡ 0) ⊎ (asked < stop)
  by (inr never) first = never.0
  by (inl now) (inl first) = absurd (omega (arith, now.0, first.1))
  by (inl now) (inr first) = absurd (omega (arith, now.2, first.1, same))

-- all questions were asked, and none was answered yes
goes_through : (stop polls : ℕ) (before now : StopSeen) → stop < 2 ^ 64 → StopsAt stop before now → RoseBy polls before.questions now.questions → now.yes_answers ≡ before.yes_answers → GoesThrough stop polls
goes_through stop polls before now fits stops asked no_yes = elim (not_said stop now.questions (sym stops.yes ∙ (no_yes ∙ stops.no_yes))) [
  | inl none ↦ inl none
  | inr later ↦ inr (omega (arith, later, asked, stops.unasked, fits))
]

-- the last question is its own
stops_there : (stop poll : ℕ) (before now : StopSeen) → poll < 2 ^ 64 → StopsAt stop before now → RoseBy poll before.questions now.questions → WhereTold before.told (λ question. now.questions ≡ question) → stop ≡ poll
stops_there stop poll before now fits stops asked at =
    let there : now.questions ≡ stop = subst (λ told. WhereTold told (λ question. now.questions ≡ question)) stops.told at in
    omega (arith, there, asked, stops.unasked, fits)

-- the program of a heap, by its root
committed_program : (m : Meaning Payload) (root : Root) → Commits m root → program_in m.committed ≡ program_of root
committed_program m root is = ap program_with (first_modules m.committed (payload.Root root) is)

-- a session over a new server, with these paths to be read, stands at the start
pub begins_empty : (server : Server) (modules lanes : ℕ) (waiting : Pending) (listed : List Bytes) → IsNewServer server modules lanes → waiting.edits ≡ to_touch listed → standing_in (held_by server waiting) ≡ start listed lanes
begins_empty server modules lanes waiting listed new is =
    let m = meaning_in server.writer in
    same_standing (program_in m.committed) [] m.version 0 waiting.edits (to_touch listed) (uses_of server.lanes) (replicate lanes new_lane) (committed_program m (record { modules = [] }) new.empty.commits) new.empty.version is new.uses

-- a recheck of the heap is one of the walk
module _ (stop : ℕ) (fits : stop < 2 ^ 64) (before now : RecheckState) (ls : List LaneUse) (stops : StopsAt stop before.stop now.stop) (bounded : before.folder.faults < 2 ^ 64) where
  -- the edit of the committed program is one of the walk's
  comes_to : (old new : Root) (n : Extent) → rechecking.Edits before old new n → ComesTo before.folder.told (standing_of before.heap before.edits ls) (program_of new) n.parsed n.checked (polls n)
  comes_to old new n is =
      let was = sym (committed_program before.heap old is.was) in
      record {
        may = subst (λ p. MayBecome before.folder.told p before.edits.edits (program_of new)) was is.edited;
        sizes = subst (λ p. AreSizes p (program_of new) n.parsed n.checked (polls n)) was (sizes_by (program_of old) (program_of new) n is.affects);
      }

  stays : (now.heap ≡ before.heap) × (now.edits ≡ before.edits) → standing_of before.heap before.edits ls ≡ standing_of now.heap now.edits ls
  stays same =
      same_standing (program_in before.heap.committed) (program_in now.heap.committed) before.heap.version now.heap.version before.edits.edits now.edits.edits ls ls
      (ap (λ (n : Meaning Payload). program_in n.committed) (sym same.0)) (ap (λ (n : Meaning Payload). n.version) (sym same.0)) (ap (λ (w : Pending). w.edits) (sym same.1)) refl

  heap_rechecked : (o : Outcome) (version : ℕ) (line : Bytes) → Rechecked before now o → CountsReads before.folder now.folder o → version ≡ now.heap.version → Prints o version line
      → OneRecheck stop (standing_of before.heap before.edits ls) (standing_of now.heap now.edits ls) line before.folder now.folder
  heap_rechecked (outcome.Done v parsed checked errors) version line recheck reads is prints =
      let new = program_of recheck.new in
      let n = recheck.extent in
      rechecks_done stop (standing_of before.heap before.edits ls) (standing_of now.heap now.edits ls) line before.folder now.folder new n.parsed n.checked (polls n) errors
      (comes_to recheck.old recheck.new n recheck.edits)
      (goes_through stop (polls n) before.stop now.stop fits stops recheck.questions recheck.no_yes)
      ∣ (recheck.results, recheck.full, recheck.counts.2) ∣₁
      (same_standing new (program_in now.heap.committed) (before.heap.version + 1) now.heap.version [] now.edits.edits ls ls
      (sym (committed_program now.heap recheck.new recheck.is)) (sym recheck.next.0) (sym recheck.rest) refl)
      (ap (λ k. done_line k n.parsed n.checked errors) (sym recheck.next.0 ∙ sym recheck.next.1)
      ∙ ap (λ k. done_line v k n.checked errors) (sym recheck.counts.0)
      ∙ ap (λ k. done_line v parsed k errors) (sym recheck.counts.1)
      ∙ sym prints)
      bounded reads
  heap_rechecked (outcome.Cancelled poll) version line recheck reads is prints =
      let n = recheck.extent in
      let there = stops_there stop poll before.stop now.stop prints.0 stops recheck.questions recheck.at in
      rechecks_cancelled stop (standing_of before.heap before.edits ls) (standing_of now.heap now.edits ls) line before.folder now.folder (program_of recheck.new) n.parsed n.checked (polls n)
      (comes_to recheck.old recheck.new n recheck.edits)
      (let some = recheck.some in omega (arith, there, some)) (let few = recheck.few in omega (arith, there, few))
      (stays recheck.same)
      ((λ i. cancelled_line (there i) (sym is i)) ∙ sym prints.1)
      bounded reads
  heap_rechecked (outcome.ReadFault path) version line recheck reads is prints =
      rechecks_not stop (standing_of before.heap before.edits ls) (standing_of now.heap now.edits ls) line before.folder now.folder path recheck.2 (stays recheck.0) (ap (fault_line path) (sym is) ∙ sym prints) reads.0
  heap_rechecked outcome.NoMemory version line recheck reads is prints = absurd prints

-- with asks beside it
module _ (stop : ℕ) (asks : List Ask) (before now : FolderSeen) (m m' : Meaning Payload) (w w' : Pending) (ls ls' : List LaneUse) where
  rechecked_at : (o : Outcome) (version : ℕ) (line printed answered : Bytes) (versions : List ℕ) → stop < 2 ^ 64
      → HasEnded stop before now (held m w ls) (held m' w' ls') o → CountsReads before now o → before.faults < 2 ^ 64 → version ≡ m'.version → Prints o version line
      → AnswersBeside (standing_of m w ls) (standing_of m' w' ls) asks versions answered → NoneFalls ls versions → ls' ≡ lanes_after ls versions → printed ≡ line ++ answered
      → HasRechecked stop asks (standing_of m w ls) (standing_of m' w' ls') printed before now
  rechecked_at o version line printed answered versions low ended reads bounded is prints beside falls_not lanes both =
      let one = heap_rechecked stop low (recheck_state before w m ended.asked ended.work) (recheck_state now w' m' ended.asked' ended.work') ls ended.stops bounded o version line ended.rechecked reads is prints in
      record {
        faults = one.faults;
        rechecks = record {
          next = standing_of m' w' ls;
          line = line;
          rechecks = one.rechecks;
          versions = versions;
          answered = answered;
          answers = beside;
          falls_not = falls_not;
          leads = ap (standing_of m' w') lanes;
          prints = both;
        };
        counted = one.counted;
      }

  pub rechecked : (h : Held) (o : Outcome) (version : ℕ) (line printed answered : Bytes) (versions : List ℕ) → stop < 2 ^ 64 → held m w ls ≡ h
      → HasEnded stop before now (held m w ls) (held m' w' ls') o → CountsReads before now o → before.faults < 2 ^ 64 → version ≡ m'.version → Prints o version line
      → AnswersBeside (standing_of m w ls) (standing_of m' w' ls) asks versions answered → NoneFalls ls versions → ls' ≡ lanes_after ls versions → printed ≡ line ++ answered
      → HasRechecked stop asks (standing_in h) (standing_of m' w' ls') printed before now
  rechecked h o version line printed answered versions low at ended reads bounded is prints beside falls_not lanes both =
      subst (λ (g : Held). HasRechecked stop asks (standing_in g) (standing_of m' w' ls') printed before now) at
      (rechecked_at o version line printed answered versions low ended reads bounded is prints beside falls_not lanes both)

-- ---- edits

module _ (before after : Pending) (m : Meaning Payload) (ls : List LaneUse) (path printed : Bytes) (new : Edit) where
  edited_with : {T : Type 0} (put : Result T EditFault) → OnOk put (after.edits ≡ pending.with_edit before.edits path new) → OnErr put (after.edits ≡ before.edits)
      → Limits before.capacity (modules_counted (with_edit (standing_of m before ls) path new)) put → PrintsEdit put printed → HasEdited before.capacity path new (standing_of m before ls) (standing_of m after ls) printed
  edited_with (Ok x) ok err few prints = inl (few, same_standing (program_in m.committed) (program_in m.committed) m.version m.version after.edits (pending.with_edit before.edits path new) ls ls refl refl ok refl, prints)
  edited_with (Err (TooManyModules count)) ok err many prints =
      inr (many.0, same_standing (program_in m.committed) (program_in m.committed) m.version m.version after.edits before.edits ls ls refl refl err refl, prints ∙ ap refused_line many.1)
  edited_with (Err NoMemory) ok err few prints = absurd prints

pub edited_there : {T V E : Type 0} (put : Result T EditFault) (line : Result V E) (text : V → Bytes) (m : Meaning Payload) (before after : Pending) (ls : List LaneUse) (h : Held) (path : Bytes) (new : Edit) → held m before ls ≡ h
    → OnOk put (after.edits ≡ pending.with_edit before.edits path new) → OnErr put (after.edits ≡ before.edits) → Limits before.capacity (modules_counted (with_edit (standing_of m before ls) path new)) put
    → IfOk line (λ v. PrintsEdit put (text v)) → IfOk line (λ v. HasEdited h.waiting.capacity path new (standing_in h) (standing_of m after ls) (text v))
edited_there put (Ok v) text m before after ls h path new at ok err limits prints =
    subst (λ (k : Held). HasEdited k.waiting.capacity path new (standing_in k) (standing_of m after ls) (text v)) at (edited_with before after m ls path (text v) new put ok err limits prints)
edited_there put (Err e) text m before after ls h path new at ok err limits prints = tt

pub deleted_there : (m : Meaning Payload) (before after : Pending) (ls : List LaneUse) (h : Held) (path printed : Bytes) → held m before ls ≡ h → after.edits ≡ pending.with_edit before.edits path Delete → printed ≡ []
    → HasDeleted path (standing_in h) (standing_of m after ls) printed
deleted_there m before after ls h path printed at ok none =
    subst (λ (k : Held). HasDeleted path (standing_in k) (standing_of m after ls) printed) at
    (same_standing (program_in m.committed) (program_in m.committed) m.version m.version after.edits (pending.with_edit before.edits path Delete) ls ls refl refl ok refl, none)

-- ---- turns

of_turn : (most : ℕ) (said line : Line) (s s' : Standing) (printed more : Bytes) (faults : ℕ) (before now : FolderSeen) → said ≡ line → more ≡ printed → Turns most before.told line s s' faults printed
    → RoseBy faults before.faults now.faults → HasTurned most said s s' more before now
of_turn most said line s s' printed more faults before now is same turns counted = record {
  faults = faults;
  turns = subst (λ l. Turns most before.told l s s' faults more) (sym is) (subst (λ p. Turns most before.told line s s' faults p) (sym same) turns);
  counted = counted;
}

pub turned_blank : (most : ℕ) (said : Line) (s : Standing) (printed : Bytes) (now : FolderSeen) → now.faults < 2 ^ 64 → said ≡ line.Blank → printed ≡ [] → HasTurned most said s s printed now now
turned_blank most said s printed now bounded is none = of_turn most said line.Blank s s [] printed 0 now now is none (blank s) (rose_none now.faults now.faults bounded refl)

pub turned_edit : (most : ℕ) (said : Line) (path text : Bytes) (s s' : Standing) (printed : Bytes) (now : FolderSeen) → now.faults < 2 ^ 64 → said ≡ line.Edit path text → HasEdited most path (Put text) s s' printed
    → HasTurned most said s s' printed now now
turned_edit most said path text s s' printed now bounded is (inl (few, same, none)) =
    of_turn most said (line.Edit path text) s s' [] printed 0 now now is none (subst (λ t. Turns most now.told (line.Edit path text) s t 0 []) (sym same) (edits s path text few)) (rose_none now.faults now.faults bounded refl)
turned_edit most said path text s s' printed now bounded is (inr (many, same, refused)) =
    of_turn most said (line.Edit path text) s s' (refused_line (modules_counted (with_edit s path (Put text)))) printed 0 now now is refused
    (subst (λ t. Turns most now.told (line.Edit path text) s t 0 (refused_line (modules_counted (with_edit s path (Put text))))) (sym same) (refuses s path text many)) (rose_none now.faults now.faults bounded refl)

pub turned_touch : (most : ℕ) (said : Line) (path : Bytes) (s s' : Standing) (printed : Bytes) (now : FolderSeen) → now.faults < 2 ^ 64 → said ≡ line.Touch path → HasEdited most path Touch s s' printed
    → HasTurned most said s s' printed now now
turned_touch most said path s s' printed now bounded is (inl (few, same, none)) =
    of_turn most said (line.Touch path) s s' [] printed 0 now now is none (subst (λ t. Turns most now.told (line.Touch path) s t 0 []) (sym same) (touches s path few)) (rose_none now.faults now.faults bounded refl)
turned_touch most said path s s' printed now bounded is (inr (many, same, refused)) =
    of_turn most said (line.Touch path) s s' (refused_line (modules_counted (with_edit s path Touch))) printed 0 now now is refused
    (subst (λ t. Turns most now.told (line.Touch path) s t 0 (refused_line (modules_counted (with_edit s path Touch)))) (sym same) (refuses_touch s path many)) (rose_none now.faults now.faults bounded refl)

pub turned_delete : (most : ℕ) (said : Line) (path : Bytes) (s s' : Standing) (printed : Bytes) (now : FolderSeen) → now.faults < 2 ^ 64 → said ≡ line.Delete path → HasDeleted path s s' printed
    → HasTurned most said s s' printed now now
turned_delete most said path s s' printed now bounded is (same, none) =
    of_turn most said (line.Delete path) s s' [] printed 0 now now is none (subst (λ t. Turns most now.told (line.Delete path) s t 0 []) (sym same) (deletes s path)) (rose_none now.faults now.faults bounded refl)

pub turned_recheck : (most : ℕ) (said : Line) (stop : ℕ) (asks given : List Ask) (s s' : Standing) (printed : Bytes) (before now : FolderSeen) → said ≡ line.Recheck stop asks → given ≡ asks → HasRechecked stop given s s' printed before now
    → HasTurned most said s s' printed before now
turned_recheck most said stop asks given s s' printed before now is same recheck =
    of_turn most said (line.Recheck stop asks) s s' printed printed recheck.faults before now is refl
    (rechecks s s' stop asks recheck.faults printed (subst (λ (its : List Ask). RechecksBeside before.told stop its s s' recheck.faults printed) same recheck.rechecks)) recheck.counted

pub turned_ask : (most : ℕ) (said : Line) (asked : Ask) (s s' : Standing) (printed : Bytes) (now : FolderSeen) → now.faults < 2 ^ 64 → said ≡ line.Ask asked → HasAsked asked s s' printed
    → HasTurned most said s s' printed now now
turned_ask most said asked s s' printed now bounded is (leads, answer) =
    of_turn most said (line.Ask asked) s s' (answer_lines s.version asked answer.0) printed 0 now now is answer.2
    (subst (λ t. Turns most now.told (line.Ask asked) s t 0 (answer_lines s.version asked answer.0)) (sym leads) (answers s asked answer.0 answer.1)) (rose_none now.faults now.faults bounded refl)
