-- The walk over the lines of a script, step by step.
use Rattle.std.proofs.Common.{◌≡◌, ℕ, ◌+◌, ◌*◌, ◌≤◌, List, [], ◌∷◌, ◌++◌, length, Option, Some, None, refl, sym, ap, ◌∙◌, subst, arith, append_assoc, length-append}
use Rattle.std.specs.Option.{option_map}
use Rattle.std.specs.Prelude.{Result, Ok, Err, IsErrOf, OnErr, IfSome, IfNone}
use Rattle.flow_base.specs.Program.{Bytes, Program}
use Rattle.flow_base.specs.Causes.{raised, RoseBy, Counts}
use Rattle.flow_base.specs.Outside.{WhereTold, appended, HoldsFront}
use Rattle.flow_base.specs.Seen.{FolderSeen, SourceSeen, SinkSeen, Outside}
use Rattle.heap_core.specs.Meaning.{Meaning}
use Rattle.payloads.specs.declared.payload.Payload.{Payload}
use Rattle.beside.specs.affected_sizes.specs.Law.{EachHasSizes}
use Rattle.beside.specs.answers_law.specs.Law.{EachHasAnswer}
use Rattle.beside.specs.Uses.{LaneUse, MayAnswer, AnsweredAtMost}
use Rattle.beside.proofs.Uses.{new_at_most, at_most_more, may_answer, may_answer_fewer}
use Rattle.script_line.specs.declared.line.Line.{Line}
use Rattle.script_line.specs.Says.{Says, MOST_ASKS}
use Rattle.script_reader.specs.Lines.{lines_left, TakesLine}
use Rattle.script_run.specs.Checked.{HasErrorCount}
use Rattle.script_run.specs.declared.ending.WalkEnd.{WalkEnd}
use Rattle.script_run.specs.Transcript.{Standing, MOST_LINES, start, Rechecks, done, cancelled, cannot_read, RechecksBeside, asks_of, Turns, blank, edits, refuses, touches, refuses_touch, deletes, rechecks, answers, Walked, loads, goes, Ends, last_line, IsRun, IsRunSoFar}
use Rattle.script_run.specs.Session.{program_in, HasRechecked, HasTurned}
use Rattle.script_run.specs.declared.command.Command.{Command}
use Rattle.script_run.specs.declared.command.Command.TheVariants as command
use Rattle.script_run.specs.Steps.{WalkState, Reads, IsTaken, HasEnd, HaveAnswered, RoseByAtLeast, Takes, Closes, Breaks, silent, in_turn, in_end, BreaksOff, unsaid, begun, HasLoaded, BreaksLoad, unsaid_load, begun_load, HasWalked, HasRun, TookAllGiven, HasStopped, HasFront}
use Rattle.script_run.proofs.Checks.{no_errors}
use Rattle.script_run.proofs.Lanes.{recheck_lanes, nothing_beside, asks_within, turn_answered}
use Rattle.script_run.proofs.Completing.{front_longer, goes_on, some_run}
use Rattle.script_run.proofs.Fronts.{front_none, front_all, front_behind}
use Rattle.script_run.proofs.Writing.{appended_twice}

-- ---- counts

rose_both : (f g before between now : ℕ) → RoseBy f before between → RoseBy g between now → RoseBy (f + g) before now
rose_both f g before between now first second = omega (arith, first, second)

rose_least : (f before now : ℕ) → RoseBy f before now → RoseByAtLeast f before now
rose_least f before now rose = omega (arith, rose)

-- a count that rose by so many, and then maybe more
rose_more : (f before between now : ℕ) → RoseBy f before between → between ≤ now → RoseByAtLeast f before now
rose_more f before between now rose later = omega (arith, rose, later)

-- ---- versions

recheck_version : {told : Option Program} {stop : ℕ} {s t : Standing} {f : ℕ} {printed : Bytes} → Rechecks told stop s t f printed → t.version ≤ s.version + 1
recheck_version (done s program parsed checked polls errors comes through counts) = omega arith
recheck_version (cancelled s program parsed checked polls comes some within) = omega arith
recheck_version (cannot_read s path touched) = omega arith

turn_version : {most : ℕ} {told : Option Program} {said : Line} {s t : Standing} {f : ℕ} {printed : Bytes} → Turns most told said s t f printed → t.version ≤ s.version + 1
turn_version (blank s) = omega arith
turn_version (edits s path text few) = omega arith
turn_version (refuses s path text many) = omega arith
turn_version (touches s path few) = omega arith
turn_version (refuses_touch s path many) = omega arith
turn_version (deletes s path) = omega arith
turn_version (rechecks s t stop asks f printed beside) = let later = recheck_version beside.rechecks in let leads = ap (λ (x : Standing). x.version) beside.leads in omega (arith, later, leads)
turn_version (answers s asked answer is) = omega arith

-- ---- what the lanes have answered

-- a line more, and each lane has answered no more than so many lines may ask
more_answered : {most : ℕ} {told : Option Program} {f : ℕ} {printed : Bytes} → (n : ℕ) (bytes : Bytes) (said : Line) (s t : Standing) → Says bytes said → Turns most told said s t f printed → HaveAnswered n s → HaveAnswered (n + 1) t
more_answered n bytes said s t says turn few =
    let within = asks_within bytes said says in
    at_most_more (MOST_ASKS * n + length (asks_of said)) (MOST_ASKS * (n + 1)) t.lanes (omega (arith, within)) (turn_answered (MOST_ASKS * n) turn few)

-- lanes that have answered no more may answer one line more
pub may_answer_line : (n : ℕ) (s : Standing) → n ≤ MOST_LINES → HaveAnswered n s → MayAnswer MOST_ASKS s.lanes
may_answer_line n s few answered = may_answer (MOST_ASKS * n) MOST_ASKS s.lanes answered (omega (arith, few))

-- and what the next line asks
pub may_take : (next : Command) (said : Line) (taken : ℕ) (lines lines' : Option (List Bytes)) (lanes : List LaneUse) → next ≡ command.Takes said → Reads next taken lines lines' → MayAnswer MOST_ASKS lanes
    → MayAnswer (length (asks_of said)) lanes
may_take next said taken lines lines' lanes is reads may =
    let it : IsTaken said taken lines lines' = subst (λ n. Reads n taken lines lines') is reads in
    may_answer_fewer MOST_ASKS (length (asks_of said)) lanes (asks_within it.bytes said it.says) may

-- ---- errors

-- the number of errors of the program at which a walk stands
abbrev pub SomeCount : Standing → Type 0
SomeCount s = (errors : ℕ) × HasErrorCount s.program errors

recheck_counts : {told : Option Program} {stop : ℕ} {s t : Standing} {f : ℕ} {printed : Bytes} → Rechecks told stop s t f printed → SomeCount s → SomeCount t
recheck_counts (done s program parsed checked polls errors comes through counts) before = (errors, counts)
recheck_counts (cancelled s program parsed checked polls comes some within) before = before
recheck_counts (cannot_read s path touched) before = before

turn_counts : {most : ℕ} {told : Option Program} {said : Line} {s t : Standing} {f : ℕ} {printed : Bytes} → Turns most told said s t f printed → SomeCount s → SomeCount t
turn_counts (blank s) before = before
turn_counts (edits s path text few) before = before
turn_counts (refuses s path text many) before = before
turn_counts (touches s path few) before = before
turn_counts (refuses_touch s path many) before = before
turn_counts (deletes s path) before = before
turn_counts (rechecks s t stop asks f printed beside) before =
    let count = recheck_counts beside.rechecks before in (count.0, subst (λ (p : Program). HasErrorCount p count.0) (ap (λ (x : Standing). x.program) (sym beside.leads)) count.1)
turn_counts (answers s asked answer is) before = before

pub walk_counts : {most lanes : ℕ} {told : Option Program} {listed taken : List Bytes} {s : Standing} {f : ℕ} {printed : Bytes} → Walked most lanes told listed taken s f printed → SomeCount s
walk_counts (loads s f printed load) = recheck_counts load (0, no_errors)
walk_counts (goes taken s f printed bytes said t g more walk few short says turn) = turn_counts turn (walk_counts walk)

-- ---- lines

unchanged : (script : Option (List Bytes)) → script ≡ option_map (λ rest. [] ++ rest) script
unchanged None = refl
unchanged (Some lines) = refl

one_more : (script left left' : Option (List Bytes)) (taken : List Bytes) (bytes : Bytes) → script ≡ option_map (λ rest. taken ++ rest) left → TakesLine bytes left left' →
    script ≡ option_map (λ rest. (taken ++ bytes ∷ []) ++ rest) left'
one_more script left None taken bytes leaves takes = leaves ∙ ap (option_map (λ rest. taken ++ rest)) takes
one_more script left (Some lines) taken bytes leaves takes =
    leaves ∙ ap (option_map (λ rest. taken ++ rest)) takes ∙ ap Some (sym (append_assoc taken (bytes ∷ []) lines))

-- what a script tells of its lines, after some
told_lines : (script left : Option (List Bytes)) (taken rest : List Bytes) → script ≡ option_map (λ rest. taken ++ rest) left → WhereTold left (λ its. its ≡ rest)
    → WhereTold script (λ its. its ≡ taken ++ rest)
told_lines script None taken rest leaves is = subst (λ s. WhereTold s (λ its. its ≡ taken ++ rest)) (sym leaves) tt
told_lines script (Some lines) taken rest leaves is = subst (λ s. WhereTold s (λ its. its ≡ taken ++ rest)) (sym leaves) (ap (λ ls. taken ++ ls) is)

-- some lines that may be left
some_rest : (left : Option (List Bytes)) → (rest : List Bytes) × WhereTold left (λ its. its ≡ rest)
some_rest None = ([], tt)
some_rest (Some lines) = (lines, refl)

-- ---- what breaks off

pub on_err : {T E : Type 0} (r : Result T E) (P : Type 0) → P → OnErr r P
on_err (Ok t) P p = tt
on_err (Err e) P p = p

fault_of : {T E : Type 0} → E → Result T E → E
fault_of e (Ok t) = e
fault_of e (Err f) = f

same_fault : {T E : Type 0} (r : Result T E) (e f : E) → r ≡ Err e → r ≡ Err f → e ≡ f
unfolding fault_of
same_fault r e f is of = ap (fault_of e) (sym is ∙ of)

-- a fault that is handed on counts as before
pub counts_handed : {T U E : Type 0} (r : Result T E) (s : Result U E) (e f fault : E) (before between now : ℕ) → r ≡ Err f → s ≡ Err e → e ≡ f → between ≡ before → Counts (IsErrOf r fault) between now → Counts (IsErrOf s fault) before now
counts_handed {T} {U} {E} r s e f fault before between now was is same from counts =
    let there : s ≡ Err fault → r ≡ Err fault = λ of. was ∙ ap (λ (x : E). Err x) (sym same ∙ same_fault s e fault is of) in
    let back : r ≡ Err fault → s ≡ Err fault = λ of. is ∙ ap (λ (x : E). Err x) (same ∙ same_fault r f fault was of) in
    record {
      later = (let later = counts.later in omega (arith, from, later));
      rises = λ of. counts.rises (there of) ∙ ap raised from;
      stays = λ not_so. counts.stays (λ of. not_so (back of)) ∙ from;
    }

pub some_of : {A : Type 0} (o : Option A) (x : A) (P : A → Type 0) → o ≡ Some x → IfSome o P → P x
some_of o x P is holds = subst (λ o. IfSome o P) is holds

pub none_of : {A : Type 0} (o : Option A) (P : Type 0) → o ≡ None → IfNone o P → P
none_of o P is holds = subst (λ o. IfNone o P) is holds

pub breaks_off : (most : ℕ) (said : Line) (before now : WalkState) (piece printed : Bytes) (held : Option Bytes) → piece ≡ printed → HoldsFront before.out.written held piece
    → HasTurned most said before.standing now.standing printed before.folder now.folder → BreaksOff most said before now.folder held
breaks_off most said before now piece printed held is front turned = begun now.standing printed turned (subst (λ p. HoldsFront before.out.written held p) is front)

pub breaks_load : (before now : WalkState) (s : Standing) (piece printed : Bytes) (held : Option Bytes) → s ≡ before.standing → piece ≡ printed → HoldsFront before.out.written held piece
    → HasRechecked 0 [] s now.standing printed before.folder now.folder → BreaksLoad before now.folder held
breaks_load before now s piece printed held is same front recheck =
    begun_load now.standing printed (subst (λ t. HasRechecked 0 [] t now.standing printed before.folder now.folder) is recheck) (subst (λ p. HoldsFront before.out.written held p) same front)

-- a load from the start
pub loaded_from : (before now : WalkState) (s : Standing) (piece printed : Bytes) → s ≡ before.standing → piece ≡ printed → HasRechecked 0 [] s now.standing printed before.folder now.folder
    → now.out.written ≡ appended before.out.written piece → HasLoaded before now
loaded_from before now s piece printed is same recheck written = record {
  printed = printed;
  load = subst (λ t. HasRechecked 0 [] t now.standing printed before.folder now.folder) is recheck;
  written = written ∙ ap (appended before.out.written) same;
}

pub breaks_turn : (most : ℕ) (next : Command) (said : Line) (taken : ℕ) (lines lines' : Option (List Bytes)) (before : WalkState) (folder : FolderSeen) (held : Option Bytes) → next ≡ command.Takes said
    → Reads next taken lines lines' → BreaksOff most said before folder held → Breaks most taken lines before folder held
breaks_turn most next said taken lines lines' before folder held is reads off = in_turn said lines' (subst (λ n. Reads n taken lines lines') is reads) off

pub breaks_end : (most : ℕ) (next : Command) (how : WalkEnd) (taken : ℕ) (lines lines' : Option (List Bytes)) (before : WalkState) (folder : FolderSeen) (held : Option Bytes) → next ≡ command.Ends how
    → Reads next taken lines lines' → HoldsFront before.out.written held (last_line (taken + 1) how) → Breaks most taken lines before folder held
breaks_end most next how taken lines lines' before folder held is reads front = in_end how (subst (λ n. Reads n taken lines lines') is reads) front

-- ---- the walk

-- the load is a recheck from the start
load_of : (listed : List Bytes) (lanes : ℕ) (first now : WalkState) (loaded : HasLoaded first now) → first.standing ≡ start listed lanes
    → Rechecks first.folder.told 0 (start listed lanes) now.standing loaded.load.faults loaded.printed
load_of listed lanes first now loaded is =
    nothing_beside first.folder.told 0 (start listed lanes) now.standing loaded.load.faults loaded.printed
    (subst (λ s. RechecksBeside first.folder.told 0 [] s now.standing loaded.load.faults loaded.printed) is loaded.load.rechecks)

module _ (most lanes : ℕ) (listed : List Bytes) (script : Option (List Bytes)) (before : WalkState) where
  pub begin : (now : WalkState) → before.standing ≡ start listed lanes → HasLoaded before now → HasWalked most lanes listed script script 0 before now
  begin now is loaded = record {
    lines = [];
    number = refl;
    leaves = unchanged script;
    read_faults = loaded.load.faults;
    printed = loaded.printed;
    walk = loads now.standing loaded.load.faults loaded.printed (load_of listed lanes before now loaded is);
    written = loaded.written;
    counted = loaded.load.counted;
    version = omega (arith, recheck_version (load_of listed lanes before now loaded is));
    answered = subst (AnsweredAtMost (MOST_ASKS * 0)) (sym (recheck_lanes (load_of listed lanes before now loaded is))) (new_at_most lanes (MOST_ASKS * 0));
  }

  pub more : (left left' : Option (List Bytes)) (n : ℕ) (mid now : WalkState) → mid.folder.told ≡ before.folder.told → HasWalked most lanes listed script left n before mid → Takes most n left left' mid now
      → HasWalked most lanes listed script left' (n + 1) before now
  more left left' n mid now same walked takes =
      let is = takes.is in
      let turned = takes.answered.turned in
      record {
        lines = walked.lines ++ is.bytes ∷ [];
        number = omega (arith, walked.number, length-append walked.lines (is.bytes ∷ []));
        leaves = one_more script left left' walked.lines is.bytes walked.leaves is.takes;
        read_faults = walked.read_faults + turned.faults;
        printed = walked.printed ++ takes.answered.printed;
        walk =
            goes walked.lines mid.standing walked.read_faults walked.printed is.bytes takes.said now.standing turned.faults takes.answered.printed walked.walk (omega (arith, walked.number, is.few)) is.short is.says
            (subst (λ told. Turns most told takes.said mid.standing now.standing turned.faults takes.answered.printed) same turned.turns);
        written = takes.answered.written ∙ ap (λ held. appended held takes.answered.printed) walked.written ∙ appended_twice before.out.written walked.printed takes.answered.printed;
        counted = rose_both walked.read_faults turned.faults before.folder.faults mid.folder.faults now.folder.faults walked.counted turned.counted;
        version = omega (arith, walked.version, turn_version turned.turns);
        answered = more_answered n is.bytes takes.said mid.standing now.standing is.says turned.turns walked.answered;
      }

  so_far_of : (left : Option (List Bytes)) (n : ℕ) (now : WalkState) (walked : HasWalked most lanes listed script left n before now) → IsRunSoFar most lanes before.folder.told listed script walked.read_faults walked.printed
  so_far_of left n now walked =
      let rest = some_rest left in
      record { taken = walked.lines; rest = rest.0; lines = told_lines script left walked.lines rest.0 walked.leaves rest.1; standing = now.standing; walk = walked.walk }

  run_of : (left : Option (List Bytes)) (n : ℕ) (now : WalkState) (how : WalkEnd) (walked : HasWalked most lanes listed script left n before now) → HasEnd how n left
      → IsRun most lanes before.folder.told listed script walked.read_faults (walked.printed ++ last_line (n + 1) how) how now.standing.program now.standing.version now.standing.lanes
  run_of left n now how walked end = record {
    taken = walked.lines;
    rest = end.rest;
    lines = told_lines script left walked.lines end.rest walked.leaves end.lines;
    waiting = now.standing.waiting;
    before = walked.printed;
    walk = walked.walk;
    ends = subst (λ k. Ends k end.rest how) (sym walked.number) end.ends;
    prints = ap (λ k. walked.printed ++ last_line (k + 1) how) (sym walked.number);
  }

-- ---- whole runs

-- what is left at the end means what the session did
pub leaves_same : (most lanes : ℕ) (listed : List Bytes) (how : WalkEnd) (errors : ℕ) (m n : Meaning Payload) (ls ks : List LaneUse) (before now : Outside) → m ≡ n → ls ≡ ks
    → HasRun most lanes listed how errors (program_in n.committed) n.version ks before now → HasRun most lanes listed how errors (program_in m.committed) m.version ls before now
leaves_same most lanes listed how errors m n ls ks before now same uses run =
    subst (λ (k : Meaning Payload). HasRun most lanes listed how errors (program_in k.committed) k.version ls before now) (sym same)
    (subst (λ (us : List LaneUse). HasRun most lanes listed how errors (program_in n.committed) n.version us before now) (sym uses) run)

-- the outside with this script, between two lines
abbrev pub outside_at : WalkState → SourceSeen → Outside
outside_at at script = record { folder = at.folder; script = script; out = at.out }

module _ (most lanes : ℕ) (listed : List Bytes) (before : WalkState) (source : SourceSeen) where
  abbrev lines : Option (List Bytes)
  lines = lines_left [] source.left

  abbrev first : Outside
  first = outside_at before source

  pub finishes : (left : Option (List Bytes)) (n : ℕ) (mid now : WalkState) (source' : SourceSeen) (how : WalkEnd) (errors : ℕ) → HasErrorCount now.standing.program errors →
      HasWalked most lanes listed lines left n before mid → Closes how n left mid now → HasRun most lanes listed how errors now.standing.program now.standing.version now.standing.lanes first (outside_at now source')
  finishes left n mid now source' how errors counts walked closes = record {
    read_faults = walked.read_faults;
    printed = walked.printed ++ last_line (n + 1) how;
    run =
        subst (λ (s : Standing). IsRun most lanes before.folder.told listed lines walked.read_faults (walked.printed ++ last_line (n + 1) how) how s.program s.version s.lanes) (sym closes.standing)
        (run_of most lanes listed lines before left n mid how walked closes.is);
    written = closes.written ∙ ap (λ held. appended held (last_line (n + 1) how)) walked.written ∙ appended_twice before.out.written walked.printed (last_line (n + 1) how);
    counted = ap (λ (f : FolderSeen). f.faults) closes.folder ∙ walked.counted;
    counts = counts;
  }

  front_of_run : (how : WalkEnd) (errors : ℕ) (program : Program) (version : ℕ) (uses : List LaneUse) (now : Outside) → HasRun most lanes listed how errors program version uses first now → HasFront most lanes listed first now
  front_of_run how errors program version uses now run = record {
    read_faults = run.read_faults;
    printed = run.printed;
    how = how;
    program = program;
    version = version;
    uses = uses;
    run = run.run;
    front = front_all before.out.written now.out.written run.printed run.written;
    counted = rose_least run.read_faults before.folder.faults now.folder.faults run.counted;
  }

  -- the last line of a walk was printed
  pub front_of_close : (left : Option (List Bytes)) (n : ℕ) (mid now : WalkState) (source' : SourceSeen) (how : WalkEnd) → HasWalked most lanes listed lines left n before mid → Closes how n left mid now
      → HasFront most lanes listed first (outside_at now source')
  front_of_close left n mid now source' how walked closes =
      let count = walk_counts walked.walk in
      let counts : HasErrorCount now.standing.program count.0 = subst (λ (s : Standing). HasErrorCount s.program count.0) (sym closes.standing) count.1 in
      front_of_run how count.0 now.standing.program now.standing.version now.standing.lanes (outside_at now source') (finishes left n mid now source' how count.0 counts walked closes)

  -- a front of what was printed up to a line
  front_so_far : EachHasSizes → EachHasAnswer → (now : Outside) (faults : ℕ) (printed : Bytes) → IsRunSoFar most lanes before.folder.told listed lines faults printed → HoldsFront before.out.written now.out.written printed
      → RoseByAtLeast faults before.folder.faults now.folder.faults → HasFront most lanes listed first now
  front_so_far each answer now faults printed run front counted = let on = goes_on each answer most before.folder.told lanes listed lines faults printed run in record {
    read_faults = faults;
    printed = printed ++ on.more;
    how = on.how;
    program = on.program;
    version = on.version;
    uses = on.uses;
    run = on.run;
    front = front_longer before.out.written now.out.written printed on.more front;
    counted = counted;
  }

  pub front_of_walk : EachHasSizes → EachHasAnswer → (left : Option (List Bytes)) (n : ℕ) (mid : WalkState) (now : Outside) → now.out.written ≡ mid.out.written → mid.folder.faults ≤ now.folder.faults → HasWalked most lanes listed lines left n before mid
      → HasFront most lanes listed first now
  front_of_walk each answer left n mid now same later walked =
      front_so_far each answer now walked.read_faults walked.printed (so_far_of most lanes listed lines before left n mid walked) (front_all before.out.written now.out.written walked.printed (same ∙ walked.written))
      (rose_more walked.read_faults before.folder.faults mid.folder.faults now.folder.faults walked.counted later)

  front_of_turn : EachHasSizes → EachHasAnswer → (left left' : Option (List Bytes)) (n : ℕ) (mid : WalkState) (now : Outside) (said : Line) → mid.folder.told ≡ before.folder.told → mid.folder.faults ≤ now.folder.faults
      → HasWalked most lanes listed lines left n before mid → IsTaken said n left left' → BreaksOff most said mid now.folder now.out.written → HasFront most lanes listed first now
  front_of_turn each answer left left' n mid now said told later walked is (unsaid same) = front_of_walk each answer left n mid now same later walked
  front_of_turn each answer left left' n mid now said told later walked is (begun s printed turned front) =
      let rest = some_rest left' in
      front_so_far each answer now (walked.read_faults + turned.faults) (walked.printed ++ printed) (record {
        taken = walked.lines ++ is.bytes ∷ [];
        rest = rest.0;
        lines = told_lines lines left' (walked.lines ++ is.bytes ∷ []) rest.0 (one_more lines left left' walked.lines is.bytes walked.leaves is.takes) rest.1;
        standing = s;
        walk =
            goes walked.lines mid.standing walked.read_faults walked.printed is.bytes said s turned.faults printed walked.walk (omega (arith, walked.number, is.few)) is.short is.says
            (subst (λ t. Turns most t said mid.standing s turned.faults printed) told turned.turns);
      }) (front_behind before.out.written mid.out.written now.out.written walked.printed printed walked.written front)
      (rose_least (walked.read_faults + turned.faults) before.folder.faults now.folder.faults
      (rose_both walked.read_faults turned.faults before.folder.faults mid.folder.faults now.folder.faults walked.counted turned.counted))

  pub front_of_break : EachHasSizes → EachHasAnswer → (left : Option (List Bytes)) (n : ℕ) (mid : WalkState) (now : Outside) → mid.folder.told ≡ before.folder.told → mid.folder.faults ≤ now.folder.faults → HasWalked most lanes listed lines left n before mid
      → Breaks most n left mid now.folder now.out.written → HasFront most lanes listed first now
  front_of_break each answer left n mid now told later walked (silent same) = front_of_walk each answer left n mid now same later walked
  front_of_break each answer left n mid now told later walked (in_turn said left' is off) = front_of_turn each answer left left' n mid now said told later walked is off
  front_of_break each answer left n mid now told later walked (in_end how end front) = record {
    read_faults = walked.read_faults;
    printed = walked.printed ++ last_line (n + 1) how;
    how = how;
    program = mid.standing.program;
    version = mid.standing.version;
    uses = mid.standing.lanes;
    run = run_of most lanes listed lines before left n mid how walked end;
    front = front_behind before.out.written mid.out.written now.out.written walked.printed (last_line (n + 1) how) walked.written front;
    counted = rose_more walked.read_faults before.folder.faults mid.folder.faults now.folder.faults walked.counted later;
  }

  pub front_of_load : EachHasSizes → EachHasAnswer → (now : Outside) → before.standing ≡ start listed lanes → before.folder.faults ≤ now.folder.faults → BreaksLoad before now.folder now.out.written → HasFront most lanes listed first now
  front_of_load each answer now is later (unsaid_load same) = let run = some_run each answer most before.folder.told lanes listed lines in let on = run.3 in record {
    read_faults = run.0;
    printed = run.2 ++ on.more;
    how = on.how;
    program = on.program;
    version = on.version;
    uses = on.uses;
    run = on.run;
    front = front_none before.out.written now.out.written (run.2 ++ on.more) same;
    counted = omega (arith, later, run.1);
  }
  front_of_load each answer now is later (begun_load s printed load front) =
      let rest = some_rest lines in
      front_so_far each answer now load.faults printed (record {
        taken = [];
        rest = rest.0;
        lines = rest.1;
        standing = s;
        walk = loads s load.faults printed
            (nothing_beside before.folder.told 0 (start listed lanes) s load.faults printed (subst (λ t. RechecksBeside before.folder.told 0 [] t s load.faults printed) is load.rechecks));
      }) front (rose_least load.faults before.folder.faults now.folder.faults load.counted)

  -- the script failed, where neither the folder nor the sink was used any more
  pub stops : (left : Option (List Bytes)) (n : ℕ) (mid : WalkState) (now : Outside) → now.folder ≡ mid.folder → now.out ≡ mid.out → (walked : HasWalked most lanes listed lines left n before mid)
      → TookAllGiven walked.lines source.left now.script.left → HasStopped most lanes listed first now
  unfolding so_far_of
  stops left n mid now unread unwritten walked took = record {
    read_faults = walked.read_faults;
    printed = walked.printed;
    run = so_far_of most lanes listed lines before left n mid walked;
    took_all = took;
    written = ap (λ (k : SinkSeen). k.written) unwritten ∙ walked.written;
    counted = ap (λ (f : FolderSeen). f.faults) unread ∙ walked.counted;
  }
