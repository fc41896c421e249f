-- A run up to a line goes on to a whole run, with no further read fault.
use Rattle.std.proofs.Common.{◌≡◌, ℕ, zero, suc, ◌+◌, ◌≤◌, List, [], ◌∷◌, ◌++◌, length, replicate, Option, Some, None, refl, sym, ap, ◌∙◌, subst, arith, inl, inr, ◌⊎◌, append_assoc, length-append}
use Rattle.std.specs.List.{AllByRecursion}
use Rattle.std.proofs.lemmas.Bool.{cases_lt}
use Rattle.std.proofs.lemmas.List.{take-append-le}
use Rattle.flow_base.specs.Program.{Bytes, Program}
use Rattle.flow_base.specs.Outside.{WhereTold, appended, HoldsFront}
use Rattle.beside.specs.full_law.specs.Law.{EachFull}
use Rattle.beside.specs.affected_sizes.specs.Law.{EachHasSizes}
use Rattle.beside.specs.answers_law.specs.Answers.{IsAnswer}
use Rattle.beside.specs.answers_law.specs.Law.{EachHasAnswer}
use Rattle.asks.specs.declared.ask.Ask.{Ask}
use Rattle.beside.specs.Uses.{AnsweredUpTo}
use Rattle.beside.proofs.Uses.{same_falls, new_up_to, up_to_later, still_up_to}
use Rattle.answer_print.specs.Lines.{answer_lines}
use Rattle.pending_edits.specs.Pending.{MayBecome, edited}
use Rattle.program_check.specs.Status.{error_count}
use Rattle.pending_edits.specs.declared.edit.Edit.TheVariants.{Put, Touch}
use Rattle.script_line.specs.declared.line.Line.{Line}
use Rattle.script_line.specs.declared.line.Line.TheVariants as line
use Rattle.script_line.specs.Says.{Says}
use Rattle.script_line.proofs.Deciding.{says_or_not}
use Rattle.script_reader.specs.Lines.{LINE_LIMIT}
use Rattle.script_run.specs.Checked.{HasErrorCount}
use Rattle.script_run.specs.declared.ending.WalkEnd.{WalkEnd}
use Rattle.script_run.specs.declared.ending.WalkEnd.TheVariants as ending
use Rattle.script_run.specs.Transcript.{Standing, MOST_LINES, start, with_edit, after_asks, modules_counted, ComesTo, Rechecks, done, cancelled, cannot_read, AnswersBeside, RechecksBeside, Turns, blank, edits, refuses, touches, refuses_touch, deletes, rechecks, answers, Walked, loads, goes, Ends, no_line, end_line, bad, long, many_asks, many, last_line, IsRun, IsRunSoFar, GoesOn}
use Rattle.script_run.proofs.Lanes.{recheck_later, recheck_lanes, versions_up_to}

-- ---- lists

pub front_longer : (before now : Option Bytes) (piece more : Bytes) → HoldsFront before now piece → HoldsFront before now (piece ++ more)
front_longer before now piece more (n, within, front) = (n, omega (arith, within, length-append piece more), front ∙ ap (appended before) (sym (take-append-le n piece more within)))

-- ---- a recheck and a turn without a read fault

some_program : (told : Option Program) (s : Standing) → (program : Program) × MayBecome told s.program s.waiting program
some_program None s = (edited [] s.program s.waiting, ([], tt, refl))
some_program (Some folder) s = (edited folder s.program s.waiting, (folder, refl, refl))

-- where each edit has sizes, each program has a full check
each_full : EachHasSizes → EachFull
each_full each program = let sizes = (each [] program).3 in (sizes.after, sizes.full_after)

quiet_recheck : EachHasSizes → (told : Option Program) (stop : ℕ) (s : Standing) → (t : Standing) × (printed : Bytes) × Rechecks told stop s t 0 printed
quiet_recheck each told stop s =
    let may = some_program told s in
    let sizes = each s.program may.0 in
    let comes : ComesTo told s may.0 sizes.0 sizes.1 sizes.2 = record { may = may.1; sizes = sizes.3 } in
    let full = each_full each may.0 in
    let errors : HasErrorCount may.0 (error_count full.0) = ∣ (full.0, full.1, refl) ∣₁ in
    elim (cases_lt 0 stop) [
      | inr none ↦ (_, _, done s may.0 sizes.0 sizes.1 sizes.2 (error_count full.0) comes (inl (omega arith)) errors)
      | inl some ↦ elim (cases_lt sizes.2 stop) [
        | inl later ↦ (_, _, done s may.0 sizes.0 sizes.1 sizes.2 (error_count full.0) comes (inr later) errors)
        | inr within ↦ (_, _, cancelled s may.0 sizes.0 sizes.1 sizes.2 comes some (omega arith))
      ]
    ]

-- ---- the versions that lanes have answered from

-- none is later than the one at which the walk stands
abbrev AreUpTo : Standing → Type 0
AreUpTo s = AnsweredUpTo s.version s.lanes

-- where the versions are no later than that of where the recheck leads
up_to_beside : (s t : Standing) (versions : List ℕ) → AreUpTo s → s.version ≤ t.version → t.lanes ≡ s.lanes → AllByRecursion (λ v. v ≤ t.version) versions → AreUpTo (after_asks t versions)
up_to_beside s t versions low later same all = still_up_to t.version t.lanes versions (subst (AnsweredUpTo t.version) (sym same) (up_to_later s.version t.version s.lanes later low)) all

turn_up_to : {most : ℕ} {told : Option Program} {said : Line} {s t : Standing} {f : ℕ} {p : Bytes} → Turns most told said s t f p → AreUpTo s → AreUpTo t
turn_up_to (blank s) low = low
turn_up_to (edits s path text few) low = low
turn_up_to (refuses s path text over) low = low
turn_up_to (touches s path few) low = low
turn_up_to (refuses_touch s path over) low = low
turn_up_to (deletes s path) low = low
turn_up_to (rechecks s t stop asks f p beside) low =
    let later = recheck_later beside.rechecks in
    subst AreUpTo (sym beside.leads)
    (up_to_beside s beside.next beside.versions low later (recheck_lanes beside.rechecks) (versions_up_to s beside.next asks beside.versions beside.answered later beside.answers))
turn_up_to (answers s asked answer is) low = still_up_to s.version s.lanes (s.version ∷ []) low (omega arith, tt)

walk_up_to : {most lanes : ℕ} {told : Option Program} {listed taken : List Bytes} {s : Standing} {f : ℕ} {p : Bytes} → Walked most lanes told listed taken s f p → AreUpTo s
walk_up_to {lanes = lanes} (loads s f p load) = subst (AnsweredUpTo s.version) (sym (recheck_lanes load)) (new_up_to lanes s.version)
walk_up_to (goes taken s f p bytes said t more_f more_p walk few short says turn) = turn_up_to turn (walk_up_to walk)

-- ---- asks beside a recheck, all answered from the version before it

all_answered : EachHasAnswer → (s t : Standing) (asks : List Ask) → (printed : Bytes) × AnswersBeside s t asks (replicate (length asks) s.version) printed
all_answered answer s t [] = ([], refl)
all_answered answer s t (asked ∷ asks) =
    let is = answer s.program asked in
    let rest = all_answered answer s t asks in
    (_, (is.0, rest.0, inl (refl, is.1), rest.1, refl))

all_same : (n v : ℕ) → AllByRecursion (λ u. u ≡ v) (replicate n v)
all_same zero v = tt
all_same (suc n) v = (refl, all_same n v)

quiet_beside : EachHasSizes → EachHasAnswer → (told : Option Program) (stop : ℕ) (asks : List Ask) (s : Standing) → AreUpTo s → (t : Standing) × (printed : Bytes) × RechecksBeside told stop asks s t 0 printed
quiet_beside each answer told stop asks s low =
    let recheck = quiet_recheck each told stop s in
    let versions : List ℕ = replicate (length asks) s.version in
    let answered = all_answered answer s recheck.0 asks in (
      after_asks recheck.0 versions,
      recheck.1 ++ answered.0,
      record {
        next = recheck.0;
        line = recheck.1;
        rechecks = recheck.2;
        versions = versions;
        answered = answered.0;
        answers = answered.1;
        falls_not = same_falls s.lanes s.version versions low (all_same (length asks) s.version);
        leads = refl;
        prints = refl;
      },
    )

module _ (each : EachHasSizes) (answer : EachHasAnswer) (most : ℕ) (told : Option Program) where
  quiet_edit : (s : Standing) (path text : Bytes) → (t : Standing) × (printed : Bytes) × Turns most told (line.Edit path text) s t 0 printed
  quiet_edit s path text = elim (cases_lt most (modules_counted (with_edit s path (Put text)))) [
    | inl over ↦ (_, _, refuses s path text over)
    | inr few ↦ (_, _, edits s path text few)
  ]

  quiet_touch : (s : Standing) (path : Bytes) → (t : Standing) × (printed : Bytes) × Turns most told (line.Touch path) s t 0 printed
  quiet_touch s path = elim (cases_lt most (modules_counted (with_edit s path Touch))) [
    | inl over ↦ (_, _, refuses_touch s path over)
    | inr few ↦ (_, _, touches s path few)
  ]

  quiet_turn : (said : Line) → (said ≡ line.End → ⊥) → (s : Standing) → AreUpTo s → (t : Standing) × (printed : Bytes) × Turns most told said s t 0 printed
  quiet_turn line.Blank goes_on s low = (_, _, blank s)
  quiet_turn (line.Edit path text) goes_on s low = quiet_edit s path text
  quiet_turn (line.Delete path) goes_on s low = (_, _, deletes s path)
  quiet_turn (line.Touch path) goes_on s low = quiet_touch s path
  quiet_turn (line.Recheck stop asks) goes_on s low = let beside = quiet_beside each answer told stop asks s low in (_, _, rechecks s beside.0 stop asks 0 beside.1 beside.2)
  quiet_turn (line.Ask asked) goes_on s low = let is = answer s.program asked in (_, _, answers s asked is.0 is.1)
  quiet_turn line.End goes_on s low = absurd (goes_on refl)

  end_or_not : (said : Line) → (said ≡ line.End) ⊎ (said ≡ line.End → ⊥)
  end_or_not line.Blank = inr (λ is. absurd (cc (is)))
  end_or_not (line.Edit path text) = inr (λ is. absurd (cc (is)))
  end_or_not (line.Delete path) = inr (λ is. absurd (cc (is)))
  end_or_not (line.Touch path) = inr (λ is. absurd (cc (is)))
  end_or_not (line.Recheck stop asks) = inr (λ is. absurd (cc (is)))
  end_or_not (line.Ask a) = inr (λ is. absurd (cc (is)))
  end_or_not line.End = inl refl

  -- ---- the rest of a script

  module _ (lanes : ℕ) (listed : List Bytes) where
    stops_there : (before rest : List Bytes) (s : Standing) (faults : ℕ) (printed : Bytes) → Walked most lanes told listed before s faults printed → (how : WalkEnd) → Ends (length before) rest how
        → GoesOn most lanes told listed (Some (before ++ rest)) faults printed
    stops_there before rest s faults printed walk how ends = record {
      more = last_line (length before + 1) how;
      how = how;
      program = s.program;
      version = s.version;
      uses = s.lanes;
      run = record { taken = before; rest = rest; lines = refl; waiting = s.waiting; before = printed; walk = walk; ends = ends; prints = refl };
    }

    -- what goes on behind one line more goes on before it
    one_back : (lines lines' : List Bytes) (faults faults' : ℕ) (printed piece : Bytes) → lines' ≡ lines → faults' ≡ faults → GoesOn most lanes told listed (Some lines') faults' (printed ++ piece)
        → GoesOn most lanes told listed (Some lines) faults printed
    one_back lines lines' faults faults' printed piece same quiet on = record {
      more = piece ++ on.more;
      how = on.how;
      program = on.program;
      version = on.version;
      uses = on.uses;
      run =
          subst (λ ls. IsRun most lanes told listed (Some ls) faults (printed ++ (piece ++ on.more)) on.how on.program on.version on.uses) same
          (subst (λ f. IsRun most lanes told listed (Some lines') f (printed ++ (piece ++ on.more)) on.how on.program on.version on.uses) quiet
          (subst (λ p. IsRun most lanes told listed (Some lines') faults' p on.how on.program on.version on.uses) (append_assoc printed piece on.more) on.run));
    }

    -- one line is taken, or the walk ends there
    one_line : (before : List Bytes) (bytes : Bytes) (rest : List Bytes) (s : Standing) (faults : ℕ) (printed : Bytes) → Walked most lanes told listed before s faults printed
        → ((t : Standing) (more : Bytes) → Walked most lanes told listed (before ++ bytes ∷ []) t (faults + 0) (printed ++ more) → GoesOn most lanes told listed (Some ((before ++ bytes ∷ []) ++ rest)) (faults + 0) (printed ++ more))
        → GoesOn most lanes told listed (Some (before ++ bytes ∷ rest)) faults printed
    one_line before bytes rest s faults printed walk next = elim (cases_lt (length before) MOST_LINES) [
      | inr past ↦ stops_there before (bytes ∷ rest) s faults printed walk ending.ManyLines (many bytes rest past)
      | inl few ↦ elim (cases_lt LINE_LIMIT (length bytes)) [
        | inl over ↦ stops_there before (bytes ∷ rest) s faults printed walk ending.LongLine (long bytes rest few over)
        | inr short ↦ elim (says_or_not bytes) [
          | inr (inl over_asks) ↦ stops_there before (bytes ∷ rest) s faults printed walk (ending.ManyAsks over_asks.0) (many_asks bytes rest over_asks.0 few short over_asks.1)
          | inr (inr never) ↦ stops_there before (bytes ∷ rest) s faults printed walk ending.BadLine (bad bytes rest few short never)
          | inl said ↦ elim (end_or_not said.0) [
            | inl end ↦ stops_there before (bytes ∷ rest) s faults printed walk ending.Finished (end_line bytes rest few short (subst (λ l. Says bytes l) end said.1))
            | inr goes_on ↦
                let turn = quiet_turn said.0 goes_on s (walk_up_to walk) in
                one_back (before ++ bytes ∷ rest) ((before ++ bytes ∷ []) ++ rest) faults (faults + 0) printed turn.1 (append_assoc before (bytes ∷ []) rest) (omega arith)
                (next turn.0 turn.1 (goes before s faults printed bytes said.0 turn.0 0 turn.1 walk few short said.1 turn.2))
          ]
        ]
      ]
    ]

    walks_on : (rest before : List Bytes) (s : Standing) (faults : ℕ) (printed : Bytes) → Walked most lanes told listed before s faults printed → GoesOn most lanes told listed (Some (before ++ rest)) faults printed
    walks_on [] before s faults printed walk = stops_there before [] s faults printed walk ending.Finished no_line
    walks_on (bytes ∷ rest) before s faults printed walk =
        one_line before bytes rest s faults printed walk (λ t more on. walks_on rest (before ++ bytes ∷ []) t (faults + 0) (printed ++ more) on)

    told_so : (script : Option (List Bytes)) (lines before rest : List Bytes) → WhereTold script (λ its. its ≡ lines) → lines ≡ before ++ rest → WhereTold script (λ its. its ≡ before ++ rest)
    told_so None lines before rest same is = tt
    told_so (Some its) lines before rest same is = same ∙ is

    of_lines : (script : Option (List Bytes)) (lines : List Bytes) (faults : ℕ) (printed : Bytes) → WhereTold script (λ its. its ≡ lines) → GoesOn most lanes told listed (Some lines) faults printed
        → GoesOn most lanes told listed script faults printed
    of_lines script lines faults printed same on = let run = on.run in record {
      more = on.more;
      how = on.how;
      program = on.program;
      version = on.version;
      uses = on.uses;
      run = record {
        taken = run.taken;
        rest = run.rest;
        lines = told_so script lines run.taken run.rest same run.lines;
        waiting = run.waiting;
        before = run.before;
        walk = run.walk;
        ends = run.ends;
        prints = run.prints;
      };
    }

    some_lines : (script : Option (List Bytes)) → (lines : List Bytes) × WhereTold script (λ its. its ≡ lines)
    some_lines None = ([], tt)
    some_lines (Some lines) = (lines, refl)

    pub goes_on : (script : Option (List Bytes)) (faults : ℕ) (printed : Bytes) → IsRunSoFar most lanes told listed script faults printed → GoesOn most lanes told listed script faults printed
    goes_on script faults printed run = of_lines script (run.taken ++ run.rest) faults printed run.lines (walks_on run.rest run.taken run.standing faults printed run.walk)

    -- a load without a read fault goes on so, whatever the script is
    pub some_run : (script : Option (List Bytes)) → (faults : ℕ) × (faults ≡ 0) × (printed : Bytes) × GoesOn most lanes told listed script faults printed
    some_run script =
        let load = quiet_recheck each told 0 (start listed lanes) in
        let lines = some_lines script in
        (0, refl, load.1, of_lines script lines.0 0 load.1 lines.1 (walks_on lines.0 [] load.0 0 load.1 (loads load.0 0 load.1 load.2)))
