-- The parts of a run on made-up modules, and what was written of them.
use Rattle.std.proofs.Common.{◌≡◌, ℕ, ◌+◌, ◌<◌, ◌≤◌, List, [], ◌∷◌, ◌++◌, length, map, replicate, take, drop, get_or, Option, Some, refl, sym, ap, ◌∙◌, subst, arith, inl, inr}
use Rattle.std.specs.List.{flat_map}
use Rattle.std.specs.Prelude.{Result, OnOk, OnErr}
use Rattle.std.proofs.lemmas.Result.{on_ok_weaker, on_err_weaker}
use Rattle.std.proofs.lemmas.List.{take-append-drop, length-map, length-replicate}
use Rattle.std.proofs.lemmas.Grind.{flat_map-append}
use Rattle.std.proofs.lemmas.List.FromFn.{length-map-range_with_len}
use Rattle.named_rows.proofs.Lists.{flat_more}
use Rattle.flow_base.specs.Causes.{RoseBy}
use Rattle.flow_base.specs.Outside.{appended, HoldsFront}
use Rattle.flow_base.specs.Program.{Bytes, Program, paths_of}
use Rattle.flow_base.specs.Seen.{FolderSeen}
use Rattle.script_run.specs.affected_sizes.specs.Law.{EachHasSizes}
use Rattle.script_run.specs.beside.specs.Uses.{LaneUse, new_lane, MayAnswer}
use Rattle.script_run.specs.beside.proofs.Uses.{may_answer, new_at_most}
use Rattle.script_line.specs.declared.line.Line.{Line}
use Rattle.script_line.specs.declared.line.Line.TheVariants as line
use Rattle.script_run.specs.Checked.{HasErrorCount}
use Rattle.script_run.specs.Session.{HasRechecked, HasTurned}
use Rattle.script_run.specs.Transcript.{Standing, start, Rechecks, done, cancelled, cannot_read, Turns, edits, refuses, rechecks}
use Rattle.script_run.proofs.Completing.{front_longer}
use Rattle.script_run.proofs.Lanes.{nothing_beside}
use Rattle.script_run.proofs.Fronts.{appended_none, front_none, front_all, front_behind}
use Rattle.script_run.proofs.Writing.{appended_twice}
use Rattle.generator.specs.Draws.{edited}
use Rattle.generator.specs.Modules.{module_in, edits_of}
use Rattle.generated_run.specs.Run.{IsFolder, put_and_check, turns_of, Goes, generated_line, IsGeneratedRun, HasGenerated, HasGeneratedFront}
use Rattle.generated_run.specs.Steps.{HasDone, HasBegun, Loads, TakesTurn, BreaksOff}
use Rattle.generated_run.proofs.OneRun.{goes_one, goes_both, some_check, some_round, some_rounds, makes_run, goes_on, some_run}

-- ---- a folder that doesn't fail

no_fault : (faults before now : ℕ) → before ≡ 0 → now ≡ 0 → RoseBy faults before now → faults ≡ 0
no_fault faults before now first last rose = omega (arith, first, last, rose)

pub quiet_load : (lanes : ℕ) (folder : Program) (s t : Standing) (printed : Bytes) (before now : FolderSeen) → s ≡ start (paths_of folder) lanes → before.told ≡ Some folder → before.faults ≡ 0 → now.faults ≡ 0
    → HasRechecked 0 [] s t printed before now → Loads lanes folder t printed
quiet_load lanes folder s t printed before now is told first last load =
    subst (λ f. Rechecks (Some folder) 0 (start (paths_of folder) lanes) t f printed) (no_fault load.faults before.faults now.faults first last load.counted)
    (subst (λ w. Rechecks w 0 (start (paths_of folder) lanes) t load.faults printed) told (subst (λ r. Rechecks before.told 0 r t load.faults printed) is (nothing_beside _ _ _ _ _ _ load.rechecks)))

pub quiet_turn : (most : ℕ) (folder : Program) (said : Line) (s t : Standing) (printed : Bytes) (before now : FolderSeen) → before.told ≡ Some folder → before.faults ≡ 0 → now.faults ≡ 0
    → HasTurned most said s t printed before now → TakesTurn most folder said s t printed
quiet_turn most folder said s t printed before now told first last turned =
    subst (λ f. Turns most (Some folder) said s t f printed) (no_fault turned.faults before.faults now.faults first last turned.counted)
    (subst (λ w. Turns most w said s t turned.faults printed) told turned.turns)

-- ---- versions

recheck_version : {told : Option Program} {stop : ℕ} {s t : Standing} {f : ℕ} {printed : Bytes} → Rechecks told stop s t f printed → t.version ≤ s.version + 1
recheck_version (done s program parsed checked polls errors comes through counts) = omega arith
recheck_version (cancelled s program parsed checked polls comes some within) = omega arith
recheck_version (cannot_read s path touched) = omega arith

pub done_version : (lanes : ℕ) (folder : Program) (t : Standing) (printed : Bytes) → Loads lanes folder t printed → t.version ≤ 1
done_version lanes folder t printed loads = omega (arith, recheck_version loads)

edit_version : {most : ℕ} {told : Option Program} {path text : Bytes} {s t : Standing} {f : ℕ} {p : Bytes} → Turns most told (line.Edit path text) s t f p → t.version ≤ s.version
edit_version (edits s path text few) = omega arith
edit_version (refuses s path text many) = omega arith

check_version : {most : ℕ} {told : Option Program} {stop : ℕ} {s t : Standing} {f : ℕ} {p : Bytes} → Turns most told (line.Recheck stop []) s t f p → t.version ≤ s.version + 1
check_version (rechecks s t stop asks f p recheck) = recheck_version (nothing_beside _ _ _ _ _ _ recheck)

-- ---- lanes

recheck_lanes : {told : Option Program} {stop : ℕ} {s t : Standing} {f : ℕ} {printed : Bytes} → Rechecks told stop s t f printed → t.lanes ≡ s.lanes
recheck_lanes (done s program parsed checked polls errors comes through counts) = refl
recheck_lanes (cancelled s program parsed checked polls comes some within) = refl
recheck_lanes (cannot_read s path touched) = refl

edit_lanes : {most : ℕ} {told : Option Program} {path text : Bytes} {s t : Standing} {f : ℕ} {p : Bytes} → Turns most told (line.Edit path text) s t f p → t.lanes ≡ s.lanes
edit_lanes (edits s path text few) = refl
edit_lanes (refuses s path text many) = refl

check_lanes : {most : ℕ} {told : Option Program} {stop : ℕ} {s t : Standing} {f : ℕ} {p : Bytes} → Turns most told (line.Recheck stop []) s t f p → t.lanes ≡ s.lanes
check_lanes (rechecks s t stop asks f p recheck) = recheck_lanes (nothing_beside _ _ _ _ _ _ recheck)

pub load_lanes : (lanes : ℕ) (folder : Program) (t : Standing) (printed : Bytes) → Loads lanes folder t printed → t.lanes ≡ replicate lanes new_lane
load_lanes lanes folder t printed loads = recheck_lanes loads

-- new lanes may answer
pub new_may : (lanes : ℕ) (uses : List LaneUse) → uses ≡ replicate lanes new_lane → MayAnswer 0 uses
new_may lanes uses are = subst (MayAnswer 0) (sym are) (may_answer 0 0 (replicate lanes new_lane) (new_at_most lanes 0) (omega arith))

-- there are as many as at first
pub as_many_lanes : {L : Type 0} (of_lane : L → LaneUse) (all : List L) (lanes : ℕ) (uses held : List LaneUse) → map of_lane all ≡ held → held ≡ uses → uses ≡ replicate lanes new_lane → length all ≡ lanes
as_many_lanes of_lane all lanes uses held are still first = sym (length-map all of_lane) ∙ ap length (are ∙ still ∙ first) ∙ length-replicate lanes new_lane

-- ---- what was written

-- something was printed, and all of that was written
pub done_by : (Prints : Standing → Bytes → Type 0) (t : Standing) (piece printed : Bytes) (before now : Option Bytes) → piece ≡ printed → Prints t printed → now ≡ appended before piece → HasDone Prints t before now
done_by Prints t piece printed before now is prints written = record { printed = printed; prints = prints; written = written ∙ ap (appended before) is }

pub begun_by : (Prints : Standing → Bytes → Type 0) (t : Standing) (piece printed : Bytes) (before now : Option Bytes) → piece ≡ printed → Prints t printed → HoldsFront before now piece → HasBegun Prints before now
begun_by Prints t piece printed before now is prints front = record { standing = t; printed = printed; prints = prints; front = subst (HoldsFront before now) is front }

pub unbegun : (Prints : Standing → Bytes → Type 0) → ((t : Standing) × (printed : Bytes) × Prints t printed) → (before now : Option Bytes) → now ≡ before → HasBegun Prints before now
unbegun Prints some before now same = record { standing = some.0; printed = some.1; prints = some.2; front = front_none before now some.1 same }

module _ (most : ℕ) (folder : Program) where
  abbrev Behind : List Line → Standing → Standing → Bytes → Type 0
  Behind lines s t printed = Goes most folder lines s t printed

  pub done_more : (lines more : List Line) (s t u : Standing) (before mid now : Option Bytes) → HasDone (Behind lines s) t before mid → HasDone (Behind more t) u mid now → HasDone (Behind (lines ++ more) s) u before now
  done_more lines more s t u before mid now first rest = record {
    printed = first.printed ++ rest.printed;
    prints = goes_both most folder lines more s t u first.printed rest.printed first.prints rest.prints;
    written = rest.written ∙ ap (λ held. appended held rest.printed) first.written ∙ appended_twice before first.printed rest.printed;
  }

  pub begun_behind : (lines more : List Line) (s t : Standing) (before mid now : Option Bytes) → HasDone (Behind lines s) t before mid → HasBegun (Behind more t) mid now → HasBegun (Behind (lines ++ more) s) before now
  begun_behind lines more s t before mid now first rest = record {
    standing = rest.standing;
    printed = first.printed ++ rest.printed;
    prints = goes_both most folder lines more s t rest.standing first.printed rest.printed first.prints rest.prints;
    front = front_behind before mid now first.printed rest.printed first.written rest.front;
  }

  pub begun_on : (lines more : List Line) (s : Standing) (before now : Option Bytes) → ((t : Standing) → (u : Standing) × (printed : Bytes) × Behind more t u printed) → HasBegun (Behind lines s) before now
      → HasBegun (Behind (lines ++ more) s) before now
  begun_on lines more s before now on first =
      let rest = on first.standing in
      record {
        standing = rest.0;
        printed = first.printed ++ rest.1;
        prints = goes_both most folder lines more s first.standing rest.0 first.printed rest.1 first.prints rest.2;
        front = front_longer before now first.printed rest.1 first.front;
      }

  -- one turn
  one_done : (said : Line) (s t : Standing) (before now : Option Bytes) → HasDone (TakesTurn most folder said s) t before now → HasDone (Behind (said ∷ []) s) t before now
  one_done said s t before now turn = record { printed = turn.printed; prints = goes_one most folder said s t turn.printed turn.prints; written = turn.written }

  one_begun : (said : Line) (s : Standing) (before now : Option Bytes) → HasBegun (TakesTurn most folder said s) before now → HasBegun (Behind (said ∷ []) s) before now
  one_begun said s before now turn = record { standing = turn.standing; printed = turn.printed; prints = goes_one most folder said s turn.standing turn.printed turn.prints; front = turn.front }

  -- an edit, and the recheck behind it
  module _ (path text : Bytes) (s : Standing) where
    abbrev the_edit : Line
    the_edit = line.Edit path text

    pub round_done : (t u : Standing) (before mid now : Option Bytes) → HasDone (TakesTurn most folder the_edit s) t before mid → HasDone (TakesTurn most folder (line.Recheck 0 []) t) u mid now
        → HasDone (Behind (put_and_check (path, text)) s) u before now
    round_done t u before mid now first check =
        done_more (the_edit ∷ []) (line.Recheck 0 [] ∷ []) s t u before mid now (one_done the_edit s t before mid first) (one_done (line.Recheck 0 []) t u mid now check)

    pub round_version : (t u : Standing) (before mid now : Option Bytes) → HasDone (TakesTurn most folder the_edit s) t before mid → HasDone (TakesTurn most folder (line.Recheck 0 []) t) u mid now → u.version ≤ s.version + 1
    round_version t u before mid now first check = omega (arith, edit_version first.prints, check_version check.prints)

    pub round_lanes : (t u : Standing) (before mid now : Option Bytes) → HasDone (TakesTurn most folder the_edit s) t before mid → HasDone (TakesTurn most folder (line.Recheck 0 []) t) u mid now → u.lanes ≡ s.lanes
    round_lanes t u before mid now first check = check_lanes check.prints ∙ edit_lanes first.prints

    pub put_may : (t : Standing) (before mid : Option Bytes) → HasDone (TakesTurn most folder the_edit s) t before mid → (asks : ℕ) → asks ≡ 0 → MayAnswer 0 s.lanes → MayAnswer asks t.lanes
    put_may t before mid first asks none may = subst (λ (n : ℕ). MayAnswer n t.lanes) (sym none) (subst (MayAnswer 0) (sym (edit_lanes first.prints)) may)

    pub put_version : (t : Standing) (before mid : Option Bytes) → HasDone (TakesTurn most folder the_edit s) t before mid → t.version ≤ s.version
    put_version t before mid first = edit_version first.prints

    pub put_breaks : EachHasSizes → (before now : Option Bytes) → BreaksOff most folder the_edit s before now → HasBegun (Behind (put_and_check (path, text)) s) before now
    put_breaks each before now (inl same) = unbegun (Behind (put_and_check (path, text)) s) (some_round each folder most s (path, text)) before now same
    put_breaks each before now (inr turn) =
        begun_on (the_edit ∷ []) (line.Recheck 0 [] ∷ []) s before now
        (λ t. let check = some_check each folder most t in (check.0, check.1, goes_one most folder (line.Recheck 0 []) t check.0 check.1 check.2)) (one_begun the_edit s before now turn)

    pub check_breaks : EachHasSizes → (t : Standing) (before mid now : Option Bytes) → HasDone (TakesTurn most folder the_edit s) t before mid → BreaksOff most folder (line.Recheck 0 []) t mid now
        → HasBegun (Behind (put_and_check (path, text)) s) before now
    check_breaks each t before mid now first breaks =
        begun_behind (the_edit ∷ []) (line.Recheck 0 [] ∷ []) s t before mid now (one_done the_edit s t before mid first) (of_check breaks)
      where
        of_check : BreaksOff most folder (line.Recheck 0 []) t mid now → HasBegun (Behind (line.Recheck 0 [] ∷ []) t) mid now
        of_check (inl same) =
            let check = some_check each folder most t in
            unbegun (Behind (line.Recheck 0 [] ∷ []) t) (check.0, check.1, goes_one most folder (line.Recheck 0 []) t check.0 check.1 check.2) mid now same
        of_check (inr turn) = one_begun (line.Recheck 0 []) t mid now turn

    -- the same by the results of both turns, where the session still takes as many modules, the folder is the same, and nothing is asked
    module _ (t : Standing) (before mid : Option Bytes) (first : HasDone (TakesTurn most folder the_edit s) t before mid) {X E : Type 0} (result : Result X E) (m : ℕ) (f : Program) (said : Line) (modules : m ≡ most) (same : f ≡ folder)
        (is : said ≡ line.Recheck 0 []) where
      turned : (u : Standing) (now : Option Bytes) → HasDone (TakesTurn m f said t) u mid now → HasDone (TakesTurn most folder (line.Recheck 0 []) t) u mid now
      turned u now check =
          subst (λ (k : ℕ). HasDone (TakesTurn k folder (line.Recheck 0 []) t) u mid now) modules
          (subst (λ (g : Program). HasDone (TakesTurn m g (line.Recheck 0 []) t) u mid now) same (subst (λ (l : Line). HasDone (TakesTurn m f l t) u mid now) is check))

      broken : (now : Option Bytes) → BreaksOff m f said t mid now → BreaksOff most folder (line.Recheck 0 []) t mid now
      broken now breaks =
          subst (λ (k : ℕ). BreaksOff k folder (line.Recheck 0 []) t mid now) modules
          (subst (λ (g : Program). BreaksOff m g (line.Recheck 0 []) t mid now) same (subst (λ (l : Line). BreaksOff m f l t mid now) is breaks))

      pub round_ok : (u : Standing) (now : Option Bytes) → OnOk result (HasDone (TakesTurn m f said t) u mid now) → OnOk result (HasDone (Behind (put_and_check (path, text)) s) u before now)
      round_ok u now check = on_ok_weaker result (λ taken. round_done t u before mid now first (turned u now taken)) check

      pub round_err : EachHasSizes → (now : Option Bytes) → OnErr result (BreaksOff m f said t mid now) → OnErr result (HasBegun (Behind (put_and_check (path, text)) s) before now)
      round_err each now breaks = on_err_weaker result (λ off. check_breaks each t before mid now first (broken now off)) breaks

      pub version_ok : (u : Standing) (now : Option Bytes) → OnOk result (HasDone (TakesTurn m f said t) u mid now) → OnOk result (u.version ≤ s.version + 1)
      version_ok u now check = on_ok_weaker result (λ taken. round_version t u before mid now first (turned u now taken)) check

      pub lanes_ok : (u : Standing) (now : Option Bytes) → OnOk result (HasDone (TakesTurn m f said t) u mid now) → OnOk result (u.lanes ≡ s.lanes)
      lanes_ok u now check = on_ok_weaker result (λ taken. round_lanes t u before mid now first (turned u now taken)) check

  -- ---- edit by edit

  module _ (all : List (Bytes × Bytes)) (s : Standing) (before : Option Bytes) where
    abbrev pub SoFar : ℕ → Standing → Option Bytes → Type 0
    SoFar i t mid = HasDone (Behind (flat_map put_and_check (take i all)) s) t before mid

    pub none_yet : SoFar 0 s before
    none_yet = record { printed = []; prints = (refl, refl); written = sym (appended_none before) }

    one_more : (i : ℕ) (edit : Bytes × Bytes) → i < length all → edit ≡ get_or all i edit → flat_map put_and_check (take (i + 1) all) ≡ flat_map put_and_check (take i all) ++ put_and_check edit
    one_more i edit within is = flat_more put_and_check all i edit within ∙ ap (λ e. flat_map put_and_check (take i all) ++ put_and_check e) (sym is)

    one_round_more : (i : ℕ) (edit : Bytes × Bytes) (t u : Standing) (mid now : Option Bytes) → i < length all → edit ≡ get_or all i edit → SoFar i t mid
        → HasDone (Behind (put_and_check edit) t) u mid now → SoFar (i + 1) u now
    one_round_more i edit t u mid now within is so_far round =
        subst (λ lines. HasDone (Behind lines s) u before now) (sym (one_more i edit within is))
        (done_more (flat_map put_and_check (take i all)) (put_and_check edit) s t u before mid now so_far round)

    -- the edits that are left
    left_over : (i : ℕ) → flat_map put_and_check all ≡ flat_map put_and_check (take i all) ++ flat_map put_and_check (drop i all)
    left_over i = ap (flat_map put_and_check) (sym (take-append-drop i all)) ∙ flat_map-append put_and_check (take i all) (drop i all)

    pub stops_between : EachHasSizes → (i : ℕ) (t : Standing) (mid now : Option Bytes) → now ≡ mid → SoFar i t mid → HasBegun (Behind (flat_map put_and_check all) s) before now
    stops_between each i t mid now same so_far =
        subst (λ lines. HasBegun (Behind lines s) before now) (sym (left_over i))
        (begun_behind (flat_map put_and_check (take i all)) (flat_map put_and_check (drop i all)) s t before mid now so_far
        (unbegun (Behind (flat_map put_and_check (drop i all)) t) (some_rounds each folder most (drop i all) t) mid now same))

    stops_within : EachHasSizes → (i : ℕ) (edit : Bytes × Bytes) (t : Standing) (mid now : Option Bytes) → i < length all → edit ≡ get_or all i edit → SoFar i t mid → HasBegun (Behind (put_and_check edit) t) mid now
        → HasBegun (Behind (flat_map put_and_check all) s) before now
    stops_within each i edit t mid now within is so_far round =
        subst (λ lines. HasBegun (Behind lines s) before now) (sym (left_over (i + 1) ∙ ap (λ lines. lines ++ flat_map put_and_check (drop (i + 1) all)) (one_more i edit within is)))
        (begun_on (flat_map put_and_check (take i all) ++ put_and_check edit) (flat_map put_and_check (drop (i + 1) all)) s before now (some_rounds each folder most (drop (i + 1) all))
        (begun_behind (flat_map put_and_check (take i all)) (put_and_check edit) s t before mid now so_far round))

    -- a round by what was shared of its edit, where the session still takes as many modules, and the folder is the same
    module _ (i : ℕ) (edit : Bytes × Bytes) (path text : Bytes) (t : Standing) (mid now : Option Bytes) (m : ℕ) (f : Program) (within : i < length all) (is : edit ≡ get_or all i edit) (at : path ≡ edit.0) (says : text ≡ edit.1)
        (modules : m ≡ most) (same : f ≡ folder) (so_far : SoFar i t mid) where
      shared : (P : (Standing → Bytes → Type 0) → Type 0) → P (Goes m f (put_and_check (path, text)) t) → P (Goes most folder (put_and_check edit) t)
      shared P holds =
          subst (λ (k : ℕ). P (Goes k folder (put_and_check edit) t)) modules
          (subst (λ (g : Program). P (Goes m g (put_and_check edit) t)) same
          (subst (λ (x : Bytes). P (Goes m f (put_and_check (edit.0, x)) t)) says (subst (λ (x : Bytes). P (Goes m f (put_and_check (x, text)) t)) at holds)))

      pub round_goes : (u : Standing) → HasDone (Goes m f (put_and_check (path, text)) t) u mid now → SoFar (i + 1) u now
      round_goes u round = one_round_more i edit t u mid now within is so_far (shared (λ Prints. HasDone Prints u mid now) round)

      pub round_stops : EachHasSizes → HasBegun (Goes m f (put_and_check (path, text)) t) mid now → HasBegun (Behind (flat_map put_and_check all) s) before now
      round_stops each round = stops_within each i edit t mid now within is so_far (shared (λ Prints. HasBegun Prints mid now) round)

-- ---- the whole run

pub ten : (n seed : ℕ) (all : List (Bytes × Bytes)) → all ≡ edits_of n seed → length all ≡ 10
ten n seed all are = ap length are ∙ length-map-range_with_len (λ round. module_in seed (edited n seed round) round) 1 10

-- all rounds are those of the run
pub all_rounds : (P : (Standing → Bytes → Type 0) → Type 0) (most n seed m : ℕ) (folder f : Program) (all : List (Bytes × Bytes)) (t : Standing) → m ≡ most → f ≡ folder → all ≡ edits_of n seed
    → P (Goes m f (flat_map put_and_check all) t) → P (Goes most folder (turns_of n seed) t)
all_rounds P most n seed m folder f all t modules same are holds =
    subst (λ (k : ℕ). P (Goes k folder (turns_of n seed) t)) modules
    (subst (λ (g : Program). P (Goes m g (turns_of n seed) t)) same (subst (λ edits. P (Goes m f (flat_map put_and_check edits) t)) are holds))

module _ (each : EachHasSizes) (most lanes n seed : ℕ) where
  pub not_begun : n ≤ 4096 → (before now : Option Bytes) → now ≡ before → HasGeneratedFront most lanes n seed before now
  not_begun few before now same =
      let run = some_run each most lanes n seed few in
      record { printed = run.0; program = run.1; version = run.2; uses = run.3; run = run.4; front = front_none before now run.0 same }

  module _ (folder : Program) (is_folder : IsFolder n seed folder) where
    pub load_stops : (before now : Option Bytes) → HasBegun (Loads lanes folder) before now → HasGeneratedFront most lanes n seed before now
    load_stops before now load =
        let on = goes_on each most lanes n seed folder load.standing load.printed is_folder load.prints in
        record { printed = load.printed ++ on.0; program = on.1; version = on.2; uses = on.3; run = on.4; front = front_longer before now load.printed on.0 load.front }

    pub edits_stop : (t : Standing) (before mid now : Option Bytes) → HasDone (Loads lanes folder) t before mid → HasBegun (Goes most folder (turns_of n seed) t) mid now → HasGeneratedFront most lanes n seed before now
    edits_stop t before mid now load rest = record {
      printed = load.printed ++ (rest.printed ++ generated_line n);
      program = rest.standing.program;
      version = rest.standing.version;
      uses = rest.standing.lanes;
      run = makes_run most lanes n seed folder t rest.standing load.printed rest.printed is_folder load.prints rest.prints;
      front = front_behind before mid now load.printed (rest.printed ++ generated_line n) load.written (front_longer mid now rest.printed (generated_line n) rest.front);
    }

    module _ (t u : Standing) (before mid last now : Option Bytes) (load : HasDone (Loads lanes folder) t before mid) (rest : HasDone (Goes most folder (turns_of n seed) t) u mid last) where
      abbrev whole : Bytes
      whole = load.printed ++ (rest.printed ++ generated_line n)

      is_run : IsGeneratedRun most lanes n seed whole u.program u.version u.lanes
      is_run = makes_run most lanes n seed folder t u load.printed rest.printed is_folder load.prints rest.prints

      pub line_stops : HoldsFront last now (generated_line n) → HasGeneratedFront most lanes n seed before now
      line_stops front = record {
        printed = whole;
        program = u.program;
        version = u.version;
        uses = u.lanes;
        run = is_run;
        front = front_behind before mid now load.printed (rest.printed ++ generated_line n) load.written (front_behind mid last now rest.printed (generated_line n) rest.written front);
      }

      pub all_written : now ≡ appended last (generated_line n) → now ≡ appended before whole
      all_written line =
          line ∙ ap (λ held. appended held (generated_line n)) rest.written ∙ appended_twice mid rest.printed (generated_line n)
          ∙ ap (λ held. appended held (rest.printed ++ generated_line n)) load.written ∙ appended_twice before load.printed (rest.printed ++ generated_line n)

      pub has_generated : (errors : ℕ) (program : Program) (version : ℕ) (uses : List LaneUse) → program ≡ u.program → version ≡ u.version → uses ≡ u.lanes → now ≡ appended last (generated_line n) → HasErrorCount u.program errors
          → HasGenerated most lanes n seed errors program version uses before now
      has_generated errors program version uses is at lanes_are line counts = record {
        printed = whole;
        run =
            subst (λ (p : Program). IsGeneratedRun most lanes n seed whole p version uses) (sym is)
            (subst (λ (v : ℕ). IsGeneratedRun most lanes n seed whole u.program v uses) (sym at) (subst (λ x. IsGeneratedRun most lanes n seed whole u.program u.version x) (sym lanes_are) is_run));
        written = all_written line;
        counts = subst (λ p. HasErrorCount p errors) (sym is) counts;
      }

      pub count_stops : now ≡ appended last (generated_line n) → HasGeneratedFront most lanes n seed before now
      count_stops line = line_stops (front_all last now (generated_line n) line)
