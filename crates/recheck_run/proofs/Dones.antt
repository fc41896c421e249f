-- A recheck comes to its end.
use Rattle.std.proofs.Common.{◌≡◌, ℕ, ◌+◌, ◌-◌, ◌*◌, ◌^◌, ◌<◌, ◌≤◌, min, Bool, true, false, cond, List, [], ◌∷◌, map, length, sum_by, slice_get, Option, Some, None, refl, sym, ap, ◌∙◌, subst, arith}
use Rattle.std.specs.Prelude.{nat_le, Result, Ok, Err, IfOk, IfErr}
use Rattle.std.proofs.lemmas.Bool.Decides.{nat_tests}
use Rattle.std.proofs.lemmas.List.{length-map}
use Rattle.flow_base.specs.Program.{Bytes, Program, paths_of}
use Rattle.flow_base.specs.Seen.{FolderSeen}
use Rattle.committed_results.specs.full_law.specs.Law.{EachFull}
use Rattle.heap_core.specs.Meaning.{Meaning, IsSound, Appends, none_of, opened, after_commit, after_rollback}
use Rattle.heap_core.specs.Transactions.{IsStaging, Committed, all_staged}
use Rattle.heap_core.proofs.TransactionLaws.{given_up}
use Rattle.heap_core.proofs.Lists.{get_there}
use Rattle.stops.specs.Asked.{StopSeen}
use Rattle.check_values.specs.Rows.{Rows}
use Rattle.check_values.specs.declared.faults.Errs.{Errs}
use Rattle.check_values.specs.declared.signatures.Deps.{Deps}
use Rattle.check_values.specs.declared.root.RootRow.{RootRow}
use Rattle.check_values.specs.declared.root.Root.{Root}
use Rattle.committed_results.specs.program_check.specs.Full.{IsFull}
use Rattle.committed_results.specs.program_check.specs.Status.{error_count}
use Rattle.recheck_checking.specs.affected_law.specs.Affected.{results_at, Merged, Checked}
use Rattle.recheck_checking.specs.affected_law.specs.Law.{SignaturesStay}
use Rattle.recheck_reach.specs.analyst.specs.Work.{Work, risen, RisesWithin, IsCounted}
use Rattle.recheck_checking.specs.payloads.specs.Entities.{parse_entity, deps_entity, signature_entity, errors_entity}
use Rattle.recheck_checking.specs.payloads.specs.State.{program_of, IsRoot, fits}
use Rattle.recheck_checking.specs.payloads.specs.declared.payload.Payload.{Payload}
use Rattle.recheck_checking.specs.payloads.specs.declared.payload.Payload.TheVariants as payload
use Rattle.pending_edits.specs.Pending.{Pending, edited, MayBecome}
use Rattle.pending_edits.specs.Counting.{StandsOn}
use Rattle.pending_edits.specs.Rows.{Follows}
use Rattle.pending_edits.specs.declared.edit.Edit.{Edit}
use Rattle.recheck_reach.specs.check_phases.specs.Phases.{AreChecked, results_by, lists_in}
use Rattle.recheck_reach.specs.check_phases.specs.Sourced.{program_in, view_in}
use Rattle.recheck_reach.specs.check_phases.specs.Whole.{sigs_by, AreMade}
use Rattle.recheck_reach.specs.check_phases.specs.declared.phases.Made.{Made}
use Rattle.recheck_reach.specs.check_phases.proofs.Lists.{same_paths}
use Rattle.recheck_reach.specs.check_phases.proofs.Results.{errors_counted}
use Rattle.recheck_reach.specs.check_phases.proofs.Works.{within_none}
use Rattle.recheck_checking.specs.edited_root.specs.Reading.{IsUnread}
use Rattle.recheck_checking.specs.edited_root.specs.declared.halt.Halt as read
use Rattle.recheck_checking.specs.edited_root.specs.declared.halt.Halt.TheVariants as unread
use Rattle.recheck_checking.specs.edited_root.proofs.Rooted.{few_modules, root_rising}
use Rattle.recheck_checking.specs.edited_root.specs.From.{numbers_from, fresh_from, freed_from}
use Rattle.committed_results.specs.recheck_staging.specs.Staging.{changes_of, state_of, HasState}
use Rattle.recheck_reach.specs.Law.{SeenAsChecked, SignedAsChecked}
use Rattle.recheck_checking.specs.Full.{results_of, MadeIsFull}
use Rattle.recheck_run.specs.Extent.{Extent, polls}
use Rattle.recheck_run.specs.Recheck.{RecheckState, Commits, HasRoom, Edits, WorkedTo, HasWorked, whole_work, IsDone, IsCancelled, IsRefused}
use Rattle.recheck_run.specs.Stages.{old_of, IsBaseIn}
use Rattle.recheck_run.specs.Steps.{AffectsIn, IsReady}
use Rattle.recheck_run.specs.Ends.{HasEnded, HasHalted, counted_in, IsStaged, Halts, IsHalted, IsUnreadHalt, IsStop}
use Rattle.recheck_run.specs.declared.stages.Base.{Base}
use Rattle.recheck_run.specs.declared.stages.Staged.{Staged}
use Rattle.recheck_run.specs.declared.outcome.Halt.{Halt}
use Rattle.recheck_run.specs.declared.outcome.Halt.TheVariants as halt
use Rattle.recheck_run.proofs.Extents.{some_extent}
use Rattle.recheck_run.proofs.Kept.{parse_stays, deps_stay, signature_stays, errors_stay}

-- ---- what a recheck works with

pub root_held : (committed : List Payload) (made : Made) → 0 < length committed → HasState (state_of made) committed → slice_get committed 0 ≡ Some (payload.Root made.sources.root)
root_held committed made some held = held 0 some

pub root_is : (m : Meaning Payload) (root : Root) → IsSound fits m → Commits m root → IsRoot (length m.committed) root
root_is m root sound at = (sound.fit (payload.Root root) at 0 (payload.Root root) at).0

-- as the code has it
pub was_root : (capacity n : ℕ) (m : Meaning Payload) (made : Made) (mine : Root) → IsSound fits m → HasRoom m capacity → n ≡ capacity → HasState (state_of made) m.committed → mine ≡ made.sources.root → IsRoot (4 * n + 1) mine
was_root capacity n m made mine sound room size held same =
    let at = root_held m.committed made sound.some_entity held in
    subst (λ (r : Root). IsRoot (4 * n + 1) r) (sym same) (subst (λ (k : ℕ). IsRoot k made.sources.root) (let e = room.entities in omega (arith, e, size)) (root_is m made.sources.root sound at))

pub was_commits : (m : Meaning Payload) (made : Made) (mine : Root) → IsSound fits m → HasState (state_of made) m.committed → mine ≡ made.sources.root → Commits m mine
was_commits m made mine sound held same = root_held m.committed made sound.some_entity held ∙ ap (λ (r : Root). Some (payload.Root r)) (sym same)

pub based : (m : Meaning Payload) (capacity : ℕ) (b : Base) (old new : Root) → IsSound fits m → HasRoom m capacity → AreMade b.was → HasState (state_of b.was) m.committed → old ≡ b.was.sources.root → b.root ≡ new → IsRoot (4 * capacity + 1) new
    → Follows old (program_of new) new → b.from.items ≡ numbers_from old new → b.fresh.items ≡ fresh_from old new → b.freed.items ≡ freed_from old new → IsBaseIn m.committed b
based m capacity b old new sound room made held same root new_root follows from fresh freed =
    let at = root_held m.committed b.was sound.some_entity held in
    let old_root = root_is m (old_of b) sound at in
    let e = room.entities in
    let n = room.numbered in
    let mine : IsRoot (4 * capacity + 1) b.root = subst (IsRoot (4 * capacity + 1)) (sym root) new_root in
    let was : IsRoot (4 * capacity + 1) (old_of b) = subst (λ (k : ℕ). IsRoot k (old_of b)) e old_root in
    record {
      base = record {
        made = made;
        old_rising = root_rising (4 * capacity + 1) (old_of b) was;
        new_rising = root_rising (4 * capacity + 1) b.root mine;
        old_few = (let few = few_modules capacity (old_of b) was in omega (arith, few, n));
        new_few = (let few = few_modules capacity b.root mine in omega (arith, few, n));
        follows = subst (λ (r : Root). Follows (old_of b) (program_of r) r) (sym root) (subst (λ (o : Root). Follows o (program_of new) new) same follows);
        from = from ∙ (λ j. numbers_from (same j) (sym root j));
        fresh = fresh ∙ (λ j. fresh_from (same j) (sym root j));
        freed = freed ∙ (λ j. freed_from (same j) (sym root j));
      };
      held = held;
      is = at;
      old_root = old_root;
      new_root = subst (λ (k : ℕ). IsRoot k b.root) (sym e) mine;
      numbered = omega (arith, e, n);
    }

pub few_based : (capacity : ℕ) (root new : Root) → root ≡ new → IsRoot (4 * capacity + 1) new → length root.modules ≤ capacity
few_based capacity root new same is = few_modules capacity root (subst (IsRoot (4 * capacity + 1)) (sym same) is)

pub base_becomes : (told : Option Program) (edits : Rows Edit) (was root old new : Root) → old ≡ was → root ≡ new → MayBecome told (program_of old) edits (program_of new) → MayBecome told (program_of was) edits (program_of root)
base_becomes told edits was root old new same is become = subst (λ (r : Root). MayBecome told (program_of was) edits (program_of r)) (sym is) (subst (λ (o : Root). MayBecome told (program_of o) edits (program_of new)) same become)

-- ---- a transaction that was just begun

pub begun_bare : (was begun : Meaning Payload) → IsSound fits was → was.is_open ≡ false → begun ≡ opened was → begun.staged ≡ none_of begun.staged
begun_bare was begun sound closed is = subst (λ (m : Meaning Payload). m.staged ≡ none_of m.staged) (sym is) (sound.closed closed)

pub begun_open : (was begun : Meaning Payload) → begun ≡ opened was → begun.is_open ≡ true
begun_open was begun is = ap (λ (m : Meaning Payload). m.is_open) is

pub begun_room : (was begun : Meaning Payload) (capacity : ℕ) → begun ≡ opened was → HasRoom was capacity → HasRoom begun capacity
begun_room was begun capacity is room = subst (λ (m : Meaning Payload). HasRoom m capacity) (sym is) (record { entities = room.entities; numbered = room.numbered })

pub begun_commits : (was begun : Meaning Payload) (old : Root) → begun ≡ opened was → Commits begun old → Commits was old
begun_commits was begun old is at = ap (λ (m : Meaning Payload). slice_get m.committed 0) (sym is) ∙ at

-- it is rolled back
pub rolled_back : (was begun mid now : Meaning Payload) → IsSound fits was → IsSound fits mid → was.is_open ≡ false → begun ≡ opened was → IsStaging begun mid → now ≡ after_rollback mid → now ≡ was
rolled_back was begun mid now sound_was sound_mid closed is staging back = given_up fits was begun mid now sound_was sound_mid closed is staging back

-- the heap keeps its room
pub room_left : (m now : Meaning Payload) (capacity capacity' : ℕ) → HasRoom m capacity → length now.committed ≡ length m.committed → capacity' ≡ capacity → HasRoom now capacity'
room_left m now capacity capacity' room size same = record { entities = (let e = room.entities in omega (arith, e, size, same)); numbered = (let n = room.numbered in omega (arith, n, same)) }

-- behind a commit too
pub room_done : (was begun mid now : Meaning Payload) (capacity capacity' : ℕ) → IsSound fits mid → begun ≡ opened was → IsStaging begun mid → now ≡ after_commit mid → HasRoom was capacity → capacity' ≡ capacity → HasRoom now capacity'
room_done was begun mid now capacity capacity' sound is staging after room same =
    let size : length now.committed ≡ length was.committed =
    ap (λ (m : Meaning Payload). length m.committed) after ∙ (sound.as_many.0 ∙ (ap length staging.committed ∙ ap (λ (m : Meaning Payload). length m.committed) is)) in
    room_left was now capacity capacity' room size same

-- the state that the writer tells is the one that is committed now
pub told_state : (before mid after : Option (List (List Payload))) (m now : Meaning Payload) → mid ≡ before → now ≡ after_commit m → Appends mid m.latest after → Appends before now.committed after
told_state before mid after m now same is told =
    subst (λ (o : Option (List (List Payload))). Appends o now.committed after) same (subst (λ (xs : List Payload). Appends mid xs after) (sym (ap (λ (k : Meaning Payload). k.committed) is)) told)

-- ---- how much was done

late : (p k : ℕ) → k < p → nat_le p k ≡ false
late p k low = grind (arith, nat_tests)

pub worked_to_end : (n : Extent) (before now : Work) → n.checked ≤ 64 * n.batches → HasWorked before now (whole_work n) → WorkedTo n (polls n) before now
worked_to_end n before now enough is = record {
  fronts = is.fronts ∙ ap (risen before.fronts) (sym (ap (λ (b : Bool). cond b 0 n.parsed) (late (polls n) 1 (omega arith))));
  merges = subst (λ (k : ℕ). RisesWithin before.merges now.merges k) (sym (ap (λ (b : Bool). cond b 0 n.merged) (late (polls n) 3 (omega arith)))) is.merges;
  checks = is.checks ∙ ap (risen before.checks) (let e : n.checked ≡ min n.checked (64 * (polls n - (3 + n.waves))) = omega (arith, enough) in e);
}

-- ---- nothing is staged

-- the edits may come to some program
may_become : (told : Option Program) (start : Program) (edits : Rows Edit) → (program : Program) × MayBecome told start edits program
may_become None start edits = (edited [] start edits, ([], tt, refl))
may_become (Some its) start edits = (edited its start edits, (its, refl, refl))

-- each program is that of a root
root_for : (program : Program) → (root : Root) × (program_of root ≡ program)
root_for program = (record { modules = rows program }, same program)
  where
    rows : Program → List RootRow
    rows [] = []
    rows (m ∷ program) = record { path = m.0; row = 0; text = m.1 } ∷ rows program

    same : (program : Program) → map (λ (m : RootRow). (m.path, m.text)) (rows program) ≡ program
    same [] = refl
    same (m ∷ program) = ap (λ (l : Program). m ∷ l) (same program)

root_there : (m : Meaning Payload) → IsSound fits m → (root : Root) × Commits m root
root_there m sound = (let first = get_there m.committed 0 sound.some_entity in go first.0 first.1)
  where
    go : (x : Payload) → slice_get m.committed 0 ≡ Some x → (root : Root) × Commits m root
    go (payload.Root root) at = (root, at)
    go payload.Absent at = absurd (sound.fit payload.Absent at 0 payload.Absent at)
    go (payload.Parse p) at = absurd (sound.fit (payload.Parse p) at 0 (payload.Parse p) at)
    go (payload.Deps d) at = absurd (sound.fit (payload.Deps d) at 0 (payload.Deps d) at)
    go (payload.Sig s) at = absurd (sound.fit (payload.Sig s) at 0 (payload.Sig s) at)
    go (payload.Errs e) at = absurd (sound.fit (payload.Errs e) at 0 (payload.Errs e) at)

-- memory was refused before anything was done
halts_early : EachFull → (before now : RecheckState) → IsSound fits before.heap → IsCounted before.work → before.stop.questions < 2 ^ 64 → now.work ≡ before.work → now.stop ≡ before.stop → Halts before now halt.NoMemory
halts_early each before now sound low bounded same idle =
    let root = root_there before.heap sound in
    let become = may_become before.folder.told (program_of root.0) before.edits.edits in
    let new = root_for become.0 in
    let extent = some_extent each (program_of root.0) (program_of new.0) in
    record {
      old = root.0;
      new = new.0;
      extent = extent.0;
      edits = record { was = root.1; edited = subst (λ (p : Program). MayBecome before.folder.told (program_of root.0) before.edits.edits p) (sym new.1) become.1; affects = extent.1 };
      halted = record {
        asked = 0;
        fewer = omega arith;
        questions = ap (λ (s : StopSeen). s.questions) idle ∙ (let e : before.stop.questions ≡ min (before.stop.questions + 0) (2 ^ 64 - 1) = omega (arith, bounded) in e);
        no_yes = ap (λ (s : StopSeen). s.yes_answers) idle;
        work = within_none before.work now.work (whole_work extent.0) low same;
      };
    }

pub halted_reading : EachFull → (before now : RecheckState) (r : read.Halt) (h : Halt) → IsSound fits before.heap → IsCounted before.work → before.stop.questions < 2 ^ 64 → now.work ≡ before.work → now.stop ≡ before.stop → IsUnread before.edits.edits before.folder now.folder r
    → IsUnreadHalt r h → IsHalted before now h
halted_reading each before now (unread.Unread p) h sound low bounded same idle fault is =
    subst (IsHalted before now) (sym is) (fault.0, (ap (λ (s : StopSeen). s.questions) idle, ap (λ (s : StopSeen). s.yes_answers) idle), same, fault.1, fault.2)
halted_reading each before now unread.NoMemory h sound low bounded same idle fault is = subst (IsHalted before now) (sym is) (halts_early each before now sound low bounded same idle)

-- the stages halted
pub halted_running : (before now : RecheckState) (b : Base) (n : Extent) (h : Halt) → Edits before (old_of b) b.root n → HasHalted n (counted_in before) (counted_in now) h → IsHalted before now h
halted_running before now b n (halt.Unread p) edits halted = absurd halted
halted_running before now b n (halt.Stopped poll) edits halted = record { old = old_of b; new = b.root; extent = n; edits = edits; halted = halted }
halted_running before now b n halt.NoMemory edits halted = record { old = old_of b; new = b.root; extent = n; edits = edits; halted = halted }

-- ---- all results

module _ (made : Made) (are : AreMade made) where
  abbrev program : Program
  program = program_in made.sources

  listed : made.sources.lists.items ≡ lists_in (paths_of program) program made.sources.parses.items
  listed = are.sources.listed ∙ ap (λ (ps : List Bytes). lists_in ps program made.sources.parses.items) (sym (same_paths made.sources.root))

  many : length made.errors.items ≡ length program
  many = are.many ∙ sym (length-map made.sources.root.modules (λ (m : RootRow). (m.path, m.text)))

  pub errors_are : error_count (results_of made) ≡ sum_by (λ (e : Errs). length e.faults) made.errors.items
  errors_are =
      ap (λ (ls : List Deps). error_count (results_by made.sources.parses.items ls made.signatures.items made.errors.items)) listed
      ∙ errors_counted (paths_of program) (view_in made.sources) (sigs_by made.sources made.signatures.items) program made.sources.parses.items made.signatures.items made.errors.items are.sources.parsed are.merged
      (subst (λ (ls : List Deps). AreChecked (sigs_by made.sources made.signatures.items) program made.sources.parses.items ls made.errors.items) listed are.checked) many

-- ---- the whole recheck

-- an edit of the heap before the transaction
edits_before : (before begun : RecheckState) (old new : Root) (n : Extent) → begun.folder ≡ before.folder → begun.edits ≡ before.edits → begun.heap ≡ opened before.heap → Edits begun old new n → Edits before old new n
edits_before before begun old new n folder edits heap e = record {
  was = begun_commits before.heap begun.heap old heap e.was;
  edited = subst (λ (f : FolderSeen). MayBecome f.told (program_of old) before.edits.edits (program_of new)) folder (subst (λ (p : Pending). MayBecome begun.folder.told (program_of old) p.edits (program_of new)) edits e.edited);
  affects = e.affects;
}

module _ (folder folder' : FolderSeen) (edits edits' : Pending) (stop stop' : StopSeen) (work work' : Work) (was begun mid now : Meaning Payload) (is : begun ≡ opened was) where
  abbrev before : RecheckState
  before = record { folder = folder; edits = edits; heap = was; stop = stop; work = work }

  abbrev at_begin : RecheckState
  at_begin = record { folder = folder; edits = edits; heap = begun; stop = stop; work = work }

  abbrev at_end : RecheckState
  at_end = record { folder = folder'; edits = edits; heap = mid; stop = stop'; work = work' }

  pub cancelled : (poll : ℕ) → IsHalted at_begin at_end (halt.Stopped poll) → now ≡ was → IsCancelled before (record { folder = folder'; edits = edits; heap = now; stop = stop'; work = work' }) poll
  cancelled poll h back = record {
    old = h.old;
    new = h.new;
    extent = h.extent;
    edits = edits_before before at_begin h.old h.new h.extent refl refl is h.edits;
    same = (back, refl);
    some = h.halted.some;
    few = h.halted.few;
    work = h.halted.work;
    questions = h.halted.questions;
    yes = h.halted.yes;
    at = h.halted.at;
  }

  pub refused : IsHalted at_begin at_end halt.NoMemory → now ≡ was → IsRefused before (record { folder = folder'; edits = edits; heap = now; stop = stop'; work = work' })
  refused h back = record {
    old = h.old;
    new = h.new;
    extent = h.extent;
    edits = edits_before before at_begin h.old h.new h.extent refl refl is h.edits;
    same = (back, refl);
    work = h.halted.work;
    asked = h.halted.asked;
    fewer = h.halted.fewer;
    questions = h.halted.questions;
    no_yes = h.halted.no_yes;
  }

  pub is_done : MadeIsFull → SeenAsChecked → SignedAsChecked → SignaturesStay → ((m : Meaning Payload) (changes : List (ℕ × Payload)) → IsSound fits m → m.is_open ≡ false → Committed changes m (after_commit (all_staged changes (opened m))))
      → IsSound fits was → IsSound fits mid → was.is_open ≡ false → (version : ℕ) (staged : Staged) → IsStaged at_begin at_end staged → IsStaging begun mid → now ≡ after_commit mid → version ≡ now.version → edits'.edits ≡ [] → ((paths : List Bytes) → StandsOn paths edits')
      → IsDone before (record { folder = folder'; edits = edits'; heap = now; stop = stop'; work = work' }) version staged.parsed staged.checked staged.errors
  is_done full sees signs stay commits sound_was sound_mid closed version staged st staging after answers rest stands =
      let b = st.base in
      let r = st.ready in
      let made = r.made in
      let e = edits_before before at_begin (old_of b) b.root st.extent refl refl is st.edits in
      let whole : now.committed ≡ mid.latest = ap (λ (m : Meaning Payload). m.committed) after in
      let same : begun.committed ≡ was.committed = ap (λ (m : Meaning Payload). m.committed) is in
      let in_heap : IsBaseIn was.committed b = subst (λ (l : List Payload). IsBaseIn l b) same st.is_base in
      let some : 0 < length mid.latest = (let a = sound_mid.as_many.0 in let s = sound_mid.some_entity in omega (arith, a, s)) in
      let program_is : program_in made.sources ≡ program_of b.root = ap program_of r.are.root in
      let changes = changes_of made r.anew b.freed.items in
      let committed : Committed changes was now = subst (λ (m : Meaning Payload). Committed changes was m) (sym (after ∙ ap after_commit (r.staged ∙ ap (all_staged changes) is))) (commits was changes sound_was closed) in
      let a = e.affects in
      let after_full : IsFull (program_in made.sources) a.after = subst (λ (p : Program). IsFull p a.after) (sym program_is) a.full_after in
      record {
        old = old_of b;
        new = b.root;
        extent = st.extent;
        edits = e;
        is = ap (λ (l : List Payload). slice_get l 0) whole ∙ (r.state 0 some ∙ ap (λ (q : Root). Some (payload.Root q)) r.are.root);
        follows = in_heap.base.follows;
        few = st.few;
        results = results_of made;
        full = subst (λ (p : Program). IsFull p (results_of made)) program_is (full made r.are.are);
        counts = (st.ended.counts.0, st.ended.counts.1, r.count ∙ sym (errors_are made r.are.are));
        work = st.ended.work;
        questions = st.ended.questions;
        no_yes = st.ended.no_yes;
        next = (ap (λ (m : Meaning Payload). m.version) after ∙ ap (λ (n : ℕ). n + 1) (staging.version ∙ ap (λ (m : Meaning Payload). m.version) is), answers);
        rest = rest;
        stands = stands;
        closed = ap (λ (m : Meaning Payload). m.is_open) after;
        size = ap length whole ∙ (sound_mid.as_many.0 ∙ (ap length staging.committed ∙ ap length same));
        versions = λ path row was_row is_row.
            record {
              parse = λ never. (committed.others (parse_entity row) (parse_stays was.committed b made r.anew b.freed.items in_heap r.are refl a.before a.after a.full_before after_full sees signs stay path row was_row is_row never)).1;
              deps = λ x y at_x at_y equal. (committed.others (deps_entity row) (deps_stay was.committed b made r.anew b.freed.items in_heap r.are refl a.before a.after a.full_before after_full sees signs stay path row was_row is_row x y at_x
                  (subst (λ (p : Program). results_at p a.after path ≡ Some y) (sym program_is) at_y) equal)).1;
              signature = λ never. (committed.others (signature_entity row) (signature_stays was.committed b made r.anew b.freed.items in_heap r.are refl a.before a.after a.full_before after_full sees signs stay path row was_row is_row
                  (λ merged. never (subst (λ (p : Program). Merged (program_of (old_of b)) p a.before a.after path) program_is merged)))).1;
              errors = λ never. (committed.others (errors_entity row) (errors_stay was.committed b made r.anew b.freed.items in_heap r.are refl a.before a.after a.full_before after_full sees signs stay path row was_row is_row
                  (λ checked. never (subst (λ (p : Program). Checked (program_of (old_of b)) p a.before a.after path) program_is checked)))).1;
            };
      }

-- ---- the stages behind the reading

pub staged_ok : {E : Type 0} (before now : RecheckState) (r : Result Staged E) (b : Base) → EachFull → IsBaseIn before.heap.committed b → length b.root.modules ≤ before.edits.capacity
    → MayBecome before.folder.told (program_of (old_of b)) before.edits.edits (program_of b.root) → IfOk r (λ staged. IsReady b before.heap now.heap staged.errors)
    → ((n : Extent) → AffectsIn b n → IfOk r (HasEnded n (counted_in before) (counted_in now))) → IfOk r (IsStaged before now)
staged_ok then now (Err e) b each in_heap few becomes ready ended = tt
staged_ok then now (Ok staged) b each in_heap few becomes ready ended =
    let n = some_extent each (program_of (old_of b)) (program_of b.root) in
    record {
      base = b;
      is_base = in_heap;
      few = few;
      extent = n.0;
      edits = record { was = in_heap.is; edited = becomes; affects = n.1 };
      ended = ended n.0 n.1;
      ready = ready;
    }

pub halted_err : {T : Type 0} (before now : RecheckState) (r : Result T Halt) (b : Base) → EachFull → IsBaseIn before.heap.committed b → MayBecome before.folder.told (program_of (old_of b)) before.edits.edits (program_of b.root)
    → ((n : Extent) → AffectsIn b n → IfErr r (HasHalted n (counted_in before) (counted_in now))) → IfErr r (IsHalted before now)
halted_err then now (Ok x) b each in_heap becomes halted = tt
halted_err then now (Err h) b each in_heap becomes halted =
    let n = some_extent each (program_of (old_of b)) (program_of b.root) in
    halted_running then now b n.0 h (record { was = in_heap.is; edited = becomes; affects = n.1 }) (halted n.0 n.1)

pub never_stops : {X : Type 0} (r : read.Halt) (h : Halt) → IsUnreadHalt r h → IsStop h → X
never_stops (unread.Unread p) h is stop = absurd (subst IsStop is stop)
never_stops unread.NoMemory h is stop = absurd (subst IsStop is stop)

pub quiet_err : {T : Type 0} (before now : ℕ) (r : Result T Halt) → now ≡ before → IfErr r (λ h. IsStop h → now ≡ before)
quiet_err then now (Ok x) same = tt
quiet_err then now (Err h) same = λ stop. same
