-- The edits that wait for the next recheck.
use Rattle.std.proofs.Common.{◌≡◌, ℕ, zero, suc, ◌+◌, ◌*◌, ◌^◌, ◌<◌, ◌≤◌, Bool, cond, List, [], ◌∷◌, ◌++◌, length, take, get_or, refl, sym, ap, ◌∙◌, subst, arith, inl, inr}
use Rattle.std.specs.Prelude.{Result, Ok, Err, Some, IfOk, OnOk, OnErr}
use Rattle.std.proofs.lemmas.Option.{same_Some}
use Rattle.std.specs.Map.{keys_of, values_of}
use Rattle.std.specs.Ordering.{nat_cmp, match_ordering, ordering_reverse}
use Rattle.std.specs.Cmp.Lexicographic.{slice_cmp, nat_list_cmp_total}
use Rattle.std.specs.declared.cmp.Ordering.{Ordering}
use Rattle.std.specs.declared.cmp.Ordering.TheVariants.{Less, Equal, Greater}
use Rattle.std.proofs.lemmas.List.{take_more, length-take-le, length-map}
use Rattle.std.proofs.lemmas.List.Sums.{sum_by-cons}
use Rattle.flow_base.specs.Program as base
use Rattle.flow_base.specs.Program.{Bytes, IsRising}
use Rattle.flow_base.proofs.Rising.{IsBelowAll, below_all, rising_rest}
use Rattle.heap_core.specs.Meaning.{Meaning, IsSound}
use Rattle.check_values.specs.Rows.{Rows, is_among}
use Rattle.check_values.specs.Roots.{paths_of, paths_of_rows}
use Rattle.check_values.specs.declared.root.RootRow.{RootRow}
use Rattle.check_values.specs.declared.root.Root.{Root}
use Rattle.payloads.specs.State.{IsRoot, fits}
use Rattle.payloads.specs.declared.payload.Payload.{Payload}
use Rattle.payloads.specs.declared.payload.Payload.TheVariants as payload
use Rattle.pending_edits.specs.Pending as pending
use Rattle.pending_edits.specs.Pending.{Pending}
use Rattle.pending_edits.specs.Counting.{counted, keeps, kept_in, edits_of, StandsOn, LimitsModules}
use Rattle.pending_edits.specs.declared.edit.Edit.{Edit}
use Rattle.pending_edits.specs.declared.edit.Edit.TheVariants.{Touch, Delete}
use Rattle.pending_edits.specs.declared.edit.EditFault.{EditFault}
use Rattle.pending_edits.specs.declared.edit.EditFault.TheVariants.{TooManyModules, NoMemory}
use Rattle.beside.specs.edited_root.proofs.Rooted.{few_modules}
use Rattle.flow_base.specs.Seen.{FolderSeen}
use Rattle.stops.specs.Asked.{stop_seen, yes_answers_by}
use Rattle.analyst.specs.Work.{Work}
use Rattle.beside.specs.Beside.{MayRecheck, HasRechecked, MayHaveRechecked, state_of}
use Rattle.beside.specs.Recheck.{Commits, HasRoom, RecheckState, Rechecked, CountsReads}
use Rattle.beside.specs.Uses.{LaneUse}
use Rattle.beside.specs.Server.{IsRunning, uses_of}
use Rattle.beside.specs.Writers.{meaning_in}
use Rattle.beside.specs.declared.serving.Server.{Server}
use Rattle.beside.specs.Outcome.{Outcome}
use Rattle.beside.specs.Outcome.TheVariants as outcome
use Rattle.script_run.specs.Transcript.{to_touch}
use Rattle.script_run.specs.Session.{modules_in, program_in, program_with, held, held_by, StandOnCommitted, AreFew, CountsNoMore, StandsStill, IsReady, IsEmptyHeap, HasEnded, Limits}
use Rattle.script_run.proofs.Sessions.{first_modules}

-- ---- paths to be read, put one behind the other

rising_front : (n : ℕ) (paths : List Bytes) → IsRising paths → IsRising (take n paths)
rising_front zero paths rising = tt
rising_front (suc n) [] rising = tt
rising_front (suc zero) (p ∷ paths) rising = tt
rising_front (suc (suc n)) (p ∷ []) rising = tt
rising_front (suc (suc n)) (p ∷ q ∷ paths) rising = (rising.0, rising_front (suc n) (q ∷ paths) rising.1)

last_above : (low : Bytes) (paths : List Bytes) (path : Bytes) → IsBelowAll low (paths ++ path ∷ []) → slice_cmp nat_cmp low path ≡ Less
last_above low [] path all = all.0
last_above low (p ∷ paths) path all = last_above low paths path all.1

put_last : (paths : List Bytes) (path : Bytes) → IsRising (paths ++ path ∷ []) → pending.with_edit (to_touch paths) path Touch ≡ to_touch (paths ++ path ∷ [])
put_last [] path rising = refl
put_last (p ∷ paths) path rising =
    let below : slice_cmp nat_cmp p path ≡ Less = last_above p paths path (below_all p (paths ++ path ∷ []) rising) in
    let above : slice_cmp nat_cmp path p ≡ Greater = nat_list_cmp_total.antisymm path p ∙ ap ordering_reverse below in
    let rest = put_last paths path (rising_rest p (paths ++ path ∷ []) rising) in
    ap (λ (o : Ordering). match_ordering o ((path, Touch) ∷ (p, Touch) ∷ to_touch paths) ((p, Touch) ∷ to_touch paths) ((p, Touch) ∷ pending.with_edit (to_touch paths) path Touch)) above
    ∙ ap (λ (es : Rows Edit). (p, Touch) ∷ es) rest

pub more_touched : (listed : List Bytes) (i : ℕ) (path : Bytes) (old new : Rows Edit) → IsRising listed → i < length listed → path ≡ get_or listed i path → old ≡ to_touch (take i listed)
    → new ≡ pending.with_edit old path Touch → new ≡ to_touch (take (i + 1) listed)
more_touched listed i path old new rising within is so_far put =
    let more : take (i + 1) listed ≡ take i listed ++ path ∷ [] = take_more listed i path within ∙ ap (λ p. take i listed ++ p ∷ []) (sym is) in
    put ∙ (ap (λ es. pending.with_edit es path Touch) so_far
    ∙ (put_last (take i listed) path (subst IsRising more (rising_front (i + 1) listed rising)) ∙ ap to_touch (sym more)))

kept_all : (paths : List Bytes) → kept_in (to_touch paths) ≡ length paths
kept_all [] = refl
kept_all (p ∷ paths) =
    let first = sum_by-cons (λ (e : Edit). cond (keeps e) 1 0) Touch (values_of (to_touch paths)) in
    let rest = kept_all paths in
    omega (arith, first, rest)

-- they are counted, and are no more than all
pub few_touched : (listed : List Bytes) (i : ℕ) (path : Bytes) (old : Rows Edit) (most : ℕ) → IsRising listed → i < length listed → path ≡ get_or listed i path → old ≡ to_touch (take i listed)
    → length listed ≤ most → counted [] (pending.with_edit old path Touch) ≤ most
few_touched listed i path old most rising within is so_far few =
    let now = more_touched listed i path old (pending.with_edit old path Touch) rising within is so_far refl in
    let kept : kept_in (pending.with_edit old path Touch) ≡ length (take (i + 1) listed) = ap kept_in now ∙ kept_all (take (i + 1) listed) in
    let size : length (take (i + 1) listed) ≡ i + 1 = length-take-le (i + 1) listed (omega arith) in
    omega (arith, kept, size)

-- all of them are to be read
pub few_all : (listed : List Bytes) (edits : Rows Edit) (most : ℕ) → edits ≡ to_touch listed → length listed ≤ most → counted [] edits ≤ most
few_all listed edits most is few =
    let kept : kept_in edits ≡ length listed = ap kept_in is ∙ kept_all listed in
    omega (arith, kept, few)

-- ---- a path that is deleted is counted no more

one : Bool → ℕ
one b = cond b 1 0

kept_first : (e : Edit) (edits : Rows Edit) (path : Bytes) → kept_in ((path, e) ∷ edits) ≡ one (keeps e) + kept_in edits
unfolding one
kept_first e edits path = sum_by-cons (λ (x : Edit). cond (keeps x) 1 0) e (values_of edits)

edits_first : (paths : List Bytes) (path : Bytes) (e : Edit) (edits : Rows Edit) → edits_of paths ((path, e) ∷ edits) ≡ one (is_among paths path) + edits_of paths edits
unfolding one
edits_first paths path e edits = sum_by-cons (λ (x : Bytes). cond (is_among paths x) 1 0) path (keys_of edits)

module _ (paths : List Bytes) (path : Bytes) where
  -- with the deletion of a path no more are kept, and as many edits are of these paths
  abbrev Fewer : Rows Edit → Rows Edit → Type 0
  Fewer new old = (kept_in new ≤ kept_in old) × (edits_of paths old ≤ edits_of paths new)

  deleted_first : (edits : Rows Edit) → Fewer ((path, Delete) ∷ edits) edits
  unfolding one
  deleted_first edits = (omega (arith, kept_first Delete edits path), omega (arith, edits_first paths path Delete edits))

  deleted_there : (edits : Rows Edit) (key : Bytes) (e : Edit) → Fewer ((key, Delete) ∷ edits) ((key, e) ∷ edits)
  unfolding one
  deleted_there edits key e =
      (omega (arith, kept_first Delete edits key, kept_first e edits key), omega (arith, edits_first paths key Delete edits, edits_first paths key e edits))

  deleted_behind : (edits new : Rows Edit) (key : Bytes) (e : Edit) → Fewer new edits → Fewer ((key, e) ∷ new) ((key, e) ∷ edits)
  deleted_behind edits new key e fewer =
      (omega (arith, fewer.0, kept_first e new key, kept_first e edits key), omega (arith, fewer.1, edits_first paths key e new, edits_first paths key e edits))

  fewer_of : (edits : Rows Edit) → Fewer (pending.with_edit edits path Delete) edits
  fewer_of [] = deleted_first []
  fewer_of (e ∷ edits) = by (slice_cmp nat_cmp path e.0) (fewer_of edits) where
    by : (o : Ordering) → Fewer (pending.with_edit edits path Delete) edits
        → Fewer (match_ordering o ((path, Delete) ∷ e ∷ edits) ((e.0, Delete) ∷ edits) (e ∷ pending.with_edit edits path Delete)) (e ∷ edits)
    by Less later = deleted_first (e ∷ edits)
    by Equal later = deleted_there edits e.0 e.1
    by Greater later = deleted_behind edits (pending.with_edit edits path Delete) e.0 e.1 later

  fewer_counted : (edits : Rows Edit) → counted paths (pending.with_edit edits path Delete) ≤ counted paths edits
  fewer_counted edits = let fewer = fewer_of edits in omega (arith, fewer.0, fewer.1)

pub counts_no_more : {T E : Type 0} (r : Result T E) (before now : Pending) (path : Bytes) → OnOk r (now.edits ≡ pending.with_edit before.edits path Delete) → OnErr r (now.edits ≡ before.edits) → CountsNoMore before now
counts_no_more (Ok x) before now path ok err paths = subst (λ es. counted paths es ≤ counted paths before.edits) (sym ok) (fewer_counted paths path before.edits)
counts_no_more (Err e) before now path ok err paths = let same : counted paths now.edits ≡ counted paths before.edits = ap (counted paths) err in omega (arith, same)

-- ---- the paths of the program that is committed

paths_with : (ms : List RootRow) → base.paths_of (program_with ms) ≡ paths_of_rows ms
paths_with [] = refl
paths_with (m ∷ ms) = ap (λ ps. m.path ∷ ps) (paths_with ms)

committed_rows : (m : Meaning Payload) (root : Root) → Commits m root → modules_in m.committed ≡ root.modules
committed_rows m root is = first_modules m.committed (payload.Root root) is

committed_paths : (m : Meaning Payload) (root : Root) → Commits m root → base.paths_of (program_in m.committed) ≡ paths_of root
committed_paths m root is = paths_with (modules_in m.committed) ∙ ap paths_of_rows (committed_rows m root is)

-- ---- the root that is committed

-- it fits
root_fits : (most : ℕ) (m : Meaning Payload) (root : Root) → IsSound fits m → HasRoom m most → Commits m root → IsRoot (4 * most + 1) root
root_fits most m root sound room at = subst (λ (n : ℕ). IsRoot n root) room.entities (sound.fit (payload.Root root) at 0 (payload.Root root) at).0

pub root_rising : (m : Meaning Payload) (root : Root) (most : ℕ) → IsSound fits m → HasRoom m most → Commits m root → IsRising (paths_of root)
root_rising m root most sound room is = subst IsRising (paths_with root.modules) (root_fits most m root sound room is).rising

pub root_few : (m : Meaning Payload) (root : Root) (most : ℕ) → IsSound fits m → HasRoom m most → Commits m root → length root.modules < 2 ^ 32
root_few m root most sound room is =
    let few = few_modules most root (root_fits most m root sound room is) in
    let low = room.numbered in
    omega (arith, few, low)

-- ---- what edits stand on

pub stands_there : (m : Meaning Payload) (root : Root) (waiting : Pending) → Commits m root → StandOnCommitted m waiting → StandsOn (paths_of root) waiting
stands_there m root waiting is stands = subst (λ ms. StandsOn (paths_of_rows ms) waiting) (committed_rows m root is) stands

pub stand_still : (m : Meaning Payload) (root : Root) (waiting : Pending) → Commits m root → StandsOn (paths_of root) waiting → StandOnCommitted m waiting
stand_still m root waiting is stands = subst (λ ms. StandsOn (paths_of_rows ms) waiting) (sym (committed_rows m root is)) stands

-- ---- how many are counted

-- the number of modules that are counted, by the root
few_at : (m : Meaning Payload) (root : Root) (edits edits' : Rows Edit) (n k : ℕ) → Commits m root → edits' ≡ edits → k ≡ n → counted (paths_of root) edits ≤ n
    → counted (paths_of_rows (modules_in m.committed)) edits' ≤ k
few_at m root edits edits' n k is same as_many few =
    let rows = committed_rows m root is in
    let count : counted (paths_of_rows (modules_in m.committed)) edits' ≡ counted (paths_of root) edits = λ i. counted (paths_of_rows (rows i)) (same i) in
    omega (arith, count, as_many, few)

pub few_there : (m : Meaning Payload) (waiting : Pending) → AreFew m waiting → (root : Root) → Commits m root → counted (paths_of root) waiting.edits ≤ waiting.capacity
few_there m waiting few root is =
    let rows = committed_rows m root is in
    let count : counted (paths_of_rows (modules_in m.committed)) waiting.edits ≡ counted (paths_of root) waiting.edits = λ i. counted (paths_of_rows (rows i)) waiting.edits in
    omega (arith, count, few)

-- after an edit
pub few_edited : {T : Type 0} (m : Meaning Payload) (root : Root) (before after : Pending) (path : Bytes) (edit : Edit) (r : Result T EditFault) → Commits m root
    → OnOk r (after.edits ≡ pending.with_edit before.edits path edit) → OnErr r (after.edits ≡ before.edits) → after.capacity ≡ before.capacity
    → LimitsModules before.capacity (counted (paths_of root) (pending.with_edit before.edits path edit)) r → AreFew m before → AreFew m after
few_edited m root before after path edit (Ok x) is ok err size few stood =
    few_at m root (pending.with_edit before.edits path edit) after.edits before.capacity after.capacity is ok size few
few_edited m root before after path edit (Err e) is ok err size few stood =
    few_at m root before.edits after.edits before.capacity after.capacity is err size (few_there m before stood root is)

-- after a deletion
ready_deleted : (m : Meaning Payload) (ls : List LaneUse) (before now : Pending) → IsReady (held m before ls) → CountsNoMore before now → StandsStill before now → now.capacity ≡ before.capacity → IsReady (held m now ls)
ready_deleted m ls before now ready no_more stands size = record {
  closed = ready.closed;
  room = subst (HasRoom m) (sym size) ready.room;
  few = (let less = no_more (paths_of_rows (modules_in m.committed)) in let few = ready.few in omega (arith, less, size, few));
  stands = stands (paths_of_rows (modules_in m.committed)) ready.stands;
}

-- and a session with it
pub still_ready : (server : Server) (before now : Pending) (analysts askers : ℕ) → IsReady (held_by server before) × IsRunning server × (0 < analysts) × (askers ≡ length server.lanes) → CountsNoMore before now → StandsStill before now
    → now.capacity ≡ before.capacity → IsReady (held_by server now) × IsRunning server × (0 < analysts) × (askers ≡ length server.lanes)
still_ready server before now analysts askers (ready, running, some, many) no_more stands size = (ready_deleted (meaning_in server.writer) (uses_of server.lanes) before now ready no_more stands size, running, some, many)

-- where no edit waits
counted_none : (root : Root) → counted (paths_of root) [] ≡ length root.modules
counted_none root = let many = length-map root.modules (λ (row : RootRow). row.path) in omega (arith, many)

-- a session over a heap without a module
pub ready_empty : (m : Meaning Payload) (modules : ℕ) (waiting : Pending) (ls : List LaneUse) → IsEmptyHeap m modules → waiting.capacity ≡ modules → counted [] waiting.edits ≤ modules → StandsOn [] waiting → IsReady (held m waiting ls)
ready_empty m modules waiting ls empty capacity few stands = record {
  closed = empty.closed;
  room = subst (HasRoom m) (sym capacity) empty.room;
  few = few_at m (record { modules = [] }) waiting.edits waiting.edits modules waiting.capacity empty.commits refl capacity few;
  stands = stand_still m (record { modules = [] }) waiting empty.commits stands;
}

-- ---- after a recheck

module _ (before now : RecheckState) where
  same_stand : (now.heap ≡ before.heap) × (now.edits ≡ before.edits) → StandOnCommitted before.heap before.edits → StandOnCommitted now.heap now.edits
  same_stand same stand = subst (λ m. StandOnCommitted m now.edits) (sym same.0) (subst (λ w. StandOnCommitted before.heap w) (sym same.1) stand)

  same_few : (now.heap ≡ before.heap) × (now.edits ≡ before.edits) → AreFew before.heap before.edits → AreFew now.heap now.edits
  same_few same few = subst (λ m. AreFew m now.edits) (sym same.0) (subst (λ w. AreFew before.heap w) (sym same.1) few)

  -- the edits stand on what is committed
  pub stand_after : (o : Outcome) → Rechecked before now o → StandOnCommitted before.heap before.edits → StandOnCommitted now.heap now.edits
  stand_after (outcome.Done v p c e) recheck stand = recheck.stands (paths_of_rows (modules_in now.heap.committed))
  stand_after (outcome.Cancelled poll) recheck stand = same_stand recheck.same stand
  stand_after (outcome.ReadFault path) recheck stand = same_stand recheck.0 stand
  stand_after outcome.NoMemory recheck stand = same_stand recheck.same stand

  -- no more modules are counted than there may be
  pub few_after : (o : Outcome) → Rechecked before now o → now.edits.capacity ≡ before.edits.capacity → AreFew before.heap before.edits → AreFew now.heap now.edits
  few_after (outcome.Done v p c e) recheck size few =
      few_at now.heap recheck.new [] now.edits.edits before.edits.capacity now.edits.capacity recheck.is recheck.rest size
      (let count = counted_none recheck.new in let most = recheck.few in omega (arith, count, most))
  few_after (outcome.Cancelled poll) recheck size few = same_few recheck.same few
  few_after (outcome.ReadFault path) recheck size few = same_few recheck.0 few
  few_after outcome.NoMemory recheck size few = same_few recheck.same few

-- what a session needs stays, whether nothing was done or a recheck that ended in some way
pub record HasStayed (before now : RecheckState) (ks : List LaneUse) : Type 0 where
  pub ready : IsReady (held now.heap now.edits ks)
  pub capacity : now.edits.capacity ≡ before.edits.capacity
  pub told : now.folder.told ≡ before.folder.told
  pub later : before.folder.faults ≤ now.folder.faults

module _ (old new : Server) (before now : RecheckState) (ls ks : List LaneUse) where
  stayed_rechecked : (o : Outcome) → HasRechecked new.heap old.writer new.writer before now o → now.heap ≡ meaning_in new.writer → IsReady (held before.heap before.edits ls) → HasStayed before now ks
  stayed_rechecked o recheck is ready = record {
    ready = record {
      closed = ap (λ (m : Meaning Payload). m.is_open) is ∙ recheck.closed;
      room = subst (λ (m : Meaning Payload). HasRoom m now.edits.capacity) (sym is) recheck.room;
      few = few_after before now o recheck.result recheck.capacity ready.few;
      stands = stand_after before now o recheck.result ready.stands;
    };
    capacity = recheck.capacity;
    told = recheck.told;
    later = recheck.later;
  }

  same_ready : before ≡ now → IsReady (held before.heap before.edits ls) → IsReady (held now.heap now.edits ks)
  same_ready same ready =
      let there : IsReady (held now.heap now.edits ls) = subst (λ (r : RecheckState). IsReady (held r.heap r.edits ls)) same ready in
      record { closed = there.closed; room = there.room; few = there.few; stands = there.stands }

  stayed : MayHaveRechecked new.heap old.writer new.writer before now → now.heap ≡ meaning_in new.writer → IsReady (held before.heap before.edits ls) → HasStayed before now ks
  stayed (inl same) is ready = record {
    ready = same_ready (sym same) ready;
    capacity = ap (λ (r : RecheckState). r.edits.capacity) same;
    told = ap (λ (r : RecheckState). r.folder.told) same;
    later = (let faults = ap (λ (r : RecheckState). r.folder.faults) same in omega (arith, faults));
  }
  stayed (inr (o, recheck)) is ready = stayed_rechecked o recheck is ready

  pub has_stayed : {T E : Type 0} (r : Result (Outcome × T) E) → IfOk r (λ done. HasRechecked new.heap old.writer new.writer before now done.0) → OnErr r (MayHaveRechecked new.heap old.writer new.writer before now) → now.heap ≡ meaning_in new.writer
      → IsReady (held before.heap before.edits ls) → HasStayed before now ks
  has_stayed (Ok done) ok err is ready = stayed (inr (done.0, ok)) is ready
  has_stayed (Err e) ok err is ready = stayed err is ready

-- one who is asked, and says yes at a question, ended a recheck
module _ (old new : Server) (edits edits' : Pending) (folder folder' : FolderSeen) (ls ks : List LaneUse) (work work' : Work) (stop k q k' q' : ℕ) (at : k ≡ stop) (unasked : q ≡ 0) where
  ended : (o : Outcome)
      → HasRechecked new.heap old.writer new.writer (state_of folder edits old.writer (stop_seen (Some k) q (yes_answers_by k q)) work) (state_of folder' edits' new.writer (stop_seen (Some k') q' (yes_answers_by k' q')) work') o
      → HasEnded stop folder folder' (held (meaning_in old.writer) edits ls) (held (meaning_in new.writer) edits' ks) o
  ended o recheck = record {
    work = work;
    work' = work';
    asked = stop_seen (Some k) q (yes_answers_by k q);
    asked' = stop_seen (Some k') q' (yes_answers_by k' q');
    stops = record {
      told = ap Some at;
      unasked = unasked;
      no_yes = λ i. yes_answers_by (at i) (unasked i);
      yes = ap (λ j. yes_answers_by j q') (same_Some k' k recheck.told_stop ∙ at);
    };
    rechecked = recheck.result;
  }

  pub has_ended : {T E : Type 0} (r : Result (Outcome × T) E)
      → IfOk r (λ done. HasRechecked new.heap old.writer new.writer (state_of folder edits old.writer (stop_seen (Some k) q (yes_answers_by k q)) work) (state_of folder' edits' new.writer (stop_seen (Some k') q' (yes_answers_by k' q')) work') done.0)
      → IfOk r (λ done. HasEnded stop folder folder' (held (meaning_in old.writer) edits ls) (held (meaning_in new.writer) edits' ks) done.0)
  has_ended (Ok done) ok = ended done.0 ok
  has_ended (Err e) ok = tt

  pub has_read : {T E : Type 0} (r : Result (Outcome × T) E)
      → IfOk r (λ done. HasRechecked new.heap old.writer new.writer (state_of folder edits old.writer (stop_seen (Some k) q (yes_answers_by k q)) work) (state_of folder' edits' new.writer (stop_seen (Some k') q' (yes_answers_by k' q')) work') done.0)
      → IfOk r (λ done. CountsReads folder folder' done.0)
  has_read (Ok done) ok = ok.reads
  has_read (Err e) ok = tt

-- a session may begin a recheck
pub may_recheck : (server : Server) (edits : Pending) (ls : List LaneUse) → (meaning_in server.writer).version + 1 < 2 ^ 31 → IsReady (held (meaning_in server.writer) edits ls) → MayRecheck server.writer edits
may_recheck server edits ls version ready = record { closed = ready.closed; version = version; room = ready.room; fit = few_there (meaning_in server.writer) edits ready.few }

-- ---- an edit

pub counted_there : (m : Meaning Payload) (root : Root) → Commits m root → (edits : Rows Edit) → counted (paths_of root) edits ≡ counted (base.paths_of (program_in m.committed)) edits
counted_there m root is edits = ap (λ ps. counted ps edits) (sym (committed_paths m root is))

pub limits_there : {T : Type 0} (most n k : ℕ) (r : Result T EditFault) → n ≡ k → LimitsModules most n r → Limits most k r
limits_there most n k (Ok x) same few = subst (λ j. j ≤ most) same few
limits_there most n k (Err (TooManyModules count)) same many = (subst (λ j. most < j) same many.0, many.1 ∙ same)
limits_there most n k (Err NoMemory) same few = tt
