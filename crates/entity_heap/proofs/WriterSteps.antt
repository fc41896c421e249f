-- The writer's steps keep the rule.
use Rattle.std.proofs.Common.{◌≡◌, ◌≢◌, ℕ, ◌+◌, ◌-◌, ◌*◌, ◌<◌, ◌≤◌, Bool, true, false, List, [], ◌∷◌, ◌++◌, length, set, get_or, replicate, slice_get, refl, sym, ap, ◌∙◌, subst, inl, inr, ⊎_elim, arith, Option, Some, None, length-set, get_or-set_other, get_or-set_same}
use mathlib.Core.Logic.{dite}
use mathlib.Core.Option.{none, some}
use native.Mathlib.Decide.{ℕ_discrete}
use lib.ListN.{get_elem?}
use lib.Seq.{set-get_or}
use Rattle.std.specs.Arc.{arc_value}
use Rattle.std.specs.declared.sync.Arc.{Arc}
use Rattle.atomic_table.specs.Table.{State, Me, step, keeps, takes, gives, Allows, put_back, rest}
use Rattle.heap_core.specs.Meaning.{AllFit}
use Rattle.entity_heap.specs.declared.board.Reach.{Reach}
use Rattle.entity_heap.specs.declared.board.Fill.{Fill}
use Rattle.entity_heap.specs.declared.board.Plan.{Plan}
use Rattle.entity_heap.specs.declared.board.Visit.{Visit}
use Rattle.entity_heap.specs.declared.board.Role.{Role}
use Rattle.entity_heap.specs.declared.board.Role.TheVariants.{Spent, Told, Reads, Writes}
use Rattle.entity_heap.specs.Rule.{total, is_before, pinned_before, spot, pick, door, word_for, word_of, Homes, old_word, IsRead, IsFrom, AreStates, Knows, Gated, Lawful, Slotted, Kept}
use Rattle.entity_heap.specs.Plans.{after_commit, after_load, after_drain, fill_at, reaching, filling_on, staging, rolling, plan_of}
use Rattle.entity_heap.specs.Tells.{IsMet, committed, drained, was_reset, checked, rolled, reached, filled, staged}
use Rattle.entity_heap.proofs.Lists.{same_some, not_both, all_same, same_there, get_longer}
use Rattle.entity_heap.proofs.Plans.{pick_for, pick_now, lawful_commit, lawful_stage, lawful_roll, lawful_more}
use Rattle.entity_heap.proofs.Slots.{MayReach, now, slots_reach, slots_fill, slots_stage, slots_roll, slots_commit, slots_more}
use Rattle.entity_heap.proofs.Gates.{before_same, before_else, word_low, gated_seat, gated_more, gated_commit, gated_drain, gated_reset, counts_writer}
use Rattle.entity_heap.proofs.Seats.{Goes, seats_writer, states_on, held_pin}
use Rattle.entity_heap.proofs.Totals.{total_none, none_each}
use Rattle.entity_heap.proofs.Spots.{put, put_here, put_else}
use Rattle.entity_heap.proofs.LaneSteps.{low_same, knows, wide, quiet}

-- the words after a store to an entity's one
word_put : (ws : List ℕ) (e x : ℕ) → 3 + e < length ws → put (word_of ws) e x ≡ word_of (set ws (3 + e) x)
word_put ws e x inside = λ j k. sym (at k) j
  where
    at : (k : ℕ) → get_or (set ws (3 + e) x) (3 + k) 0 ≡ put (word_of ws) e x k
    at k = dite (ℕ_discrete k e)
        (λ (i : k ≡ e). ap (λ (z : ℕ). get_or (set ws (3 + e) x) (3 + z) 0) i ∙ (get_or-set_same ws (3 + e) x 0 inside ∙ (sym (put_here (word_of ws) e x) ∙ ap (put (word_of ws) e x) (sym i))))
        (λ ne. get_or-set_other ws (3 + e) (3 + k) x 0 (λ w. ne (omega arith)) ∙ sym (put_else (word_of ws) e x k ne))

abbrev head_or : {X : Type 0} → X → List (ℕ × X) → X
head_or d [] = d
head_or d (x ∷ xs) = x.1

module _ {P : Type 0} where
  stays : (q q' : Plan P) → q.made ≤ q'.made → q'.entities ≡ q.entities → q'.version ≡ q.version → q'.history ≡ q.history → Goes q q'
  stays q q' made entities version history = record { made = made; entities = entities; version = omega arith; history = λ v st g. ap (λ (h : List (List P)). slice_get h v) history ∙ g }

  drained_read : (q : Plan P) (ls : List ℕ) (o : Option ℕ) (p : ℕ) → is_before q.version o ≡ 0 → o ≡ Some p → IsRead q p → IsRead (record q { drained = true; owed = 0; found = ls }) p
  drained_read q ls o p before is read = ⊎_elim (λ (e : p ≡ q.version). inl e) (λ (t : (p + 1 ≡ q.version) × (q.drained ≡ false)). absurd (let one = before_same q.version p t.0 in let z : is_before q.version (Some p) ≡ 0 = ap (is_before q.version) (sym is) ∙ before in omega arith)) read

module _ {P Z : Type 0} (fits : ℕ → P → ℕ → P → Type 0) where
  -- what a step starts from: the writer's seat has the rule's plan
  pub the_plan : (s : State (Option (Arc P Z)) (Role P)) (r : Kept fits s) (id : ℕ) (v : Role P) (q : Plan P) → get_elem? s.views id ≡ some v → v ≡ Writes q
      → (q ≡ r.plan) × (id ≡ r.ties.writer) × (get_elem? s.views id ≡ some (Writes r.plan)) × (plan_of v ≡ r.plan)
  the_plan s r id v q at is = let k : Knows r.plan r.ties id (Writes q) = knows fits s r id v (Writes q) at is in (k.0, k.1, at ∙ ap some (is ∙ ap (λ (z : Plan P). Writes z) k.0), ap plan_of is ∙ k.0)

  -- what a step of the writer owes
  kept_writer : (s : State (Option (Arc P Z)) (Role P)) (r : Kept fits s) (id : ℕ) (q : Plan P) (ws : List ℕ) (homes : Homes P Z) → length ws ≡ length s.words → length homes ≡ length s.homes → q.lanes ≡ r.plan.lanes
      → get_elem? s.views id ≡ some (Writes r.plan) → id ≡ r.ties.writer → Gated q ws (set s.views id (Writes q)) → Lawful fits q → Slotted q r.ties.held (word_of ws) homes → Goes r.plan q
      → ((j : ℕ) (l : Visit P) → get_elem? s.views j ≡ some (Reads l) → (p : ℕ) → l.pin ≡ Some p → IsRead r.plan p → IsRead q p) → q.met ≡ r.plan.met → q.heard ≡ r.plan.heard
      → Kept fits record { words = ws; homes = homes; views = set s.views id (Writes q) }
  kept_writer s r id q ws homes long deep lanes at writes gate world slots go reads met heard = record {
    plan = q;
    ties = r.ties;
    sizes = (long ∙ (r.sizes.0 ∙ ap (λ (k : ℕ). 3 + k) (sym go.entities)), deep ∙ (r.sizes.1 ∙ (λ j. 2 * (sym lanes j * sym go.entities j))));
    gate = gate;
    world = world;
    slots = slots;
    seats = seats_writer r.plan q r.ties s.views id r.seats at writes go reads (λ n. let o = r.seats.noted n in let v = go.version in (subst (λ (ms : List ℕ). get_or ms n 0 ≤ r.ties.noted n) (sym met) o.0, omega arith)) (subst (AreStates q) (sym heard) (states_on r.plan q r.plan.heard go r.seats.heard));
  }

  commits_plan : (s : State (Option (Arc P Z)) (Role P)) (r : Kept fits s) (id : ℕ) → get_elem? s.views id ≡ some (Writes r.plan) → id ≡ r.ties.writer → r.plan.reset ≡ true → r.plan.hand ≡ None → r.plan.fill ≡ None → r.plan.version + 1 < 2147483648 → AllFit fits r.plan.next
      → Kept fits record { words = set s.words 0 ((r.plan.version + 1) * 4294967296); homes = s.homes; views = set s.views id (Writes (after_commit (get_or s.words 0 0) r.plan)) }
  commits_plan s r id at writes ready hand fill room fit =
      let n : ℕ = get_or s.words 0 0 in let q : Plan P = r.plan in let x : ℕ = (q.version + 1) * 4294967296 in let q' : Plan P = after_commit n q in let still = (r.gate.cleared ready).0 in
      kept_writer s r id q' (set s.words 0 x) s.homes (length-set s.words 0 x) refl refl at writes
      (gated_commit q r.ties s.words s.views r.gate id (wide fits s r) r.seats.each at ready room)
      (lawful_commit fits n q r.world fit)
      (subst (λ (w : ℕ → ℕ). Slotted q' r.ties.held w s.homes) (sym (word_low s.words 0 x (omega arith))) (slots_commit fits n q r.ties.held (word_of s.words) s.homes r.world r.slots hand fill still))
      record { made = omega arith; entities = refl; version = omega arith; history = λ v st g. get_longer q.history (q.next ∷ []) v st g }
      (λ j l here p is read. let c = now q p still read in inr (ap (λ (k : ℕ). k + 1) c, refl)) refl refl

  pub commits : (slots id : ℕ) (m : Me (Option (Arc P Z)) (Role P)) (q : Plan P) (c new : ℕ) → m.0 ≡ Writes q → q.version ≡ c → q.reset ≡ true → q.hand ≡ None → q.fill ≡ None → c + 1 < 2147483648 → AllFit fits q.next → new ≡ (c + 1) * 4294967296
      → Allows (Kept fits) slots id m 0 (λ _. new) (committed (step slots 0 new 0 none) m)
  commits slots id m q c new is here ready hand fill room fit x s r sized at bound =
      let t = the_plan s r id m.0 q at is in let n : ℕ = get_or s.words 0 0 in let e : q ≡ r.plan = t.0 in
      let x' : (r.plan.version + 1) * 4294967296 ≡ new = ap (λ (z : Plan P). (z.version + 1) * 4294967296) (sym e) ∙ (ap (λ (k : ℕ). (k + 1) * 4294967296) here ∙ sym x) in
      let kept = commits_plan s r id t.2 t.1 (ap (λ (z : Plan P). z.reset) (sym e) ∙ ready) (ap (λ (z : Plan P). z.hand) (sym e) ∙ hand) (ap (λ (z : Plan P). z.fill) (sym e) ∙ fill)
      (subst (λ (k : ℕ). k + 1 < 2147483648) (sym here ∙ ap (λ (z : Plan P). z.version) e) room) (subst (λ (z : Plan P). AllFit fits z.next) e fit) in (
        Writes (after_commit n r.plan),
        keeps,
        tt,
        subst (λ (k : ℕ). Kept fits record { words = set s.words 0 k; homes = s.homes; views = set s.views id (Writes (after_commit n r.plan)) }) x' kept,
        ap (λ (z : Plan P). (Writes (after_commit n z), m.1)) (sym t.3),
      )

  -- a load of the word i, after which the plan has b for `drained`, o for `owed` and ls for `found`
  loaded : (s : State (Option (Arc P Z)) (Role P)) (r : Kept fits s) (id i : ℕ) (b : Bool) (o : ℕ) (ls : List ℕ) → get_elem? s.views id ≡ some (Writes r.plan) → id ≡ r.ties.writer
      → (b ≡ false → (r.plan.drained ≡ false) × (o ≡ r.plan.owed)) → (r.plan.reset ≡ true → b ≡ true) → o < 4294967296 → ((v : ℕ) → IsRead (record r.plan { drained = b; owed = o; found = ls }) v → IsRead r.plan v)
      → ((j : ℕ) (l : Visit P) → get_elem? s.views j ≡ some (Reads l) → (p : ℕ) → l.pin ≡ Some p → IsRead r.plan p → IsRead (record r.plan { drained = b; owed = o; found = ls }) p)
      → Kept fits record { words = set s.words i (get_or s.words i 0); homes = s.homes; views = set s.views id (Writes (record r.plan { drained = b; owed = o; found = ls })) }
  loaded s r id i b o ls at writes not done few back on =
      let q : Plan P = r.plan in let q' : Plan P = record q { drained = b; owed = o; found = ls } in let ws : List ℕ = set s.words i (get_or s.words i 0) in
      kept_writer s r id q' ws s.homes (length-set s.words i (get_or s.words i 0)) refl refl at writes
      (gated_drain q s.words ws s.views id b o ls r.gate (low_same s.words i) at not done few)
      (lawful_more fits q b q.reset o q.made ls q.met q.heard q.hand q.fill r.world (λ off. off))
      (subst (λ (ws : List ℕ). Slotted q' r.ties.held (word_of ws) s.homes) (sym (set-get_or s.words i 0))
      (slots_more q r.ties.held (word_of s.words) s.homes b q.reset o q.made ls q.met q.heard r.slots back (λ n h is read. let o = held_pin q r.ties s.views n h r.seats is in on (r.ties.owner n) o.0 o.1 h.pin o.2 read) (λ ready. ready)))
      (stays q q' (omega arith) refl refl refl) on refl refl

  -- where each lane was met at the current version, none is pinned before it
  none_before : (s : State (Option (Arc P Z)) (Role P)) (r : Kept fits s) → IsMet r.plan → total (pinned_before r.plan.version) s.views ≡ 0
  none_before s r met = total_none (pinned_before r.plan.version) s.views (λ j v here. not_before j v (r.seats.each j v here))
    where
      late : (n : ℕ) (o : Option ℕ) → r.plan.version ≤ get_or r.plan.met n 0 → IsFrom (r.ties.noted n) o → is_before r.plan.version o ≡ 0
      late n None m k = refl
      late n (Some p) m k = let o = r.seats.noted n in before_else r.plan.version p (λ w. omega arith)

      not_before : (j : ℕ) (v : Role P) → Knows r.plan r.ties j v → pinned_before r.plan.version v ≡ 0
      not_before j Spent k = refl
      not_before j (Told x) k = refl
      not_before j (Reads l) k = late l.number l.pin (met l.number k.number) k.noted
      not_before j (Writes w) k = refl

  pub drains : (slots id : ℕ) (m : Me (Option (Arc P Z)) (Role P)) (q : Plan P) (c : ℕ) → m.0 ≡ Writes q → q.version ≡ c → q.drained ≡ false
      → Allows (Kept fits) slots id m (door (c + 1)) (λ n. n) (drained (step slots (door (c + 1)) 0 0 none) m)
  drains slots id m q c is here un s r sized at bound =
      let t = the_plan s r id m.0 q at is in let e : q ≡ r.plan = t.0 in let i : ℕ = door (c + 1) in let n : ℕ = get_or s.words i 0 in
      let un' : r.plan.drained ≡ false = ap (λ (z : Plan P). z.drained) (sym e) ∙ un in let c' : r.plan.version ≡ c = ap (λ (z : Plan P). z.version) (sym e) ∙ here in
      let same : plan_of m.0 ≡ r.plan = t.3 in let owed : r.plan.owed ≡ (plan_of m.0).owed = ap (λ (z : Plan P). z.owed) (sym same) in
      let w : get_or s.words (door (r.plan.version + 1)) 0 ≡ n = ap (λ (k : ℕ). get_or s.words (door (k + 1)) 0) c' in let o = r.gate.owing un' in let below : n ≤ (plan_of m.0).owed = omega arith in
      let met : IsMet (plan_of m.0) → n ≡ (plan_of m.0).owed = λ h. let zero_before = none_before s r (subst IsMet same h) in omega arith in
      dite (ℕ_discrete n r.plan.owed)
      (λ (all : n ≡ r.plan.owed).
      let none : total (pinned_before r.plan.version) s.views ≡ 0 = omega arith in (
        Writes (after_drain n r.plan),
        keeps,
        tt,
        loaded s r id i true 0 (r.plan.found ++ n ∷ []) t.2 t.1 (λ off. not_both true refl off) (λ _. refl) (omega arith) (λ v read. ⊎_elim (λ (e : v ≡ r.plan.version). inl e) (λ (u : (v + 1 ≡ r.plan.version) × (true ≡ false)). not_both true refl u.1) read)
            (λ j l here' p pin read. drained_read r.plan (r.plan.found ++ n ∷ []) l.pin p (none_each (pinned_before r.plan.version) s.views j (Reads l) here' none) pin read),
        ((λ _. ap (λ (z : Plan P). (Writes (after_drain n z), m.1)) (sym same)), (λ ne. absurd (ne (all ∙ owed))), below, met),
      ))
      (λ (less : n ≢ r.plan.owed). (
        Writes (after_load n r.plan),
        keeps,
        tt,
        loaded s r id i r.plan.drained r.plan.owed (r.plan.found ++ n ∷ []) t.2 t.1 (λ d. (d, refl)) (λ on. (r.gate.cleared on).0) r.gate.bounds.1 (λ v read. read) (λ j l here' p pin read. read),
        ((λ all. absurd (less (all ∙ sym owed))), (λ _. ap (λ (z : Plan P). (Writes (after_load n z), m.1)) (sym same)), below, met),
      ))

  -- the writer looks at its notes
  pub checks : (slots id : ℕ) (m : Me (Option (Arc P Z)) (Role P)) (q : Plan P) → m.0 ≡ Writes q → Allows (Kept fits) slots id m 0 (λ n. n) (checked (step slots 0 0 0 none) m)
  checks slots id m q is s r sized at bound =
      let t = the_plan s r id m.0 q at is in (
        Writes r.plan,
        keeps,
        tt,
        loaded s r id 0 r.plan.drained r.plan.owed r.plan.found t.2 t.1 (λ d. (d, refl)) (λ on. (r.gate.cleared on).0) r.gate.bounds.1 (λ v read. read) (λ j l here' p pin read. read),
        (
          (λ j. ((ap (λ (z : Plan P). Writes z) (sym t.0) ∙ sym is) j, m.1)),
          subst (λ (z : Plan P). (i : ℕ) → get_or z.met i 0 ≤ z.version) (sym t.3) (λ i. let o = r.seats.noted i in omega arith),
          subst (λ (z : Plan P). AreStates z z.heard) (sym t.3) r.seats.heard,
        ),
      )

  resets_plan : (s : State (Option (Arc P Z)) (Role P)) (r : Kept fits s) (id : ℕ) → get_elem? s.views id ≡ some (Writes r.plan) → id ≡ r.ties.writer → r.plan.drained ≡ true
      → Kept fits record { words = set s.words (door (r.plan.version + 1)) 0; homes = s.homes; views = set s.views id (Writes (record r.plan { reset = true })) }
  resets_plan s r id at writes ready =
      let q : Plan P = r.plan in let q' : Plan P = record q { reset = true } in let i : ℕ = door (q.version + 1) in
      kept_writer s r id q' (set s.words i 0) s.homes (length-set s.words i 0) refl refl at writes
      (gated_reset q s.words s.views id r.gate (wide fits s r) at ready)
      (lawful_more fits q q.drained true q.owed q.made q.found q.met q.heard q.hand q.fill r.world (λ off. not_both true refl off))
      (subst (λ (w : ℕ → ℕ). Slotted q' r.ties.held w s.homes) (sym (word_low s.words i 0 (omega arith)))
      (slots_more q r.ties.held (word_of s.words) s.homes q.drained true q.owed q.made q.found q.met q.heard r.slots (λ v read. read) (λ n h is read. read) (λ _. refl)))
      (stays q q' (omega arith) refl refl refl) (λ j l here p is read. read) refl refl

  pub resets : (slots id : ℕ) (m : Me (Option (Arc P Z)) (Role P)) (q : Plan P) (c : ℕ) → m.0 ≡ Writes q → q.version ≡ c → q.drained ≡ true
      → Allows (Kept fits) slots id m (door (c + 1)) (λ _. 0) (λ _. was_reset (step slots (door (c + 1)) 0 0 none) m 0)
  resets slots id m q c is here ready s r sized at bound =
      let t = the_plan s r id m.0 q at is in let e : q ≡ r.plan = t.0 in let c' : r.plan.version ≡ c = ap (λ (z : Plan P). z.version) (sym e) ∙ here in (
        Writes (record r.plan { reset = true }),
        keeps,
        tt,
        subst (λ (k : ℕ). Kept fits record { words = set s.words (door (k + 1)) 0; homes = s.homes; views = set s.views id (Writes (record r.plan { reset = true })) }) c'
            (resets_plan s r id t.2 t.1 (ap (λ (z : Plan P). z.drained) (sym e) ∙ ready)),
        ap (λ (z : Plan P). let y : Plan P = record z { reset = true } in (Writes y, m.1)) (sym t.3),
      )

  -- a step on an entity's word, after which the plan has another next state, other staged entities, hand and fill
  kept_entity : (s : State (Option (Arc P Z)) (Role P)) (r : Kept fits s) (id e x : ℕ) (next : List P) (ss : List Bool) (hand : Option Reach) (fill : Option (Fill P)) (homes : Homes P Z) → length homes ≡ length s.homes
      → get_elem? s.views id ≡ some (Writes r.plan) → id ≡ r.ties.writer → Lawful fits (record r.plan { next = next; staged = ss; hand = hand; fill = fill })
      → Slotted (record r.plan { next = next; staged = ss; hand = hand; fill = fill }) r.ties.held (word_of (set s.words (3 + e) x)) homes
      → Kept fits record { words = set s.words (3 + e) x; homes = homes; views = set s.views id (Writes (record r.plan { next = next; staged = ss; hand = hand; fill = fill })) }
  kept_entity s r id e x next ss hand fill homes deep at writes world slots =
      let q : Plan P = r.plan in let q' : Plan P = record q { next = next; staged = ss; hand = hand; fill = fill } in let ws : List ℕ = set s.words (3 + e) x in
      kept_writer s r id q' ws homes (length-set s.words (3 + e) x) deep refl at writes
      (gated_more q ws (set s.views id (Writes q')) q.history q.committed next q.words ss q.found q.met q.heard hand fill
      (gated_seat q s.words ws s.views id (Writes q) (Writes q') r.gate (λ k low. get_or-set_other s.words (3 + e) k x 0 (λ w. omega arith)) at (counts_writer q q')))
      world slots (stays q q' (omega arith) refl refl refl) (λ j l here p is read. read) refl refl

  -- the writer reaches the next lane's slot of the fill that goes on, or begins
  pub reaches : (slots id e : ℕ) (m : Me (Option (Arc P Z)) (Role P)) (q : Plan P) (f : Fill P) → m.0 ≡ Writes q → MayReach q f → f.entity ≡ e → fill_at q.fill e ≡ f
      → Allows (Kept fits) slots id m (3 + e) (λ n. n) (reached (step slots (3 + e) 0 0 none) m)
  reaches slots id e m q f is may entity same s r sized at bound =
      let t = the_plan s r id m.0 q at is in let may' : MayReach r.plan f = subst (λ (z : Plan P). MayReach z f) t.0 may in let n : ℕ = get_or s.words (3 + e) 0 in
      let did = slots_reach r.plan r.ties.held (word_of s.words) s.homes f r.slots (quiet fits s r) may' in
      let k : ℕ = spot r.plan.entities (length f.payloads) f.entity (1 - pick (word_of s.words f.entity) r.plan.version) in (
        Writes (reaching r.plan f k),
        takes k did.0.0,
        did.0.1,
        kept_entity s r id e n r.plan.next r.plan.staged (Some (record { lane = length f.payloads; slot = k })) (Some f) (set s.homes k none) (length-set s.homes k none) t.2 t.1
            (lawful_more fits r.plan r.plan.drained r.plan.reset r.plan.owed r.plan.made r.plan.found r.plan.met r.plan.heard (Some (record { lane = length f.payloads; slot = k })) (Some f) r.world (λ off. off))
            (subst (λ (ws : List ℕ). Slotted (reaching r.plan f k) r.ties.held (word_of ws) (set s.homes k none)) (sym (set-get_or s.words (3 + e) 0)) did.1),
        (λ e' at_word.
            let ee : e ≡ e' = omega arith in let ff : f ≡ fill_at (plan_of m.0).fill e' = sym same ∙ (λ j. fill_at ((t.0 ∙ sym t.3) j).fill (ee j)) in
            let kk : k ≡ spot (plan_of m.0).entities (length (fill_at (plan_of m.0).fill e').payloads) (fill_at (plan_of m.0).fill e').entity (1 - pick n (plan_of m.0).version) =
            ap (λ (w : ℕ). spot r.plan.entities (length f.payloads) f.entity (1 - pick w r.plan.version)) (ap (word_of s.words) entity) ∙ (λ j. spot (sym t.3 j).entities (length (ff j).payloads) (ff j).entity (1 - pick n (sym t.3 j).version)) in
            (did.0.0, (λ j. (Writes (reaching (sym t.3 j) (ff j) (kk j)), (kk j, did.0.0) ∷ m.1)))),
      )

  first_of : (i k : ℕ) (a a' : Arc P Z) (l : List (ℕ × Option (Arc P Z))) → l ≡ (i, Some a) ∷ [] → l ≡ (k, Some a') ∷ [] → a ≡ a'
  first_of i k a a' l e e' = let o : Some a ≡ Some a' = ap (head_or (Some a)) (sym e ∙ e') in same_some (Some a) a a' refl o

  pub fills : (slots id e : ℕ) (m : Me (Option (Arc P Z)) (Role P)) (q : Plan P) (w : Reach) (f : Fill P) (a : Arc P Z) → m.0 ≡ Writes q → q.hand ≡ Some w → q.fill ≡ Some f → m.1 ≡ (w.slot, Some a) ∷ [] → ((i : ℕ) (x : P) → slice_get f.payloads i ≡ Some x → x ≡ arc_value a)
      → Allows (Kept fits) slots id m (3 + e) (λ n. n) (filled (step slots (3 + e) 0 0 none) m)
  fills slots id e m q w f a is hand fill carried alike s r sized at bound =
      let t = the_plan s r id m.0 q at is in let x : ℕ = get_or s.words (3 + e) 0 in let q' : Plan P = filling_on r.plan f (arc_value a) in
      let hand' : r.plan.hand ≡ Some w = ap (λ (z : Plan P). z.hand) (sym t.0) ∙ hand in let fill' : r.plan.fill ≡ Some f = ap (λ (z : Plan P). z.fill) (sym t.0) ∙ fill in
      let f' : Fill P = record f { payloads = f.payloads ++ arc_value a ∷ [] } in (
        Writes q',
        gives,
        tt,
        subst (λ (c : List (ℕ × Option (Arc P Z))). Kept fits record { words = set s.words (3 + e) x; homes = put_back s.homes c; views = set s.views id (Writes q') }) (sym carried)
            (kept_entity s r id e x r.plan.next r.plan.staged None (Some f') (set s.homes w.slot (some (Some a))) (length-set s.homes w.slot (some (Some a))) t.2 t.1
            (lawful_more fits r.plan r.plan.drained r.plan.reset r.plan.owed r.plan.made r.plan.found r.plan.met r.plan.heard None (Some f') r.world (λ off. off))
            (subst (λ (ws : List ℕ). Slotted q' r.ties.held (word_of ws) (set s.homes w.slot (some (Some a)))) (sym (set-get_or s.words (3 + e) 0))
            (slots_fill r.plan r.ties.held (word_of s.words) s.homes w f a r.slots (quiet fits s r) hand' fill' r.sizes.1 alike))),
        (λ k a' g c is_g. let ff : f ≡ g = same_some q.fill f g fill (ap (λ (z : Plan P). z.fill) (t.0 ∙ sym t.3) ∙ is_g) in
            let aa : a ≡ a' = first_of w.slot k a a' m.1 carried c in
            (λ j. (Writes (filling_on (sym t.3 j) (ff j) (arc_value (aa j))), ap rest carried j))),
      )

  stages_plan : (s : State (Option (Arc P Z)) (Role P)) (r : Kept fits s) (id new : ℕ) (f : Fill P) (x : P) → get_elem? s.views id ≡ some (Writes r.plan) → id ≡ r.ties.writer → r.plan.hand ≡ None → r.plan.fill ≡ Some f
      → f.payloads ≡ replicate r.plan.lanes x → new ≡ word_for r.plan.version true (old_word r.plan f.entity)
      → Kept fits record { words = set s.words (3 + f.entity) new; homes = s.homes; views = set s.views id (Writes (staging r.plan f.entity x)) }
  stages_plan s r id new f x at writes hand fill all is_new =
      let q : Plan P = r.plan in let word : ℕ → ℕ = word_of s.words in let g = r.slots.filling f fill in let inside : f.entity < q.entities = g.1 in
      let same : pick new q.version ≡ pick (word f.entity) q.version = pick_for q.version (old_word q f.entity) new true is_new (r.world.old f.entity) ∙ sym (pick_now fits q (word f.entity) f.entity r.world (r.slots.worded f.entity inside)) in
      kept_entity s r id f.entity new (set q.next f.entity x) (set q.staged f.entity true) q.hand None s.homes refl at writes
      (lawful_stage fits q f.entity x r.world inside g.0)
      (subst (λ (w : ℕ → ℕ). Slotted (staging q f.entity x) r.ties.held w s.homes) (word_put s.words f.entity new (let k = r.sizes.0 in omega arith))
      (slots_stage q r.ties.held word s.homes f x new r.slots ((quiet fits s r).0 g.0) (let k = r.world.lengths.2 in omega arith) hand fill all is_new same))

  pub stages : (slots id new : ℕ) (m : Me (Option (Arc P Z)) (Role P)) (q : Plan P) (f : Fill P) (x : P) → m.0 ≡ Writes q → q.hand ≡ None → q.fill ≡ Some f → f.payloads ≡ replicate q.lanes x → 0 < q.lanes
      → new ≡ word_for q.version true (old_word q f.entity) → Allows (Kept fits) slots id m (3 + f.entity) (λ _. new) (λ _. staged (step slots (3 + f.entity) new 0 none) m new)
  stages slots id new m q f x is hand fill all some_lane is_new s r sized at bound =
      let t = the_plan s r id m.0 q at is in let e : q ≡ r.plan = t.0 in
      let fill' : r.plan.fill ≡ Some f = ap (λ (z : Plan P). z.fill) (sym e) ∙ fill in (
        Writes (staging r.plan f.entity x),
        keeps,
        tt,
        stages_plan s r id new f x t.2 t.1 (ap (λ (z : Plan P). z.hand) (sym e) ∙ hand) fill' (all ∙ ap (λ (z : Plan P). replicate z.lanes x) e) (is_new ∙ ap (λ (z : Plan P). word_for z.version true (old_word z f.entity)) e),
        (λ g y is_g all'. let ff : f ≡ g = same_some r.plan.fill f g fill' (ap (λ (z : Plan P). z.fill) (sym t.3) ∙ is_g) in
            let xx : x ≡ y = all_same q.lanes 0 x y (ap (λ (l : List P). slice_get l 0) (sym all ∙ (ap (λ (z : Fill P). z.payloads) ff ∙ (all' ∙ ap (λ (z : Plan P). replicate z.lanes y) (t.3 ∙ sym e)))) ∙ same_there q.lanes 0 y some_lane) in
            (λ j. (Writes (staging (sym t.3 j) (ff j).entity (xx j)), m.1))),
      )

  rolls_plan : (s : State (Option (Arc P Z)) (Role P)) (r : Kept fits s) (id e new : ℕ) → get_elem? s.views id ≡ some (Writes r.plan) → id ≡ r.ties.writer → r.plan.reset ≡ true → r.plan.hand ≡ None → r.plan.fill ≡ None → e < r.plan.entities
      → new ≡ old_word r.plan e → Kept fits record { words = set s.words (3 + e) new; homes = s.homes; views = set s.views id (Writes (rolling r.plan e)) }
  rolls_plan s r id e new at writes ready hand fill inside is_new =
      let q : Plan P = r.plan in let word : ℕ → ℕ = word_of s.words in
      let same : pick new q.version ≡ pick (word e) q.version = pick_for q.version (old_word q e) new false is_new (r.world.old e) ∙ sym (pick_now fits q (word e) e r.world (r.slots.worded e inside)) in
      kept_entity s r id e new (rolling q e).next (set q.staged e false) q.hand q.fill s.homes refl at writes
      (lawful_roll fits q e r.world inside)
      (subst (λ (w : ℕ → ℕ). Slotted (rolling q e) r.ties.held w s.homes) (word_put s.words e new (let k = r.sizes.0 in omega arith))
      (slots_roll q r.ties.held word s.homes e new r.slots ((quiet fits s r).0 ready) (let k = r.world.lengths.2 in omega arith) hand fill is_new same))

  pub rolls : (slots id new e : ℕ) (m : Me (Option (Arc P Z)) (Role P)) (q : Plan P) → m.0 ≡ Writes q → q.reset ≡ true → q.hand ≡ None → q.fill ≡ None → e < q.entities → new ≡ old_word q e
      → Allows (Kept fits) slots id m (3 + e) (λ _. new) (λ _. rolled (step slots (3 + e) new 0 none) m new)
  rolls slots id new e m q is ready hand fill inside is_new s r sized at bound =
      let t = the_plan s r id m.0 q at is in let e' : q ≡ r.plan = t.0 in (
        Writes (rolling r.plan e),
        keeps,
        tt,
        rolls_plan s r id e new t.2 t.1 (ap (λ (z : Plan P). z.reset) (sym e') ∙ ready) (ap (λ (z : Plan P). z.hand) (sym e') ∙ hand) (ap (λ (z : Plan P). z.fill) (sym e') ∙ fill) (subst (λ (z : Plan P). e < z.entities) e' inside) (is_new ∙ ap (λ (z : Plan P). old_word z e) e'),
        (λ k at_word. let ee : e ≡ k = omega arith in (λ j. (Writes (rolling (sym t.3 j) (ee j)), m.1))),
      )
