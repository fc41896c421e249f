-- A table that keeps the rule stands for a lawful world.
use Rattle.std.proofs.Common.{◌≡◌, ◌≢◌, ◌⊎◌, ℕ, zero, suc, ◌+◌, ◌-◌, ◌/◌, ◌<◌, ◌≤◌, Bool, true, false, cond, eqb, eq-eqb, ne_eqb, List, [], ◌∷◌, length, map, replicate, set, get_or, slice_get, refl, sym, ap, ◌∙◌, subst, inl, inr, ⊎_elim, arith, Option, Some, None, length-set}
use Rattle.std.proofs.lemmas.List.{length-map, length-replicate}
use mathlib.Core.Option.{none, some}
use mathlib.Core.Option as maybe
use mathlib.Core.Logic.{dite}
use native.Mathlib.Decide.{ℕ_discrete}
use lib.ListN.{get_elem?}
use Rattle.std.specs.declared.sync.Arc.{Arc}
use Rattle.atomic_table.specs.Table.{State}
use Rattle.heap_core.proofs.Lists.{put_here}
use Rattle.heap_world.specs.World.{PureWorld, current, last_state, Pends, HasLengths, IsLawful}
use Rattle.heap_world.specs.World as worlds
use Rattle.entity_heap.specs.declared.board.Fill.{Fill}
use Rattle.entity_heap.specs.declared.board.Hold.{Hold}
use Rattle.entity_heap.specs.declared.board.Plan.{Plan}
use Rattle.entity_heap.specs.declared.board.Visit.{Visit}
use Rattle.entity_heap.specs.declared.board.Role.{Role}
use Rattle.entity_heap.specs.declared.board.Role.TheVariants.{Spent, Told, Reads, Writes}
use Rattle.entity_heap.specs.Rule.{is_staged, IsRead, IsPin, IsLane, Ties, Knows, Lawful, Slotted, Homes, AreSame, Kept}
use Rattle.entity_heap.specs.Worlds.{Own, pending_of, filled_to, IsFilling, IsPending, IsWorldOf}
use Rattle.entity_heap.proofs.Lists.{same_some, all_same, get_there, set-get_else}
use Rattle.entity_heap.proofs.Plans.{reset_if}
use Rattle.entity_heap.proofs.Drafts.{flag_at, pends_staged, staged_pends, length-pending, last_is, length-rows, row_is, same_or_not}

module _ {A : Type 0} where
  -- f of each number below n
  table : ℕ → (ℕ → A) → List A
  table zero f = []
  table (suc n) f = f 0 ∷ table n (λ k. f (suc k))

  length-table : (n : ℕ) (f : ℕ → A) → length (table n f) ≡ n
  unfolding table
  length-table zero f = refl
  length-table (suc n) f = ap suc (length-table n (λ k. f (suc k)))

  table_there : (n : ℕ) (f : ℕ → A) (k : ℕ) → k < n → slice_get (table n f) k ≡ Some (f k)
  unfolding table
  table_there zero f k h = absurd (omega arith)
  table_there (suc n) f zero h = refl
  table_there (suc n) f (suc k) h = table_there n (λ i. f (suc i)) k (omega arith)

  table_at : (n : ℕ) (f : ℕ → A) (k : ℕ) (x : A) → slice_get (table n f) k ≡ Some x → f k ≡ x
  unfolding table
  table_at zero f k x h = absurd (let z : None ≡ Some x = h in cc)
  table_at (suc n) f zero x h = same_some (Some (f 0)) (f 0) x refl h
  table_at (suc n) f (suc k) x h = table_at n (λ i. f (suc i)) k x h

  -- a list of one value
  as_many : (xs : List A) (x : A) → ((i : ℕ) (y : A) → slice_get xs i ≡ Some y → x ≡ y) → xs ≡ replicate (length xs) x
  as_many [] x same = refl
  as_many (y ∷ ys) x same = λ j. sym (same 0 y refl) j ∷ as_many ys x (λ i. same (suc i)) j

-- a place of a list of halves
half_at : (ws : List ℕ) (e n : ℕ) → slice_get (map (λ k. k / 2) ws) e ≡ Some n → (get_or ws e 0 / 2 ≡ n) × (e < length ws)
half_at [] e n h = absurd (let z : None ≡ Some n = h in cc)
half_at (w ∷ ws) zero n h = (same_some (Some (w / 2)) (w / 2) n refl h, omega arith)
half_at (w ∷ ws) (suc e) n h = let r = half_at ws e n h in let l = r.1 in (r.0, omega arith)

module _ {P : Type 0} where
  -- the pin of the lane n, where the seat is its
  abbrev pin_at : ℕ → maybe.Option (Role P) → Option ℕ
  pin_at n (some (Reads l)) = cond (eqb l.number n) l.pin None
  pin_at n _ = None

  -- what pends and where it is filled, with the writer's own field that says so
  record Draft (q : Plan P) : Type 0 where
    begun : Option (ℕ × P)
    pending : List (Option P)
    filled : List (List Bool)
    is : (w : PureWorld P) → w.pending ≡ pending → w.filled ≡ filled → IsPending begun q w
    long : length pending ≡ q.entities
    wide : length filled ≡ q.lanes
    rows : (n : ℕ) (row : List Bool) → slice_get filled n ≡ Some row → length row ≡ q.entities
    ready : (e : ℕ) (x : P) → slice_get pending e ≡ Some (Some x) → q.reset ≡ true
    held : (e n : ℕ) (row : List Bool) → slice_get filled n ≡ Some row → slice_get row e ≡ Some true → (x : P) × (slice_get pending e ≡ Some (Some x))
    shown : (e : ℕ) → slice_get q.staged e ≡ Some true → (x : P) × (slice_get pending e ≡ Some (Some x))

  -- what a fill is of
  payload_of : (q : Plan P) (f : Fill P) (ys : List P) → f.payloads ≡ ys → f.entity < length q.next → AreSame f.payloads → (x : P) × (f.payloads ≡ replicate (length f.payloads) x)
  payload_of q f [] is inside same = let o = get_there q.next f.entity inside in (o.0, subst (λ (l : List P). l ≡ replicate (length l) o.0) (sym is) refl)
  payload_of q f (y ∷ ys) is inside same = (y, as_many f.payloads y (λ i x at. same 0 i y x (ap (λ (l : List P). slice_get l 0) is) at))

module _ {P Z : Type 0} (fits : ℕ → P → ℕ → P → Type 0) where
  draft : (q : Plan P) (held : ℕ → Option Hold) (word : ℕ → ℕ) (homes : Homes P Z) → Lawful fits q → Slotted q held word homes → Draft q
  draft q held word homes l s = go q.fill refl
    where
      same : length q.staged ≡ length q.next
      same = l.lengths.2 ∙ sym l.lengths.0

      go : (o : Option (Fill P)) → q.fill ≡ o → Draft q
      go None empty = record {
        begun = None;
        pending = pending_of q.staged q.next;
        filled = replicate q.lanes q.staged;
        is = λ w a b. (empty, a, b);
        long = length-pending q.staged q.next same ∙ l.lengths.0;
        wide = length-replicate q.lanes q.staged;
        rows = λ n row at. ap length (sym (all_same q.lanes n q.staged row at)) ∙ l.lengths.2;
        ready = λ e x p. reset_if fits q e l (pends_staged q.staged q.next e x p);
        held = λ e n row at up. staged_pends q.staged q.next e same (ap (λ (z : List Bool). slice_get z e) (all_same q.lanes n q.staged row at) ∙ up);
        shown = λ e up. staged_pends q.staged q.next e same up;
      }
      go (Some f) is =
          let g = s.filling f is in let e : ℕ = f.entity in let k : ℕ = length f.payloads in let inside : e < length q.next = (let a = g.1 in let b = l.lengths.0 in omega arith) in
          let p = payload_of q f f.payloads refl inside g.3 in let x : P = p.0 in let ps : List (Option P) = pending_of q.staged q.next in
          let long : length ps ≡ length q.next = length-pending q.staged q.next same in
          let here : slice_get (set ps e (Some x)) e ≡ Some (Some x) = put_here ps e (Some x) (omega arith) in
          let pends : (n : ℕ) → slice_get q.staged n ≡ Some true → (y : P) × (slice_get (set ps e (Some x)) n ≡ Some (Some y))
          = λ n up. ⊎_elim (λ (i : n ≡ e). (x, ap (slice_get (set ps e (Some x))) i ∙ here)) (λ (ne : n ≢ e). let o = staged_pends q.staged q.next n same up in (o.0, set-get_else ps e n (Some x) ne ∙ o.1)) (same_or_not n e) in
          let flagged : (n : ℕ) (b : Bool) → slice_get (set q.staged e b) n ≡ Some true → (y : P) × (slice_get (set ps e (Some x)) n ≡ Some (Some y))
          = λ n b up. ⊎_elim (λ (i : n ≡ e). (x, ap (slice_get (set ps e (Some x))) i ∙ here)) (λ (ne : n ≢ e). pends n (sym (set-get_else q.staged e n b ne) ∙ up)) (same_or_not n e) in
          record {
            begun = Some (e, x);
            pending = set ps e (Some x);
            filled = filled_to q.lanes k q.staged e;
            is = λ w a b. (g.1, a, (k, g.2, subst (IsFilling e x k) (sym is) (refl, p.1), b));
            long = length-set ps e (Some x) ∙ (long ∙ l.lengths.0);
            wide = let a = length-rows k (set q.staged e true) (replicate (q.lanes - k) (set q.staged e false)) in let b = length-replicate (q.lanes - k) (set q.staged e false) in let c = g.2 in omega arith;
            rows = λ n row at. ⊎_elim (λ (i : set q.staged e true ≡ row). ap length (sym i) ∙ (length-set q.staged e true ∙ l.lengths.2)) (λ (i : set q.staged e false ≡ row). ap length (sym i) ∙ (length-set q.staged e false ∙ l.lengths.2))
                (row_is k (q.lanes - k) n (set q.staged e true) (set q.staged e false) row at);
            ready = λ n y at. g.0;
            held = λ n m row at up. ⊎_elim (λ (i : set q.staged e true ≡ row). flagged n true (ap (λ (z : List Bool). slice_get z n) i ∙ up)) (λ (i : set q.staged e false ≡ row). flagged n false (ap (λ (z : List Bool). slice_get z n) i ∙ up))
                (row_is k (q.lanes - k) m (set q.staged e true) (set q.staged e false) row at);
            shown = pends;
          }

  world_of : (s : State (Option (Arc P Z)) (Role P)) (r : Kept fits s) → Draft r.plan → PureWorld P
  world_of s r d = record {
    entities = r.plan.entities;
    lanes = r.plan.lanes;
    history = r.plan.history;
    versions = map (λ k. k / 2) r.plan.words;
    is_open = r.plan.reset;
    drained = r.plan.drained;
    pending = d.pending;
    filled = d.filled;
    published = r.plan.staged;
    pins = table r.plan.lanes (λ n. pin_at n (get_elem? s.views (r.ties.owner n)));
  }

  is_lawful : (s : State (Option (Arc P Z)) (Role P)) (r : Kept fits s) (d : Draft r.plan) → IsLawful fits (world_of s r d)
  unfolding world_of
  is_lawful s r d = record {
    lengths = record {
      some_state = omega arith;
      states = λ v st g. (l.fit v st g).0;
      versions = length-map q.words (λ k. k / 2) ∙ l.lengths.1;
      pending = d.long;
      published = l.lengths.2;
      filled = d.wide;
      rows = d.rows;
      pins = length-table q.lanes pins;
    };
    fit = λ v st g. (l.fit v st g).1;
    stable = λ e n v st at. let h = half_at q.words e n at in let old = l.old e in let long = l.lengths.1 in let n' = h.0 in let inside = h.1 in
        (omega arith, λ late g. l.stable e v st (omega arith) (subst (λ (k : ℕ). k ≤ v) (sym h.0) late) g ∙ ap (λ (z : List P). slice_get z e) (sym (last_is q.history q.version q.committed l.states l.committed)));
    pins = λ n o at. subst (worlds.IsPin (world_of s r d)) (table_at q.lanes pins n o at) (pinned n (get_elem? s.views (r.ties.owner n)) (r.ties.owner n) refl);
    drained = ((λ up. (r.gate.cleared up).0), (λ one. (r.gate.cleared (l.first (omega arith))).0));
    pending = λ e p. d.ready e p.0 p.1;
    filled = λ e n row at up. d.held e n row at up;
    published = λ e up. d.shown e up;
  }
    where
      q : Plan P
      q = r.plan

      l : Lawful fits r.plan
      l = r.world

      pins : ℕ → Option ℕ
      pins n = pin_at n (get_elem? s.views (r.ties.owner n))

      at_version : (p : ℕ) → IsRead r.plan p → worlds.IsPin (world_of s r d) (Some p)
      at_version p read = let h = r.world.states in ⊎_elim (λ (e : p ≡ r.plan.version). inl (omega arith)) (λ (t : (p + 1 ≡ r.plan.version) × (r.plan.drained ≡ false)). let e = t.0 in inr (omega arith, t.1)) read

      of_pin : (b : Bool) (st : List P) (o : Option ℕ) → IsPin r.plan st o → worlds.IsPin (world_of s r d) (cond b o None)
      of_pin false st o k = tt
      of_pin true st None k = tt
      of_pin true st (Some p) k = at_version p k.0

      pinned : (n : ℕ) (v : maybe.Option (Role P)) (j : ℕ) → get_elem? s.views j ≡ v → worlds.IsPin (world_of s r d) (pin_at n v)
      pinned n none j at = tt
      pinned n (some Spent) j at = tt
      pinned n (some (Told x)) j at = tt
      pinned n (some (Reads x)) j at = let k : IsLane r.plan r.ties j x = r.seats.each j (Reads x) at in of_pin (eqb x.number n) x.state x.pin k.pin
      pinned n (some (Writes w)) j at = tt

  pub kept_stands : (s : State (Option (Arc P Z)) (Role P)) (r : Kept fits s) → (own : Own P) × (w : PureWorld P) × IsLawful fits w × IsWorldOf own r.plan s.views w
  unfolding world_of
  kept_stands s r = let d = draft r.plan r.ties.held (Rattle.entity_heap.specs.Rule.word_of s.words) s.homes r.world r.slots in (
    record { is_open = r.plan.reset; begun = d.begun },
    world_of s r d,
    is_lawful s r d,
    record {
      sizes = (refl, refl, length-table r.plan.lanes (λ n. pin_at n (get_elem? s.views (r.ties.owner n))));
      history = refl;
      versions = refl;
      is_open = refl;
      drained = refl;
      published = refl;
      pending = d.is (world_of s r d) refl refl;
      pins = record {
        each = λ j l at. let k : IsLane r.plan r.ties j l = r.seats.each j (Reads l) at in let n = k.number in let m = r.gate.few in
            table_there r.plan.lanes (λ n. pin_at n (get_elem? s.views (r.ties.owner n))) l.number (omega arith)
            ∙ (ap (λ (z : maybe.Option (Role P)). Some (pin_at l.number z)) (ap (get_elem? s.views) k.owner ∙ at) ∙ ap (λ (b : Bool). Some (cond b l.pin None)) (eq-eqb l.number l.number refl));
        only = λ n c at. seat n c (get_elem? s.views (r.ties.owner n)) refl (table_at r.plan.lanes (λ n. pin_at n (get_elem? s.views (r.ties.owner n))) n (Some c) at);
      };
    },
  )
    where
      seat : (n c : ℕ) (v : maybe.Option (Role P)) → get_elem? s.views (r.ties.owner n) ≡ v → pin_at n v ≡ Some c → (j : ℕ) × (l : Visit P) × (get_elem? s.views j ≡ some (Reads l)) × (l.number ≡ n) × (l.pin ≡ Some c)
      seat n c none at is = absurd (let z : None ≡ Some c = is in cc)
      seat n c (some Spent) at is = absurd (let z : None ≡ Some c = is in cc)
      seat n c (some (Told x)) at is = absurd (let z : None ≡ Some c = is in cc)
      seat n c (some (Writes x)) at is = absurd (let z : None ≡ Some c = is in cc)
      seat n c (some (Reads l)) at is = ⊎_elim
          (λ (e : l.number ≡ n). (r.ties.owner n, l, at, e, sym (ap (λ (b : Bool). cond b l.pin None) (eq-eqb l.number n e)) ∙ is))
          (λ (ne : l.number ≢ n). absurd (let z : None ≡ Some c = sym (ap (λ (b : Bool). cond b l.pin None) (ne_eqb l.number n ne)) ∙ is in cc)) (same_or_not l.number n)
