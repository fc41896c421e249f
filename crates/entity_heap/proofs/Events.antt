-- Each step is its event on the world that the table stands for.
use Rattle.std.proofs.Common.{◌≡◌, ◌≢◌, ℕ, zero, suc, ◌+◌, ◌-◌, ◌/◌, ◌<◌, ◌≤◌, Bool, true, false, List, [], ◌∷◌, ◌++◌, length, map, replicate, set, get_or, slice_get, refl, sym, ap, ◌∙◌, subst, ⊎_elim, arith, Option, Some, None, length-set, length-append, set-set}
use Rattle.std.proofs.lemmas.List.{length-map, length-replicate}
use mathlib.Core.Option.{some}
use lib.ListN.{get_elem?}
use Rattle.std.specs.declared.sync.Arc.{Arc}
use Rattle.atomic_table.specs.Table.{State}
use Rattle.atomic_table.proofs.Lists.{at_set, set_else}
use Rattle.heap_core.proofs.Lists.{put_here}
use Rattle.heap_world.specs.World.{PureWorld, begin, stage, fill, publish, commit, roll_back, end, pin, read, unpin, drain, current, last_state, replaced, renewed, emptied, filled_at, applied, Allowed, Pends, IsFilled}
use Rattle.entity_heap.specs.declared.board.Entry.{Entry}
use Rattle.entity_heap.specs.declared.board.Hold.{Hold}
use Rattle.entity_heap.specs.declared.board.Fill.{Fill}
use Rattle.entity_heap.specs.declared.board.Note.{Note}
use Rattle.entity_heap.specs.declared.board.Plan.{Plan}
use Rattle.entity_heap.specs.declared.board.Visit.{Visit}
use Rattle.entity_heap.specs.declared.board.Role.{Role}
use Rattle.entity_heap.specs.declared.board.Role.TheVariants.{Spent, Told, Reads, Writes}
use Rattle.entity_heap.specs.Rule.{door, is_staged, pinned_before, total, is_before, IsLane, Kept}
use Rattle.entity_heap.specs.Plans.{new_words, restored, after_commit, after_load, after_drain, fill_at, reaching, filling_on, staging, rolling, after_pin, after_unpin, after_look, new_visit}
use Rattle.entity_heap.specs.Worlds.{Own, pending_of, filled_to, IsFilling, IsPending, ArePins, IsWorldOf}
use Rattle.entity_heap.specs.Events.{Happens, AreOwn, AreLanes, AreWriters, AreEvents}
use Rattle.heap_core.specs.Meaning.{none_of}
use Rattle.entity_heap.proofs.Lists.{same_some, not_none, not_both, all_same, get_short, get_there, set_at, at_end, set-get_else, replicate-more}
use Rattle.entity_heap.proofs.Gates.{before_same}
use Rattle.entity_heap.proofs.Totals.{none_each}
use Rattle.entity_heap.proofs.Plans.{length-restored}
use Rattle.entity_heap.proofs.Drafts.{flag_there, pends_staged, staged_pends, length-pending, last_is, emptied_all, filled_more, filled_whole, replaced_next, renewed_new, none_falses, none_pending, pending_stage, pending_roll}

module _ {P : Type 0} where
  writes_no : (q : Plan P) (l : Visit P) → Writes q ≡ Reads l → ⊥
  writes_no q l e = cc

  told_no : (x : Note P) (l : Visit P) → Told x ≡ Reads l → ⊥
  told_no x l e = cc

  spent_no : (l : Visit P) → Spent ≡ Reads l → ⊥
  spent_no l e = cc

  one_visit : (l m : Visit P) → Reads l ≡ Reads m → l ≡ m
  one_visit l m e = cc

  -- one seat has one view
  one_view : (vs : List (Role P)) (j : ℕ) (v w : Role P) → get_elem? vs j ≡ some v → get_elem? vs j ≡ some w → v ≡ w
  one_view vs j v w a b = Rattle.entity_heap.proofs.Lists.one_at vs j j v w refl a b

  -- a seat changes that is no lane, and stays none
  pins_other : (vs : List (Role P)) (ps : List (Option ℕ)) (id : ℕ) (v w : Role P) → ArePins vs ps → get_elem? vs id ≡ some v → ((l : Visit P) → v ≡ Reads l → ⊥) → ((l : Visit P) → w ≡ Reads l → ⊥) → ArePins (set vs id w) ps
  pins_other vs ps id v w all at away away' = record {
    each = λ j l here. ⊎_elim (λ (z : (j ≡ id) × (w ≡ Reads l)). absurd (away' l z.1)) (λ (z : (j ≢ id) × (get_elem? vs j ≡ some (Reads l))). all.each j l z.1) (at_set vs id j w (Reads l) here);
    only = λ n c is. let o = all.only n c is in
        (o.0, o.1, set_else vs id o.0 w (λ e. away o.1 (one_view vs id v (Reads o.1) at (ap (get_elem? vs) (sym e) ∙ o.2))) ∙ o.2, o.3, o.4);
  }

  -- a seat more that is no lane
  pins_told : (vs : List (Role P)) (ps : List (Option ℕ)) (x : Note P) → ArePins vs ps → ArePins (vs ++ Told x ∷ []) ps
  pins_told vs ps x all = record {
    each = λ j l here. ⊎_elim (λ old. all.each j l old) (λ (z : (j ≡ length vs) × (Told x ≡ Reads l)). absurd (told_no x l z.1)) (at_end vs (Told x) (Reads l) j here);
    only = λ n c is. let o = all.only n c is in (o.0, o.1, Rattle.atomic_table.proofs.Lists.at_longer vs (Told x ∷ []) o.0 (Reads o.1) o.2, o.3, o.4);
  }

  -- a lane's view changes, with the same number and pin
  pins_lane : (vs : List (Role P)) (ps : List (Option ℕ)) (id : ℕ) (l l' : Visit P) → ArePins vs ps → get_elem? vs id ≡ some (Reads l) → l'.number ≡ l.number → l'.pin ≡ l.pin → ArePins (set vs id (Reads l')) ps
  pins_lane vs ps id l l' all at number same_pin = record {
    each = λ j m here. ⊎_elim
        (λ (z : (j ≡ id) × (Reads l' ≡ Reads m)). subst (λ (v : Visit P). slice_get ps v.number ≡ Some v.pin) (one_visit l' m z.1) (ap (slice_get ps) number ∙ (all.each id l at ∙ ap (λ (o : Option ℕ). Some o) (sym same_pin))))
        (λ (z : (j ≢ id) × (get_elem? vs j ≡ some (Reads m))). all.each j m z.1) (at_set vs id j (Reads l') (Reads m) here);
    only = λ n c is. let o = all.only n c is in Rattle.std.proofs.Common.⊎_elim
        (λ (e : o.0 ≡ id). let same : o.1 ≡ l = one_visit o.1 l (one_view vs id (Reads o.1) (Reads l) (ap (get_elem? vs) (sym e) ∙ o.2) at) in
        (id, l', set_at vs id (Reads l') (Reads l) at, number ∙ (ap (λ (z : Visit P). z.number) (sym same) ∙ o.3), same_pin ∙ (ap (λ (z : Visit P). z.pin) (sym same) ∙ o.4)))
        (λ (ne : o.0 ≢ id). (o.0, o.1, set_else vs id o.0 (Reads l') ne ∙ o.2, o.3, o.4)) (Rattle.entity_heap.proofs.Drafts.same_or_not o.0 id);
  }

  -- a lane's pin changes; no other lane has its number
  pins_set : (vs : List (Role P)) (ps : List (Option ℕ)) (id : ℕ) (l l' : Visit P) → ArePins vs ps → get_elem? vs id ≡ some (Reads l) → l'.number ≡ l.number
      → ((j : ℕ) (m : Visit P) → j ≢ id → get_elem? vs j ≡ some (Reads m) → m.number ≢ l.number) → ArePins (set vs id (Reads l')) (set ps l.number l'.pin)
  pins_set vs ps id l l' all at number apart = record {
    each = λ j m here. ⊎_elim
        (λ (z : (j ≡ id) × (Reads l' ≡ Reads m)). subst (λ (v : Visit P). slice_get (set ps l.number l'.pin) v.number ≡ Some v.pin) (one_visit l' m z.1) (ap (slice_get (set ps l.number l'.pin)) number ∙ put_here ps l.number l'.pin inside))
        (λ (z : (j ≢ id) × (get_elem? vs j ≡ some (Reads m))). set-get_else ps l.number m.number l'.pin (apart j m z.0 z.1) ∙ all.each j m z.1) (at_set vs id j (Reads l') (Reads m) here);
    only = λ n c is. ⊎_elim
        (λ (e : n ≡ l.number). (
          id,
          l',
          set_at vs id (Reads l') (Reads l) at,
          number ∙ sym e,
          same_some (Some l'.pin) l'.pin (Some c) refl (sym (put_here ps l.number l'.pin inside) ∙ (ap (slice_get (set ps l.number l'.pin)) (sym e) ∙ is)),
        ))
        (λ (ne : n ≢ l.number). let o = all.only n c (sym (set-get_else ps l.number n l'.pin ne) ∙ is) in
        (o.0, o.1, set_else vs id o.0 (Reads l') (λ e. ne (sym o.3 ∙ ap (λ (z : Visit P). z.number) (one_visit o.1 l (one_view vs id (Reads o.1) (Reads l) (ap (get_elem? vs) (sym e) ∙ o.2) at)))) ∙ o.2, o.3, o.4))
        (Rattle.entity_heap.proofs.Drafts.same_or_not n l.number);
  }
    where
      inside : l.number < length ps
      inside = get_short ps l.number l.pin (all.each id l at)

  -- what pends is said by these fields alone
  pub record Alike (q q' : Plan P) (w w' : PureWorld P) : Type 0 where
    pub sizes : (q'.entities ≡ q.entities) × (q'.lanes ≡ q.lanes)
    pub staged : (q'.staged ≡ q.staged) × (q'.next ≡ q.next) × (q'.fill ≡ q.fill)
    pub world : (w'.pending ≡ w.pending) × (w'.filled ≡ w.filled)

  pending_on : (o : Option (ℕ × P)) (q q' : Plan P) (w w' : PureWorld P) → Alike q q' w w' → IsPending o q w → IsPending o q' w'
  pending_on None q q' w w' a p = (a.staged.2 ∙ p.0, a.world.0 ∙ (p.1 ∙ (λ j. pending_of (sym a.staged.0 j) (sym a.staged.1 j))), a.world.1 ∙ (p.2 ∙ (λ j. replicate (sym a.sizes.1 j) (sym a.staged.0 j))))
  pending_on (Some s) q q' w w' a p = (
    subst (λ (k : ℕ). s.0 < k) (sym a.sizes.0) p.0,
    a.world.0 ∙ (p.1 ∙ (λ j. set (pending_of (sym a.staged.0 j) (sym a.staged.1 j)) s.0 (Some s.1))),
    (p.2.0, subst (λ (k : ℕ). p.2.0 ≤ k) (sym a.sizes.1) p.2.1, subst (IsFilling s.0 s.1 p.2.0) (sym a.staged.2) p.2.2, a.world.1 ∙ (p.2.3 ∙ (λ j. filled_to (sym a.sizes.1 j) p.2.0 (sym a.staged.0 j) s.0))),
  )

  -- a step that is no event: the plan has these fields still
  pub record Stays (q q' : Plan P) : Type 0 where
    pub sizes : (q'.entities ≡ q.entities) × (q'.lanes ≡ q.lanes)
    pub states : (q'.history ≡ q.history) × (q'.words ≡ q.words) × (q'.drained ≡ q.drained)
    pub staged : (q'.staged ≡ q.staged) × (q'.next ≡ q.next) × (q'.fill ≡ q.fill)

  world_on : (own : Own P) (q q' : Plan P) (vs vs' : List (Role P)) (w : PureWorld P) → IsWorldOf own q vs w → Stays q q' → ArePins vs' w.pins → IsWorldOf own q' vs' w
  world_on own q q' vs vs' w i s pins = record {
    sizes = (i.sizes.0 ∙ sym s.sizes.0, i.sizes.1 ∙ sym s.sizes.1, i.sizes.2 ∙ sym s.sizes.1);
    history = i.history ∙ sym s.states.0;
    versions = i.versions ∙ ap (map (λ k. k / 2)) (sym s.states.1);
    is_open = i.is_open;
    drained = i.drained ∙ sym s.states.2;
    published = i.published ∙ sym s.staged.0;
    pending = pending_on own.begun q q' w w record { sizes = s.sizes; staged = s.staged; world = (refl, refl) } i.pending;
    pins = pins;
  }

  same_plan : (q : Plan P) → Stays q q
  same_plan q = record { sizes = (refl, refl); states = (refl, refl, refl); staged = (refl, refl, refl) }

  alike : (q : Plan P) (w w' : PureWorld P) → w'.pending ≡ w.pending → w'.filled ≡ w.filled → Alike q q w w'
  alike q w w' a b = record { sizes = (refl, refl); staged = (refl, refl, refl); world = (a, b) }

  reach_on : (e k : ℕ) (x : P) (o : Option (Fill P)) → IsFilling e x k o → IsFilling e x k (Some (fill_at o e))
  reach_on e k x None h = (refl, ap (λ (n : ℕ). replicate n x) (sym h))
  reach_on e k x (Some f) h = h

module _ {P Z : Type 0} (fits : ℕ → P → ℕ → P → Type 0) where
  current_is : (s : State (Option (Arc P Z)) (Role P)) (r : Kept fits s) (own : Own P) (w : PureWorld P) → IsWorldOf own r.plan s.views w → current w ≡ r.plan.version
  current_is s r own w i = let l = ap length i.history in let v = r.world.states in omega arith

  -- lanes have different numbers
  apart : (s : State (Option (Arc P Z)) (Role P)) (r : Kept fits s) (id : ℕ) (l : Visit P) → get_elem? s.views id ≡ some (Reads l) → (j : ℕ) (m : Visit P) → j ≢ id → get_elem? s.views j ≡ some (Reads m) → m.number ≢ l.number
  apart s r id l at j m ne here e =
      let a : IsLane r.plan r.ties id l = r.seats.each id (Reads l) at in let b : IsLane r.plan r.ties j m = r.seats.each j (Reads m) here in ne (sym b.owner ∙ (ap r.ties.owner e ∙ a.owner))

  in_lanes : (s : State (Option (Arc P Z)) (Role P)) (r : Kept fits s) (own : Own P) (w : PureWorld P) (id : ℕ) (l : Visit P) → IsWorldOf own r.plan s.views w → get_elem? s.views id ≡ some (Reads l) → l.number < w.lanes
  in_lanes s r own w id l i at = let a : IsLane r.plan r.ties id l = r.seats.each id (Reads l) at in let n = a.number in let f = r.gate.few in let e = i.sizes.1 in omega arith

  owns : (s : State (Option (Arc P Z)) (Role P)) (r : Kept fits s) (own : Own P) (w : PureWorld P) → IsWorldOf own r.plan s.views w → AreOwn own r.plan s.views w
  owns s r own w i = record {
    begins = λ closed drained. (
      (i.is_open ∙ closed, i.drained ∙ drained),
      record {
        sizes = i.sizes;
        history = i.history;
        versions = i.versions;
        is_open = refl;
        drained = i.drained;
        published = i.published;
        pins = i.pins;
        pending = pending_on own.begun q q w (applied w begin) (alike q w (applied w begin) refl refl) i.pending;
      },
    );
    stages = λ e x inside up none. let p = subst (λ (o : Option (ℕ × P)). IsPending o q w) none i.pending in (
      (subst (λ (k : ℕ). e < k) (sym i.sizes.0) inside, i.is_open ∙ up),
      record {
        sizes = i.sizes;
        history = i.history;
        versions = i.versions;
        is_open = i.is_open;
        drained = i.drained;
        published = i.published;
        pins = i.pins;
        pending = (inside, ap (λ (z : List (Option P)). set z e (Some x)) p.1, (0, omega arith, subst (IsFilling e x 0) (sym p.0) refl, ap (λ (z : List (List Bool)). emptied z e) p.2 ∙ emptied_all q.lanes q.staged e));
      },
    );
    ends = λ up none down. let p = subst (λ (o : Option (ℕ × P)). IsPending o q w) none i.pending in (
      (i.is_open ∙ up, λ e pends. not_both (is_staged q e) (pends_staged q.staged q.next e pends.0 (ap (λ (z : List (Option P)). slice_get z e) (sym p.1) ∙ pends.1)) (down e)),
      record {
        sizes = i.sizes;
        history = i.history;
        versions = i.versions;
        is_open = refl;
        drained = i.drained;
        published = i.published;
        pins = i.pins;
        pending = pending_on own.begun q q w (applied w end) (alike q w (applied w end) refl refl) i.pending;
      },
    );
  }
    where
      q : Plan P
      q = r.plan

  lanes : (s : State (Option (Arc P Z)) (Role P)) (r : Kept fits s) (own : Own P) (w : PureWorld P) → IsWorldOf own r.plan s.views w → (id : ℕ) (l : Visit P) → get_elem? s.views id ≡ some (Reads l) → AreLanes own r.plan s.views w id l
  lanes s r own w i id l at = record {
    pins = λ xs free. (
      (in_lanes s r own w id l i at, i.pins.each id l at ∙ ap (λ (o : Option ℕ). Some o) free),
      record {
        sizes = (i.sizes.0, i.sizes.1, length-set w.pins l.number (Some (current w)) ∙ i.sizes.2);
        history = i.history;
        versions = i.versions;
        is_open = i.is_open;
        drained = i.drained;
        published = i.published;
        pending = pending_on own.begun q q w (applied w (pin l.number)) (alike q w (applied w (pin l.number)) refl refl) i.pending;
        pins = subst (λ (c : ℕ). ArePins (set s.views id (Reads (after_pin q.version xs l))) (set w.pins l.number (Some c))) (sym (current_is s r own w i)) (pins_set s.views w.pins id l (after_pin q.version xs l) i.pins at refl (apart s r id l at));
      },
    );
    unpins = λ p is. (
      (in_lanes s r own w id l i at, (p, i.pins.each id l at ∙ ap (λ (o : Option ℕ). Some o) is)),
      record {
        sizes = (i.sizes.0, i.sizes.1, length-set w.pins l.number None ∙ i.sizes.2);
        history = i.history;
        versions = i.versions;
        is_open = i.is_open;
        drained = i.drained;
        published = i.published;
        pending = pending_on own.begun q q w (applied w (unpin l.number)) (alike q w (applied w (unpin l.number)) refl refl) i.pending;
        pins = pins_set s.views w.pins id l (after_unpin l) i.pins at refl (apart s r id l at);
      },
    );
    looks = λ c. world_on own q q s.views (set s.views id (Reads (after_look c l))) w i (same_plan q) (pins_lane s.views w.pins id l (after_look c l) i.pins at refl refl);
    takes = λ p e h is inside. (
      (in_lanes s r own w id l i at, subst (λ (k : ℕ). e < k) (sym i.sizes.0) inside, (p, i.pins.each id l at ∙ ap (λ (o : Option ℕ). Some o) is)),
      world_on own q q s.views (set s.views id (Reads (record l { hold = Some h }))) w i (same_plan q) (pins_lane s.views w.pins id l (record l { hold = Some h }) i.pins at refl refl),
    );
    gives = world_on own q q s.views (set s.views id (Reads (record l { hold = None }))) w i (same_plan q) (pins_lane s.views w.pins id l (record l { hold = None }) i.pins at refl refl);
    tells = λ x. world_on own q q s.views (s.views ++ Told x ∷ []) w i (same_plan q) (pins_told s.views w.pins x i.pins);
    hears = λ floor other x told.
        let l' : Visit P = record l { floor = floor } in let apart : other ≢ id = (λ e. told_no x l (one_view s.views id (Told x) (Reads l) (ap (get_elem? s.views) (sym e) ∙ told) at)) in
        world_on own q q s.views (set (set s.views id (Reads l')) other Spent) w i (same_plan q)
        (pins_other (set s.views id (Reads l')) w.pins other (Told x) Spent (pins_lane s.views w.pins id l l' i.pins at refl refl) (set_else s.views id other (Reads l') apart ∙ told) (told_no x) spent_no);
  }
    where
      q : Plan P
      q = r.plan

  -- the lane that is made has no pin
  new_pin : (s : State (Option (Arc P Z)) (Role P)) (r : Kept fits s) (own : Own P) (w : PureWorld P) → IsWorldOf own r.plan s.views w → r.plan.made < r.plan.lanes → slice_get w.pins r.plan.made ≡ Some None
  new_pin s r own w i room = let long = i.sizes.2 in let o = get_there w.pins r.plan.made (omega arith) in go o.0 o.1
    where
      go : (o : Option ℕ) → slice_get w.pins r.plan.made ≡ Some o → slice_get w.pins r.plan.made ≡ Some None
      go None is = is
      go (Some c) is = let p = i.pins.only r.plan.made c is in let k : IsLane r.plan r.ties p.0 p.1 = r.seats.each p.0 (Reads p.1) p.2 in let n = k.number in let e = p.3 in absurd (omega arith)

  writers : (s : State (Option (Arc P Z)) (Role P)) (r : Kept fits s) (own : Own P) (w : PureWorld P) → IsWorldOf own r.plan s.views w → (id : ℕ) → get_elem? s.views id ≡ some (Writes r.plan) → AreWriters own r.plan s.views w id (get_or s.words (door (r.plan.version + 1)) 0)
  writers s r own w i id at = record {
    commits = λ n up none.
        let p = subst (λ (o : Option (ℕ × P)). IsPending o q w) none i.pending in let q' : Plan P = after_commit n q in
        let last : last_state w.history ≡ q.committed = ap last_state i.history ∙ last_is q.history q.version q.committed r.world.states r.world.committed in
        let c : length w.history ≡ q.version + 1 = ap length i.history ∙ r.world.states in (
          (
            i.is_open ∙ up,
            λ e pends.
                let staged : is_staged q e ≡ true = pends_staged q.staged q.next e pends.0 (ap (λ (z : List (Option P)). slice_get z e) (sym p.1) ∙ pends.1) in let flag = flag_there q.staged e staged in
                ((λ k row here. ap (λ (z : List Bool). slice_get z e) (sym (all_same q.lanes k q.staged row (ap (λ (z : List (List Bool)). slice_get z k) (sym p.2) ∙ here))) ∙ flag), ap (λ (z : List Bool). slice_get z e) i.published ∙ flag),
          ),
          record {
            sizes = i.sizes;
            history = (λ j. i.history j ++ replaced (last j) (p.1 j) ∷ []) ∙ ap (λ (z : List P). q.history ++ z ∷ []) (replaced_next q.committed q.staged q.next same same_c r.world.unstaged);
            versions = (λ j. renewed (c j) (p.1 j) (i.versions j)) ∙ renewed_new q.version q.staged q.next q.words same;
            is_open = refl;
            drained = refl;
            published = ap (λ (k : ℕ). replicate k false) (i.sizes.0 ∙ sym r.world.lengths.2) ∙ none_falses q.staged;
            pending = subst (λ (o : Option (ℕ × P)). IsPending o q' (applied w commit)) (sym none) (
              p.0,
              ap (λ (k : ℕ). replicate k None) (i.sizes.0 ∙ sym r.world.lengths.2) ∙ none_pending q.staged q.next same,
              (λ j. replicate (i.sizes.1 j) (replicate (i.sizes.0 j) false)) ∙ ap (λ (z : List Bool). replicate q.lanes z) (ap (λ (k : ℕ). replicate k false) (sym r.world.lengths.2) ∙ none_falses q.staged),
            );
            pins = pins_other s.views w.pins id (Writes q) (Writes q') i.pins at (writes_no q) (writes_no q');
          },
        );
    drains = λ un all.
        let q' : Plan P = after_drain (get_or s.words (door (q.version + 1)) 0) q in let o = r.gate.owing un in let none : total (pinned_before q.version) s.views ≡ 0 = omega arith in let now = current_is s r own w i in (
          (
            i.drained ∙ un,
            λ n c is before. let p = i.pins.only n c is in
                let zero_here : is_before q.version p.1.pin ≡ 0 = none_each (pinned_before q.version) s.views p.0 (Reads p.1) p.2 none in
                let one : is_before q.version (Some c) ≡ 1 = before_same q.version c (before ∙ now) in let same = ap (is_before q.version) p.4 in absurd (omega arith),
          ),
          record {
            sizes = i.sizes;
            history = i.history;
            versions = i.versions;
            is_open = i.is_open;
            drained = refl;
            published = i.published;
            pending = pending_on own.begun q q' w (applied w drain) record { sizes = (refl, refl); staged = (refl, refl, refl); world = (refl, refl) } i.pending;
            pins = pins_other s.views w.pins id (Writes q) (Writes q') i.pins at (writes_no q) (writes_no q');
          },
        );
    loads = quiet (after_load (get_or s.words (door (q.version + 1)) 0) q) record { sizes = (refl, refl); states = (refl, refl, refl); staged = (refl, refl, refl) };
    resets = let q' : Plan P = record q { reset = true } in quiet q' record { sizes = (refl, refl); states = (refl, refl, refl); staged = (refl, refl, refl) };
    reaches = λ e k x is.
        let q' : Plan P = reaching q (fill_at q.fill e) k in let p = subst (λ (o : Option (ℕ × P)). IsPending o q w) is i.pending in
        record {
          sizes = i.sizes;
          history = i.history;
          versions = i.versions;
          is_open = i.is_open;
          drained = i.drained;
          published = i.published;
          pending = subst (λ (o : Option (ℕ × P)). IsPending o q' w) (sym is) (p.0, p.1, (p.2.0, p.2.1, reach_on e p.2.0 x q.fill p.2.2, p.2.3));
          pins = pins_other s.views w.pins id (Writes q) (Writes q') i.pins at (writes_no q) (writes_no q');
        };
    fills = λ e x f is fill_is room.
        let q' : Plan P = filling_on q f x in let p = subst (λ (o : Option (ℕ × P)). IsPending o q w) is i.pending in let k : ℕ = p.2.0 in
        let known : (f.entity ≡ e) × (f.payloads ≡ replicate k x) = subst (IsFilling e x k) fill_is p.2.2 in
        let long : length f.payloads ≡ k = ap length known.1 ∙ length-replicate k x in (
          (subst (λ (z : ℕ). length f.payloads < z) (sym i.sizes.1) room, subst (λ (z : ℕ). e < z) (sym i.sizes.0) p.0, pends e x p.0 p.1),
          record {
            sizes = i.sizes;
            history = i.history;
            versions = i.versions;
            is_open = i.is_open;
            drained = i.drained;
            published = i.published;
            pending = subst (λ (o : Option (ℕ × P)). IsPending o q' (applied w (fill (length f.payloads) e))) (sym is) (
              p.0,
              p.1,
              (
                k + 1,
                omega arith,
                (known.0, ap (λ (z : List P). z ++ x ∷ []) known.1 ∙ (replicate-more k x ∙ (let t : suc k ≡ k + 1 = omega arith in ap (λ (z : ℕ). replicate z x) t))),
                (λ j. filled_at (p.2.3 j) (long j) e) ∙ filled_more q.lanes k q.staged e (omega arith),
              ),
            );
            pins = pins_other s.views w.pins id (Writes q) (Writes q') i.pins at (writes_no q) (writes_no q');
          },
        );
    publishes = λ e x f is fill_is all.
        let q' : Plan P = staging q e x in let p = subst (λ (o : Option (ℕ × P)). IsPending o q w) is i.pending in let k : ℕ = p.2.0 in
        let known : (f.entity ≡ e) × (f.payloads ≡ replicate k x) = subst (IsFilling e x k) fill_is p.2.2 in
        let long : length f.payloads ≡ k = ap length known.1 ∙ length-replicate k x in
        let whole : w.filled ≡ replicate q.lanes (set q.staged e true) = p.2.3 ∙ (ap (λ (z : ℕ). filled_to q.lanes z q.staged e) (sym long ∙ all) ∙ filled_whole q.lanes q.staged e) in (
          (
            subst (λ (z : ℕ). e < z) (sym i.sizes.0) p.0,
            pends e x p.0 p.1,
            λ n row here. ap (λ (z : List Bool). slice_get z e) (sym (all_same q.lanes n (set q.staged e true) row (ap (λ (z : List (List Bool)). slice_get z n) (sym whole) ∙ here))) ∙ put_here q.staged e true (let z = p.0 in let z' = r.world.lengths.2 in omega arith),
          ),
          record {
            sizes = i.sizes;
            history = i.history;
            versions = i.versions;
            is_open = i.is_open;
            drained = i.drained;
            published = ap (λ (z : List Bool). set z e true) i.published;
            pending = (refl, p.1 ∙ pending_stage q.staged q.next e x, whole);
            pins = pins_other s.views w.pins id (Writes q) (Writes q') i.pins at (writes_no q) (writes_no q');
          },
        );
    rolls = λ e none inside up.
        let q' : Plan P = rolling q e in let p = subst (λ (o : Option (ℕ × P)). IsPending o q w) none i.pending in let there = staged_pends q.staged q.next e same (flag_there q.staged e up) in (
          (subst (λ (z : ℕ). e < z) (sym i.sizes.0) inside, (there.0, ap (λ (z : List (Option P)). slice_get z e) p.1 ∙ there.1)),
          record {
            sizes = i.sizes;
            history = i.history;
            versions = i.versions;
            is_open = i.is_open;
            drained = i.drained;
            published = ap (λ (z : List Bool). set z e false) i.published;
            pending = subst (λ (o : Option (ℕ × P)). IsPending o q' (applied w (roll_back e))) (sym none) (
              p.0,
              ap (λ (z : List (Option P)). set z e None) p.1 ∙ pending_roll q.staged q.committed q.next e same_c,
              ap (λ (z : List (List Bool)). emptied z e) p.2 ∙ Rattle.entity_heap.proofs.Drafts.map_same q.lanes q.staged e,
            );
            pins = pins_other s.views w.pins id (Writes q) (Writes q') i.pins at (writes_no q) (writes_no q');
          },
        );
    makes = λ room.
        let q' : Plan P = record q { made = q.made + 1 } in let new : Visit P = new_visit q in let vs : List (Role P) = set s.views id (Writes q') in
        let old : ArePins vs w.pins = pins_other s.views w.pins id (Writes q) (Writes q') i.pins at (writes_no q) (writes_no q') in
        world_on own q q' s.views (vs ++ Reads new ∷ []) w i record { sizes = (refl, refl); states = (refl, refl, refl); staged = (refl, refl, refl) } record {
          each = λ j l here. ⊎_elim (λ was. old.each j l was) (λ (z : (j ≡ length vs) × (Reads new ≡ Reads l)). subst (λ (v : Visit P). slice_get w.pins v.number ≡ Some v.pin) (one_visit new l z.1) (new_pin s r own w i room)) (at_end vs (Reads new) (Reads l) j here);
          only = λ n c is. let o = old.only n c is in (o.0, o.1, Rattle.atomic_table.proofs.Lists.at_longer vs (Reads new ∷ []) o.0 (Reads o.1) o.2, o.3, o.4);
        };
    tells = λ x. world_on own q q s.views (s.views ++ Told x ∷ []) w i (same_plan q) (pins_told s.views w.pins x i.pins);
    learns = λ met heard other x told.
        let q' : Plan P = record q { met = met; heard = heard } in let ne : other ≢ id = (λ e. writes_told q x (one_view s.views id (Writes q) (Told x) at (ap (get_elem? s.views) (sym e) ∙ told))) in
        world_on own q q' s.views (set (set s.views id (Writes q')) other Spent) w i record { sizes = (refl, refl); states = (refl, refl, refl); staged = (refl, refl, refl) }
        (pins_other (set s.views id (Writes q')) w.pins other (Told x) Spent (pins_other s.views w.pins id (Writes q) (Writes q') i.pins at (writes_no q) (writes_no q')) (set_else s.views id other (Writes q') ne ∙ told) (told_no x) spent_no);
    looks = quiet q (same_plan q);
  }
    where
      q : Plan P
      q = r.plan

      same : length r.plan.staged ≡ length r.plan.next
      same = r.world.lengths.2 ∙ sym r.world.lengths.0

      same_c : length r.plan.committed ≡ length r.plan.next
      same_c = (r.world.fit r.plan.version r.plan.committed r.world.committed).0 ∙ sym r.world.lengths.0

      quiet : (q' : Plan P) → Stays r.plan q' → IsWorldOf own q' (set s.views id (Writes q')) w
      quiet q' stays = world_on own r.plan q' s.views (set s.views id (Writes q')) w i stays (pins_other s.views w.pins id (Writes r.plan) (Writes q') i.pins at (writes_no r.plan) (writes_no q'))

      writes_told : (p : Plan P) (x : Note P) → Writes p ≡ Told x → ⊥
      writes_told p x e = cc

      pends : (e : ℕ) (x : P) → e < r.plan.entities → w.pending ≡ set (pending_of r.plan.staged r.plan.next) e (Some x) → Pends w e
      pends e x inside is = (x, ap (λ (z : List (Option P)). slice_get z e) is ∙ put_here (pending_of r.plan.staged r.plan.next) e (Some x) (let a = length-pending r.plan.staged r.plan.next same in let b = r.world.lengths.0 in omega arith))

  -- each step of a table that keeps the rule is its event
  pub are_events : (s : State (Option (Arc P Z)) (Role P)) (r : Kept fits s) (own : Own P) (w : PureWorld P) → IsWorldOf own r.plan s.views w → AreEvents s own r.plan w
  are_events s r own w i = record { owns = owns s r own w i; lanes = lanes s r own w i; writers = writers s r own w i }
