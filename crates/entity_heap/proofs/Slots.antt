-- The slots after each step: a lane takes and gives, the writer reaches, fills, stages, rolls back and commits.
use Rattle.std.proofs.Common.{◌≡◌, ◌≢◌, ◌⊎◌, ℕ, ◌+◌, ◌-◌, ◌*◌, ◌/◌, ◌%◌, ◌<◌, ◌≤◌, Bool, true, false, List, [], ◌∷◌, ◌++◌, length, set, get_or, replicate, slice_get, refl, sym, ap, ◌∙◌, subst, inl, inr, ⊎_elim, arith, Option, Some, None, length-append, get_or-set_same, get_or-set_other}
use mathlib.Core.Logic.{dite}
use mathlib.Core.Option.{none, some}
use mathlib.Core.Option as maybe
use native.Mathlib.Decide.{ℕ_discrete}
use lib.ListN.{get_elem?}
use Rattle.std.specs.Arc.{arc_value}
use Rattle.std.specs.declared.sync.Arc.{Arc}
use Rattle.atomic_table.proofs.Lists.{set_here, set_else}
use Rattle.entity_heap.specs.declared.board.Entry.{Entry}
use Rattle.entity_heap.specs.declared.board.Hold.{Hold}
use Rattle.entity_heap.specs.declared.board.Reach.{Reach}
use Rattle.entity_heap.specs.declared.board.Fill.{Fill}
use Rattle.entity_heap.specs.declared.board.Plan.{Plan}
use Rattle.entity_heap.specs.Rule.{spot, pick, word_for, Homes, Has, IsRead, AreSame, is_staged, old_word, Lawful, Slotted}
use Rattle.entity_heap.specs.Plans.{after_commit, reaching, filling_on, staging, rolling}
use Rattle.entity_heap.proofs.Lists.{same_some, not_none, not_both, same_there, at_more, get_short, get_before, set-get_else, set-get_here, none_true}
use Rattle.entity_heap.proofs.Plans.{new_word, pick_now, reset_if, restored_else}
use Rattle.entity_heap.proofs.Spots.{put, put_here, put_else, spot_same, spot_in, pick_small, pick_early}

pub other_small : (w c : ℕ) → 1 - pick w c < 2
other_small w c = let s = pick_small w c in let a : ℕ = pick w c in omega arith

not_other : (a : ℕ) → a < 2 → 1 - a ≡ a → ⊥
not_other a h e = omega arith

module _ {P : Type 0} where
  -- what is staged, and what the writer fills, comes after the version before is drained
  abbrev pub IsCalm : Plan P → Type 0
  IsCalm q = (q.reset ≡ true → q.drained ≡ true) × ((e : ℕ) → is_staged q e ≡ true → q.drained ≡ true)

  pub calm : (fits : ℕ → P → ℕ → P → Type 0) (q : Plan P) → Lawful fits q → (q.reset ≡ true → q.drained ≡ true) → IsCalm q
  calm fits q l settle = (settle, λ e up. settle (reset_if fits q e l up))

  pub now : (q : Plan P) (v : ℕ) → q.drained ≡ true → IsRead q v → v ≡ q.version
  now q v d read = ⊎_elim (λ (w : v ≡ q.version). w) (λ (w : (v + 1 ≡ q.version) × (q.drained ≡ false)). not_both q.drained d w.1) read

  -- a reader pinned at the current version is sent elsewhere
  pub apart_from_read : (q : Plan P) (word : ℕ → ℕ) (n n' e e' v : ℕ) → q.drained ≡ true → IsRead q v → e < q.entities → e' < q.entities
      → spot q.entities n e (1 - pick (word e) q.version) ≢ spot q.entities n' e' (pick (word e') v)
  apart_from_read q word n n' e e' v d read a b is =
      let c = now q v d read in let z = spot_same q.entities n n' e e' (1 - pick (word e) q.version) (pick (word e') v) a b (other_small (word e) q.version) (pick_small (word e') v) is in
      not_other (pick (word e) q.version) (pick_small (word e) q.version) (z.2 ∙ (λ j. pick (word (sym z.1 j)) (c j)))

  -- the other slots of two entities, or of two lanes
  apart_others : (q : Plan P) (word : ℕ → ℕ) (n n' e e' : ℕ) → e < q.entities → e' < q.entities → spot q.entities n e (1 - pick (word e) q.version) ≡ spot q.entities n' e' (1 - pick (word e') q.version) → (n ≡ n') × (e ≡ e')
  apart_others q word n n' e e' a b is = let z = spot_same q.entities n n' e e' (1 - pick (word e) q.version) (1 - pick (word e') q.version) a b (other_small (word e) q.version) (other_small (word e') q.version) is in (z.0, z.1)

  -- the writer may reach a slot, where the fill goes on or begins
  abbrev pub MayReach : Plan P → Fill P → Type 0
  MayReach q f = (q.hand ≡ None) × (q.reset ≡ true) × (f.entity < q.entities) × (length f.payloads < q.lanes) × ((q.fill ≡ Some f) ⊎ ((q.fill ≡ None) × (f.payloads ≡ [])))

  abbrev pub other_spot : Plan P → (ℕ → ℕ) → ℕ → ℕ → ℕ
  other_spot q word n e = spot q.entities n e (1 - pick (word e) q.version)

module _ {P : Type 0} where
  -- a new word of entity e, which sends readers of the current version where the old one did
  same_pick : (q : Plan P) (word : ℕ → ℕ) (e new : ℕ) → q.drained ≡ true → pick new q.version ≡ pick (word e) q.version → (n v : ℕ) → IsRead q v → pick (put word e new n) v ≡ pick (word n) v
  same_pick q word e new drained same n v read = dite (ℕ_discrete n e)
      (λ (i : n ≡ e). let w : put word e new n ≡ new = ap (put word e new) i ∙ put_here word e new in let c = now q v drained read in
      (λ j. pick (w j) (c j)) ∙ (same ∙ (λ j. pick (word (sym i j)) (sym c j))))
      (λ ne. ap (λ (k : ℕ). pick k v) (put_else word e new n ne))

module _ {P Z : Type 0} where
  -- what another slot holds
  pub has_else : (homes : Homes P Z) (k k' : ℕ) (o : maybe.Option (Option (Arc P Z))) (x : P) → k' ≢ k → Has homes k' x → Has (set homes k o) k' x
  has_else homes k k' o x apart h = (h.0, set_else homes k k' o apart ∙ h.1, h.2)

  -- lane n takes the slot of entity e that its word chooses for the pin p
  pub slots_take : (q : Plan P) (held : ℕ → Option Hold) (word : ℕ → ℕ) (homes : Homes P Z) (n e p : ℕ) → Slotted q held word homes → IsCalm q → n < q.lanes → e < q.entities → IsRead q p → held n ≡ None
      → Slotted q (put held n (Some (record { entity = e; slot = spot q.entities n e (pick (word e) p); pin = p }))) word (set homes (spot q.entities n e (pick (word e) p)) none)
  slots_take q held word homes n e p s quiet in_lanes in_entities read empty = record {
    worded = s.worded;
    served = λ n' e' v st x a b c d f away. dite (ℕ_discrete n' n)
        (λ (i : n' ≡ n). has_else homes k (spot q.entities n' e' (pick (word e') v)) none x (λ w. away mine (here n' i) (sym w))
        (s.served n' e' v st x a b c d f (λ h is. absurd (never n' h i is))))
        (λ (ne : n' ≢ n). has_else homes k (spot q.entities n' e' (pick (word e') v)) none x (λ w. ne (spot_same q.entities n' n e' e (pick (word e') v) (pick (word e) p) b in_entities (pick_small (word e') v) (pick_small (word e) p) w).0)
        (s.served n' e' v st x a b c d f (λ h is. away h (put_else held n (Some mine) n' ne ∙ is))));
    at_home = λ k' a free. let old = s.at_home k' a ((λ n' h is. dite (ℕ_discrete n' n) (λ (i : n' ≡ n). absurd (never n' h i is)) (λ ne. free.0 n' h (put_else held n (Some mine) n' ne ∙ is))), free.1) in
        (old.0, set_else homes k k' none (λ w. free.0 n mine (put_here held n (Some mine)) (sym w)) ∙ old.1);
    taken = λ n' h is. dite (ℕ_discrete n' n)
        (λ (i : n' ≡ n). let same : mine ≡ h = same_some (put held n (Some mine) n') mine h (here n' i) is in
        subst (λ (z : ℕ × Hold). (z.0 < q.lanes) × (z.1.entity < q.entities) × IsRead q z.1.pin × (z.1.slot ≡ spot q.entities z.0 z.1.entity (pick (word z.1.entity) z.1.pin))) (λ j. (sym i j, same j)) (in_lanes, in_entities, read, refl))
        (λ ne. s.taken n' h (sym (put_else held n (Some mine) n' ne) ∙ is));
    reached = s.reached;
    published = λ n' e' x a b up out is. has_else homes k (spot q.entities n' e' (1 - pick (word e') q.version)) none x (apart_from_read q word n' n e' e p (quiet.1 e' up) read b in_entities) (s.published n' e' x a b up out is);
    filling = s.filling;
    filled = λ n' f x is got. let g = s.filling f is in has_else homes k (spot q.entities n' f.entity (1 - pick (word f.entity) q.version)) none x (apart_from_read q word n' n f.entity e p (quiet.0 g.0) read g.1 in_entities) (s.filled n' f x is got);
  }
    where
      k : ℕ
      k = spot q.entities n e (pick (word e) p)

      mine : Hold
      mine = record { entity = e; slot = spot q.entities n e (pick (word e) p); pin = p }

      here : (n' : ℕ) → n' ≡ n → put held n (Some mine) n' ≡ Some mine
      here n' i = ap (put held n (Some mine)) i ∙ put_here held n (Some mine)

      never : (n' : ℕ) (h : Hold) → n' ≡ n → held n' ≡ Some h → ⊥
      never n' h i is = not_none (held n) h empty (ap held (sym i) ∙ is)

  -- lane n gives back the slot that it has, with the payload of its state. `alike`: two versions whose readers are sent to one slot have one payload there
  pub slots_give : (q : Plan P) (held : ℕ → Option Hold) (word : ℕ → ℕ) (homes : Homes P Z) (n : ℕ) (h : Hold) (st : List P) (a : Arc P Z) → Slotted q held word homes → IsCalm q
      → ((e v v' : ℕ) (st st' : List P) → e < q.entities → IsRead q v → IsRead q v' → slice_get q.history v ≡ Some st → slice_get q.history v' ≡ Some st' → pick (word e) v ≡ pick (word e) v' → slice_get st e ≡ slice_get st' e)
      → held n ≡ Some h → length homes ≡ 2 * (q.lanes * q.entities) → slice_get q.history h.pin ≡ Some st → slice_get st h.entity ≡ Some (arc_value a) → Slotted q (put held n None) word (set homes h.slot (some (Some a)))
  slots_give q held word homes n h st a s quiet alike has deep history payload = record {
    worded = s.worded;
    served = λ n' e' v st' x b c d f g away. dite (ℕ_discrete (spot q.entities n' e' (pick (word e') v)) h.slot)
        (λ (k : spot q.entities n' e' (pick (word e') v) ≡ h.slot).
        let z = spot_same q.entities n' n e' h.entity (pick (word e') v) (pick (word h.entity) h.pin) c t.1 (pick_small (word e') v) (pick_small (word h.entity) h.pin) (k ∙ t.3) in
        let one = alike e' v h.pin st' st c d t.2 f history (z.2 ∙ ap (λ (i : ℕ). pick (word i) h.pin) (sym z.1)) in
        let same : arc_value a ≡ x = same_some (slice_get st h.entity) (arc_value a) x payload (ap (slice_get st) (sym z.1) ∙ (sym one ∙ g)) in
        (a, ap (get_elem? (set homes h.slot (some (Some a)))) k ∙ set_here homes h.slot (some (Some a)) (subst (λ (i : ℕ). i < length homes) k (inside n' e' (pick (word e') v) b c (pick_small (word e') v))), same))
        (λ apart. has_else homes h.slot (spot q.entities n' e' (pick (word e') v)) (some (Some a)) x apart (s.served n' e' v st' x b c d f g (λ h' is. still n' h' (spot q.entities n' e' (pick (word e') v)) apart away is)));
    at_home = λ k b free. dite (ℕ_discrete k h.slot)
        (λ (i : k ≡ h.slot). (Some a, ap (get_elem? (set homes h.slot (some (Some a)))) i ∙ set_here homes h.slot (some (Some a)) (subst (λ (z : ℕ). z < length homes) i (omega arith))))
        (λ apart. let old = s.at_home k b ((λ n' h' is. still n' h' k apart (free.0 n') is), free.1) in (old.0, set_else homes h.slot k (some (Some a)) apart ∙ old.1));
    taken = λ n' h' is. dite (ℕ_discrete n' n) (λ (i : n' ≡ n). absurd (not_none (put held n None n) h' (put_here held n None) (ap (put held n None) (sym i) ∙ is))) (λ ne. s.taken n' h' (sym (put_else held n None n' ne) ∙ is));
    reached = s.reached;
    published = λ n' e' x b c up out is. has_else homes h.slot (spot q.entities n' e' (1 - pick (word e') q.version)) (some (Some a)) x
        (λ w. apart_from_read q word n' n e' h.entity h.pin (quiet.1 e' up) t.2 c t.1 (w ∙ t.3)) (s.published n' e' x b c up out is);
    filling = s.filling;
    filled = λ n' f x is got. let g = s.filling f is in has_else homes h.slot (spot q.entities n' f.entity (1 - pick (word f.entity) q.version)) (some (Some a)) x
        (λ w. apart_from_read q word n' n f.entity h.entity h.pin (quiet.0 g.0) t.2 g.1 t.1 (w ∙ t.3)) (s.filled n' f x is got);
  }
    where
      t : (n < q.lanes) × (h.entity < q.entities) × IsRead q h.pin × (h.slot ≡ spot q.entities n h.entity (pick (word h.entity) h.pin))
      t = s.taken n h has

      inside : (n' e' b : ℕ) → n' < q.lanes → e' < q.entities → b < 2 → spot q.entities n' e' b < length homes
      inside n' e' b i j k = let z = spot_in q.entities q.lanes n' e' b i j k in omega arith

      -- what another lane has, it has still
      still : (n' : ℕ) (h' : Hold) (k : ℕ) → k ≢ h.slot → ((h'' : Hold) → put held n None n' ≡ Some h'' → h''.slot ≢ k) → held n' ≡ Some h' → h'.slot ≢ k
      still n' h' k apart away is = dite (ℕ_discrete n' n)
          (λ (i : n' ≡ n). let same : h ≡ h' = same_some (held n) h h' has (ap held (sym i) ∙ is) in (λ w. apart (sym w ∙ ap (λ (z : Hold). z.slot) (sym same))))
          (λ ne. away h' (put_else held n None n' ne ∙ is))

  -- the writer reaches the next lane's slot
  pub slots_reach : (q : Plan P) (held : ℕ → Option Hold) (word : ℕ → ℕ) (homes : Homes P Z) (f : Fill P) → Slotted q held word homes → IsCalm q → MayReach q f
      → ((y : Option (Arc P Z)) × (get_elem? homes (other_spot q word (length f.payloads) f.entity) ≡ some (some y)))
      × Slotted (reaching q f (other_spot q word (length f.payloads) f.entity)) held word (set homes (other_spot q word (length f.payloads) f.entity) none)
  slots_reach q held word homes f s quiet may = (
    s.at_home k (spot_in q.entities q.lanes (length f.payloads) f.entity (1 - pick (word f.entity) q.version) may.3 may.2 (other_small (word f.entity) q.version))
        ((λ n h is w. let t = s.taken n h is in apart_from_read q word (length f.payloads) n f.entity h.entity h.pin drained t.2 may.2 t.1 (sym w ∙ t.3)), (λ w is. absurd (not_none q.hand w may.0 is))),
    record {
      worded = s.worded;
      served = λ n e v st x a b c d g away. has_else homes k (spot q.entities n e (pick (word e) v)) none x (λ w. apart_from_read q word (length f.payloads) n f.entity e v drained c may.2 b (sym w)) (s.served n e v st x a b c d g away);
      at_home = λ k' a free. let old = s.at_home k' a (free.0, (λ w is. absurd (not_none q.hand w may.0 is))) in (old.0, set_else homes k k' none (λ w. free.1 mine refl (sym w)) ∙ old.1);
      taken = s.taken;
      reached = λ w is. let same : mine ≡ w = (let z : Some mine ≡ Some w = is in cc) in
          subst (λ (w : Reach). (f' : Fill P) × (Some f ≡ Some f') × (w.lane ≡ length f'.payloads) × (w.lane < q.lanes) × (w.slot ≡ spot q.entities w.lane f'.entity (1 - pick (word f'.entity) q.version))) same (f, refl, refl, may.3, refl);
      published = λ n e x a b up out is. has_else homes k (spot q.entities n e (1 - pick (word e) q.version)) none x
          (λ w. let z = apart_others q word n (length f.payloads) e f.entity b may.2 w in out f refl (sym z.1))
          (s.published n e x a b up (λ f' was. ⊎_elim (λ (at_f : q.fill ≡ Some f). subst (λ (z : Fill P). z.entity ≢ e) (same_some q.fill f f' at_f was) (out f refl)) (λ (t : (q.fill ≡ None) × (f.payloads ≡ [])). absurd (not_none q.fill f' t.0 was)) may.4) is);
      filling = λ f' is. subst (λ (z : Fill P). (q.reset ≡ true) × (z.entity < q.entities) × (length z.payloads ≤ q.lanes) × AreSame z.payloads) (let z : f ≡ f' = (let y : Some f ≡ Some f' = is in cc) in z)
          (may.1, may.2, (let l = may.3 in omega arith), ⊎_elim (λ (at_f : q.fill ≡ Some f). (s.filling f at_f).3) (λ (t : (q.fill ≡ None) × (f.payloads ≡ [])). (λ i j x y a b. absurd (let z : None ≡ Some x = ap (λ (l : List P). slice_get l i) (sym t.1) ∙ a in cc))) may.4);
      filled = λ n f' x is got. let same : f ≡ f' = (let y : Some f ≡ Some f' = is in cc) in
          subst (λ (z : Fill P). Has (set homes k none) (spot q.entities n z.entity (1 - pick (word z.entity) q.version)) x) same (old_filled n x (ap (λ (z : Fill P). slice_get z.payloads n) same ∙ got));
    },
  )
    where
      k : ℕ
      k = spot q.entities (length f.payloads) f.entity (1 - pick (word f.entity) q.version)

      drained : q.drained ≡ true
      drained = quiet.0 may.1

      mine : Reach
      mine = record { lane = length f.payloads; slot = spot q.entities (length f.payloads) f.entity (1 - pick (word f.entity) q.version) }

      old_filled : (n : ℕ) (x : P) → slice_get f.payloads n ≡ Some x → Has (set homes k none) (spot q.entities n f.entity (1 - pick (word f.entity) q.version)) x
      old_filled n x got = has_else homes k (spot q.entities n f.entity (1 - pick (word f.entity) q.version)) none x
          (λ w. let z = apart_others q word n (length f.payloads) f.entity f.entity may.2 may.2 w in let e = z.0 in let short = get_short f.payloads n x got in omega arith)
          (⊎_elim (λ (is : q.fill ≡ Some f). s.filled n f x is got) (λ (t : (q.fill ≡ None) × (f.payloads ≡ [])). absurd (let z : None ≡ Some x = ap (λ (l : List P). slice_get l n) (sym t.1) ∙ got in cc)) may.4)

  -- and gives it back with a payload
  pub slots_fill : (q : Plan P) (held : ℕ → Option Hold) (word : ℕ → ℕ) (homes : Homes P Z) (w : Reach) (f : Fill P) (a : Arc P Z) → Slotted q held word homes → IsCalm q → q.hand ≡ Some w → q.fill ≡ Some f → length homes ≡ 2 * (q.lanes * q.entities)
      → ((i : ℕ) (x : P) → slice_get f.payloads i ≡ Some x → x ≡ arc_value a) → Slotted (filling_on q f (arc_value a)) held word (set homes w.slot (some (Some a)))
  slots_fill q held word homes w f a s quiet hand fill deep alike = record {
    worded = s.worded;
    served = λ n e v st x b c d g h away. has_else homes w.slot (spot q.entities n e (pick (word e) v)) (some (Some a)) x (λ z. apart_from_read q word w.lane n f.entity e v drained d in_entities c (sym at_slot ∙ sym z)) (s.served n e v st x b c d g h away);
    at_home = λ k b free. dite (ℕ_discrete k w.slot)
        (λ (i : k ≡ w.slot). (Some a, ap (get_elem? (set homes w.slot (some (Some a)))) i ∙ set_here homes w.slot (some (Some a)) inside))
        (λ ne. let old = s.at_home k b (free.0, (λ w' is. let same : w ≡ w' = same_some q.hand w w' hand is in (λ z. ne (sym z ∙ ap (λ (r : Reach). r.slot) (sym same))))) in (old.0, set_else homes w.slot k (some (Some a)) ne ∙ old.1));
    taken = s.taken;
    reached = λ w' is. absurd (let z : None ≡ Some w' = is in cc);
    published = λ n e x b c up out is. has_else homes w.slot (spot q.entities n e (1 - pick (word e) q.version)) (some (Some a)) x
        (λ z. let t = apart_others q word n w.lane e f.entity c in_entities (z ∙ at_slot) in out more_f refl (sym t.1))
        (s.published n e x b c up (λ f' was. subst (λ (z : Fill P). z.entity ≢ e) (same_some q.fill f f' fill was) (out more_f refl)) is);
    filling = λ f' is. subst (λ (z : Fill P). (q.reset ≡ true) × (z.entity < q.entities) × (length z.payloads ≤ q.lanes) × AreSame z.payloads) (let z : more_f ≡ f' = (let y : Some more_f ≡ Some f' = is in cc) in z)
        ((s.filling f fill).0, in_entities, (let l = length-append f.payloads (arc_value a ∷ []) in let m = at_lane in let r = in_lanes in omega arith), (λ i j x y at_i at_j. one_payload i x at_i ∙ sym (one_payload j y at_j)));
    filled = λ n f' x is got. let same : more_f ≡ f' = (let y : Some more_f ≡ Some f' = is in cc) in
        subst (λ (z : Fill P). Has (set homes w.slot (some (Some a))) (spot q.entities n z.entity (1 - pick (word z.entity) q.version)) x) same (more n x (at_more f.payloads (arc_value a) x n (ap (λ (z : Fill P). slice_get z.payloads n) same ∙ got)));
  }
    where
      more_f : Fill P
      more_f = record f { payloads = f.payloads ++ arc_value a ∷ [] }

      drained : q.drained ≡ true
      drained = quiet.0 (s.filling f fill).0

      in_entities : f.entity < q.entities
      in_entities = (s.filling f fill).1

      at_f : (z : Fill P) × (q.fill ≡ Some z) × (w.lane ≡ length z.payloads) × (w.lane < q.lanes) × (w.slot ≡ spot q.entities w.lane z.entity (1 - pick (word z.entity) q.version))
      at_f = s.reached w hand

      same_f : at_f.0 ≡ f
      same_f = same_some q.fill at_f.0 f at_f.1 fill

      at_slot : w.slot ≡ spot q.entities w.lane f.entity (1 - pick (word f.entity) q.version)
      at_slot = at_f.4 ∙ ap (λ (z : Fill P). spot q.entities w.lane z.entity (1 - pick (word z.entity) q.version)) same_f

      at_lane : w.lane ≡ length f.payloads
      at_lane = at_f.2 ∙ ap (λ (z : Fill P). length z.payloads) same_f

      in_lanes : w.lane < q.lanes
      in_lanes = at_f.3

      inside : w.slot < length homes
      inside = let z = spot_in q.entities q.lanes w.lane f.entity (1 - pick (word f.entity) q.version) in_lanes in_entities (other_small (word f.entity) q.version) in let i = at_slot in omega arith

      one_payload : (i : ℕ) (x : P) → slice_get (f.payloads ++ arc_value a ∷ []) i ≡ Some x → x ≡ arc_value a
      one_payload i x got = ⊎_elim (alike i x) (λ (t : (i ≡ length f.payloads) × (arc_value a ≡ x)). sym t.1) (at_more f.payloads (arc_value a) x i got)

      more : (n : ℕ) (x : P) → (slice_get f.payloads n ≡ Some x) ⊎ ((n ≡ length f.payloads) × (arc_value a ≡ x)) → Has (set homes w.slot (some (Some a))) (spot q.entities n f.entity (1 - pick (word f.entity) q.version)) x
      more n x (inl got) = has_else homes w.slot (spot q.entities n f.entity (1 - pick (word f.entity) q.version)) (some (Some a)) x
          (λ z. let t = apart_others q word n w.lane f.entity f.entity in_entities in_entities (z ∙ at_slot) in let e = t.0 in let short = get_short f.payloads n x got in let m = at_lane in omega arith)
          (s.filled n f x fill got)
      more n x (inr t) = (a, ap (λ (k : ℕ). get_elem? (set homes w.slot (some (Some a))) k) (ap (λ (k : ℕ). spot q.entities k f.entity (1 - pick (word f.entity) q.version)) (t.0 ∙ sym at_lane) ∙ sym at_slot) ∙ set_here homes w.slot (some (Some a)) inside, t.1)

  -- the entity of the fill is staged, with the payload that each of its slots was filled with
  pub slots_stage : (q : Plan P) (held : ℕ → Option Hold) (word : ℕ → ℕ) (homes : Homes P Z) (f : Fill P) (x : P) (new : ℕ) → Slotted q held word homes → q.drained ≡ true → f.entity < length q.staged
      → q.hand ≡ None → q.fill ≡ Some f → f.payloads ≡ replicate q.lanes x → new ≡ word_for q.version true (old_word q f.entity) → pick new q.version ≡ pick (word f.entity) q.version
      → Slotted (staging q f.entity x) held (put word f.entity new) homes
  slots_stage q held word homes f x new s drained room hand fill all is_new same = record {
    worded = λ e b. dite (ℕ_discrete e f.entity)
        (λ (i : e ≡ f.entity). let w : put word f.entity new e ≡ new = ap (put word f.entity new) i ∙ put_here word f.entity new in
        let up : get_or (set q.staged f.entity true) e false ≡ true = ap (λ (k : ℕ). get_or (set q.staged f.entity true) k false) i ∙ get_or-set_same q.staged f.entity true false room in
        w ∙ (is_new ∙ (λ j. word_for q.version (sym up j) (old_word q (sym i j)))))
        (λ ne. put_else word f.entity new e ne ∙ (s.worded e b ∙ ap (λ (z : Bool). word_for q.version z (old_word q e)) (sym (get_or-set_other q.staged f.entity e true false ne))));
    served = λ n e v st y b c d g h away. let i = picks e v d in
        subst (λ (k : ℕ). Has homes (spot q.entities n e k) y) (sym i) (s.served n e v st y b c d g h (λ h' is. subst (λ (k : ℕ). h'.slot ≢ spot q.entities n e k) i (away h' is)));
    at_home = λ k b free. s.at_home k b (free.0, free.1);
    taken = λ n h is. let t = s.taken n h is in (t.0, t.1, t.2, t.3 ∙ ap (spot q.entities n h.entity) (sym (picks h.entity h.pin t.2)));
    reached = λ w is. absurd (not_none q.hand w hand is);
    published = λ n e y b c up out is. subst (λ (k : ℕ). Has homes (spot q.entities n e (1 - k)) y) (sym (picks e q.version (inl refl))) (dite (ℕ_discrete e f.entity)
        (λ (i : e ≡ f.entity).
        let one : x ≡ y = set-get_here q.next f.entity x y (ap (slice_get (set q.next f.entity x)) (sym i) ∙ is) in
        let has = s.filled n f x fill (ap (λ (l : List P). slice_get l n) all ∙ same_there q.lanes n x b) in
        let k : spot q.entities n f.entity (1 - pick (word f.entity) q.version) ≡ spot q.entities n e (1 - pick (word e) q.version) = ap (λ (k : ℕ). spot q.entities n k (1 - pick (word k) q.version)) (sym i) in
        (has.0, ap (get_elem? homes) (sym k) ∙ has.1, has.2 ∙ one))
        (λ ne. s.published n e y b c (sym (get_or-set_other q.staged f.entity e true false ne) ∙ up) (λ f' was z. ne (sym (ap (λ (g : Fill P). g.entity) (same_some q.fill f f' fill was) ∙ z))) (sym (set-get_else q.next f.entity e x ne) ∙ is)));
    filling = λ f' is. absurd (let z : None ≡ Some f' = is in cc);
    filled = λ n f' y is got. absurd (let z : None ≡ Some f' = is in cc);
  }
    where
      picks : (n v : ℕ) → IsRead q v → pick (put word f.entity new n) v ≡ pick (word n) v
      picks = same_pick q word f.entity new drained same

  -- entity e has the word of the last commit again
  pub slots_roll : (q : Plan P) (held : ℕ → Option Hold) (word : ℕ → ℕ) (homes : Homes P Z) (e new : ℕ) → Slotted q held word homes → q.drained ≡ true → e < length q.staged
      → q.hand ≡ None → q.fill ≡ None → new ≡ old_word q e → pick new q.version ≡ pick (word e) q.version
      → Slotted (rolling q e) held (put word e new) homes
  slots_roll q held word homes e new s drained room hand fill is_new same = record {
    worded = λ n b. dite (ℕ_discrete n e)
        (λ (i : n ≡ e). let w : put word e new n ≡ new = ap (put word e new) i ∙ put_here word e new in
        let down : get_or (set q.staged e false) n false ≡ false = ap (λ (k : ℕ). get_or (set q.staged e false) k false) i ∙ get_or-set_same q.staged e false false room in
        w ∙ (is_new ∙ (λ j. word_for q.version (sym down j) (old_word q (sym i j)))))
        (λ ne. put_else word e new n ne ∙ (s.worded n b ∙ ap (λ (z : Bool). word_for q.version z (old_word q n)) (sym (get_or-set_other q.staged e n false false ne))));
    served = λ n k v st y b c d g h away. let i = picks k v d in
        subst (λ (z : ℕ). Has homes (spot q.entities n k z) y) (sym i) (s.served n k v st y b c d g h (λ h' is. subst (λ (z : ℕ). h'.slot ≢ spot q.entities n k z) i (away h' is)));
    at_home = λ k b free. s.at_home k b (free.0, free.1);
    taken = λ n h is. let t = s.taken n h is in (t.0, t.1, t.2, t.3 ∙ ap (spot q.entities n h.entity) (sym (picks h.entity h.pin t.2)));
    reached = λ w is. absurd (not_none q.hand w hand is);
    published = λ n k y b c up out is. dite (ℕ_discrete k e)
        (λ (i : k ≡ e). not_both (get_or (set q.staged e false) k false) up (ap (λ (z : ℕ). get_or (set q.staged e false) z false) i ∙ get_or-set_same q.staged e false false room))
        (λ ne. subst (λ (z : ℕ). Has homes (spot q.entities n k (1 - z)) y) (sym (picks k q.version (inl refl)))
        (s.published n k y b c (sym (get_or-set_other q.staged e k false false ne) ∙ up) (λ f' was. absurd (not_none q.fill f' fill was)) (sym (restored_else q.committed q.next e k ne) ∙ is)));
    filling = λ f' is. absurd (not_none q.fill f' fill is);
    filled = λ n f' y is got. absurd (not_none q.fill f' fill is);
  }
    where
      picks : (n v : ℕ) → IsRead q v → pick (put word e new n) v ≡ pick (word n) v
      picks = same_pick q word e new drained same

  -- the next state is committed
  pub slots_commit : (fits : ℕ → P → ℕ → P → Type 0) (n : ℕ) (q : Plan P) (held : ℕ → Option Hold) (word : ℕ → ℕ) (homes : Homes P Z) → Lawful fits q → Slotted q held word homes → q.hand ≡ None → q.fill ≡ None → q.drained ≡ true
      → Slotted (after_commit n q) held word homes
  slots_commit fits m q held word homes l s hand fill drained = record {
    worded = λ e b. s.worded e b ∙ (sym (renewed e) ∙ ap (λ (z : Bool). word_for (q.version + 1) z (old_word (after_commit m q) e)) (sym (none_true q.staged e)));
    served = λ n e v st x b c d g h away. ⊎_elim
        (λ (at : v ≡ q.version + 1). new_served n e v st x (is_staged q e) refl b c at g h away)
        (λ (t : (v + 1 ≡ q.version + 1) × (false ≡ false)). let e₀ = t.0 in let v' : v ≡ q.version = omega arith in
        let s' = l.states in s.served n e v st x b c (inl v') (get_before q.history q.next st v (omega arith) g) h away) d;
    at_home = λ k b free. s.at_home k b (free.0, free.1);
    taken = λ n h is. let t = s.taken n h is in let c = now q h.pin drained t.2 in (t.0, t.1, inr (ap (λ (k : ℕ). k + 1) c, refl), t.3);
    reached = λ w is. absurd (not_none q.hand w hand is);
    published = λ n e x b c up out is. not_both (is_staged (after_commit m q) e) up (none_true q.staged e);
    filling = λ f is. absurd (not_none q.fill f fill is);
    filled = λ n f x is got. absurd (not_none q.fill f fill is);
  }
    where
      renewed : (e : ℕ) → old_word (after_commit m q) e ≡ word_for q.version (is_staged q e) (old_word q e)
      renewed e = new_word q.version q.staged q.words e (l.lengths.2 ∙ sym l.lengths.1)

      newest : (v : ℕ) (st : List P) → v ≡ q.version + 1 → slice_get (q.history ++ q.next ∷ []) v ≡ Some st → q.next ≡ st
      newest v st at g = ⊎_elim (λ old. let short = get_short q.history v st old in let s' = l.states in absurd (omega arith)) (λ (t : (v ≡ length q.history) × (q.next ≡ st)). t.1) (at_more q.history q.next st v g)

      new_served : (n e v : ℕ) (st : List P) (x : P) (b : Bool) → is_staged q e ≡ b → n < q.lanes → e < q.entities → v ≡ q.version + 1 → slice_get (q.history ++ q.next ∷ []) v ≡ Some st → slice_get st e ≡ Some x
          → ((h : Hold) → held n ≡ Some h → h.slot ≢ spot q.entities n e (pick (word e) v)) → Has homes (spot q.entities n e (pick (word e) v)) x
      new_served n e v st x true is in_lanes inside at g got away =
          let o : ℕ = old_word q e in let w : ℕ = word e in let w' : w ≡ 2 * (q.version + 1) + (1 - o % 2) = s.worded e inside ∙ ap (λ (z : Bool). word_for q.version z o) is in
          let p = pick_early w v (omega arith) in let c = pick_now fits q w e l (s.worded e inside) in
          let x₁ : ℕ = pick w v in let x₂ : ℕ = pick w q.version in let p' : x₁ ≡ w % 2 = p in let c' : x₂ ≡ o % 2 = c in let i : 1 - x₂ ≡ x₁ = omega arith in
          subst (λ (k : ℕ). Has homes (spot q.entities n e k) x) i (s.published n e x in_lanes inside is (λ f was. absurd (not_none q.fill f fill was)) (ap (λ (xs : List P). slice_get xs e) (newest v st at g) ∙ got))
      new_served n e v st x false is in_lanes inside at g got away =
          let o : ℕ = old_word q e in let w : ℕ = word e in let w' : w ≡ o = s.worded e inside ∙ ap (λ (z : Bool). word_for q.version z o) is in let low : o / 2 ≤ q.version = l.old e in
          let i : pick w v ≡ pick w q.version = pick_early w v (omega arith) ∙ sym (pick_early w q.version (omega arith)) in
          subst (λ (k : ℕ). Has homes (spot q.entities n e k) x) (sym i)
          (s.served n e q.version q.committed x in_lanes inside (inl refl) l.committed (sym (l.unstaged e is) ∙ (ap (λ (xs : List P). slice_get xs e) (newest v st at g) ∙ got)) (λ h' was. subst (λ (k : ℕ). h'.slot ≢ spot q.entities n e k) i (away h' was)))

  -- drain, reset, and what else changes nothing of the slots
  pub slots_more : (q : Plan P) (held : ℕ → Option Hold) (word : ℕ → ℕ) (homes : Homes P Z) (d b : Bool) (o m : ℕ) (ls ms : List ℕ) (es : List (Entry P)) → Slotted q held word homes
      → ((v : ℕ) → IsRead (record q { drained = d; reset = b; owed = o; found = ls; made = m; met = ms; heard = es }) v → IsRead q v) → ((n : ℕ) (h : Hold) → held n ≡ Some h → IsRead q h.pin → IsRead (record q { drained = d; reset = b; owed = o; found = ls; made = m; met = ms; heard = es }) h.pin)
      → (q.reset ≡ true → b ≡ true) → Slotted (record q { drained = d; reset = b; owed = o; found = ls; made = m; met = ms; heard = es }) held word homes
  slots_more q held word homes d b o m ls ms es s back on ready = record {
    worded = s.worded;
    served = λ n e v st x a c r. s.served n e v st x a c (back v r);
    at_home = λ k a free. s.at_home k a (free.0, free.1);
    taken = λ n h is. let t = s.taken n h is in (t.0, t.1, on n h is t.2, t.3);
    reached = s.reached;
    published = s.published;
    filling = λ f is. let g = s.filling f is in (ready g.0, g.1, g.2, g.3);
    filled = s.filled;
  }
