-- The splits and joins keep the rule: `open` makes a lane, and the writer and a lane meet.
use Rattle.std.proofs.Common.{◌≡◌, ◌≢◌, ℕ, zero, suc, ◌+◌, ◌<◌, ◌≤◌, max, List, [], ◌∷◌, ◌++◌, length, set, get_or, refl, sym, ap, ◌∙◌, subst, ⊎_elim, arith, Option, Some, None, length-set}
use mathlib.Core.Logic.{dite}
use mathlib.Core.Option.{some}
use native.Mathlib.Decide.{ℕ_discrete}
use lib.ListN.{get_elem?}
use Rattle.std.specs.declared.sync.Arc.{Arc}
use Rattle.atomic_table.specs.Table.{State, Splits, Joins}
use Rattle.atomic_table.proofs.Lists.{set_again, set_else, at_longer}
use Rattle.entity_heap.specs.declared.board.Plan.{Plan}
use Rattle.entity_heap.specs.declared.board.Visit.{Visit}
use Rattle.entity_heap.specs.declared.board.Note.{Note}
use Rattle.entity_heap.specs.declared.board.Role.{Role}
use Rattle.entity_heap.specs.declared.board.Role.TheVariants.{Spent, Told, Reads, Writes}
use Rattle.entity_heap.specs.Rule.{total, pinned_at, pinned_before, pins_of, lanes_of, IsFrom, IsLane, AreStates, Ties, Knows, Seated, Kept, word_of}
use Rattle.entity_heap.specs.Plans.{counting, new_visit, newcomer, telling, hearing, noting, learning, visit_of}
use Rattle.entity_heap.proofs.Lists.{one_at, at_end}
use Rattle.entity_heap.proofs.Plans.{lawful_more}
use Rattle.entity_heap.proofs.Slots.{slots_more}
use Rattle.entity_heap.proofs.Gates.{Counts, gated_seat, gated_end, gated_more, counts_lane, counts_writer}
use Rattle.entity_heap.proofs.Seats.{Goes, each_set, lane_on, seats_writer, seats_lane, seats_spent, seats_end, held_none}
use Rattle.entity_heap.proofs.Totals.{total_set, total_end}
use Rattle.entity_heap.proofs.Spots.{put, put_here, put_else}
use Rattle.entity_heap.proofs.LaneSteps.{knows}
use Rattle.entity_heap.proofs.WriterSteps.{the_plan}

-- a bound that rises at one place falls nowhere
put_rises : (f : ℕ → ℕ) (i c j : ℕ) → f i ≤ c → f j ≤ put f i c j
put_rises f i c j up = dite (ℕ_discrete j i) (λ (e : j ≡ i). let h = put_here f i c in let k = ap (put f i c) e in let z = ap f e in omega arith) (λ n. let h = put_else f i c j n in omega arith)

put_most : (f : ℕ → ℕ) (i c j most : ℕ) → c ≤ most → f j ≤ most → put f i c j ≤ most
put_most f i c j most a b = dite (ℕ_discrete j i) (λ (e : j ≡ i). let h = put_here f i c in let k = ap (put f i c) e in omega arith) (λ n. let h = put_else f i c j n in omega arith)

-- an entry of a list in which one place was set
set_most : (xs : List ℕ) (i a n : ℕ) (f : ℕ → ℕ) → a ≤ f i → get_or xs n 0 ≤ f n → get_or (set xs i a) n 0 ≤ f n
set_most [] i a n f here there = there
set_most (x ∷ xs) zero a zero f here there = here
set_most (x ∷ xs) zero a (suc n) f here there = there
set_most (x ∷ xs) (suc i) a zero f here there = there
set_most (x ∷ xs) (suc i) a (suc n) f here there = set_most xs i a n (λ k. f (suc k)) here there

module _ {P : Type 0} where
  counts_told : (x : Note P) → Counts Spent (Told x)
  counts_told x = record { at_version = λ c. refl; before = λ c. refl; pins = refl; lanes = refl }

  counts_spent : (x : Note P) → Counts (Told x) Spent
  counts_spent x = record { at_version = λ c. refl; before = λ c. refl; pins = refl; lanes = refl }

module _ {P Z : Type 0} (fits : ℕ → P → ℕ → P → Type 0) where
  -- a new seat is told x
  told_more : (s : State (Option (Arc P Z)) (Role P)) (r : Kept fits s) (id : ℕ) (v : Role P) (x : Note P) (noted : ℕ → ℕ) → get_elem? s.views id ≡ some v → (x.version ≤ r.plan.version) × (x.at ≤ noted x.lane) × AreStates r.plan x.entries
      → ((n : ℕ) → (get_or r.plan.met n 0 ≤ noted n) × (noted n ≤ r.plan.version))
      → ((j : ℕ) (d : Role P) → get_elem? s.views j ≡ some d → Knows r.plan r.ties j d → Knows r.plan (record { writer = r.ties.writer; owner = r.ties.owner; noted = noted; held = r.ties.held }) j d)
      → Kept fits record { words = s.words; homes = s.homes; views = set s.views id v ++ Told x ∷ [] }
  told_more s r id v x noted at ok bounds on =
      let t' : Ties = record { writer = r.ties.writer; owner = r.ties.owner; noted = noted; held = r.ties.held } in
      subst (λ (vs : List (Role P)). Kept fits record { words = s.words; homes = s.homes; views = vs ++ Told x ∷ [] }) (sym (set_again s.views id v at)) record {
        plan = r.plan;
        ties = t';
        sizes = r.sizes;
        gate = gated_end r.plan s.words s.views (Told x) r.gate (counts_told x);
        world = r.world;
        slots = r.slots;
        seats = seats_end r.plan r.ties t' s.views (Told x) r.seats refl (λ n. refl) (λ n _. refl) on ok bounds;
      }

  pub tells : (id : ℕ) (v : Role P) (q : Plan P) → v ≡ Writes q → Splits (Kept {Z = Z} fits) id v v (telling v)
  tells id v q is s r at = let t = the_plan fits s r id v q at is in
      subst (λ (z : Role P). Kept fits record { words = s.words; homes = s.homes; views = set s.views id v ++ z ∷ [] }) (λ j. telling (sym is j))
      (told_more s r id v (record { version = q.version; lane = 0; at = 0; entries = [] }) r.ties.noted at
      (let e : q.version ≡ r.plan.version = ap (λ (z : Plan P). z.version) t.0 in omega arith, omega arith, λ i x h. absurd (let z : None ≡ Some x = h in cc)) r.seats.noted (λ j d _ k. k))

  pub notes : (id : ℕ) (v : Role P) (l : Visit P) → v ≡ Reads l → l.pin ≡ None → Splits (Kept {Z = Z} fits) id v v (noting v)
  notes id v l is free s r at =
      let k : IsLane r.plan r.ties id l = knows fits s r id v (Reads l) at is in let o = r.seats.noted l.number in let w = k.seen in
      let f : ℕ → ℕ = r.ties.noted in let c : ℕ = max (f l.number) l.floor in let f' : ℕ → ℕ = put f l.number c in
      let up : (n : ℕ) → f n ≤ f' n = λ n. put_rises f l.number c n (omega arith) in
      subst (λ (z : Role P). Kept fits record { words = s.words; homes = s.homes; views = set s.views id v ++ z ∷ [] }) (λ j. noting (sym is j))
      (told_more s r id v (record { version = 0; lane = l.number; at = l.floor; entries = l.entries }) f' at (omega arith, (let h = put_here f l.number c in omega arith), k.entries)
      (λ n. (let a = r.seats.noted n in let b = up n in omega arith, let a = r.seats.noted n in put_most f l.number c n r.plan.version (omega arith) a.1))
      on)
    where
      from_none : (n : ℕ) (o : Option ℕ) → o ≡ None → IsFrom n o
      from_none n o e = subst (IsFrom n) (sym e) tt

      raised : ℕ → ℕ
      raised = put r.ties.noted l.number (max (r.ties.noted l.number) l.floor)

      on : (j : ℕ) (d : Role P) → get_elem? s.views j ≡ some d → Knows r.plan r.ties j d → Knows r.plan (record { writer = r.ties.writer; owner = r.ties.owner; noted = raised; held = r.ties.held }) j d
      on j Spent here kd = tt
      on j (Told x) here kd = let a = kd.1 in let b = put_rises r.ties.noted l.number (max (r.ties.noted l.number) l.floor) x.lane (omega arith) in (kd.0, omega arith, kd.2)
      on j (Reads m) here kd = record {
        number = kd.number;
        entities = kd.entities;
        owner = kd.owner;
        pins = kd.pins;
        pin = kd.pin;
        seen = kd.seen;
        entries = kd.entries;
        hold = kd.hold;
        held = kd.held;
        noted = dite (ℕ_discrete m.number l.number)
            (λ (e : m.number ≡ l.number).
            let k : IsLane r.plan r.ties id l = knows fits s r id v (Reads l) at is in let same : j ≡ id = sym kd.owner ∙ (ap r.ties.owner e ∙ k.owner) in
            let one : Reads m ≡ Reads l = one_at s.views j id (Reads m) (Reads l) same here (at ∙ ap some is) in
            from_none (raised m.number) m.pin (ap (λ (z : Role P). (visit_of z).pin) one ∙ free))
            (λ (ne : m.number ≢ l.number). subst (λ (n : ℕ). IsFrom n m.pin) (sym (put_else r.ties.noted l.number (max (r.ties.noted l.number) l.floor) m.number ne)) kd.noted);
      }
      on j (Writes w) here kd = kd

  pub hears : (id : ℕ) (v : Role P) (other : ℕ) (w : Role P) (l : Visit P) (x : Note P) → v ≡ Reads l → w ≡ Told x → Joins (Kept {Z = Z} fits) id v other w (hearing v w) Spent
  hears id v other w l x is told s r at apart there =
      let l' : Visit P = record l { floor = max l.floor x.version } in let vs : List (Role P) = set s.views id (Reads l') in
      let is_both : hearing v w ≡ Reads l' = (λ j. hearing (is j) (told j)) in
      let there' : get_elem? vs other ≡ some (Told x) = ap (λ (z : Role P). get_elem? (set s.views id z) other) (sym is_both) ∙ (there ∙ ap some told) in
      let k : IsLane r.plan r.ties id l = knows fits s r id v (Reads l) at is in
      let t : Knows r.plan r.ties other (Told x) = r.seats.each other (Told x) (sym (set_else s.views id other (Reads l') apart) ∙ there') in
      let seats : Seated r.plan r.ties vs = seats_lane r.plan r.ties s.views id l l' r.ties.held r.seats (at ∙ ap some is) k.owner refl (λ _ _. refl)
      record { number = k.number; entities = k.entities; owner = k.owner; pins = k.pins; pin = k.pin; noted = k.noted; seen = (k.seen.0, (let a = k.seen.1 in let b = t.0 in omega arith)); entries = k.entries; hold = k.hold; held = k.held } in
      subst (λ (z : Role P). Kept fits record { words = s.words; homes = s.homes; views = set (set s.views id z) other Spent }) (sym is_both) record {
        plan = r.plan;
        ties = r.ties;
        sizes = r.sizes;
        gate = gated_seat r.plan s.words s.words vs other (Told x) Spent (gated_seat r.plan s.words s.words s.views id (Reads l) (Reads l') r.gate (λ _ _. refl) (at ∙ ap some is) (counts_lane l l' refl refl)) (λ _ _. refl) there' (counts_spent x);
        world = r.world;
        slots = r.slots;
        seats = seats_spent r.plan r.ties vs other x seats there';
      }

  pub learns : (id : ℕ) (v : Role P) (other : ℕ) (w : Role P) (q : Plan P) (x : Note P) → v ≡ Writes q → w ≡ Told x → Joins (Kept {Z = Z} fits) id v other w (learning v w) Spent
  learns id v other w q x is told s r at apart there =
      let p = the_plan fits s r id v q at is in let q₀ : Plan P = r.plan in let ms : List ℕ = set q₀.met x.lane x.at in let q' : Plan P = record q₀ { met = ms; heard = x.entries } in let vs : List (Role P) = set s.views id (Writes q') in
      let is_both : learning v w ≡ Writes q' = (λ j. learning ((is ∙ ap (λ (z : Plan P). Writes z) p.0) j) (told j)) in
      let there' : get_elem? vs other ≡ some (Told x) = ap (λ (z : Role P). get_elem? (set s.views id z) other) (sym is_both) ∙ (there ∙ ap some told) in
      let t : Knows r.plan r.ties other (Told x) = r.seats.each other (Told x) (sym (set_else s.views id other (Writes q') apart) ∙ there') in
      let go : Goes q₀ q' = record { made = omega arith; entities = refl; version = omega arith; history = λ v st g. g } in
      let seats : Seated q' r.ties vs = seats_writer q₀ q' r.ties s.views id r.seats p.2 p.1 go (λ j l here p is read. read) (λ n. (set_most q₀.met x.lane x.at n r.ties.noted t.1 (r.seats.noted n).0, (r.seats.noted n).1)) t.2 in
      subst (λ (z : Role P). Kept fits record { words = s.words; homes = s.homes; views = set (set s.views id z) other Spent }) (sym is_both) record {
        plan = q';
        ties = r.ties;
        sizes = r.sizes;
        gate = gated_more q₀ s.words (set vs other Spent) q₀.history q₀.committed q₀.next q₀.words q₀.staged q₀.found ms x.entries q₀.hand q₀.fill
            (gated_seat q₀ s.words s.words vs other (Told x) Spent (gated_seat q₀ s.words s.words s.views id (Writes q₀) (Writes q') r.gate (λ _ _. refl) p.2 (counts_writer q₀ q')) (λ _ _. refl) there' (counts_spent x));
        world = lawful_more fits q₀ q₀.drained q₀.reset q₀.owed q₀.made q₀.found ms x.entries q₀.hand q₀.fill r.world (λ off. off);
        slots = slots_more q₀ r.ties.held (word_of s.words) s.homes q₀.drained q₀.reset q₀.owed q₀.made q₀.found ms x.entries r.slots (λ v read. read) (λ n h is read. read) (λ ready. ready);
        seats = seats_spent q' r.ties vs other x seats there';
      }

  -- one more lane
  makes_lane : (s : State (Option (Arc P Z)) (Role P)) (r : Kept fits s) (id : ℕ) → get_elem? s.views id ≡ some (Writes r.plan) → id ≡ r.ties.writer → r.plan.made < r.plan.lanes
      → Kept fits record { words = s.words; homes = s.homes; views = set s.views id (Writes (record r.plan { made = r.plan.made + 1 })) ++ Reads (new_visit r.plan) ∷ [] }
  makes_lane s r id at writes room =
      let q : Plan P = r.plan in let q' : Plan P = record q { made = q.made + 1 } in let new : Visit P = new_visit q in let vs : List (Role P) = set s.views id (Writes q') in
      let long : length vs ≡ length s.views = length-set s.views id (Writes q') in
      let t' : Ties = record { writer = r.ties.writer; owner = put r.ties.owner q.made (length vs); noted = r.ties.noted; held = r.ties.held } in
      let go : Goes q q' = record { made = omega arith; entities = refl; version = omega arith; history = λ v st g. g } in
      let seats : Seated q' r.ties vs = seats_writer q q' r.ties s.views id r.seats at writes go (λ j l here p is read. read) r.seats.noted r.seats.heard in
      let count : (f : Role P → ℕ) → f (Writes q) ≡ f (Writes q') → total f (vs ++ Reads new ∷ []) ≡ total f s.views + f (Reads new)
      = λ f same. total_end f vs (Reads new) ∙ (let a = total_set f s.views id (Writes q) (Writes q') at in omega arith) in
      let t₁ : total (pinned_at q.version) (vs ++ Reads new ∷ []) ≡ total (pinned_at q.version) s.views + 0 = count (pinned_at q.version) refl in
      let t₂ : total (pinned_before q.version) (vs ++ Reads new ∷ []) ≡ total (pinned_before q.version) s.views + 0 = count (pinned_before q.version) refl in
      let t₃ : total pins_of (vs ++ Reads new ∷ []) ≡ total pins_of s.views + 0 = count pins_of refl in
      let t₄ : total lanes_of (vs ++ Reads new ∷ []) ≡ total lanes_of s.views + 1 = count lanes_of refl in
      record {
        plan = q';
        ties = t';
        sizes = r.sizes;
        gate = record {
          arrivals = r.gate.arrivals;
          gate = r.gate.gate;
          counted = let o = r.gate.counted in omega arith;
          small = let o = r.gate.small in omega arith;
          few = let o = r.gate.few in (omega arith, omega arith, o.2);
          owing = λ off. let o = r.gate.owing off in omega arith;
          cleared = r.gate.cleared;
          bounds = r.gate.bounds;
        };
        world = lawful_more fits q q.drained q.reset q.owed (q.made + 1) q.found q.met q.heard q.hand q.fill r.world (λ off. off);
        slots = slots_more q r.ties.held (word_of s.words) s.homes q.drained q.reset q.owed (q.made + 1) q.found q.met q.heard r.slots (λ v read. read) (λ n h is read. read) (λ ready. ready);
        seats = record {
          each = λ j d here. ⊎_elim (each_set q q' r.ties t' s.views id (Writes q') (refl, writes) (on (length vs)) r.seats.each j d)
              (λ (z : (j ≡ length vs) × (Reads new ≡ d)). subst (λ (x : ℕ × Role P). Knows q' t' x.0 x.1) (λ i. (sym z.0 i, z.1 i))
              record {
                number = omega arith;
                entities = refl;
                owner = put_here r.ties.owner q.made (length vs);
                pins = omega arith;
                pin = tt;
                noted = tt;
                seen = (omega arith, omega arith);
                entries = λ i x h. absurd (let z : None ≡ Some x = h in cc);
                hold = held_none q r.ties s.views q.made r.seats (omega arith);
                held = λ h taken. absurd (let z : None ≡ Some h = taken in cc);
              })
              (at_end vs (Reads new) d j here);
          writer = at_longer vs (Reads new ∷ []) r.ties.writer (Writes q') seats.writer;
          holders = λ n h is. let o = r.seats.holders n h is in let k : IsLane q r.ties (r.ties.owner n) o.0 = r.seats.each (r.ties.owner n) (Reads o.0) o.1 in let small = k.number in let e = o.2 in
              let o' = seats.holders n h is in
              (o'.0, ap (get_elem? (vs ++ Reads new ∷ [])) (put_else r.ties.owner q.made (length vs) n (λ w. omega arith)) ∙ at_longer vs (Reads new ∷ []) (r.ties.owner n) (Reads o'.0) o'.1, o'.2);
          noted = seats.noted;
          heard = seats.heard;
        };
      }
    where
      on : (k j : ℕ) (d : Role P) → j ≢ id → get_elem? s.views j ≡ some d → Knows r.plan r.ties j d
          → Knows (record r.plan { made = r.plan.made + 1 }) (record { writer = r.ties.writer; owner = put r.ties.owner r.plan.made k; noted = r.ties.noted; held = r.ties.held }) j d
      on k j Spent ne here kd = tt
      on k j (Told x) ne here kd = kd
      on k j (Reads l) ne here kd = let q' : Plan P = record r.plan { made = r.plan.made + 1 } in
          let go : Goes r.plan q' = record { made = omega arith; entities = refl; version = omega arith; history = λ v st g. g } in
          let kn : IsLane q' r.ties j l = lane_on r.plan q' r.ties j l go (λ p is read. read) kd in let old = kd.number in
          record { number = kn.number; entities = kn.entities; owner = put_else r.ties.owner r.plan.made k l.number (λ w. omega arith) ∙ kn.owner; pins = kn.pins; pin = kn.pin; noted = kn.noted; seen = kn.seen; entries = kn.entries; hold = kn.hold; held = kn.held }
      on k j (Writes w) ne here kd = absurd (ne (kd.1 ∙ sym writes))

  pub makes : (id : ℕ) (v : Role P) (q : Plan P) → v ≡ Writes q → q.made < q.lanes → Splits (Kept {Z = Z} fits) id v (counting v) (newcomer v)
  makes id v q is room s r at =
      let t = the_plan fits s r id v q at is in let both : v ≡ Writes r.plan = is ∙ ap (λ (z : Plan P). Writes z) t.0 in
      subst (λ (z : Role P). Kept fits record { words = s.words; homes = s.homes; views = set s.views id (counting z) ++ newcomer z ∷ [] }) (sym both)
      (makes_lane s r id t.2 t.1 (subst (λ (z : Plan P). z.made < z.lanes) t.0 room))
