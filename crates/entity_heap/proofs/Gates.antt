-- The gate after each step.
use Rattle.std.proofs.Common.{◌≡◌, ◌≢◌, ℕ, ◌+◌, ◌*◌, ◌/◌, ◌%◌, ◌<◌, ◌≤◌, Bool, true, false, cond, List, [], ◌∷◌, ◌++◌, length, set, get_or, refl, sym, ap, ◌∙◌, ⊎_elim, arith, Option, Some, None, eq-eqb, ne_eqb, get_or-set_other, get_or-set_same}
use mathlib.Core.Logic.{dite}
use mathlib.Core.Option.{some}
use native.Mathlib.Decide.{ℕ_discrete}
use lib.ListN.{get_elem?}
use Rattle.entity_heap.specs.declared.board.Entry.{Entry}
use Rattle.entity_heap.specs.declared.board.Reach.{Reach}
use Rattle.entity_heap.specs.declared.board.Fill.{Fill}
use Rattle.entity_heap.specs.declared.board.Plan.{Plan}
use Rattle.entity_heap.specs.declared.board.Visit.{Visit}
use Rattle.entity_heap.specs.declared.board.Role.{Role}
use Rattle.entity_heap.specs.declared.board.Role.TheVariants.{Spent, Told, Reads, Writes}
use Rattle.entity_heap.specs.Rule.{total, is_at, is_before, pinned_at, pinned_before, pins_of, lanes_of, door, word_of, IsRead, IsPin, Ties, Knows, Gated}
use Rattle.entity_heap.specs.Plans.{after_commit, after_pin, after_unpin}
use Rattle.entity_heap.proofs.Totals.{total_set, total_end, total_same, total_none, total_most, one_of}
use Rattle.entity_heap.proofs.Lists.{not_both}

pub at_same : (c : ℕ) → is_at c (Some c) ≡ 1
at_same c = ap (λ (b : Bool). cond b 1 0) (eq-eqb c c refl)

pub at_else : (c p : ℕ) → p ≢ c → is_at c (Some p) ≡ 0
at_else c p ne = ap (λ (b : Bool). cond b 1 0) (ne_eqb p c ne)

pub before_same : (c p : ℕ) → p + 1 ≡ c → is_before c (Some p) ≡ 1
before_same c p e = ap (λ (b : Bool). cond b 1 0) (eq-eqb (p + 1) c e)

pub before_else : (c p : ℕ) → p + 1 ≢ c → is_before c (Some p) ≡ 0
before_else c p ne = ap (λ (b : Bool). cond b 1 0) (ne_eqb (p + 1) c ne)

is_before_some : (c : ℕ) (o : Option ℕ) → 0 < is_before c o → (p : ℕ) × (o ≡ Some p) × (p + 1 ≡ c)
is_before_some c None h = absurd (omega arith)
is_before_some c (Some p) h = dite (ℕ_discrete (p + 1) c) (λ e. (p, refl, e)) (λ ne. absurd (let z = before_else c p ne in omega arith))

-- a view that counts as pinned just before c is a lane's, with that pin
pub is_just_before : {P : Type 0} (c : ℕ) (v : Role P) → 0 < pinned_before c v → (p : ℕ) × (l : Visit P) × (v ≡ Reads l) × (l.pin ≡ Some p) × (p + 1 ≡ c)
is_just_before c Spent h = absurd (omega arith)
is_just_before c (Told x) h = absurd (omega arith)
is_just_before c (Reads l) h = let o = is_before_some c l.pin h in (o.0, l, refl, o.1, o.2)
is_just_before c (Writes w) h = absurd (omega arith)

-- a pin at c is just before c + 1
shift : (c : ℕ) (o : Option ℕ) → is_at c o ≡ is_before (c + 1) o
shift c None = refl
shift c (Some p) = dite (ℕ_discrete p c) (λ e. ap (λ (k : ℕ). is_at c (Some k)) e ∙ at_same c ∙ sym (before_same (c + 1) p (omega arith)))
    (λ ne. at_else c p ne ∙ sym (before_else (c + 1) p (λ w. ne (omega arith))))

-- the gate after one more arrival
gate_up : (n c a : ℕ) → n ≡ c * 4294967296 + a → c < 2147483648 → a ≤ 2147483648 → (n + 1) % 18446744073709551616 ≡ c * 4294967296 + (a + 1)
gate_up n c a is small few = omega arith

pub gate_over : (n c a : ℕ) → n ≡ c * 4294967296 + a → a ≤ 2147483648 → n / 4294967296 ≡ c
gate_over n c a is few = omega arith

-- a step on an entity's word, or on one of the first three, leaves the others
pub word_low : (ws : List ℕ) (i x : ℕ) → i < 3 → word_of (set ws i x) ≡ word_of ws
word_low ws i x low = λ j e. at e j
  where
    at : (e : ℕ) → get_or (set ws i x) (3 + e) 0 ≡ get_or ws (3 + e) 0
    at e = get_or-set_other ws i (3 + e) x 0 (λ w. omega arith)

module _ {P : Type 0} where
  -- a view that counts as another
  pub record Counts (v w : Role P) : Type 0 where
    pub at_version : (c : ℕ) → pinned_at c v ≡ pinned_at c w
    pub before : (c : ℕ) → pinned_before c v ≡ pinned_before c w
    pub pins : pins_of v ≡ pins_of w
    pub lanes : lanes_of v ≡ lanes_of w

  -- the first three words are the same, and all totals
  pub gated_same : (q : Plan P) (ws ws' : List ℕ) (vs vs' : List (Role P)) → Gated q ws vs → ((k : ℕ) → k < 3 → get_or ws' k 0 ≡ get_or ws k 0)
      → ((c : ℕ) → total (pinned_at c) vs' ≡ total (pinned_at c) vs) → ((c : ℕ) → total (pinned_before c) vs' ≡ total (pinned_before c) vs) → total pins_of vs' ≡ total pins_of vs → total lanes_of vs' ≡ total lanes_of vs → Gated q ws' vs'
  gated_same q ws ws' vs vs' g words t₁ t₂ t₃ t₄ = record {
    arrivals = g.arrivals;
    gate = words 0 (omega arith) ∙ g.gate;
    counted = let o = g.counted in let a = t₁ q.version in let d = words (door q.version) (omega arith) in omega arith;
    small = let o = g.small in omega arith;
    few = let o = g.few in (omega arith, o.1, o.2);
    owing = λ off. let o = g.owing off in let a = t₂ q.version in let d = words (door (q.version + 1)) (omega arith) in omega arith;
    cleared = λ on. let o = g.cleared on in (o.0, words (door (q.version + 1)) (omega arith) ∙ o.1);
    bounds = g.bounds;
  }

  same_set : (f : Role P → ℕ) (vs : List (Role P)) (i : ℕ) (v w : Role P) → get_elem? vs i ≡ some v → f v ≡ f w → total f (set vs i w) ≡ total f vs
  same_set f vs i v w at same = let t = total_set f vs i v w at in omega arith

  -- one view changed, to one that counts as it
  pub gated_seat : (q : Plan P) (ws ws' : List ℕ) (vs : List (Role P)) (id : ℕ) (v w : Role P) → Gated q ws vs → ((k : ℕ) → k < 3 → get_or ws' k 0 ≡ get_or ws k 0) → get_elem? vs id ≡ some v → Counts v w → Gated q ws' (set vs id w)
  gated_seat q ws ws' vs id v w g words at c = gated_same q ws ws' vs (set vs id w) g words (λ k. same_set (pinned_at k) vs id v w at (c.at_version k)) (λ k. same_set (pinned_before k) vs id v w at (c.before k)) (same_set pins_of vs id v w at c.pins) (same_set lanes_of vs id v w at c.lanes)

  -- a seat was made that counts nothing
  pub gated_end : (q : Plan P) (ws : List ℕ) (vs : List (Role P)) (w : Role P) → Gated q ws vs → Counts Spent w → Gated q ws (vs ++ w ∷ [])
  gated_end q ws vs w g c = gated_same q ws ws vs (vs ++ w ∷ []) g (λ _ _. refl)
      (λ k. let t = total_end (pinned_at k) vs w in let z = c.at_version k in omega arith) (λ k. let t = total_end (pinned_before k) vs w in let z = c.before k in omega arith)
      (let t = total_end pins_of vs w in let z = c.pins in omega arith) (let t = total_end lanes_of vs w in let z = c.lanes in omega arith)

  pub counts_writer : (q q' : Plan P) → Counts (Writes q) (Writes q')
  counts_writer q q' = record { at_version = λ c. refl; before = λ c. refl; pins = refl; lanes = refl }

  pub counts_lane : (l l' : Visit P) → l'.pin ≡ l.pin → l'.pins ≡ l.pins → Counts (Reads l) (Reads l')
  counts_lane l l' pin pins = record { at_version = λ c. ap (is_at c) (sym pin); before = λ c. ap (is_before c) (sym pin); pins = sym pins; lanes = refl }

  -- what the gate says nothing of
  pub gated_more : (q : Plan P) (ws : List ℕ) (vs : List (Role P)) (hs : List (List P)) (committed next : List P) (words : List ℕ) (staged : List Bool) (ls ms : List ℕ) (es : List (Entry P)) (hand : Option Reach) (fill : Option (Fill P)) → Gated q ws vs
      → Gated (record q { history = hs; committed = committed; next = next; words = words; staged = staged; found = ls; met = ms; heard = es; hand = hand; fill = fill }) ws vs
  gated_more q ws vs hs committed next words staged ls ms es hand fill g = record { arrivals = g.arrivals; gate = g.gate; counted = g.counted; small = g.small; few = g.few; owing = g.owing; cleared = g.cleared; bounds = g.bounds }

  few_pins : (q : Plan P) (t : Ties) (j : ℕ) (d : Role P) → Knows q t j d → pins_of d ≤ 134217728 * lanes_of d
  few_pins q t j Spent k = omega arith
  few_pins q t j (Told x) k = omega arith
  few_pins q t j (Reads l) k = let p = k.pins in omega arith
  few_pins q t j (Writes w) k = omega arith

  pub few_arrivals : (q : Plan P) (t : Ties) (ws : List ℕ) (vs : List (Role P)) (g : Gated q ws vs) → ((j : ℕ) (v : Role P) → get_elem? vs j ≡ some v → Knows q t j v) → g.arrivals ≤ 2147483648
  few_arrivals q t ws vs g each = let most = total_most pins_of lanes_of vs (λ j d at. few_pins q t j d (each j d at)) in let a = g.small in let f = g.few in omega arith

  -- a lane's step: the word i becomes x, and the view l becomes l'
  gated_lane : (q : Plan P) (ws : List ℕ) (vs : List (Role P)) (g : Gated q ws vs) (id i x a : ℕ) (l l' : Visit P) → get_elem? vs id ≡ some (Reads l)
      → get_or (set ws i x) 0 0 ≡ q.version * 4294967296 + a
      → a + (is_at q.version l.pin + get_or ws (door q.version) 0) ≡ g.arrivals + (is_at q.version l'.pin + get_or (set ws i x) (door q.version) 0)
      → a + l.pins ≤ g.arrivals + l'.pins
      → (q.drained ≡ false → is_before q.version l.pin + get_or ws (door (q.version + 1)) 0 ≡ is_before q.version l'.pin + get_or (set ws i x) (door (q.version + 1)) 0)
      → (q.reset ≡ true → get_or (set ws i x) (door (q.version + 1)) 0 ≡ get_or ws (door (q.version + 1)) 0)
      → Gated q (set ws i x) (set vs id (Reads l'))
  gated_lane q ws vs g id i x a l l' at gate counts room owes clear = record {
    arrivals = a;
    gate = gate;
    counted = let t = total_set (pinned_at q.version) vs id (Reads l) (Reads l') at in let old = g.counted in omega arith;
    small = let t = total_set pins_of vs id (Reads l) (Reads l') at in let old = g.small in omega arith;
    few = let t = total_set lanes_of vs id (Reads l) (Reads l') at in let old = g.few in (omega arith, old.1, old.2);
    owing = λ d. let t = total_set (pinned_before q.version) vs id (Reads l) (Reads l') at in let old = g.owing d in let o = owes d in omega arith;
    cleared = λ d. let old = g.cleared d in (old.0, clear d ∙ old.1);
    bounds = g.bounds;
  }

  pub gated_pin : (q : Plan P) (ws : List ℕ) (vs : List (Role P)) (g : Gated q ws vs) (id : ℕ) (l : Visit P) (xs : List P) → 3 ≤ length ws → g.arrivals ≤ 2147483648 → get_elem? vs id ≡ some (Reads l) → l.pin ≡ None
      → Gated q (set ws 0 ((get_or ws 0 0 + 1) % 18446744073709551616)) (set vs id (Reads (after_pin q.version xs l)))
  gated_pin q ws vs g id l xs wide few at free =
      let c : ℕ = q.version in let n : ℕ = get_or ws 0 0 in let x : ℕ = (n + 1) % 18446744073709551616 in let b = g.bounds in
      let up : x ≡ c * 4294967296 + (g.arrivals + 1) = gate_up n c g.arrivals g.gate b.0 few in
      let d₁ : get_or (set ws 0 x) (door c) 0 ≡ get_or ws (door c) 0 = get_or-set_other ws 0 (door c) x 0 (λ e. omega arith) in
      let d₂ : get_or (set ws 0 x) (door (c + 1)) 0 ≡ get_or ws (door (c + 1)) 0 = get_or-set_other ws 0 (door (c + 1)) x 0 (λ e. omega arith) in
      let f₁ : is_at c l.pin ≡ 0 = ap (is_at c) free in let f₂ : is_before c l.pin ≡ 0 = ap (is_before c) free in
      let g₁ : is_at c (Some c) ≡ 1 = at_same c in let g₂ : is_before c (Some c) ≡ 0 = before_else c c (λ e. omega arith) in
      let first : get_or (set ws 0 x) 0 0 ≡ x = get_or-set_same ws 0 x 0 (omega arith) in
      gated_lane q ws vs g id 0 x (g.arrivals + 1) l (after_pin c xs l) at (first ∙ up) (omega arith) (omega arith) (λ d. omega arith) (λ d. d₂)

  -- the departures of a version that is pinned are fewer than 2^64 - 1
  pub gated_unpin : (q : Plan P) (ws : List ℕ) (vs : List (Role P)) (g : Gated q ws vs) (id : ℕ) (l : Visit P) (p : ℕ) → 3 ≤ length ws → g.arrivals ≤ 2147483648 → get_elem? vs id ≡ some (Reads l) → l.pin ≡ Some p → IsRead q p
      → Gated q (set ws (door p) ((get_or ws (door p) 0 + 1) % 18446744073709551616)) (set vs id (Reads (after_unpin l)))
  gated_unpin q ws vs g id l p wide few at here read =
      let c : ℕ = q.version in let b = g.bounds in
      let x : ℕ = (get_or ws (door p) 0 + 1) % 18446744073709551616 in
      let first : get_or (set ws (door p) x) 0 0 ≡ get_or ws 0 0 = get_or-set_other ws (door p) 0 x 0 (λ e. omega arith) in
      let mine : get_or (set ws (door p) x) (door p) 0 ≡ x = get_or-set_same ws (door p) x 0 (omega arith) in
      let f₁ : is_at c l.pin ≡ is_at c (Some p) = ap (is_at c) here in let f₂ : is_before c l.pin ≡ is_before c (Some p) = ap (is_before c) here in
      ⊎_elim
      (λ (e : p ≡ c).
      let o₁ = one_of (pinned_at c) vs id (Reads l) at in
      let g₁ : is_at c (Some p) ≡ 1 = ap (λ (k : ℕ). is_at c (Some k)) e ∙ at_same c in let g₂ : is_before c (Some p) ≡ 0 = before_else c p (λ w. omega arith) in
      let d₁ : get_or (set ws (door p) x) (door c) 0 ≡ x = ap (λ (k : ℕ). get_or (set ws (door p) x) (door k) 0) (sym e) ∙ mine in
      let d₂ : get_or (set ws (door p) x) (door (c + 1)) 0 ≡ get_or ws (door (c + 1)) 0 = get_or-set_other ws (door p) (door (c + 1)) x 0 (λ w. omega arith) in
      let n : get_or ws (door p) 0 ≡ get_or ws (door c) 0 = ap (λ (k : ℕ). get_or ws (door k) 0) e in
      let old = g.counted in let y : x ≡ get_or ws (door c) 0 + 1 = omega arith in
      gated_lane q ws vs g id (door p) x g.arrivals l (after_unpin l) at (first ∙ g.gate) (omega arith) (omega arith) (λ d. omega arith) (λ d. d₂))
      (λ (t : (p + 1 ≡ c) × (q.drained ≡ false)).
      let o₂ = one_of (pinned_before c) vs id (Reads l) at in let e : p + 1 ≡ c = t.0 in
      let g₁ : is_at c (Some p) ≡ 0 = at_else c p (λ w. omega arith) in let g₂ : is_before c (Some p) ≡ 1 = before_same c p e in
      let i : door (c + 1) ≡ door p = omega arith in
      let d₁ : get_or (set ws (door p) x) (door c) 0 ≡ get_or ws (door c) 0 = get_or-set_other ws (door p) (door c) x 0 (λ w. omega arith) in
      let d₂ : get_or (set ws (door p) x) (door (c + 1)) 0 ≡ x = ap (λ (k : ℕ). get_or (set ws (door p) x) k 0) i ∙ mine in
      let n : get_or ws (door (c + 1)) 0 ≡ get_or ws (door p) 0 = ap (λ (k : ℕ). get_or ws k 0) i in
      let old = g.owing t.1 in let y : x ≡ get_or ws (door (c + 1)) 0 + 1 = omega arith in
      gated_lane q ws vs g id (door p) x g.arrivals l (after_unpin l) at (first ∙ g.gate) (omega arith) (omega arith) (λ d. omega arith)
      (λ d. not_both q.drained (g.cleared d).0 t.1))
      read

  shift_role : (c : ℕ) (v : Role P) → pinned_at c v ≡ pinned_before (c + 1) v
  shift_role c Spent = refl
  shift_role c (Told x) = refl
  shift_role c (Reads l) = shift c l.pin
  shift_role c (Writes w) = refl

  not_ahead : (q : Plan P) (st : List P) (o : Option ℕ) → IsPin q st o → is_at (q.version + 1) o ≡ 0
  not_ahead q st None k = refl
  not_ahead q st (Some p) k = at_else (q.version + 1) p (λ w. ⊎_elim (λ (e : p ≡ q.version). omega arith) (λ (t : (p + 1 ≡ q.version) × (q.drained ≡ false)). let e = t.0 in omega arith) k.0)

  none_ahead : (q : Plan P) (t : Ties) (j : ℕ) (v : Role P) → Knows q t j v → pinned_at (q.version + 1) v ≡ 0
  none_ahead q t j Spent k = refl
  none_ahead q t j (Told x) k = refl
  none_ahead q t j (Reads l) k = not_ahead q l.state l.pin k.pin
  none_ahead q t j (Writes w) k = refl

  pub gated_commit : (q : Plan P) (t : Ties) (ws : List ℕ) (vs : List (Role P)) (g : Gated q ws vs) (id : ℕ) → 3 ≤ length ws → ((j : ℕ) (v : Role P) → get_elem? vs j ≡ some v → Knows q t j v) → get_elem? vs id ≡ some (Writes q) → q.reset ≡ true → q.version + 1 < 2147483648
      → Gated (after_commit (get_or ws 0 0) q) (set ws 0 ((q.version + 1) * 4294967296)) (set vs id (Writes (after_commit (get_or ws 0 0) q)))
  gated_commit q t ws vs g id wide each at ready room =
      let c : ℕ = q.version in let n : ℕ = get_or ws 0 0 in let x : ℕ = (c + 1) * 4294967296 in let few = few_arrivals q t ws vs g each in let gate = g.gate in
      let clear = g.cleared ready in let q' : Plan P = after_commit n q in
      let none : total (pinned_at (c + 1)) vs ≡ 0 = total_none (pinned_at (c + 1)) vs (λ j v here. none_ahead q t j v (each j v here)) in
      let moved : total (pinned_at c) vs ≡ total (pinned_before (c + 1)) vs = total_same (pinned_at c) (pinned_before (c + 1)) vs (λ j v _. shift_role c v) in
      let first : get_or (set ws 0 x) 0 0 ≡ x = get_or-set_same ws 0 x 0 (omega arith) in
      let d₁ : get_or (set ws 0 x) (door (c + 1)) 0 ≡ get_or ws (door (c + 1)) 0 = get_or-set_other ws 0 (door (c + 1)) x 0 (λ w. omega arith) in
      let i : door (c + 1 + 1) ≡ door c = omega arith in
      let d₂ : get_or (set ws 0 x) (door (c + 1 + 1)) 0 ≡ get_or ws (door c) 0 = ap (λ (k : ℕ). get_or (set ws 0 x) k 0) i ∙ get_or-set_other ws 0 (door c) x 0 (λ w. omega arith) in
      let old = g.counted in let owed : n % 4294967296 ≡ g.arrivals = omega arith in
      let t₁ : total (pinned_at (c + 1)) (set vs id (Writes q')) ≡ total (pinned_at (c + 1)) vs = same_set (pinned_at (c + 1)) vs id (Writes q) (Writes q') at refl in
      let t₂ : total (pinned_before (c + 1)) (set vs id (Writes q')) ≡ total (pinned_before (c + 1)) vs = same_set (pinned_before (c + 1)) vs id (Writes q) (Writes q') at refl in
      let t₃ : total pins_of (set vs id (Writes q')) ≡ total pins_of vs = same_set pins_of vs id (Writes q) (Writes q') at refl in
      let t₄ : total lanes_of (set vs id (Writes q')) ≡ total lanes_of vs = same_set lanes_of vs id (Writes q) (Writes q') at refl in
      record {
        arrivals = 0;
        gate = omega arith;
        counted = omega arith;
        small = omega arith;
        few = let o = g.few in (omega arith, o.1, o.2);
        owing = λ _. omega arith;
        cleared = λ no. not_both false no refl;
        bounds = (room, omega arith);
      }

  -- a load that leaves all words: `drained` may become true where no lane is pinned before the current version
  pub gated_drain : (q : Plan P) (ws ws' : List ℕ) (vs : List (Role P)) (id : ℕ) (b : Bool) (o : ℕ) (ls : List ℕ) → Gated q ws vs → ((k : ℕ) → k < 3 → get_or ws' k 0 ≡ get_or ws k 0) → get_elem? vs id ≡ some (Writes q) → (b ≡ false → (q.drained ≡ false) × (o ≡ q.owed)) → (q.reset ≡ true → b ≡ true) → o < 4294967296
      → Gated (record q { drained = b; owed = o; found = ls }) ws' (set vs id (Writes (record q { drained = b; owed = o; found = ls })))
  gated_drain q ws ws' vs id b o ls g words at not done few =
      let h = gated_seat q ws ws' vs id (Writes q) (Writes (record q { drained = b; owed = o; found = ls })) g words at (counts_writer q (record q { drained = b; owed = o; found = ls })) in
      record { arrivals = h.arrivals; gate = h.gate; counted = h.counted; small = h.small; few = h.few; owing = λ d. (not d).1 ∙ h.owing (not d).0; cleared = λ r. (done r, (h.cleared r).1); bounds = (h.bounds.0, few) }

  pub gated_reset : (q : Plan P) (ws : List ℕ) (vs : List (Role P)) (id : ℕ) (g : Gated q ws vs) → 3 ≤ length ws → get_elem? vs id ≡ some (Writes q) → q.drained ≡ true
      → Gated (record q { reset = true }) (set ws (door (q.version + 1)) 0) (set vs id (Writes (record q { reset = true })))
  gated_reset q ws vs id g wide at ready =
      let c : ℕ = q.version in let i : ℕ = door (c + 1) in let old = g.counted in let q' : Plan P = record q { reset = true } in
      let first : get_or (set ws i 0) 0 0 ≡ get_or ws 0 0 = get_or-set_other ws i 0 0 0 (λ w. omega arith) in
      let d₁ : get_or (set ws i 0) (door c) 0 ≡ get_or ws (door c) 0 = get_or-set_other ws i (door c) 0 0 (λ w. omega arith) in
      let t₁ : total (pinned_at c) (set vs id (Writes q')) ≡ total (pinned_at c) vs = same_set (pinned_at c) vs id (Writes q) (Writes q') at refl in
      let t₃ : total pins_of (set vs id (Writes q')) ≡ total pins_of vs = same_set pins_of vs id (Writes q) (Writes q') at refl in
      let t₄ : total lanes_of (set vs id (Writes q')) ≡ total lanes_of vs = same_set lanes_of vs id (Writes q) (Writes q') at refl in
      record {
        arrivals = g.arrivals;
        gate = first ∙ g.gate;
        counted = omega arith;
        small = let o = g.small in omega arith;
        few = let o = g.few in (omega arith, o.1, o.2);
        owing = λ off. not_both q.drained ready off;
        cleared = λ _. (ready, get_or-set_same ws i 0 0 (omega arith));
        bounds = g.bounds;
      }
