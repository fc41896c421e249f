-- Which event of the world each step is.
use Rattle.std.specs.Prelude.{◌≡◌, ℕ, ◌+◌, ◌<◌, Bool, true, false, List, [], ◌∷◌, ◌++◌, length, replicate, slice_get, slice_set, slice_index, Option, Some, None}
use mathlib.Core.Option.{some}
use lib.ListN.{get_elem?}
use Rattle.std.specs.declared.sync.Arc.{Arc}
use Rattle.atomic_table.specs.Table.{State}
use Rattle.heap_world.specs.World.{PureWorld, PureEvent, begin, stage, fill, publish, commit, roll_back, end, pin, read, unpin, drain, Allowed, applied}
use Rattle.entity_heap.specs.declared.board.Entry.{Entry}
use Rattle.entity_heap.specs.declared.board.Hold.{Hold}
use Rattle.entity_heap.specs.declared.board.Fill.{Fill}
use Rattle.entity_heap.specs.declared.board.Note.{Note}
use Rattle.entity_heap.specs.declared.board.Plan.{Plan}
use Rattle.entity_heap.specs.declared.board.Visit.{Visit}
use Rattle.entity_heap.specs.declared.board.Role.{Role}
use Rattle.entity_heap.specs.declared.board.Role.TheVariants.{Spent, Told, Reads, Writes}
use Rattle.entity_heap.specs.Rule.{door, is_staged}
use Rattle.entity_heap.specs.Plans.{after_commit, after_load, after_drain, fill_at, reaching, filling_on, staging, rolling, after_pin, after_unpin, after_look, new_visit}
use Rattle.entity_heap.specs.Worlds.{Own, IsWorldOf}

module _ {P : Type 0} where
  -- the event is allowed, and what follows stands for the world after it
  abbrev pub Happens : PureWorld P → PureEvent P → Own P → Plan P → List (Role P) → Type 0
  Happens w event own q views = Allowed w event × IsWorldOf own q views (applied w event)

  -- what the writer does beside its seat
  pub record AreOwn (own : Own P) (q : Plan P) (views : List (Role P)) (w : PureWorld P) : Type 0 where
    pub begins : own.is_open ≡ false → q.drained ≡ true → Happens w begin (record { is_open = true; begun = own.begun }) q views
    pub stages : (e : ℕ) (x : P) → e < q.entities → own.is_open ≡ true → own.begun ≡ None → Happens w (stage e x) (record { is_open = own.is_open; begun = Some (e, x) }) q views
    pub ends : own.is_open ≡ true → own.begun ≡ None → ((e : ℕ) → is_staged q e ≡ false) → Happens w end (record { is_open = false; begun = own.begun }) q views

  -- the steps of the lane with the view l, whose seat is id
  pub record AreLanes (own : Own P) (q : Plan P) (views : List (Role P)) (w : PureWorld P) (id : ℕ) (l : Visit P) : Type 0 where
    pub pins : (xs : List P) → l.pin ≡ None → Happens w (pin l.number) own q (slice_set views id (Reads (after_pin q.version xs l)))
    pub unpins : (p : ℕ) → l.pin ≡ Some p → Happens w (unpin l.number) own q (slice_set views id (Reads (after_unpin l)))
    pub looks : (c : ℕ) → IsWorldOf own q (slice_set views id (Reads (after_look c l))) w
    pub takes : (p e : ℕ) (h : Hold) → l.pin ≡ Some p → e < q.entities → Happens w (read l.number e) own q (slice_set views id (Reads (record l { hold = Some h })))
    pub gives : IsWorldOf own q (slice_set views id (Reads (record l { hold = None }))) w
    -- it tells the writer, and hears from it
    pub tells : (x : Note P) → IsWorldOf own q (views ++ Told x ∷ []) w
    pub hears : (floor other : ℕ) (x : Note P) → get_elem? views other ≡ some (Told x) → IsWorldOf own q (slice_set (slice_set views id (Reads (record l { floor = floor }))) other Spent) w

  -- the steps of the writer, whose seat is id. found is the word of the departures from the version before
  pub record AreWriters (own : Own P) (q : Plan P) (views : List (Role P)) (w : PureWorld P) (id found : ℕ) : Type 0 where
    pub commits : (n : ℕ) → own.is_open ≡ true → own.begun ≡ None → Happens w commit (record { is_open = false; begun = own.begun }) (after_commit n q) (slice_set views id (Writes (after_commit n q)))
    pub drains : q.drained ≡ false → found ≡ q.owed → Happens w drain own (after_drain found q) (slice_set views id (Writes (after_drain found q)))
    pub loads : IsWorldOf own (after_load found q) (slice_set views id (Writes (after_load found q))) w
    pub resets : let q' : Plan P = record q { reset = true } in IsWorldOf own q' (slice_set views id (Writes q')) w
    pub reaches : (e k : ℕ) (x : P) → own.begun ≡ Some (e, x) → let q' = reaching q (fill_at q.fill e) k in IsWorldOf own q' (slice_set views id (Writes q')) w
    pub fills : (e : ℕ) (x : P) (f : Fill P) → own.begun ≡ Some (e, x) → q.fill ≡ Some f → length f.payloads < q.lanes → Happens w (fill (length f.payloads) e) own (filling_on q f x) (slice_set views id (Writes (filling_on q f x)))
    pub publishes : (e : ℕ) (x : P) (f : Fill P) → own.begun ≡ Some (e, x) → q.fill ≡ Some f → length f.payloads ≡ q.lanes → Happens w (publish e) (record { is_open = own.is_open; begun = None }) (staging q e x) (slice_set views id (Writes (staging q e x)))
    pub rolls : (e : ℕ) → own.begun ≡ None → e < q.entities → is_staged q e ≡ true → Happens w (roll_back e) own (rolling q e) (slice_set views id (Writes (rolling q e)))
    -- it makes a lane
    pub makes : q.made < q.lanes → let q' : Plan P = record q { made = q.made + 1 } in IsWorldOf own q' (slice_set views id (Writes q') ++ Reads (new_visit q) ∷ []) w
    -- it tells a lane, learns from it, and looks at the gate
    pub tells : (x : Note P) → IsWorldOf own q (views ++ Told x ∷ []) w
    pub learns : (met : List ℕ) (heard : List (Entry P)) (other : ℕ) (x : Note P) → get_elem? views other ≡ some (Told x) → let q' : Plan P = record q { met = met; heard = heard } in IsWorldOf own q' (slice_set (slice_set views id (Writes q')) other Spent) w
    pub looks : IsWorldOf own q (slice_set views id (Writes q)) w

module _ {P Z : Type 0} where
  -- a table that stands for a world does so after each step, for the world after the step's event
  pub record AreEvents (s : State (Option (Arc P Z)) (Role P)) (own : Own P) (q : Plan P) (w : PureWorld P) : Type 0 where
    pub owns : AreOwn own q s.views w
    pub lanes : (id : ℕ) (l : Visit P) → get_elem? s.views id ≡ some (Reads l) → AreLanes own q s.views w id l
    pub writers : (id : ℕ) → get_elem? s.views id ≡ some (Writes q) → AreWriters own q s.views w id (slice_index s.words (door (q.version + 1)))
