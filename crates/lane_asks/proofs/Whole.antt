-- All asks, on lanes that were met before and after.
use Rattle.std.proofs.Common.{◌≡◌, ℕ, zero, suc, ◌+◌, ◌<◌, ◌≤◌, List, [], ◌∷◌, length, slice_get, refl, sym, ap, ◌∙◌, subst, arith, Some, None}
use Rattle.std.specs.List.{AllZip}
use Rattle.heap_core.specs.declared.traits.Program.{Ghosts}
use Rattle.entity_heap.specs.declared.board.Entry.{Entry}
use Rattle.entity_heap.specs.declared.board.Plan.{Plan}
use Rattle.entity_heap.specs.declared.board.Visit.{Visit}
use Rattle.entity_heap.specs.declared.heap.Heap.{Heap}
use Rattle.entity_heap.specs.declared.heap.Lane.{Lane}
use Rattle.entity_heap.specs.Rule.{AreStates}
use Rattle.entity_heap.specs.Lanes.{visit_in, IsLaneOf, AreLanesOf, AreMet}
use Rattle.entity_heap.proofs.Lists.{get_short, same_some, get_there}
use Rattle.lane_asks.specs.Each.{AllDone}
use Rattle.lane_asks.specs.Dealing.{dealt, IsOpen, AreOpen, AreRows, AreFull}
use Rattle.lane_asks.specs.Telling.{AreTold, RowTold, AllTold, MayPin, IsReady, IsSameLane, HasTold, AllHaveTold, IsToldFrom}
use Rattle.lane_asks.specs.declared.dealing.Row.{Row}
use Rattle.lane_asks.specs.declared.told.Told.{Told}
use Rattle.lane_asks.proofs.Dealt.{zip_dealt}
use Rattle.lane_asks.proofs.Telling.{told_long, has_told, IsRecorded, are_recorded}

module _ {A B : Type 0} (F : A → B → Type 0) where
  pub zip_of : (xs : List A) (ys : List B) → length ys ≡ length xs → ((k : ℕ) (x : A) (y : B) → slice_get xs k ≡ Some x → slice_get ys k ≡ Some y → F x y) → AllZip F xs ys
  zip_of [] [] long all = tt
  zip_of [] (y ∷ ys) long all = absurd (omega arith)
  zip_of (x ∷ xs) [] long all = absurd (omega arith)
  zip_of (x ∷ xs) (y ∷ ys) long all = (all 0 x y refl refl, zip_of xs ys (omega arith) (λ k. all (suc k)))

  pub zip_long : (xs : List A) (ys : List B) → AllZip F xs ys → length ys ≡ length xs
  zip_long [] [] all = refl
  zip_long [] (y ∷ ys) all = absurd all
  zip_long (x ∷ xs) [] all = absurd all
  zip_long (x ∷ xs) (y ∷ ys) all = let l = zip_long xs ys all.1 in omega arith

  pub zip_back : (xs : List A) (ys : List B) (k : ℕ) (y : B) → AllZip F xs ys → slice_get ys k ≡ Some y → (x : A) × (slice_get xs k ≡ Some x) × F x y
  zip_back [] [] k y all at = absurd (let n : None ≡ Some y = at in cc)
  zip_back [] (z ∷ ys) k y all at = absurd all
  zip_back (x ∷ xs) [] k y all at = absurd all
  zip_back (x ∷ xs) (z ∷ ys) zero y all at = let e : Some z ≡ Some y = at in (x, refl, subst (λ (w : B). F x w) (cc) all.0)
  zip_back (x ∷ xs) (z ∷ ys) (suc k) y all at = zip_back xs ys k y all.1 at

  pub zip_weaker : (H : A → B → Type 0) → ((x : A) (y : B) → F x y → H x y) → (xs : List A) (ys : List B) → AllZip F xs ys → AllZip H xs ys
  zip_weaker H f [] [] all = tt
  zip_weaker H f [] (y ∷ ys) all = absurd all
  zip_weaker H f (x ∷ xs) [] all = absurd all
  zip_weaker H f (x ∷ xs) (y ∷ ys) all = (f x y all.0, zip_weaker H f xs ys all.1)

module _ {L A X : Type 0} (F : L → L → A → A → X → X → Type 0) where
  -- what was done at the place k
  pub record At (k : ℕ) (ms : List L) (before now : List A) (rs ts : List X) (l : L) : Type 0 where
    pub lane : L
    pub asker : A
    pub after : A
    pub row : X
    pub told : X
    pub lane_at : slice_get ms k ≡ Some lane
    pub asker_at : slice_get before k ≡ Some asker
    pub after_at : slice_get now k ≡ Some after
    pub row_at : slice_get rs k ≡ Some row
    pub told_at : slice_get ts k ≡ Some told
    pub done : F l lane asker after row told

  pub done_at : (ls ms : List L) (before now : List A) (rs ts : List X) (k : ℕ) (l : L) → AllDone F ls ms before now rs ts → slice_get ls k ≡ Some l → At k ms before now rs ts l
  done_at [] ms before now rs ts k l all at = absurd (let n : None ≡ Some l = at in cc)
  done_at (x ∷ ls) (m ∷ ms) (a ∷ before) (b ∷ now) (r ∷ rs) (t ∷ ts) zero l all at =
      let e : Some x ≡ Some l = at in let i : x ≡ l = cc in
      record { lane = m; asker = a; after = b; row = r; told = t; lane_at = refl; asker_at = refl; after_at = refl; row_at = refl; told_at = refl; done = subst (λ (y : L). F y m a b r t) i all.0 }
  done_at (x ∷ ls) (m ∷ ms) (a ∷ before) (b ∷ now) (r ∷ rs) (t ∷ ts) (suc k) l all at =
      let o = done_at ls ms before now rs ts k l all.1 at in
      record { lane = o.lane; asker = o.asker; after = o.after; row = o.row; told = o.told; lane_at = o.lane_at; asker_at = o.asker_at; after_at = o.after_at; row_at = o.row_at; told_at = o.told_at; done = o.done }
  done_at (x ∷ ls) ms before now rs ts k l all at = absurd all

  pub done_long : (ls ms : List L) (before now : List A) (rs ts : List X) → AllDone F ls ms before now rs ts → (length ms ≡ length ls) × (length ts ≡ length ls) × (length rs ≡ length ls)
  done_long [] [] [] [] [] [] all = (refl, refl, refl)
  done_long (x ∷ ls) (m ∷ ms) (a ∷ before) (b ∷ now) (r ∷ rs) (t ∷ ts) all = let o = done_long ls ms before now rs ts all.1 in (ap suc o.0, ap suc o.1, ap suc o.2)
  done_long ls ms before now rs ts all = absurd all

module _ {P : Type 0} {G : Ghosts P} where
  -- the lanes and their rows are ready
  pub all_ready : {Q X : Type 0} (h : Heap P) (asks : List Q) (ls : List (Lane P G)) (rows : List (Row X)) → AreLanesOf h ls → ((k : ℕ) (l : Lane P G) → slice_get ls k ≡ Some l → (visit_in l).pins + length asks < 134217728) → AreOpen rows → length rows ≡ length ls → AllZip (IsReady h asks) ls rows
  all_ready {Q} {X} h asks ls rows lanes room opened long = zip_of (IsReady h asks) ls rows long (λ k l r at row.
      let o = opened k r row in let few : k < length rows = get_short rows k r row in let place : r.place ≡ k = o.0 in let many : r.many ≡ length rows = o.1 in
      (((lanes k l at).0, room k l at), (omega arith, o.2)))

  -- the same lanes, in their order
  pub same_lanes : (h : Heap P) (ls ms : List (Lane P G)) → AreLanesOf h ls → AllZip (IsSameLane h) ls ms → AreLanesOf h ms
  same_lanes h ls ms lanes same = λ k m at. let o = zip_back (IsSameLane h) ls ms k m same at in (o.2.0, o.2.1 ∙ (lanes k o.0 o.1).1)

module _ {P A Q X : Type 0} (works : Q → X → A → A → Type 0) where
  before_met : (f g : ℕ) (old v new : Visit P) (a b : A) (qs : List Q) (ts : List (Told X)) → v ≡ record old { floor = f } → HasTold works v new a b qs ts → HasTold works old (record new { floor = g }) a b qs ts
  before_met f g old v new a b qs ts is has = let here : HasTold works (record old { floor = f }) new a b qs ts = subst (λ (w : Visit P). HasTold works w new a b qs ts) is has in record { number = here.number; pins = here.pins; rises = here.rises; seen = here.seen; worked = here.worked }

module _ {P A Q X : Type 0} (answers : List P → Q → X → Type 0) (works : Q → X → A → A → Type 0) {G : Ghosts P} where
  -- the rows are full
  pub all_full : (asks : List Q) (ls ms : List (Lane P G)) (before now : List A) (rows after : List (Row (Told X))) → AllTold answers works asks ls ms before now rows after → AreOpen rows → AreFull asks after
  all_full asks ls ms before now rows after all opened = λ k t at.
      let F = RowTold answers works asks in let long = done_long F ls ms before now rows after all in let lt = long.1 in
      let low : k < length after = get_short after k t at in let l = get_there ls k (omega arith) in
      let o = done_at F ls ms before now rows after k l.0 all l.1 in let place = opened k o.row o.row_at in
      let same : o.told ≡ t = same_some (slice_get after k) o.told t o.told_at at in
      let many : o.row.many ≡ length after = place.1 ∙ long.2 ∙ sym long.1 in
      ap (λ (r : Row (Told X)). length r.told.items) (sym same) ∙ told_long answers works (visit_in l.0) (visit_in o.lane) o.asker o.after (dealt o.row.many o.row.place asks) o.told.told.items o.done ∙ (λ j. length (dealt (many j) (place.0 j) asks))

  -- what was answered on lane k, where these are the rows of all
  pub told_there : (asks : List Q) (all : List (Told X)) (ls ms : List (Lane P G)) (before now : List A) (rows after : List (Row (Told X))) (k : ℕ) (l : Lane P G) (told : AllTold answers works asks ls ms before now rows after) → AreOpen rows → AreRows all after → (at : slice_get ls k ≡ Some l)
      → let o = done_at (RowTold answers works asks) ls ms before now rows after k l told at in AreTold answers works (visit_in l) (visit_in o.lane) o.asker o.after (dealt (length ls) k asks) (dealt (length ls) k all)
  told_there asks all ls ms before now rows after k l told opened are at =
      let F = RowTold answers works asks in let long = done_long F ls ms before now rows after told in let o = done_at F ls ms before now rows after k l told at in let place = opened k o.row o.row_at in
      let items : o.told.told.items ≡ dealt (length ls) k all = are k o.told o.told_at ∙ ap (λ (n : ℕ). dealt n k all) long.1 in
      let mine : dealt o.row.many o.row.place asks ≡ dealt (length ls) k asks = (λ j. dealt ((place.1 ∙ long.2) j) (place.0 j) asks) in
      subst (λ (p : List Q × List (Told X)). AreTold answers works (visit_in l) (visit_in o.lane) o.asker o.after p.0 p.1) (λ j. (mine j, items j)) o.done

  -- each ask was answered from a state of the writer that met the lanes after it
  pub all_from : (asks : List Q) (all : List (Told X)) (q q2 : Plan P) (l0 ls ms l3 : List (Lane P G)) (before now : List A) (rows after : List (Row (Told X))) → 0 < length ls → length l0 ≡ length ls → AreMet q l0 ls → AreMet q2 ms l3
      → AllTold answers works asks ls ms before now rows after → AreOpen rows → AreRows all after → length all ≡ length asks → AllZip (IsToldFrom answers q2.history q.version q2.version) asks all
  all_from asks all q q2 l0 ls ms l3 before now rows after some many met met2 told opened are long =
      zip_dealt (IsToldFrom answers q2.history q.version q2.version) (length ls) asks all some (sym long) (λ k small.
      let w = get_there l0 k (omega arith) in let m = met k w.0 w.1 in let l : Lane P G = m.0 in
      let o = done_at (RowTold answers works asks) ls ms before now rows after k l told m.1 in let n = met2 k o.lane o.lane_at in
      let floor : (visit_in l).floor ≡ q.version = ap (λ (v : Visit P). v.floor) m.2 in
      let kept : AreStates q2 (visit_in o.lane).entries = n.3 in
      zip_weaker (IsRecorded answers works (visit_in o.lane).entries q.version) (IsToldFrom answers q2.history q.version q2.version)
      (λ ask t r. let s = kept r.place (record { version = t.version; state = r.state }) r.entry in record { within = (r.later, s.0); state = r.state; committed = s.1; answer = r.answer })
      (dealt (length ls) k asks) (dealt (length ls) k all)
      (are_recorded answers works q.version (visit_in l) (visit_in o.lane) o.asker o.after (dealt (length ls) k asks) (dealt (length ls) k all) (omega arith) (told_there asks all ls ms before now rows after k l told opened are m.1)))

  -- each lane has its asks, and the writer's version
  pub all_have : (asks : List Q) (all : List (Told X)) (q q2 : Plan P) (l0 ls ms l3 : List (Lane P G)) (before now : List A) (rows after : List (Row (Told X))) → length l0 ≡ length ls → AreMet q l0 ls → AreMet q2 ms l3
      → AllTold answers works asks ls ms before now rows after → AreOpen rows → AreRows all after → AllHaveTold works q2.version l0 l3 before now asks all
  all_have asks all q q2 l0 ls ms l3 before now rows after many met met2 told opened are = λ k l a at asker.
      let m = met k l at in let v : Lane P G = m.0 in
      let o = done_at (RowTold answers works asks) ls ms before now rows after k v told m.1 in let n = met2 k o.lane o.lane_at in
      let same : o.asker ≡ a = same_some (slice_get before k) o.asker a o.asker_at asker in
      let has = has_told answers works (visit_in v) (visit_in o.lane) o.asker o.after (dealt (length ls) k asks) (dealt (length ls) k all) (told_there asks all ls ms before now rows after k v told opened are m.1) in
      let there : HasTold works (visit_in l) (visit_in n.0) a o.after (dealt (length l0) k asks) (dealt (length l0) k all) =
      subst (λ (p : ℕ × A). HasTold works (visit_in l) (visit_in n.0) p.1 o.after (dealt p.0 k asks) (dealt p.0 k all)) (λ j. (sym many j, same j))
      (subst (λ (w : Visit P). HasTold works (visit_in l) w o.asker o.after (dealt (length ls) k asks) (dealt (length ls) k all)) (sym n.2)
      (before_met works q.version q2.version (visit_in l) (visit_in v) (visit_in o.lane) o.asker o.after (dealt (length ls) k asks) (dealt (length ls) k all) m.2 has)) in
      (n.0, o.after, n.1, o.after_at, there, ap (λ (w : Visit P). w.floor) n.2)
