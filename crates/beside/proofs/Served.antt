-- What was answered on lanes, by what they have pinned and seen.
use Rattle.std.proofs.Common.{◌≡◌, ◌⊎◌, inl, inr, ⊎_elim, ℕ, zero, suc, ◌+◌, ◌-◌, ◌^◌, ◌<◌, ◌≤◌, List, [], ◌∷◌, ◌++◌, length, map, set, get_or, slice_get, refl, sym, ap, ◌∙◌, subst, arith, Some, None}
use Rattle.std.proofs.lemmas.Bool.{cases_lt}
use Rattle.heap_core.specs.Meaning.{Meaning}
use Rattle.heap_core.specs.declared.traits.Program.{Ghosts}
use Rattle.entity_heap.specs.declared.board.Entry.{Entry}
use Rattle.entity_heap.specs.declared.board.Visit.{Visit}
use Rattle.entity_heap.specs.declared.heap.Heap.{Heap}
use Rattle.entity_heap.specs.declared.heap.Lane.{Lane}
use Rattle.entity_heap.specs.declared.heap.Writer.{Writer}
use Rattle.entity_heap.specs.Rule.{AreStates}
use Rattle.entity_heap.specs.Lanes.{visit_in, IsLaneOf, AreLanesOf}
use Rattle.entity_heap.specs.Writers.{plan_in, meaning_in}
use Rattle.entity_heap.proofs.Lists.{get_there, get_short, get_longer, get_last, same_some}
use Rattle.lane_asks.specs.Dealing.{dealt}
use Rattle.lane_asks.specs.Telling.{IsTold, HasTold, AllHaveTold, RisesFrom, last_of, versions}
use Rattle.lane_asks.specs.declared.told.Told.{Told}
use Rattle.lane_asks.proofs.Dealt.{dealt_same}
use Rattle.beside.specs.Uses.{LaneUse, use_after, lanes_after, NoneFalls, MayAnswer}
use Rattle.beside.specs.Server.{use_of, uses_of}
use Rattle.beside.proofs.Uses.{all_there, use_by, lanes_by, lanes_one}

module _ {A B : Type 0} (f : A → B) where
  map_long : (xs : List A) → length (map f xs) ≡ length xs
  map_long [] = refl
  map_long (x ∷ xs) = ap suc (map_long xs)

  map_get : (xs : List A) (k : ℕ) (x : A) → slice_get xs k ≡ Some x → slice_get (map f xs) k ≡ Some (f x)
  map_get [] k x at = absurd (let z : None ≡ Some x = at in cc)
  map_get (y ∷ xs) zero x at = let z : Some y ≡ Some x = at in let e : y ≡ x = cc in ap (λ (w : A). Some (f w)) e
  map_get (y ∷ xs) (suc k) x at = map_get xs k x at

  get_map : (xs : List A) (k : ℕ) (y : B) → slice_get (map f xs) k ≡ Some y → (x : A) × (slice_get xs k ≡ Some x) × (f x ≡ y)
  get_map [] k y at = absurd (let z : None ≡ Some y = at in cc)
  get_map (x ∷ xs) zero y at = let z : Some (f x) ≡ Some y = at in (x, refl, cc)
  get_map (x ∷ xs) (suc k) y at = get_map xs k y at

module _ {X : Type 0} where
  versions_long : (told : List (Told X)) → length (versions told) ≡ length told
  versions_long [] = refl
  versions_long (t ∷ told) = ap suc (versions_long told)

  -- the versions of those that come to a place are the versions that come to it
  versions_dealt : (n k : ℕ) (told : List (Told X)) → versions (dealt n k told) ≡ dealt n k (versions told)
  versions_dealt n k [] = refl
  versions_dealt n zero (t ∷ told) = ap (λ (vs : List ℕ). t.version ∷ vs) (versions_dealt n (n - 1) told)
  versions_dealt n (suc k) (t ∷ told) = versions_dealt n k told

-- ---- all lanes

module _ {P A Q X : Type 0} {G : Ghosts P} (works : Q → X → A → A → Type 0) where
  module _ (version : ℕ) (old new : List (Lane P G)) (before now : List A) (asks : List Q) (told : List (Told X)) where
    -- a lane before and after, by what is known of both
    has_use : (k : ℕ) (l m : Lane P G) (a b : A) → length told ≡ length asks → HasTold works (visit_in l) (visit_in m) a b (dealt (length old) k asks) (dealt (length old) k told) → use_of m ≡ use_after (use_of l) (dealt (length (uses_of old)) k (versions told))
    has_use k l m a b long has =
        let mine : versions (dealt (length old) k told) ≡ dealt (length (uses_of old)) k (versions told) = versions_dealt (length old) k told ∙ ap (λ (n : ℕ). dealt n k (versions told)) (sym (map_long use_of old)) in
        let few : length (versions (dealt (length old) k told)) ≡ length (dealt (length old) k asks) = versions_long (dealt (length old) k told) ∙ dealt_same (length old) k told asks long in
        let pins : (visit_in m).pins ≡ (visit_in l).pins + length (versions (dealt (length old) k told)) = has.pins ∙ ap (λ (n : ℕ). (visit_in l).pins + n) (sym few) in
        use_by (use_of l) (use_of m) (versions (dealt (length old) k told)) pins has.seen ∙ ap (use_after (use_of l)) mine

    -- the lanes have answered what was asked of them
    pub uses_have : length before ≡ length old → length new ≡ length old → length told ≡ length asks → AllHaveTold works version old new before now asks told → uses_of new ≡ lanes_after (uses_of old) (versions told)
    uses_have askers many long have =
        lanes_by (uses_of old) (uses_of new) (versions told) (map_long use_of new ∙ many ∙ sym (map_long use_of old)) (λ k u at.
        let o = get_map use_of old k u at in let short = get_short old k o.0 o.1 in let a = get_there before k (omega arith) in let h = have k o.0 a.0 o.1 a.1 in
        (use_of h.0, map_get use_of new k h.0 h.2, has_use k o.0 h.0 a.0 h.1 long h.4 ∙ ap (λ (v : LaneUse). use_after v (dealt (length (uses_of old)) k (versions told))) o.2))

    -- on none of them a version falls
    pub have_risen : length before ≡ length old → AllHaveTold works version old new before now asks told → NoneFalls (uses_of old) (versions told)
    have_risen askers have = λ k u at.
        let o = get_map use_of old k u at in let short = get_short old k o.0 o.1 in let a = get_there before k (omega arith) in let h = have k o.0 a.0 o.1 a.1 in
        let mine : versions (dealt (length old) k told) ≡ dealt (length (uses_of old)) k (versions told) = versions_dealt (length old) k told ∙ ap (λ (n : ℕ). dealt n k (versions told)) (sym (map_long use_of old)) in
        subst (λ (p : ℕ × List ℕ). RisesFrom p.0 p.1) (λ j. ((o.2 j).last, mine j)) h.4.rises

module _ {P : Type 0} {G : Ghosts P} where
  -- lanes that may answer so many more may pin so often
  pub may_pin : (asks : ℕ) (lanes now : List (Lane P G)) → lanes ≡ now → MayAnswer asks (uses_of lanes) → (k : ℕ) (l : Lane P G) → slice_get now k ≡ Some l → (visit_in l).pins + asks < 2 ^ 27
  may_pin asks lanes now same may k l at = all_there (λ u. u.pins + asks < 2 ^ 27) (uses_of lanes) k (use_of l) may (map_get use_of lanes k l (ap (λ (ls : List (Lane P G)). slice_get ls k) same ∙ at))

  -- ---- the first lane alone

  set_long : (lanes : List (Lane P G)) (m : Lane P G) → length (set lanes 0 m) ≡ length lanes
  set_long [] m = refl
  set_long (l ∷ lanes) m = refl

  set_uses : (lanes : List (Lane P G)) (l m : Lane P G) (v : ℕ) → slice_get lanes 0 ≡ Some l → use_of m ≡ use_after (use_of l) (v ∷ []) → uses_of (set lanes 0 m) ≡ lanes_after (uses_of lanes) (v ∷ [])
  set_uses [] l m v at once = absurd (let z : None ≡ Some l = at in cc)
  set_uses (x ∷ lanes) l m v at once =
      let z : Some x ≡ Some l = at in let e : x ≡ l = cc in
      ap (λ (u : LaneUse). u ∷ uses_of lanes) (once ∙ ap (λ (y : Lane P G). use_after (use_of y) (v ∷ [])) (sym e)) ∙ sym (lanes_one (use_of x) (uses_of lanes) v)

  set_lanes : (h : Heap P) (lanes : List (Lane P G)) (l m : Lane P G) → slice_get lanes 0 ≡ Some l → IsLaneOf h m → (visit_in m).number ≡ (visit_in l).number → AreLanesOf h lanes → AreLanesOf h (set lanes 0 m)
  set_lanes h [] l m at of number all k x there = absurd (let z : None ≡ Some l = at in cc)
  set_lanes h (y ∷ lanes) l m at of number all zero x there = let z : Some m ≡ Some x = there in let e : m ≡ x = cc in subst (λ (w : Lane P G). IsLaneOf h w × ((visit_in w).number ≡ 0)) e (of, number ∙ (all 0 l at).1)
  set_lanes h (y ∷ lanes) l m at of number all (suc k) x there = all (suc k) x there

  -- it is there
  pub first_there : (items lanes : List (Lane P G)) (l : Lane P G) → items ≡ lanes → 0 < length lanes → l ≡ get_or items 0 l → slice_get lanes 0 ≡ Some l
  first_there items lanes l is some here = there lanes some (subst (λ (ls : List (Lane P G)). l ≡ get_or ls 0 l) is here)
    where
      there : (lanes : List (Lane P G)) → 0 < length lanes → l ≡ get_or lanes 0 l → slice_get lanes 0 ≡ Some l
      there [] some here = absurd (omega arith)
      there (x ∷ lanes) some here = ap (λ (y : Lane P G). Some y) (sym here)

  -- another one stands in its place
  pub first_set : (items lanes new : List (Lane P G)) (m : Lane P G) → items ≡ lanes → new ≡ set items 0 m → new ≡ set lanes 0 m
  first_set items lanes new m is set_is = set_is ∙ ap (λ (ls : List (Lane P G)). set ls 0 m) is

  module _ (lanes new : List (Lane P G)) (l m : Lane P G) (is : new ≡ set lanes 0 m) (at : slice_get lanes 0 ≡ Some l) where
    -- they are as many
    pub first_long : length new ≡ length lanes
    first_long = ap (λ (ls : List (Lane P G)). length ls) is ∙ set_long lanes m

    -- it has answered one ask more
    pub first_uses : (v : ℕ) → use_of m ≡ use_after (use_of l) (v ∷ []) → uses_of new ≡ lanes_after (uses_of lanes) (v ∷ [])
    first_uses v once = ap uses_of is ∙ set_uses lanes l m v at once

    -- it is the same lane
    pub first_lanes : (h : Heap P) → IsLaneOf h m → (visit_in m).number ≡ (visit_in l).number → AreLanesOf h lanes → AreLanesOf h new
    first_lanes h of number all = subst (λ (ls : List (Lane P G)). AreLanesOf h ls) (sym is) (set_lanes h lanes l m at of number all)

  -- from a version that it doesn't know a later one of
  pub first_rises : (lanes : List (Lane P G)) (l : Lane P G) (v : ℕ) → slice_get lanes 0 ≡ Some l → (visit_in l).seen ≤ v → NoneFalls (uses_of lanes) (v ∷ [])
  first_rises lanes l v at low zero u there =
      let o = get_map use_of lanes 0 u there in let e : o.0 ≡ l = same_some (slice_get lanes 0) o.0 l o.1 at in
      (subst (λ (w : LaneUse). w.last ≤ v) o.2 (subst (λ (y : Lane P G). (visit_in y).seen ≤ v) (sym e) low), tt)
  first_rises lanes l v at low (suc k) u there = tt

-- ---- versions and their states

module _ {P : Type 0} where
  -- of states of which one was committed behind those that were there, or none, that of a version is the one before, or the last one
  pub of_either : (hs hs' : List (List P)) (v v' w : ℕ) (c c' x : List P) → slice_get hs v ≡ Some c → slice_get hs' v' ≡ Some c' → (v' ≡ v) ⊎ ((v' ≡ v + 1) × (hs' ≡ hs ++ c' ∷ [])) → (v ≤ w) × (w ≤ v') → slice_get hs' w ≡ Some x
      → ((w ≡ v) × (x ≡ c)) ⊎ ((w ≡ v') × (x ≡ c'))
  of_either hs hs' v v' w c c' x old new later within at = by (cases_lt w v') later
    where
      by : (w < v') ⊎ (v' ≤ w) → (v' ≡ v) ⊎ ((v' ≡ v + 1) × (hs' ≡ hs ++ c' ∷ [])) → ((w ≡ v) × (x ≡ c)) ⊎ ((w ≡ v') × (x ≡ c'))
      by (inl less) (inl same) = let a = within.0 in absurd (omega arith)
      by (inl less) (inr one) =
          let a = within.0 in let b = one.0 in let e : w ≡ v = omega arith in
          let there : slice_get hs' v ≡ Some c = ap (λ (l : List (List P)). slice_get l v) one.1 ∙ get_longer hs (c' ∷ []) v c old in
          inl (e, same_some (slice_get hs' v) x c (ap (slice_get hs') (sym e) ∙ at) there)
      by (inr more) same = let b = within.1 in let e : w ≡ v' = omega arith in inr (e, same_some (slice_get hs' v') x c' (ap (slice_get hs') (sym e) ∙ at) new)

module _ {P : Type 0} {G : Ghosts P} where
  -- the writer's last state is the one that is committed
  pub stands : (w : Writer P G) → slice_get (plan_in w).history (meaning_in w).version ≡ Some (meaning_in w).committed
  stands w = ap (slice_get (plan_in w).history) (sym w.gate.0) ∙ w.told.1 ∙ ap (λ (x : List P). Some x) w.states.0

module _ {P A Q X : Type 0} {G : Ghosts P} (answers : List P → Q → X → Type 0) (works : Q → X → A → A → Type 0) where
  -- An ask that was answered on a lane between two meetings with a writer was answered from the writer's last state.
  pub told_current : (w mid : Writer P G) (old new : Visit P) (before now : A) (ask : Q) (told : Told X) → IsTold answers works old new before now ask told → meaning_in mid ≡ meaning_in w → old.floor ≡ (meaning_in w).version → AreStates (plan_in mid) new.entries
      → (told.version ≡ (meaning_in w).version) × answers (meaning_in w).committed ask told.answer
  told_current w mid old new before now ask told one same floor states =
      let v = (meaning_in w).version in let q = plan_in mid in
      let entry : Entry P = record { version = told.version; state = one.state } in
      let e : new.entries ≡ old.entries ++ entry ∷ [] = ap (λ (l : Visit P). l.entries) one.visit in
      let s = states (length old.entries) entry (ap (λ (l : List (Entry P)). slice_get l (length old.entries)) e ∙ get_last old.entries entry (length old.entries) refl) in
      let known : q.version ≡ v = mid.gate.0 ∙ ap (λ (m : Meaning P). m.version) same in
      let last : slice_get q.history v ≡ Some (meaning_in w).committed = subst (λ (m : Meaning P). slice_get q.history m.version ≡ Some m.committed) same (stands mid) in
      let since = one.since.1 in let until = s.0 in let now_is : told.version ≡ v = omega arith in
      let state : one.state ≡ (meaning_in w).committed = same_some (slice_get q.history v) one.state (meaning_in w).committed (ap (slice_get q.history) (sym now_is) ∙ s.1) last in
      (now_is, subst (λ (x : List P). answers x ask told.answer) state one.answer)

module _ {P A Q X : Type 0} (answers : List P → Q → X → Type 0) (works : Q → X → A → A → Type 0) where
  -- the lane has pinned once more
  pub told_once : (old mid new last : Visit P) (before now : A) (ask : Q) (told : Told X) (floor later : ℕ) → IsTold answers works mid new before now ask told → mid ≡ record old { floor = floor } → last ≡ record new { floor = later }
      → (last.pins ≡ old.pins + 1) × (last.seen ≡ told.version) × (last.number ≡ old.number) × (old.seen ≤ told.version)
  told_once old mid new last before now ask told floor later one first second =
      let p : mid.pins ≡ old.pins = ap (λ (l : Visit P). l.pins) first in let s : mid.seen ≡ old.seen = ap (λ (l : Visit P). l.seen) first in let n : mid.number ≡ old.number = ap (λ (l : Visit P). l.number) first in
      let p2 : new.pins ≡ mid.pins + 1 = ap (λ (l : Visit P). l.pins) one.visit in let s2 : new.seen ≡ told.version = ap (λ (l : Visit P). l.seen) one.visit in let n2 : new.number ≡ mid.number = ap (λ (l : Visit P). l.number) one.visit in
      let p3 : last.pins ≡ new.pins = ap (λ (l : Visit P). l.pins) second in let s3 : last.seen ≡ new.seen = ap (λ (l : Visit P). l.seen) second in let n3 : last.number ≡ new.number = ap (λ (l : Visit P). l.number) second in
      let d = one.since.0 in (omega arith, s3 ∙ s2, n3 ∙ n2 ∙ n, omega arith)
