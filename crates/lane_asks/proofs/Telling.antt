-- What is known of lanes on which asks were answered.
use Rattle.std.proofs.Common.{◌≡◌, ◌≢◌, ℕ, zero, suc, ◌+◌, ◌*◌, ◌/◌, ◌%◌, ◌^◌, ◌<◌, ◌≤◌, List, [], ◌∷◌, ◌++◌, length, take, get_or, slice_get, set, refl, sym, ap, ◌∙◌, subst, arith, Some, Result, Ok, Err}
use Rattle.std.specs.Prelude.{OnOk, slice_set}
use Rattle.std.specs.List.{AllByRecursion, AllZip}
use Rattle.std.proofs.lemmas.List.{append_assoc, take_more}
use Rattle.std.proofs.lemmas.Nat.{mod_below, div-add-mod'}
use Rattle.heap_core.specs.declared.traits.Program.{Ghosts}
use Rattle.entity_heap.specs.declared.board.Entry.{Entry}
use Rattle.entity_heap.specs.declared.board.Visit.{Visit}
use Rattle.entity_heap.specs.declared.heap.Heap.{Heap}
use Rattle.entity_heap.specs.declared.heap.Lane.{Lane}
use Rattle.entity_heap.specs.Lanes.{visit_in, IsLaneOf}
use Rattle.entity_heap.proofs.Lists.{get_longer}
use Rattle.lane_asks.specs.Dealing.{dealt, IsOpen}
use Rattle.lane_asks.specs.declared.dealing.Row.{Row}
use Rattle.lane_asks.specs.Telling.{IsTold, AreTold, RowTold, AllTold, HaveWorked, HasTold, RisesFrom, last_of, versions}
use Rattle.lane_asks.specs.Each.{AllDone, Both}
use Rattle.lane_asks.specs.declared.told.Told.{Told}
use Rattle.lane_asks.proofs.Dealt.{dealt_next, dealt_other}

pub length_front : {A : Type 0} (xs : List A) (i : ℕ) → i < length xs → length (take i xs) ≡ i
length_front [] i inside = absurd (omega arith)
length_front (x ∷ xs) zero inside = refl
length_front (x ∷ xs) (suc i) inside = ap suc (length_front xs i (omega arith))

with_nothing : {A : Type 0} (xs : List A) → xs ++ [] ≡ xs
with_nothing [] = refl
with_nothing (x ∷ xs) = ap (λ l. x ∷ l) (with_nothing xs)

at_end : {A : Type 0} (xs : List A) (x : A) → slice_get (xs ++ x ∷ []) (length xs) ≡ Some x
at_end [] x = refl
at_end (y ∷ xs) x = at_end xs x

-- ---- asks on one lane

module _ {P A Q X : Type 0} (answers : List P → Q → X → Type 0) (works : Q → X → A → A → Type 0) where
  pub told_more : (old v new : Visit P) (before a now : A) (asks : List Q) (told : List (Told X)) (ask : Q) (t : Told X) → AreTold answers works old v before a asks told → IsTold answers works v new a now ask t → AreTold answers works old new before now (asks ++ ask ∷ []) (told ++ t ∷ [])
  told_more old v new before a now [] [] ask t all one =
      let one' : IsTold answers works old new before now ask t = subst (λ (p : Visit P × A). IsTold answers works p.0 new p.1 now ask t) (λ j. (all.0 j, all.1 j)) one in (new, now, one', (refl, refl))
  told_more old v new before a now [] (u ∷ told) ask t all one = absurd all
  told_more old v new before a now (q ∷ asks) [] ask t all one = absurd all
  told_more old v new before a now (q ∷ asks) (u ∷ told) ask t all one = (all.0, all.1, all.2, told_more all.0 v new all.1 a now asks told ask t all.3 one)

  -- as many answers as asks
  pub told_long : (old new : Visit P) (before now : A) (asks : List Q) (told : List (Told X)) → AreTold answers works old new before now asks told → length told ≡ length asks
  told_long old new before now [] [] all = refl
  told_long old new before now [] (u ∷ told) all = absurd all
  told_long old new before now (q ∷ asks) [] all = absurd all
  told_long old new before now (q ∷ asks) (u ∷ told) all = ap suc (told_long all.0 new all.1 now asks told all.3)

  -- the next ask comes to this lane
  pub told_turn : (n k i : ℕ) (old v new : Visit P) (before a now : A) (asks : List Q) (told : List (Told X)) (ask : Q) (t : Told X) → k < n → i < length asks → i % n ≡ k → ask ≡ get_or asks i ask
      → AreTold answers works old v before a (dealt n k (take i asks)) told → IsTold answers works v new a now ask t → AreTold answers works old new before now (dealt n k (take (i + 1) asks)) (told ++ t ∷ [])
  told_turn n k i old v new before a now asks told ask t small inside turn is all one =
      let more : take (i + 1) asks ≡ take i asks ++ ask ∷ [] = take_more asks i ask inside ∙ ap (λ (q : Q). take i asks ++ q ∷ []) (sym is) in
      let long : length (take i asks) ≡ i / n * n + k = length_front asks i inside ∙ sym (div-add-mod' i n) ∙ ap (λ (j : ℕ). i / n * n + j) turn in
      subst (λ (qs : List Q). AreTold answers works old new before now qs (told ++ t ∷ [])) (sym (ap (dealt n k) more ∙ dealt_next n k (i / n) (take i asks) ask small long)) (told_more old v new before a now (dealt n k (take i asks)) told ask t all one)

  -- or to another one
  pub told_pass : (n k i : ℕ) (old v : Visit P) (before a : A) (asks : List Q) (told : List (Told X)) → k < n → i < length asks → i % n ≢ k → AreTold answers works old v before a (dealt n k (take i asks)) told → AreTold answers works old v before a (dealt n k (take (i + 1) asks)) told
  told_pass n k i old v before a [] told small inside apart all = absurd (omega arith)
  told_pass n k i old v before a (q ∷ asks) told small inside apart all =
      let qs : List Q = q ∷ asks in
      let more : take (i + 1) qs ≡ take i qs ++ get_or qs i q ∷ [] = take_more qs i q inside in
      let long : length (take i qs) ≡ i / n * n + i % n = length_front qs i inside ∙ sym (div-add-mod' i n) in
      let less : i % n < n = mod_below i n (omega arith) in
      subst (λ (l : List Q). AreTold answers works old v before a l told) (sym (ap (dealt n k) more ∙ dealt_other n k (i % n) (i / n) (take i qs) (get_or qs i q) small less (λ e. apart (sym e)) long)) all

  -- ---- what a lane keeps, and what it counts

  number_stays : (old new : Visit P) (before now : A) (asks : List Q) (told : List (Told X)) → AreTold answers works old new before now asks told → new.number ≡ old.number
  number_stays old new before now [] [] all = ap (λ (v : Visit P). v.number) all.0
  number_stays old new before now [] (u ∷ told) all = absurd all
  number_stays old new before now (q ∷ asks) [] all = absurd all
  number_stays old new before now (q ∷ asks) (u ∷ told) all = number_stays all.0 new all.1 now asks told all.3 ∙ ap (λ (v : Visit P). v.number) all.2.visit

  pins_rise : (old new : Visit P) (before now : A) (asks : List Q) (told : List (Told X)) → AreTold answers works old new before now asks told → new.pins ≡ old.pins + length asks
  pins_rise old new before now [] [] all = let e : new.pins ≡ old.pins = ap (λ (v : Visit P). v.pins) all.0 in omega arith
  pins_rise old new before now [] (u ∷ told) all = absurd all
  pins_rise old new before now (q ∷ asks) [] all = absurd all
  pins_rise old new before now (q ∷ asks) (u ∷ told) all =
      let v : Visit P = all.0 in let e : v.pins ≡ old.pins + 1 = ap (λ (w : Visit P). w.pins) all.2.visit in let i : new.pins ≡ v.pins + length asks = pins_rise v new all.1 now asks told all.3 in omega arith

  versions_rise : (old new : Visit P) (before now : A) (asks : List Q) (told : List (Told X)) → AreTold answers works old new before now asks told → RisesFrom old.seen (versions told)
  versions_rise old new before now [] [] all = tt
  versions_rise old new before now [] (u ∷ told) all = absurd all
  versions_rise old new before now (q ∷ asks) [] all = absurd all
  versions_rise old new before now (q ∷ asks) (u ∷ told) all =
      let v : Visit P = all.0 in let e : v.seen ≡ u.version = ap (λ (w : Visit P). w.seen) all.2.visit in (all.2.since.0, subst (λ (s : ℕ). RisesFrom s (versions told)) e (versions_rise v new all.1 now asks told all.3))

  seen_last : (old new : Visit P) (before now : A) (asks : List Q) (told : List (Told X)) → AreTold answers works old new before now asks told → new.seen ≡ last_of old.seen (versions told)
  seen_last old new before now [] [] all = ap (λ (v : Visit P). v.seen) all.0
  seen_last old new before now [] (u ∷ told) all = absurd all
  seen_last old new before now (q ∷ asks) [] all = absurd all
  seen_last old new before now (q ∷ asks) (u ∷ told) all =
      let v : Visit P = all.0 in let e : v.seen ≡ u.version = ap (λ (w : Visit P). w.seen) all.2.visit in seen_last v new all.1 now asks told all.3 ∙ ap (λ (s : ℕ). last_of s (versions told)) e

  work_done : (old new : Visit P) (before now : A) (asks : List Q) (told : List (Told X)) → AreTold answers works old new before now asks told → HaveWorked works before now asks told
  work_done old new before now [] [] all = all.1
  work_done old new before now [] (u ∷ told) all = absurd all
  work_done old new before now (q ∷ asks) [] all = absurd all
  work_done old new before now (q ∷ asks) (u ∷ told) all = (all.1, all.2.work, work_done all.0 new all.1 now asks told all.3)

  pub has_told : (old new : Visit P) (before now : A) (asks : List Q) (told : List (Told X)) → AreTold answers works old new before now asks told → HasTold works old new before now asks told
  has_told old new before now asks told all = record {
    number = number_stays old new before now asks told all;
    pins = pins_rise old new before now asks told all;
    rises = versions_rise old new before now asks told all;
    seen = seen_last old new before now asks told all;
    worked = work_done old new before now asks told all;
  }

  -- ---- what it has recorded

  -- an ask was answered from a state that is recorded with its version
  pub record IsRecorded (entries : List (Entry P)) (since : ℕ) (ask : Q) (told : Told X) : Type 0 where
    pub later : since ≤ told.version
    pub state : List P
    pub answer : answers state ask told.answer
    pub place : ℕ
    pub entry : slice_get entries place ≡ Some (record { version = told.version; state = state })

  recorded_more : (old new : Visit P) (before now : A) (asks : List Q) (told : List (Told X)) → AreTold answers works old new before now asks told → (more : List (Entry P)) × (new.entries ≡ old.entries ++ more)
  recorded_more old new before now [] [] all = ([], ap (λ (v : Visit P). v.entries) all.0 ∙ sym (with_nothing old.entries))
  recorded_more old new before now [] (u ∷ told) all = absurd all
  recorded_more old new before now (q ∷ asks) [] all = absurd all
  recorded_more old new before now (q ∷ asks) (u ∷ told) all =
      let v : Visit P = all.0 in let entry : Entry P = record { version = u.version; state = all.2.state } in
      let e : v.entries ≡ old.entries ++ entry ∷ [] = ap (λ (w : Visit P). w.entries) all.2.visit in
      let rest = recorded_more v new all.1 now asks told all.3 in
      (entry ∷ rest.0, rest.1 ∙ ap (λ (l : List (Entry P)). l ++ rest.0) e ∙ append_assoc old.entries (entry ∷ []) rest.0)

  pub are_recorded : (since : ℕ) (old new : Visit P) (before now : A) (asks : List Q) (told : List (Told X)) → since ≤ old.floor → AreTold answers works old new before now asks told → AllZip (IsRecorded new.entries since) asks told
  are_recorded since old new before now [] [] low all = tt
  are_recorded since old new before now [] (u ∷ told) low all = absurd all
  are_recorded since old new before now (q ∷ asks) [] low all = absurd all
  are_recorded since old new before now (q ∷ asks) (u ∷ told) low all =
      let v : Visit P = all.0 in let one = all.2 in let entry : Entry P = record { version = u.version; state = one.state } in
      let e : v.entries ≡ old.entries ++ entry ∷ [] = ap (λ (w : Visit P). w.entries) one.visit in
      let f : v.floor ≡ old.floor = ap (λ (w : Visit P). w.floor) one.visit in
      let rest = recorded_more v new all.1 now asks told all.3 in
      let here : slice_get (v.entries ++ rest.0) (length old.entries) ≡ Some entry = ap (λ (l : List (Entry P)). slice_get (l ++ rest.0) (length old.entries)) e ∙ get_longer (old.entries ++ entry ∷ []) rest.0 (length old.entries) entry (at_end old.entries entry) in
      let floor = one.since.1 in
      (record { later = omega arith; state = one.state; answer = one.answer; place = length old.entries; entry = ap (λ (l : List (Entry P)). slice_get l (length old.entries)) rest.1 ∙ here }, are_recorded since v new all.1 now asks told (omega arith) all.3)
