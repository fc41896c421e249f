-- Lanes after asks that were answered in turn.
use Rattle.std.proofs.Common.{◌≡◌, ℕ, zero, suc, ◌+◌, ◌-◌, ◌^◌, ◌<◌, ◌≤◌, List, [], ◌∷◌, length, replicate, slice_get, refl, sym, ap, ◌∙◌, subst, arith, Some, None}
use Rattle.std.specs.List.{AllByRecursion}
use Rattle.lane_asks.specs.Dealing.{dealt}
use Rattle.lane_asks.specs.Telling.{RisesFrom, last_of}
use Rattle.beside.specs.Uses.{LaneUse, new_lane, use_after, uses_from, lanes_after, NoneFalls, MayAnswer, AnsweredAtMost, AnsweredUpTo}

-- ---- one lane

pub pins_after : (lane : LaneUse) (versions : List ℕ) → (use_after lane versions).pins ≡ lane.pins + length versions
pins_after lane [] = omega arith
pins_after lane (v ∷ versions) = let e = pins_after (record { pins = lane.pins + 1; last = v }) versions in omega arith

pub last_after : (lane : LaneUse) (versions : List ℕ) → (use_after lane versions).last ≡ last_of lane.last versions
last_after lane [] = refl
last_after lane (v ∷ versions) = last_after (record { pins = lane.pins + 1; last = v }) versions

-- what a lane has pinned and what it has seen last say it all
pub use_by : (lane now : LaneUse) (versions : List ℕ) → now.pins ≡ lane.pins + length versions → now.last ≡ last_of lane.last versions → now ≡ use_after lane versions
use_by lane now versions pins last = let p : now.pins ≡ (use_after lane versions).pins = pins ∙ sym (pins_after lane versions) in let l : now.last ≡ (use_after lane versions).last = last ∙ sym (last_after lane versions) in (λ j. record { pins = p j; last = l j })

dealt_few : (n k : ℕ) (versions : List ℕ) → length (dealt n k versions) ≤ length versions
dealt_few n k [] = omega arith
dealt_few n zero (v ∷ versions) = let e = dealt_few n (n - 1) versions in omega arith
dealt_few n (suc k) (v ∷ versions) = let e = dealt_few n k versions in omega arith

last_up_to : (bound v : ℕ) (versions : List ℕ) → v ≤ bound → AllByRecursion (λ w. w ≤ bound) versions → last_of v versions ≤ bound
last_up_to bound v [] low all = low
last_up_to bound v (w ∷ versions) low all = last_up_to bound w versions all.0 all.1

dealt_all : (F : ℕ → Type 0) (n k : ℕ) (versions : List ℕ) → AllByRecursion F versions → AllByRecursion F (dealt n k versions)
dealt_all F n k [] all = tt
dealt_all F n zero (v ∷ versions) all = (all.0, dealt_all F n (n - 1) versions all.1)
dealt_all F n (suc k) (v ∷ versions) all = dealt_all F n k versions all.1

-- ---- all lanes

uses_long : (n k : ℕ) (lanes : List LaneUse) (versions : List ℕ) → length (uses_from n k lanes versions) ≡ length lanes
uses_long n k [] versions = refl
uses_long n k (lane ∷ lanes) versions = ap suc (uses_long n (suc k) lanes versions)

-- they are as many
pub lanes_long : (lanes : List LaneUse) (versions : List ℕ) → length (lanes_after lanes versions) ≡ length lanes
lanes_long lanes versions = uses_long (length lanes) 0 lanes versions

uses_none : (n k : ℕ) (lanes : List LaneUse) → uses_from n k lanes [] ≡ lanes
uses_none n k [] = refl
uses_none n k (lane ∷ lanes) = ap (λ (ls : List LaneUse). lane ∷ ls) (uses_none n (suc k) lanes)

-- where nothing is asked, nothing changes
pub lanes_none : (lanes : List LaneUse) → lanes_after lanes [] ≡ lanes
lanes_none lanes = uses_none (length lanes) 0 lanes

pub none_falls : (lanes : List LaneUse) → NoneFalls lanes []
none_falls lanes k lane at = tt

uses_later : (n k v : ℕ) (lanes : List LaneUse) → uses_from n (suc k) lanes (v ∷ []) ≡ lanes
uses_later n k v [] = refl
uses_later n k v (lane ∷ lanes) = ap (λ (ls : List LaneUse). lane ∷ ls) (uses_later n (suc k) v lanes)

-- one ask changes the first lane alone
pub lanes_one : (lane : LaneUse) (lanes : List LaneUse) (v : ℕ) → lanes_after (lane ∷ lanes) (v ∷ []) ≡ record { pins = lane.pins + 1; last = v } ∷ lanes
lanes_one lane lanes v = ap (λ (ls : List LaneUse). record { pins = lane.pins + 1; last = v } ∷ ls) (uses_later (length (lane ∷ lanes)) 0 v lanes)

one_rises : (n k : ℕ) (lane : LaneUse) (v : ℕ) → lane.last ≤ v → RisesFrom lane.last (dealt n k (v ∷ []))
one_rises n zero lane v low = (low, tt)
one_rises n (suc k) lane v low = tt

pub all_there : (F : LaneUse → Type 0) (lanes : List LaneUse) (k : ℕ) (lane : LaneUse) → AllByRecursion F lanes → slice_get lanes k ≡ Some lane → F lane
all_there F [] k lane all at = absurd (let z : None ≡ Some lane = at in cc)
all_there F (l ∷ lanes) zero lane all at = let z : Some l ≡ Some lane = at in let e : l ≡ lane = cc in subst F e all.0
all_there F (l ∷ lanes) (suc k) lane all at = all_there F lanes k lane all.1 at

all_from : (F : LaneUse → Type 0) (lanes : List LaneUse) → ((k : ℕ) (lane : LaneUse) → slice_get lanes k ≡ Some lane → F lane) → AllByRecursion F lanes
all_from F [] all = tt
all_from F (l ∷ lanes) all = (all 0 l refl, all_from F lanes (λ k. all (suc k)))

-- one answer from a version that no lane's last one is behind
pub one_falls : (lanes : List LaneUse) (v : ℕ) → AnsweredUpTo v lanes → NoneFalls lanes (v ∷ [])
one_falls lanes v low k lane at = one_rises (length lanes) k lane v (all_there (λ l. l.last ≤ v) lanes k lane low at)

rises_same : (w v : ℕ) (versions : List ℕ) → w ≤ v → AllByRecursion (λ u. u ≡ v) versions → RisesFrom w versions
rises_same w v [] low all = tt
rises_same w v (u ∷ versions) low all = let e = all.0 in (omega arith, rises_same u v versions (omega arith) all.1)

-- and all answers from such a version
pub same_falls : (lanes : List LaneUse) (v : ℕ) (versions : List ℕ) → AnsweredUpTo v lanes → AllByRecursion (λ u. u ≡ v) versions → NoneFalls lanes versions
same_falls lanes v versions low all k lane at = rises_same lane.last v (dealt (length lanes) k versions) (all_there (λ l. l.last ≤ v) lanes k lane low at) (dealt_all (λ u. u ≡ v) (length lanes) k versions all)

uses_up_to : (n k v : ℕ) (lanes : List LaneUse) (versions : List ℕ) → AnsweredUpTo v lanes → AllByRecursion (λ u. u ≤ v) versions → AnsweredUpTo v (uses_from n k lanes versions)
uses_up_to n k v [] versions low all = tt
uses_up_to n k v (lane ∷ lanes) versions low all =
    let e = last_after lane (dealt n k versions) in let l = last_up_to v lane.last (dealt n k versions) low.0 (dealt_all (λ u. u ≤ v) n k versions all) in (omega arith, uses_up_to n (suc k) v lanes versions low.1 all)

-- where no answer is from a later version, no lane's last one is
pub still_up_to : (v : ℕ) (lanes : List LaneUse) (versions : List ℕ) → AnsweredUpTo v lanes → AllByRecursion (λ u. u ≤ v) versions → AnsweredUpTo v (lanes_after lanes versions)
still_up_to v lanes versions low all = uses_up_to (length lanes) 0 v lanes versions low all

uses_at_most : (n k p : ℕ) (lanes : List LaneUse) (versions : List ℕ) → AnsweredAtMost p lanes → AnsweredAtMost (p + length versions) (uses_from n k lanes versions)
uses_at_most n k p [] versions few = tt
uses_at_most n k p (lane ∷ lanes) versions few =
    let e = pins_after lane (dealt n k versions) in let l = dealt_few n k versions in let f = few.0 in (omega arith, uses_at_most n (suc k) p lanes versions few.1)

-- each lane has answered so many more at most
pub still_at_most : (p : ℕ) (lanes : List LaneUse) (versions : List ℕ) → AnsweredAtMost p lanes → AnsweredAtMost (p + length versions) (lanes_after lanes versions)
still_at_most p lanes versions few = uses_at_most (length lanes) 0 p lanes versions few

-- a later version, and more answers
pub up_to_later : (v w : ℕ) (lanes : List LaneUse) → v ≤ w → AnsweredUpTo v lanes → AnsweredUpTo w lanes
up_to_later v w [] later low = tt
up_to_later v w (lane ∷ lanes) later low = let l = low.0 in (omega arith, up_to_later v w lanes later low.1)

pub at_most_more : (p q : ℕ) (lanes : List LaneUse) → p ≤ q → AnsweredAtMost p lanes → AnsweredAtMost q lanes
at_most_more p q [] more few = tt
at_most_more p q (lane ∷ lanes) more few = let l = few.0 in (omega arith, at_most_more p q lanes more few.1)

-- lanes that have answered so few may answer so many more
pub may_answer : (p asks : ℕ) (lanes : List LaneUse) → AnsweredAtMost p lanes → p + asks < 2 ^ 27 → MayAnswer asks lanes
may_answer p asks [] few room = tt
may_answer p asks (lane ∷ lanes) few room = let l = few.0 in (omega arith, may_answer p asks lanes few.1 room)

pub may_answer_fewer : (more asks : ℕ) (lanes : List LaneUse) → asks ≤ more → MayAnswer more lanes → MayAnswer asks lanes
may_answer_fewer more asks [] less may = tt
may_answer_fewer more asks (lane ∷ lanes) less may = let l = may.0 in (omega arith, may_answer_fewer more asks lanes less may.1)

-- new lanes
pub new_up_to : (n v : ℕ) → AnsweredUpTo v (replicate n new_lane)
new_up_to zero v = tt
new_up_to (suc n) v = (omega arith, new_up_to n v)

pub new_at_most : (n p : ℕ) → AnsweredAtMost p (replicate n new_lane)
new_at_most zero p = tt
new_at_most (suc n) p = (omega arith, new_at_most n p)

-- lanes after their asks are those that have pinned and seen this
pub lanes_by : (lanes now : List LaneUse) (versions : List ℕ) → length now ≡ length lanes
    → ((k : ℕ) (lane : LaneUse) → slice_get lanes k ≡ Some lane → (after : LaneUse) × (slice_get now k ≡ Some after) × (after ≡ use_after lane (dealt (length lanes) k versions))) → now ≡ lanes_after lanes versions
lanes_by lanes now versions long each = from (length lanes) 0 lanes now long (λ i l at. let o = each i l at in let e : i ≡ 0 + i = omega arith in (o.0, o.1, o.2 ∙ ap (λ (j : ℕ). use_after l (dealt (length lanes) j versions)) e))
  where
    same_there : (l : LaneUse) (ls : List LaneUse) (o : (after : LaneUse) × (slice_get (l ∷ ls) 0 ≡ Some after)) → l ≡ o.0
    same_there l ls o = let z : Some l ≡ Some o.0 = o.1 in cc

    from : (n k : ℕ) (lanes now : List LaneUse) → length now ≡ length lanes
        → ((i : ℕ) (lane : LaneUse) → slice_get lanes i ≡ Some lane → (after : LaneUse) × (slice_get now i ≡ Some after) × (after ≡ use_after lane (dealt n (k + i) versions))) → now ≡ uses_from n k lanes versions
    from n k [] [] long each = refl
    from n k [] (m ∷ now) long each = absurd (omega arith)
    from n k (lane ∷ lanes) [] long each = absurd (omega arith)
    from n k (lane ∷ lanes) (m ∷ now) long each =
        let o = each 0 lane refl in
        let head : m ≡ use_after lane (dealt n k versions) = same_there m now (o.0, o.1) ∙ o.2 ∙ (let e : k + 0 ≡ k = omega arith in ap (λ (i : ℕ). use_after lane (dealt n i versions)) e) in
        let tail : now ≡ uses_from n (suc k) lanes versions = from n (suc k) lanes now (omega arith) (λ i l at. let o = each (suc i) l at in let e : k + suc i ≡ suc k + i = omega arith in (o.0, o.1, o.2 ∙ ap (λ (j : ℕ). use_after l (dealt n j versions)) e)) in
        (λ j. head j ∷ tail j)
