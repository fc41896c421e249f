-- Changes that are planned and carried out.
use Rattle.std.proofs.Common.{◌≡◌, ◌+◌, ℕ, Bool, true, false, List, [], ◌∷◌, ◌++◌, drop, length, refl, sym, ap, ◌∙◌, subst, arith}
use Rattle.std.specs.Option.{is_some}
use Rattle.std.proofs.lemmas.List.{length-append}
use Rattle.fact_trail.specs.declared.plans.Planned.{Planned}
use Rattle.fact_trail.specs.declared.trail.Trail.{Trail}
use Rattle.fact_trail.specs.Slots.{Slot, Map, at_slot, is_slot}
use Rattle.fact_trail.specs.Moments.{map_of, undone, IsSame, IsNew, Adds, Drops, Extends}
use Rattle.fact_trail.specs.Plans.{planned, Fits, Replaces}
use Rattle.fact_trail.specs.Room.{HasRoom}
use Rattle.fact_trail.proofs.Same.{same_slot}
use Rattle.fact_trail.proofs.Changes.{none_now, new_same}

pub extends_itself : (f : Trail) → Extends f f
extends_itself f = record { longer = omega arith; moments = λ n within. refl; fresh = λ s was. was }

pub extends_then : (a b c : Trail) → Extends a b → Extends b c → Extends a c
extends_then a b c first second = record {
  longer = omega (arith, first.longer, second.longer);
  moments = λ n within. second.moments n (omega (arith, within, first.longer)) ∙ first.moments n within;
  fresh = λ s was. second.fresh s (first.fresh s was);
}

pub extends_dropped : (gone : Slot → Bool) (old new : Trail) → Drops gone old new → Extends old new
extends_dropped gone old new drops = record { longer = drops.longer; moments = drops.moments; fresh = drops.fresh }

-- a fact that is replaced
pub extends_replaced : (s : Slot) (old new : Trail) → Adds s old new → is_some (map_of old s) ≡ true → Extends old new
extends_replaced s old new adds there = record { longer = adds.longer; moments = adds.moments; fresh = λ q was. adds.fresh q (at q was (is_slot s q) refl) was }
  where
    at : (q : Slot) → IsNew q old → (b : Bool) → is_slot s q ≡ b → is_slot s q ≡ false
    at q was false other = other
    at q was true same = absurd (let clash : true ≡ false = sym there ∙ ap (λ (t : Slot). is_some (map_of old t)) (same_slot s q same) ∙ ap is_some (none_now old q was) in cc)

-- ---- plans

pub planned_end : (plan : List Planned) (p : Planned) (m : Map) → planned (plan ++ p ∷ []) m ≡ planned plan (at_slot p.slot p.fact m)
planned_end [] p m = refl
planned_end (x ∷ plan) p m = ap (at_slot x.slot x.fact) (planned_end plan p m)

pub fits_end : (plan : List Planned) (p : Planned) (m : Map) → Fits (plan ++ p ∷ []) m → Replaces p.fact (m p.slot) × Fits plan (at_slot p.slot p.fact m)
fits_end [] p m fits = (fits.0, tt)
fits_end (x ∷ plan) p m fits = let rest = fits_end plan p m fits.1 in (rest.0, (subst (λ (n : Map). Replaces x.fact (n x.slot)) (planned_end plan p m) fits.0, rest.1))

pub end_fits : (plan : List Planned) (p : Planned) (m : Map) → Replaces p.fact (m p.slot) → Fits plan (at_slot p.slot p.fact m) → Fits (plan ++ p ∷ []) m
end_fits [] p m one rest = (one, tt)
end_fits (x ∷ plan) p m one rest = (subst (λ (n : Map). Replaces x.fact (n x.slot)) (sym (planned_end plan p m)) rest.0, end_fits plan p m one rest.1)

-- what is left of a plan leads to where all of it leads
pub record CarriesOut (plan all : List Planned) (old now : Trail) : Type 0 where
  pub fits : Fits plan (map_of now)
  pub room : HasRoom (length plan) now
  pub facts : planned plan (map_of now) ≡ planned all (map_of old)
  pub extends : Extends old now

pub carries_itself : (plan : List Planned) (f : Trail) → Fits plan (map_of f) → HasRoom (length plan) f → CarriesOut plan plan f f
carries_itself plan f fits room = record { fits = fits; room = room; facts = refl; extends = extends_itself f }

one_longer : (left rest : List Planned) (p : Planned) → left ≡ rest ++ p ∷ [] → length left ≡ length rest + 1
one_longer left rest p are = ap length are ∙ length-append rest (p ∷ [])

-- the last one comes first
pub last_fits : (left rest all : List Planned) (p : Planned) (old now : Trail) → left ≡ rest ++ p ∷ [] → CarriesOut left all old now → Replaces p.fact (map_of now p.slot)
last_fits left rest all p old now are before = (fits_end rest p (map_of now) (subst (λ l. Fits l (map_of now)) are before.fits)).0

pub last_room : (left rest all : List Planned) (p : Planned) (old now : Trail) → left ≡ rest ++ p ∷ [] → CarriesOut left all old now → HasRoom 1 now
last_room left rest all p old now are before = let more = one_longer left rest p are in let room = before.room in omega (arith, more, room)

pub carries_more : (left rest all : List Planned) (p : Planned) (old mid new : Trail) → left ≡ rest ++ p ∷ [] → map_of new ≡ at_slot p.slot p.fact (map_of mid) → Extends mid new → ((count : ℕ) → HasRoom (count + 1) mid → HasRoom count new) →
    CarriesOut left all old mid → CarriesOut rest all old new
carries_more left rest all p old mid new are made extends room before = record {
  fits = subst (Fits rest) (sym made) (fits_end rest p (map_of mid) (subst (λ l. Fits l (map_of mid)) are before.fits)).1;
  room = room (length rest) (let more = one_longer left rest p are in let had = before.room in omega (arith, more, had));
  facts = ap (planned rest) made ∙ sym (planned_end rest p (map_of mid)) ∙ ap (λ l. planned l (map_of mid)) (sym are) ∙ before.facts;
  extends = extends_then old mid new before.extends extends;
}

-- nothing is left
pub carried_all : (left all : List Planned) (old now : Trail) → length left ≡ 0 → CarriesOut left all old now → map_of now ≡ planned all (map_of old)
carried_all [] all old now none done = done.facts
carried_all (p ∷ left) all old now none done = absurd (omega (arith, none))

-- where nothing was changed
pub extends_same : (old new : Trail) → IsSame old new → Extends old new
extends_same old new same = record {
  longer = omega (arith, ap length same.1);
  moments = λ n within. λ i. undone (drop n (same.1 i)) (same.0 i);
  fresh = λ s was. new_same old new s same was;
}

-- a plan is carried out once there is room
pub extends_made : (old mid new : Trail) → IsSame old mid → Extends mid new → Extends old new
extends_made old mid new same extends = extends_then old mid new (extends_same old mid same) extends
