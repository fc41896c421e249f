-- What groups of analysts did is what all of them did.
use Rattle.std.proofs.Common.{◌≡◌, ◌<◌, List, [], ◌∷◌, ◌++◌, map, length, get_or, refl, sym, ap, ◌∙◌, subst, arith, Result, Ok, Err}
use Rattle.std.specs.Prelude.{slice_set}
use Rattle.std.specs.List.{AllByRecursion}
use Rattle.std.proofs.lemmas.List.{map-append}
use Rattle.analyst.specs.Work.{Work, no_work, Works, IsCounted}
use Rattle.work_shares.specs.Shares.{both, AreDone, AreWithin, AreWorked}
use Rattle.work_shares.proofs.Works.{IsPart, both_none, none_both, both_next, worked_none, within_same, within_wider, rest_of, rest_is}

pub done_joined : (b b' n n' : List Work) (w w' : Work) → AreDone b n w → AreDone b' n' w' → AreDone (b ++ b') (n ++ n') (both w w')
done_joined [] b' [] n' w w' first second = subst (λ (all : Work). AreDone b' n' all) (none_both w' ∙ ap (λ (all : Work). both all w') (sym first)) second
done_joined [] b' (x ∷ n) n' w w' first second = absurd first
done_joined (x ∷ b) b' [] n' w w' first second = absurd first
done_joined (x ∷ b) b' (y ∷ n) n' w w' first second =
    (first.0, both first.1 w', ap (λ (all : Work). both all w') first.2 ∙ both_next first.0 first.1 w', first.3, done_joined b b' n n' first.1 w' first.4 second)

within_grown : (b n : List Work) (w more : Work) → AreWithin b n w → AreWithin b n (both more w)
within_grown [] [] w more h = tt
within_grown [] (y ∷ n) w more h = absurd h
within_grown (x ∷ b) [] w more h = absurd h
within_grown (x ∷ b) (y ∷ n) w more h =
    (both more h.0, h.1, ap (λ (all : Work). both more all) h.2 ∙ sym (both_next more h.0 h.1), within_wider x y h.0 more h.3, h.4)

pub within_joined : (b b' n n' : List Work) (w w' : Work) → AreWithin b n w → AreWithin b' n' w' → AreWithin (b ++ b') (n ++ n') (both w w')
within_joined [] b' [] n' w w' first second = within_grown b' n' w' w second
within_joined [] b' (x ∷ n) n' w w' first second = absurd first
within_joined (x ∷ b) b' [] n' w w' first second = absurd first
within_joined (x ∷ b) b' (y ∷ n) n' w w' first second =
    (first.0, both first.1 w', ap (λ (all : Work). both all w') first.2 ∙ both_next first.0 first.1 w', first.3, within_joined b b' n n' first.1 w' first.4 second)

-- the work is part of more
pub within_whole : (b n : List Work) (w all : Work) → IsPart w all → AreWithin b n w → AreWithin b n all
within_whole b n w all part h = subst (λ (more : Work). AreWithin b n more) (sym (rest_is w all part)) (within_grown b n w (rest_of all w) h)

module _ {A : Type 0} (work : A → Work) (bounded : (a : A) → IsCounted (work a)) where
  pub done_within : (before : List A) (now : List Work) (w : Work) → AreDone (map work before) now w → AreWithin (map work before) now w
  done_within [] [] w h = tt
  done_within [] (n ∷ now) w h = absurd h
  done_within (a ∷ before) [] w h = absurd h
  done_within (a ∷ before) (n ∷ now) w h = (h.0, h.1, h.2, within_same (work a) n h.0 (bounded a) h.3, done_within before now h.1 h.4)

  pub all_counted : (all : List A) → AllByRecursion IsCounted (map work all)
  all_counted [] = tt
  all_counted (a ∷ all) = (bounded a, all_counted all)

  -- analysts that did nothing
  pub idle : (rest : List A) → AreDone (map work rest) (map work rest) no_work
  idle [] = refl
  idle (a ∷ rest) = (no_work, no_work, both_none no_work, worked_none (work a) (work a) (bounded a) refl, idle rest)

  pub with_rest : (whole before rest : List A) → whole ≡ before ++ rest → map work before ++ map work rest ≡ map work whole
  with_rest whole before rest e = sym (map-append work before rest) ∙ ap (λ (all : List A). map work all) (sym e)

  module _ {V E : Type 0} where
    -- the last ones did nothing
    pub idle_worked : (result : Result V E) (whole before now rest : List A) (w : Work) → whole ≡ before ++ rest → AreWorked result w (map work before) (map work now) → AreWorked result w (map work whole) (map work (now ++ rest))
    idle_worked (Ok v) whole before now rest w e h =
        subst (λ (p : List Work × List Work × Work). AreDone p.0 p.1 p.2) (λ k. (with_rest whole before rest e k, sym (map-append work now rest) k, sym (both_none w) k))
        (done_joined (map work before) (map work rest) (map work now) (map work rest) w no_work h (idle rest))
    idle_worked (Err e') whole before now rest w e h =
        subst (λ (p : List Work × List Work × Work). AreWithin p.0 p.1 p.2) (λ k. (with_rest whole before rest e k, sym (map-append work now rest) k, sym (both_none w) k))
        (within_joined (map work before) (map work rest) (map work now) (map work rest) w no_work h (done_within rest (map work rest) no_work (idle rest)))

    -- the first one did all, and the others nothing
    pub first_worked : (result : Result V E) (all : List A) (before now : A) (w : Work) → 0 < length all → Works result w (work (get_or all 0 before)) (work now) → AreWorked result w (map work all) (map work (slice_set all 0 now))
    first_worked result [] before now w some h = absurd (omega arith)
    first_worked (Ok v) (a ∷ rest) before now w some h = (w, no_work, both_none w, h, idle rest)
    first_worked (Err e) (a ∷ rest) before now w some h = (w, no_work, both_none w, h, done_within rest (map work rest) no_work (idle rest))
