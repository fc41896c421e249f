-- What many workers have done.
use Rattle.std.specs.Prelude.{List, [], ◌∷◌, Result, Ok, Err}
use Rattle.job_seats.specs.analyst.specs.Work.{Work}
use Rattle.job_seats.specs.declared.place.Seat.{Seat}
use Rattle.job_seats.specs.Working.{Went, GaveUp}

module _ {X : Type 0} where
  -- something of each: its place before and after, and its work before and after
  abbrev pub AllFour : (Seat X → Seat X → Work → Work → Type 0) → List (Seat X) → List (Seat X) → List Work → List Work → Type 0
  AllFour F [] [] [] [] = Unit {0}
  AllFour F (s ∷ ss) (t ∷ ts) (b ∷ bs) (n ∷ ns) = F s t b n × AllFour F ss ts bs ns
  AllFour F ss ts bs ns = ⊥

module _ {J X : Type 0} where
  -- each worked until it found no number; or each worked, and some gave up
  abbrev pub AllEnded : {T E : Type 0} (result : Result T E) (P : J → X → Type 0) (f : J → Work) (jobs : List J) (ss ts : List (Seat X)) (before now : List Work) → Type 0
  AllEnded (Ok x) P f jobs ss ts before now = AllFour (Went P f jobs) ss ts before now
  AllEnded (Err e) P f jobs ss ts before now = AllFour (GaveUp f jobs) ss ts before now

-- there is an answer where both have one
abbrev pub Both : {T E : Type 0} → Result T E → Result T E → Result T E → Type 0
Both (Ok x) (Ok y) (Ok z) = Unit {0}
Both front back (Ok z) = ⊥
Both front back (Err e) = Unit {0}
