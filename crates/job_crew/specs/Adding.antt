-- What was drawn and answered at many places.
use Rattle.std.specs.Prelude.{◌≡◌, ℕ, ◌+◌, List, length, slice_get, sum_by, Some, Result, Ok, Err}
use Rattle.std.specs.List.{AllByRecursion, AllZip}
use Rattle.job_seats.specs.analyst.specs.Work.{Work, done, IsWithin}
use Rattle.job_seats.specs.work_shares.specs.Shares.{work_sum}
use Rattle.number_draws.specs.Below.{below}
use Rattle.job_seats.specs.declared.place.Seat.{Seat}
use Rattle.job_seats.specs.Seats.{SameLink, weight}
use Rattle.job_seats.specs.Left.{IsWhole, AllTaken}
use Rattle.job_seats.specs.Working.{work_at}
use Rattle.job_crew.specs.Tying.{own_view, own_id, kept_of}

module _ {X : Type 0} where
  -- the same deque, links to the same deques, and the same numbers put
  pub record SameTies (s t : Seat X) : Type 0 where
    pub id : own_id t ≡ own_id s
    pub parts : (own_view t).parts ≡ (own_view s).parts
    pub put : (own_view t).put ≡ (own_view s).put
    pub links : AllZip SameLink s.links.items t.links.items

  -- how much the numbers of the answers weigh
  abbrev pub kept_weight : (ℕ → ℕ) → Seat X → ℕ
  kept_weight h s = sum_by (λ (r : ℕ × X). h r.0) (kept_of s)

module _ {J X : Type 0} where
  -- it is an answer to the job of its number
  pub record IsAnswer (P : J → X → Type 0) (jobs : List J) (r : ℕ × X) : Type 0 where
    pub job : J
    pub at : slice_get jobs r.0 ≡ Some job
    pub answer : P job r.1

  abbrev pub HasAnswers : (J → X → Type 0) → List J → Seat X → Type 0
  HasAnswers P jobs s = AllByRecursion (IsAnswer P jobs) (kept_of s)

  -- numbers were drawn, each from one of the deques, and so is their work
  pub record HaveDrawn (F : Work → Type 0) (f : J → Work) (jobs : List J) (ss ts : List (Seat X)) : Type 0 where
    pub numbers : List ℕ
    pub work : F (work_sum (work_at f jobs) numbers)
    pub taken : (h : ℕ → ℕ) → sum_by (λ s. weight h s) ts ≡ sum_by (λ s. weight h s) ss + sum_by h numbers
    pub same : AllZip SameTies ss ts

  -- and each was answered
  pub record HaveAnswered (F : Work → Type 0) (P : J → X → Type 0) (f : J → Work) (jobs : List J) (ss ts : List (Seat X)) : Type 0 where
    pub drawn : HaveDrawn F f jobs ss ts
    pub kept : (h : ℕ → ℕ) → sum_by (λ s. kept_weight h s) ts ≡ sum_by (λ s. kept_weight h s) ss + sum_by h drawn.numbers
    pub answers : AllByRecursion (HasAnswers P jobs) ss → AllByRecursion (HasAnswers P jobs) ts

  -- there is one answer to each job
  pub record AreAnswered (P : J → X → Type 0) (jobs : List J) (ss : List (Seat X)) : Type 0 where
    pub kept : (h : ℕ → ℕ) → sum_by (λ s. kept_weight h s) ss ≡ sum_by h (below (length jobs))
    pub answers : AllByRecursion (HasAnswers P jobs) ss

  -- one worked off what the deques still held, or gave up
  abbrev pub HasWorkedRest : {T E : Type 0} (result : Result T E) (P : J → X → Type 0) (f : J → Work) (jobs : List J) (ss ts : List (Seat X)) (before now : Work) → Type 0
  HasWorkedRest (Ok x) P f jobs ss ts before now = HaveAnswered (λ w. now ≡ done before w) P f jobs ss ts × AllByRecursion (λ s. AllTaken (own_view s)) ts
  HasWorkedRest (Err e) P f jobs ss ts before now = HaveDrawn (IsWithin before now) f jobs ss ts × AllByRecursion (λ s. IsWhole (own_view s)) ts
