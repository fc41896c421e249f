-- What a worker has done.
use Rattle.std.specs.Prelude.{◌≡◌, ℕ, List, ◌++◌, slice_get, Option, Some, None, Result, Ok, Err}
use Rattle.std.specs.List.{AllZip}
use Rattle.work_shares.specs.analyst.specs.Work.{Work, no_work, done, IsWithin}
use Rattle.work_shares.specs.Shares.{work_sum}
use Rattle.job_seats.specs.declared.place.Seat.{Seat}
use Rattle.job_seats.specs.Seats.{Drew}

module _ {J : Type 0} where
  -- the work of a job, if there is one
  abbrev pub work_of_option : (J → Work) → Option J → Work
  work_of_option f (Some j) = f j
  work_of_option f None = no_work

  -- the work of the job of a number
  abbrev pub work_at : (J → Work) → List J → ℕ → Work
  work_at f jobs n = work_of_option f (slice_get jobs n)

module _ {J X : Type 0} where
  -- this is the numbered answer to the job of a number
  pub record IsAt (P : J → X → Type 0) (jobs : List J) (n : ℕ) (r : ℕ × X) : Type 0 where
    pub number : r.0 ≡ n
    pub job : J
    pub at : slice_get jobs n ≡ Some job
    pub answer : P job r.1

  -- numbers were drawn, and each was answered
  pub record Went (P : J → X → Type 0) (f : J → Work) (jobs : List J) (s s' : Seat X) (before now : Work) : Type 0 where
    pub numbers : List ℕ
    pub fresh : List (ℕ × X)
    pub drew : Drew s s' numbers
    pub kept : s'.kept.items ≡ s.kept.items ++ fresh
    pub answers : AllZip (IsAt P jobs) numbers fresh
    pub work : now ≡ done before (work_sum (work_at f jobs) numbers)

  -- numbers were drawn, and no more than their work was done
  pub record GaveUp (f : J → Work) (jobs : List J) (s s' : Seat X) (before now : Work) : Type 0 where
    pub numbers : List ℕ
    pub drew : Drew s s' numbers
    pub work : IsWithin before now (work_sum (work_at f jobs) numbers)

  abbrev pub Ended : {T E : Type 0} (result : Result T E) (P : J → X → Type 0) (f : J → Work) (jobs : List J) (s s' : Seat X) (before now : Work) → Type 0
  Ended (Ok x) P f jobs s s' before now = Went P f jobs s s' before now
  Ended (Err e) P f jobs s s' before now = GaveUp f jobs s s' before now
