-- What was done at many places adds up.
use Rattle.std.proofs.Common.{◌≡◌, ℕ, zero, suc, ◌+◌, ◌<◌, ◌≤◌, List, [], ◌∷◌, ◌++◌, length, take, set, get_or, slice_get, sum_by, Option, Some, refl, sym, ap, ◌∙◌, subst, arith, Result, Ok, Err}
use Rattle.std.specs.Prelude.{IsErr}
use Rattle.std.specs.List.{AllByRecursion, AllZip}
use Rattle.std.proofs.lemmas.List.Sums.{sum_by-cons, sum_by-append, sum_by-set, sum_by_more}
use Rattle.job_seats.specs.analyst.specs.Work.{Work, work_of, done, IsWithin, IsCounted}
use Rattle.job_seats.specs.work_shares.specs.Shares.{both, work_sum, AreDone, AreWithin}
use Rattle.job_seats.specs.work_shares.proofs.Works.{IsPart, worked_none, worked_more, within_more}
use Rattle.job_seats.specs.work_shares.proofs.Sums.{sum_of_parts}
use Rattle.number_draws.specs.Below.{below}
use Rattle.job_seats.specs.declared.place.Link.{Link}
use Rattle.job_seats.specs.declared.place.Seat.{Seat}
use Rattle.job_seats.specs.Seats.{IsSeat, Drew, SameLink, weight}
use Rattle.job_seats.specs.Left.{IsWhole}
use Rattle.job_seats.specs.Working.{work_of_option, work_at, IsAt, Went, GaveUp}
use Rattle.job_seats.proofs.Drawing.{same_links, links_then}
use Rattle.job_crew.specs.Together.{AllFour}
use Rattle.job_crew.specs.Tying.{own_view, kept_of}
use Rattle.job_crew.specs.Adding.{SameTies, kept_weight, IsAnswer, HasAnswers, HaveDrawn, HaveAnswered, HasWorkedRest}
use Rattle.job_crew.proofs.Lists.{rec_at, rec_set, zip_long, zip_same, zip_set, zip_at}

-- ---- the jobs by their numbers
get_there : {A : Type 0} (xs : List A) (i : ℕ) → i < length xs → (x : A) × (slice_get xs i ≡ Some x) × (x ≡ get_or xs i x)
get_there [] i within = absurd (omega arith)
get_there (x ∷ xs) zero within = (x, refl, refl)
get_there (x ∷ xs) (suc i) within = get_there xs i (omega arith)

take_whole : {A : Type 0} (xs : List A) → take (length xs) xs ≡ xs
take_whole [] = refl
take_whole (x ∷ xs) = ap (λ l. x ∷ l) (take_whole xs)

module _ {J : Type 0} (f : J → Work) (jobs : List J) (count : Work → ℕ) where
  -- one of the counts, of the first jobs by their numbers
  by_number : (k : ℕ) → k ≤ length jobs → sum_by (λ n. count (work_at f jobs n)) (below k) ≡ sum_by (λ j. count (f j)) (take k jobs)
  by_number zero within = none jobs
    where
      none : (js : List J) → 0 ≡ sum_by (λ j. count (f j)) (take 0 js)
      none [] = refl
      none (j ∷ js) = refl
  by_number (suc k) within =
      let job = get_there jobs k (omega arith) in
      let at : count (work_at f jobs k) ≡ count (f job.0) = ap (λ (o : Option J). count (work_of_option f o)) job.1 in
      let is : count (f job.0) ≡ count (f (get_or jobs k job.0)) = ap (λ (j : J). count (f j)) job.2 in
      let rest = by_number k (omega arith) in
      let n : suc k ≡ k + 1 = omega arith in
      let t : sum_by (λ j. count (f j)) (take (suc k) jobs) ≡ sum_by (λ j. count (f j)) (take (k + 1) jobs) = ap (λ (i : ℕ). sum_by (λ j. count (f j)) (take i jobs)) n in
      omega (arith, sum_by-append (λ i. count (work_at f jobs i)) (below k) (k ∷ []), sum_by-cons (λ i. count (work_at f jobs i)) k [], sum_by_more (λ j. count (f j)) jobs k job.0 (omega arith))

  of_below : sum_by (λ n. count (work_at f jobs n)) (below (length jobs)) ≡ sum_by (λ j. count (f j)) jobs
  of_below = by_number (length jobs) (omega arith) ∙ ap (λ (js : List J). sum_by (λ j. count (f j)) js) (take_whole jobs)

module _ {J : Type 0} (f : J → Work) (jobs : List J) (numbers : List ℕ) where
  -- the work of the numbers of all jobs is that of all jobs
  pub whole_work : ((h : ℕ → ℕ) → sum_by h numbers ≡ sum_by h (below (length jobs))) → work_sum (work_at f jobs) numbers ≡ work_sum f jobs
  whole_work all = λ k. work_of (of (λ (w : Work). w.fronts) k) (of (λ (w : Work). w.merges) k) (of (λ (w : Work). w.checks) k)
    where
      of : (count : Work → ℕ) → sum_by (λ n. count (work_at f jobs n)) numbers ≡ sum_by (λ j. count (f j)) jobs
      of count = all (λ n. count (work_at f jobs n)) ∙ of_below f jobs count

  -- that of no more numbers is part of it
  pub part_work : ((h : ℕ → ℕ) → sum_by h numbers ≤ sum_by h (below (length jobs))) → IsPart (work_sum (work_at f jobs) numbers) (work_sum f jobs)
  part_work few = record { fronts = of (λ (w : Work). w.fronts); merges = of (λ (w : Work). w.merges); checks = of (λ (w : Work). w.checks) }
    where
      of : (count : Work → ℕ) → sum_by (λ n. count (work_at f jobs n)) numbers ≤ sum_by (λ j. count (f j)) jobs
      of count = let a = few (λ n. count (work_at f jobs n)) in let b = of_below f jobs count in omega arith

module _ {J : Type 0} (f : J → Work) (jobs : List J) where
  pub both_work : (numbers more : List ℕ) → work_sum (work_at f jobs) (numbers ++ more) ≡ both (work_sum (work_at f jobs) numbers) (work_sum (work_at f jobs) more)
  both_work numbers more = sym (sum_of_parts (work_at f jobs) (numbers ++ more) numbers more refl)

module _ {X : Type 0} where
  -- ---- the ties
  ties_then : (a b c : Seat X) → SameTies a b → SameTies b c → SameTies a c
  ties_then a b c f t = record { id = t.id ∙ f.id; parts = t.parts ∙ f.parts; put = t.put ∙ f.put; links = links_then a.links.items b.links.items c.links.items f.links t.links }

  ties_drew : (s t : Seat X) (numbers : List ℕ) → Drew s t numbers → SameTies s t
  ties_drew s t numbers drew = record { id = drew.deque; parts = drew.parts; put = drew.put; links = drew.links }

  ties_same : (end : ℕ) (s : Seat X) → IsSeat end s → SameTies s s
  ties_same end s is = record { id = refl; parts = refl; put = refl; links = same_links s.links.items is.links }

  pub all_ties_same : (end : ℕ) (ss : List (Seat X)) → AllByRecursion (IsSeat end) ss → AllZip SameTies ss ss
  all_ties_same end [] all = tt
  all_ties_same end (s ∷ ss) all = (ties_same end s all.0, all_ties_same end ss all.1)

module _ {J X : Type 0} (P : J → X → Type 0) (f : J → Work) (jobs : List J) where
  -- ---- the answers of one place
  fresh_weight : (h : ℕ → ℕ) (numbers : List ℕ) (fresh : List (ℕ × X)) → AllZip (IsAt P jobs) numbers fresh → sum_by (λ (r : ℕ × X). h r.0) fresh ≡ sum_by h numbers
  fresh_weight h [] [] all = refl
  fresh_weight h [] (r ∷ fresh) all = absurd all
  fresh_weight h (n ∷ numbers) [] all = absurd all
  fresh_weight h (n ∷ numbers) (r ∷ fresh) all =
      let one : h r.0 ≡ h n = ap h all.0.number in
      let rest = fresh_weight h numbers fresh all.1 in
      omega (arith, sum_by-cons (λ (r : ℕ × X). h r.0) r fresh, sum_by-cons h n numbers)

  fresh_answers : (old fresh : List (ℕ × X)) (numbers : List ℕ) → AllZip (IsAt P jobs) numbers fresh → AllByRecursion (IsAnswer P jobs) old → AllByRecursion (IsAnswer P jobs) (old ++ fresh)
  fresh_answers [] [] numbers all right = tt
  fresh_answers [] (r ∷ fresh) [] all right = absurd all
  fresh_answers [] (r ∷ fresh) (n ∷ numbers) all right = (record { job = all.0.job; at = ap (λ (i : ℕ). slice_get jobs i) all.0.number ∙ all.0.at; answer = all.0.answer }, fresh_answers [] fresh numbers all.1 right)
  fresh_answers (r ∷ old) fresh numbers all right = (right.0, fresh_answers old fresh numbers all right.1)

  went_answers : (s t : Seat X) (before now : Work) → Went P f jobs s t before now → HasAnswers P jobs s → HasAnswers P jobs t
  went_answers s t before now went right = subst (λ (l : List (ℕ × X)). AllByRecursion (IsAnswer P jobs) l) (sym went.kept) (fresh_answers (kept_of s) went.fresh went.numbers went.answers right)

  went_kept : (s t : Seat X) (before now : Work) (went : Went P f jobs s t before now) (h : ℕ → ℕ) → kept_weight h t ≡ kept_weight h s + sum_by h went.numbers
  went_kept s t before now went h =
      let e = ap (λ (l : List (ℕ × X)). sum_by (λ (r : ℕ × X). h r.0) l) went.kept in
      omega (arith, fresh_weight h went.numbers went.fresh went.answers, sum_by-append (λ (r : ℕ × X). h r.0) (kept_of s) went.fresh)

  -- ---- many places, each with a worker
  pub all_went : (ss ts : List (Seat X)) (before now : List Work) → AllFour (Went P f jobs) ss ts before now → HaveAnswered (AreDone before now) P f jobs ss ts
  all_went [] [] [] [] h = record { drawn = record { numbers = []; work = refl; taken = λ h. refl; same = tt }; kept = λ h. refl; answers = λ _. tt }
  all_went (s ∷ ss) (t ∷ ts) (b ∷ before) (n ∷ now) h =
      let rest = all_went ss ts before now h.1 in
      let went = h.0 in record {
        drawn = record {
          numbers = went.numbers ++ rest.drawn.numbers;
          work = (work_sum (work_at f jobs) went.numbers, work_sum (work_at f jobs) rest.drawn.numbers, both_work f jobs went.numbers rest.drawn.numbers, went.work, rest.drawn.work);
          taken = λ g.
              let o = went.drew.taken g in
              let r = rest.drawn.taken g in
              omega (arith, sum_by-cons (λ (s : Seat X). weight g s) t ts, sum_by-cons (λ (s : Seat X). weight g s) s ss, sum_by-append g went.numbers rest.drawn.numbers);
          same = (ties_drew s t went.numbers went.drew, rest.drawn.same);
        };
        kept = λ g.
            let o = went_kept s t b n went g in
            let r = rest.kept g in
            omega (arith, sum_by-cons (λ (s : Seat X). kept_weight g s) t ts, sum_by-cons (λ (s : Seat X). kept_weight g s) s ss, sum_by-append g went.numbers rest.drawn.numbers);
        answers = λ right. (went_answers s t b n went right.0, rest.answers right.1);
      }
  all_went ss ts before now h = absurd h

  pub all_gave : (ss ts : List (Seat X)) (before now : List Work) → AllFour (GaveUp f jobs) ss ts before now → HaveDrawn (AreWithin before now) f jobs ss ts
  all_gave [] [] [] [] h = record { numbers = []; work = tt; taken = λ h. refl; same = tt }
  all_gave (s ∷ ss) (t ∷ ts) (b ∷ before) (n ∷ now) h =
      let rest = all_gave ss ts before now h.1 in
      let gave = h.0 in record {
        numbers = gave.numbers ++ rest.numbers;
        work = (work_sum (work_at f jobs) gave.numbers, work_sum (work_at f jobs) rest.numbers, both_work f jobs gave.numbers rest.numbers, gave.work, rest.work);
        taken = λ g.
            let o = gave.drew.taken g in
            let r = rest.taken g in
            omega (arith, sum_by-cons (λ (s : Seat X). weight g s) t ts, sum_by-cons (λ (s : Seat X). weight g s) s ss, sum_by-append g gave.numbers rest.numbers);
        same = (ties_drew s t gave.numbers gave.drew, rest.same);
      }
  all_gave ss ts before now h = absurd h

  -- ---- many places, and one who works off what is left
  pub rest_none : (end : ℕ) (ss : List (Seat X)) (w : Work) → IsCounted w → AllByRecursion (IsSeat end) ss → HaveAnswered (λ all. w ≡ done w all) P f jobs ss ss
  rest_none end ss w counted all = record {
    drawn = record { numbers = []; work = worked_none w w counted refl; taken = λ h. omega arith; same = all_ties_same end ss all };
    kept = λ h. omega arith;
    answers = λ right. right;
  }

  module _ (ss ts : List (Seat X)) (w : ℕ) (s d : Seat X) (before mid now : Work) (within : w < length ts) (so_far : HaveAnswered (λ all. mid ≡ done before all) P f jobs ss ts) where
    taken_more : (numbers : List ℕ) → Drew (get_or ts w d) s numbers → (g : ℕ → ℕ) → sum_by (λ (s : Seat X). weight g s) (set ts w s) ≡ sum_by (λ (s : Seat X). weight g s) ss + sum_by g (so_far.drawn.numbers ++ numbers)
    taken_more numbers drew g =
        let o = drew.taken g in
        let r = so_far.drawn.taken g in
        omega (arith, sum_by-set (λ (s : Seat X). weight g s) ts w s d within, sum_by-append g so_far.drawn.numbers numbers)

    same_more : (numbers : List ℕ) → Drew (get_or ts w d) s numbers → AllZip SameTies ss (set ts w s)
    same_more numbers drew = zip_set SameTies ties_then ss ts w s d within (ties_drew (get_or ts w d) s numbers drew) so_far.drawn.same

    pub rest_more : Went P f jobs (get_or ts w d) s mid now → HaveAnswered (λ all. now ≡ done before all) P f jobs ss (set ts w s)
    rest_more went = record {
      drawn = record {
        numbers = so_far.drawn.numbers ++ went.numbers;
        work = worked_more before mid now _ _ _ so_far.drawn.work went.work (both_work f jobs so_far.drawn.numbers went.numbers);
        taken = taken_more went.numbers went.drew;
        same = same_more went.numbers went.drew;
      };
      kept = λ g.
          let o = went_kept (get_or ts w d) s mid now went g in
          let r = so_far.kept g in
          omega (arith, sum_by-set (λ (s : Seat X). kept_weight g s) ts w s d within, sum_by-append g so_far.drawn.numbers went.numbers);
      answers = λ right.
          let old = so_far.answers right in
          rec_set (HasAnswers P jobs) ts w s (went_answers (get_or ts w d) s mid now went (rec_at (HasAnswers P jobs) ts w d within old)) old;
    }

    pub rest_gave : IsCounted before → GaveUp f jobs (get_or ts w d) s mid now → HaveDrawn (IsWithin before now) f jobs ss (set ts w s)
    rest_gave counted gave = record {
      numbers = so_far.drawn.numbers ++ gave.numbers;
      work = subst (λ (all : Work). IsWithin before now all) (sym (both_work f jobs so_far.drawn.numbers gave.numbers))
          (within_more before mid now _ _ _ counted so_far.drawn.work gave.work (record { fronts = omega arith; merges = omega arith; checks = omega arith }));
      taken = taken_more gave.numbers gave.drew;
      same = same_more gave.numbers gave.drew;
    }

  -- there is no answer
  pub rest_behind : {V E : Type 0} (result : Result V E) (ss ts : List (Seat X)) (before now : Work) → IsErr result → HaveDrawn (IsWithin before now) f jobs ss ts → AllByRecursion (λ s. IsWhole (own_view s)) ts → HasWorkedRest result P f jobs ss ts before now
  rest_behind (Ok x) ss ts before now err drawn whole = absurd (let e = err in cc)
  rest_behind (Err e) ss ts before now err drawn whole = (drawn, whole)
