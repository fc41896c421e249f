-- What is worked off at a place.
use Rattle.std.proofs.Common.{◌≡◌, ℕ, zero, suc, ◌<◌, List, [], ◌∷◌, ◌++◌, length, get_or, slice_get, sum_by, Option, Some, refl, sym, ap, ◌∙◌, subst, arith, append_assoc, Result, Ok, Err}
use Rattle.std.specs.Prelude.{IsErr}
use Rattle.std.specs.List.{AllZip}
use Rattle.std.proofs.lemmas.List.Sums.{sum_by-cons}
use Rattle.work_shares.specs.analyst.specs.Work.{Work, work_of, done, IsWithin, IsCounted}
use Rattle.work_shares.specs.Shares.{both, work_sum}
use Rattle.work_shares.proofs.Works.{IsPart, worked_none, worked_more, within_same, within_more}
use Rattle.work_shares.proofs.Sums.{sum_of_parts}
use Rattle.crossbeam_deque.specs.Handles.{worker_deque, worker_view}
use Rattle.job_seats.specs.declared.place.Seat.{Seat}
use Rattle.job_seats.specs.Seats.{IsSeat, Drew}
use Rattle.job_seats.specs.Working.{work_of_option, work_at, IsAt, Went, GaveUp, Ended}
use Rattle.job_seats.proofs.Drawing.{drew_none, drew_then, drew_keeping}

nothing_after : {A : Type 0} (xs : List A) → xs ≡ xs ++ []
nothing_after [] = refl
nothing_after (x ∷ xs) = ap (λ l. x ∷ l) (nothing_after xs)

there : {A : Type 0} (xs : List A) (i : ℕ) (d : A) → i < length xs → slice_get xs i ≡ Some (get_or xs i d)
there [] i d within = absurd (omega arith)
there (x ∷ xs) zero d within = refl
there (x ∷ xs) (suc i) d within = there xs i d (omega arith)

zip_joined : {A B : Type 0} (R : A → B → Type 0) (xs xs' : List A) (ys ys' : List B) → AllZip R xs ys → AllZip R xs' ys' → AllZip R (xs ++ xs') (ys ++ ys')
zip_joined R [] xs' [] ys' first second = second
zip_joined R [] xs' (y ∷ ys) ys' first second = absurd first
zip_joined R (x ∷ xs) xs' [] ys' first second = absurd first
zip_joined R (x ∷ xs) xs' (y ∷ ys) ys' first second = (first.0, zip_joined R xs xs' ys ys' first.1 second)

one_sum : (f : ℕ → ℕ) (n : ℕ) → sum_by f (n ∷ []) ≡ f n
one_sum f n = omega (arith, sum_by-cons f n [])

one_work : (f : ℕ → Work) (n : ℕ) → work_sum f (n ∷ []) ≡ f n
one_work f n = λ k. work_of (one_sum (λ m. (f m).fronts) n k) (one_sum (λ m. (f m).merges) n k) (one_sum (λ m. (f m).checks) n k)

part_same : (a : Work) → IsPart a a
part_same a = record { fronts = omega arith; merges = omega arith; checks = omega arith }

module _ {J X : Type 0} (P : J → X → Type 0) (f : J → Work) (jobs : List J) where
  -- the work of one number is that of its job
  number_work : (n : ℕ) (d : J) → n < length jobs → f (get_or jobs n d) ≡ work_sum (work_at f jobs) (n ∷ [])
  number_work n d within = sym (one_work (work_at f jobs) n ∙ ap (λ (o : Option J). work_of_option f o) (there jobs n d within))

  both_work : (numbers more : List ℕ) → work_sum (work_at f jobs) (numbers ++ more) ≡ both (work_sum (work_at f jobs) numbers) (work_sum (work_at f jobs) more)
  both_work numbers more = sym (sum_of_parts (work_at f jobs) (numbers ++ more) numbers more refl)

  pub went_nowhere : (end : ℕ) (s s' : Seat X) (w w' : Work) → IsCounted w → IsSeat end s → Drew s s' [] → s'.kept ≡ s.kept → w' ≡ w → Went P f jobs s s' w w'
  went_nowhere end s s' w w' counted is drew kept same =
      record { numbers = []; fresh = []; drew = drew; kept = ap (λ k. k.items) kept ∙ nothing_after s.kept.items; answers = tt; work = worked_none w w' counted same }

  pub stayed : (end : ℕ) (s : Seat X) (w : Work) → IsCounted w → IsSeat end s → Went P f jobs s s w w
  stayed end s w counted is = went_nowhere end s s w w counted is (drew_none end s is) refl refl

  module _ (n : ℕ) (j : J) (within : n < length jobs) (is : j ≡ get_or jobs n j) (w w' : Work) (s s1 s' : Seat X) (deque : worker_deque s'.own ≡ worker_deque s1.own) (own : worker_view s'.own ≡ worker_view s1.own)
      (links : s'.links.items ≡ s1.links.items) (drew : Drew s s1 (n ∷ [])) where
    its_work : f j ≡ work_sum (work_at f jobs) (n ∷ [])
    its_work = ap (λ (i : J). f i) is ∙ number_work n j within

    drew' : Drew s s' (n ∷ [])
    drew' = drew_keeping s s1 s' (n ∷ []) deque own links drew

    pub went_on : (x : X) → s1.kept ≡ s.kept → s'.kept.items ≡ s1.kept.items ++ (n, x) ∷ [] → P j x → w' ≡ done w (f j) → Went P f jobs s s' w w'
    went_on x same kept right worked = record {
      numbers = n ∷ [];
      fresh = (n, x) ∷ [];
      drew = drew';
      kept = kept ∙ ap (λ k. k.items ++ (n, x) ∷ []) same;
      answers = (record { number = refl; job = j; at = there jobs n j within ∙ ap (λ (i : J). Some i) (sym is); answer = right }, tt);
      work = worked ∙ ap (λ (all : Work). done w all) its_work;
    }

    pub gave_up : IsWithin w w' (f j) → GaveUp f jobs s s' w w'
    gave_up worked = record { numbers = n ∷ []; drew = drew'; work = subst (λ (all : Work). IsWithin w w' all) its_work worked }

    pub gave_up_behind : IsCounted w → w' ≡ done w (f j) → GaveUp f jobs s s' w w'
    gave_up_behind counted worked = gave_up (within_same w w' (f j) counted worked)

  pub went_then : (a b c : Seat X) (w w' w'' : Work) → Went P f jobs a b w w' → Went P f jobs b c w' w'' → Went P f jobs a c w w''
  went_then a b c w w' w'' first then = record {
    numbers = first.numbers ++ then.numbers;
    fresh = first.fresh ++ then.fresh;
    drew = drew_then a b c first.numbers then.numbers first.drew then.drew;
    kept = then.kept ∙ (ap (λ (l : List (ℕ × X)). l ++ then.fresh) first.kept ∙ append_assoc a.kept.items first.fresh then.fresh);
    answers = zip_joined (IsAt P jobs) first.numbers then.numbers first.fresh then.fresh first.answers then.answers;
    work = worked_more w w' w'' _ _ _ first.work then.work (both_work first.numbers then.numbers);
  }

  pub gave_then : (a b c : Seat X) (w w' w'' : Work) → IsCounted w → Went P f jobs a b w w' → GaveUp f jobs b c w' w'' → GaveUp f jobs a c w w''
  gave_then a b c w w' w'' counted first then = record {
    numbers = first.numbers ++ then.numbers;
    drew = drew_then a b c first.numbers then.numbers first.drew then.drew;
    work = subst (λ (all : Work). IsWithin w w'' all) (sym (both_work first.numbers then.numbers)) (within_more w w' w'' _ _ _ counted first.work then.work (part_same _));
  }

  -- ---- what a call of one number ended with
  pub ended_behind : {T E : Type 0} (result : Result T E) (s s' : Seat X) (w w' : Work) → IsErr result → GaveUp f jobs s s' w w' → Ended result P f jobs s s' w w'
  ended_behind (Ok x) s s' w w' err gave = absurd (let e = err in cc)
  ended_behind (Err e) s s' w w' err gave = gave
