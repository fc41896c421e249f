-- What two groups of workers have done is what all of them have done.
use Rattle.std.proofs.Common.{◌≡◌, List, [], ◌∷◌, ◌++◌, map, length, get_or, refl, sym, ap, ◌∙◌, subst, arith, Result, Ok, Err}
use Rattle.std.specs.Prelude.{slice_set}
use Rattle.std.specs.List.{AllByRecursion}
use Rattle.std.proofs.lemmas.List.{map-append}
use Rattle.job_seats.specs.analyst.specs.Work.{Work, IsCounted}
use Rattle.job_seats.specs.work_shares.specs.Shares.{work_sum}
use Rattle.job_seats.specs.work_shares.proofs.Works.{within_same}
use Rattle.job_seats.specs.declared.place.Seat.{Seat}
use Rattle.job_seats.specs.Working.{work_at, Went, GaveUp, Ended}
use Rattle.job_crew.specs.Together.{AllFour, AllEnded, Both}

pub rec_joined : {A : Type 0} (P : A → Type 0) (xs ys : List A) → AllByRecursion P xs → AllByRecursion P ys → AllByRecursion P (xs ++ ys)
rec_joined P [] ys h h' = h'
rec_joined P (x ∷ xs) ys h h' = (h.0, rec_joined P xs ys h.1 h')

pub rec_front : {A : Type 0} (P : A → Type 0) (all xs ys : List A) → all ≡ xs ++ ys → AllByRecursion P all → AllByRecursion P xs
rec_front P all [] ys e h = tt
rec_front P all (x ∷ xs) ys e h = let h' : AllByRecursion P (x ∷ xs ++ ys) = subst (λ l. AllByRecursion P l) e h in (h'.0, rec_front P (xs ++ ys) xs ys refl h'.1)

pub rec_back : {A : Type 0} (P : A → Type 0) (all xs ys : List A) → all ≡ xs ++ ys → AllByRecursion P all → AllByRecursion P ys
rec_back P all [] ys e h = subst (λ l. AllByRecursion P l) e h
rec_back P all (x ∷ xs) ys e h = let h' : AllByRecursion P (x ∷ xs ++ ys) = subst (λ l. AllByRecursion P l) e h in rec_back P (xs ++ ys) xs ys refl h'.1

pub rec_set : {A : Type 0} (P : A → Type 0) (xs : List A) (y : A) → length xs ≡ 1 → P y → AllByRecursion P (slice_set xs 0 y)
rec_set P [] y one h = tt
rec_set P (x ∷ []) y one h = (h, tt)
rec_set P (x ∷ z ∷ xs) y one h = absurd (omega arith)

pub rec_at : {A : Type 0} (P : A → Type 0) (xs : List A) (d : A) → length xs ≡ 1 → AllByRecursion P xs → P (get_or xs 0 d)
rec_at P [] d one h = absurd (omega arith)
rec_at P (x ∷ xs) d one h = h.0

module _ {X : Type 0} where
  four_joined : (F : Seat X → Seat X → Work → Work → Type 0) (ss ts ss' ts' : List (Seat X)) (bs ns bs' ns' : List Work) → AllFour F ss ts bs ns → AllFour F ss' ts' bs' ns' → AllFour F (ss ++ ss') (ts ++ ts') (bs ++ bs') (ns ++ ns')
  four_joined F [] [] ss' ts' [] [] bs' ns' h h' = h'
  four_joined F (s ∷ ss) (t ∷ ts) ss' ts' (b ∷ bs) (n ∷ ns) bs' ns' h h' = (h.0, four_joined F ss ts ss' ts' bs ns bs' ns' h.1 h')
  four_joined F ss ts ss' ts' bs ns bs' ns' h h' = absurd h

  module _ {J A : Type 0} (P : J → X → Type 0) (f : J → Work) (jobs : List J) (work : A → Work) (bounded : (a : A) → IsCounted (work a)) where
    went_gave : (s t : Seat X) (b n : Work) → IsCounted b → Went P f jobs s t b n → GaveUp f jobs s t b n
    went_gave s t b n counted went = record { numbers = went.numbers; drew = went.drew; work = within_same b n (work_sum (work_at f jobs) went.numbers) counted went.work }

    all_gave : (ss ts : List (Seat X)) (all : List A) (ns : List Work) → AllFour (Went P f jobs) ss ts (map work all) ns → AllFour (GaveUp f jobs) ss ts (map work all) ns
    all_gave [] [] [] [] h = tt
    all_gave (s ∷ ss) (t ∷ ts) (a ∷ all) (n ∷ ns) h = (went_gave s t (work a) n (bounded a) h.0, all_gave ss ts all ns h.1)
    all_gave ss ts all ns h = absurd h

    module _ {V E : Type 0} where
      as_gave : (result : Result V E) (ss ts : List (Seat X)) (all : List A) (ns : List Work) → AllEnded result P f jobs ss ts (map work all) ns → AllFour (GaveUp f jobs) ss ts (map work all) ns
      as_gave (Ok x) ss ts all ns h = all_gave ss ts all ns h
      as_gave (Err e) ss ts all ns h = h

      both_ended : (front back result : Result V E) (ss ts ss' ts' : List (Seat X)) (all all' : List A) (ns ns' : List Work) → Both front back result → AllEnded front P f jobs ss ts (map work all) ns → AllEnded back P f jobs ss' ts' (map work all') ns'
          → AllEnded result P f jobs (ss ++ ss') (ts ++ ts') (map work all ++ map work all') (ns ++ ns')
      both_ended (Ok x) (Ok y) (Ok z) ss ts ss' ts' all all' ns ns' both h h' = four_joined (Went P f jobs) ss ts ss' ts' (map work all) ns (map work all') ns' h h'
      both_ended (Ok x) (Err y) (Ok z) ss ts ss' ts' all all' ns ns' both h h' = absurd both
      both_ended (Err x) back (Ok z) ss ts ss' ts' all all' ns ns' both h h' = absurd both
      both_ended front back (Err z) ss ts ss' ts' all all' ns ns' both h h' =
          four_joined (GaveUp f jobs) ss ts ss' ts' (map work all) ns (map work all') ns' (as_gave front ss ts all ns h) (as_gave back ss' ts' all' ns' h')

      -- two groups
      pub groups_ended : (front back result : Result V E) (whole ss ts ss' ts' : List (Seat X)) (every all all' now now' : List A) → whole ≡ ss ++ ss' → every ≡ all ++ all' → Both front back result
          → AllEnded front P f jobs ss ts (map work all) (map work now) → AllEnded back P f jobs ss' ts' (map work all') (map work now') → AllEnded result P f jobs whole (ts ++ ts') (map work every) (map work (now ++ now'))
      groups_ended front back result whole ss ts ss' ts' every all all' now now' e e' both h h' =
          let old : map work all ++ map work all' ≡ map work every = sym (map-append work all all') ∙ ap (λ (l : List A). map work l) (sym e') in
          let new : map work now ++ map work now' ≡ map work (now ++ now') = sym (map-append work now now') in
          subst (λ (p : List (Seat X) × List Work × List Work). AllEnded result P f jobs p.0 (ts ++ ts') p.1 p.2) (λ k. (sym e k, old k, new k)) (both_ended front back result ss ts ss' ts' all all' (map work now) (map work now') both h h')

      -- the one of one
      pub alone_ended : (result : Result V E) (seats : List (Seat X)) (all : List A) (s s' : Seat X) (a a' : A) → length seats ≡ 1 → length all ≡ 1 → Ended result P f jobs (get_or seats 0 s) s' (work (get_or all 0 a)) (work a')
          → AllEnded result P f jobs seats (slice_set seats 0 s') (map work all) (map work (slice_set all 0 a'))
      alone_ended (Ok x) (s ∷ []) (a ∷ []) d s' e a' one one' h = (h, tt)
      alone_ended (Err x) (s ∷ []) (a ∷ []) d s' e a' one one' h = (h, tt)
      alone_ended result [] all d s' e a' one one' h = absurd (omega arith)
      alone_ended result (s ∷ t ∷ seats) all d s' e a' one one' h = absurd (omega arith)
      alone_ended result seats [] d s' e a' one one' h = absurd (omega arith)
      alone_ended result seats (a ∷ b ∷ all) d s' e a' one one' h = absurd (omega arith)
