-- What all did, from the first number to the last.
use Rattle.std.proofs.Common.{◌≡◌, ℕ, zero, suc, ◌+◌, ◌<◌, ◌≤◌, ◌^◌, List, [], ◌∷◌, ◌++◌, length, map, slice_get, get_or, sum_by, Option, Some, refl, sym, ap, ◌∙◌, subst, arith, Result, Ok, Err}
use Rattle.std.specs.Prelude.{IsErr, slice_set, OnOk, Contains}
use Rattle.std.specs.List.{AllByRecursion, AllZip, flat_map}
use Rattle.std.proofs.lemmas.List.Concat.{flat_map-append}
use Rattle.std.proofs.lemmas.List.Sums.{sum_by-cons, sum_by-append}
use Rattle.job_seats.specs.analyst.specs.Work.{Work, no_work, done, IsWithin, IsCounted}
use Rattle.job_seats.specs.work_shares.specs.Shares.{both, work_sum, AreDone, AreWithin, AreWorked}
use Rattle.job_seats.specs.work_shares.proofs.Shared.{within_whole, first_worked, done_within, all_counted, idle}
use Rattle.job_seats.specs.work_shares.proofs.Rises.{done_then, within_then}
use Rattle.number_draws.specs.declared.hand.Hand.{Hand}
use Rattle.number_draws.specs.Below.{below}
use Rattle.number_draws.specs.Places.{AreThere}
use Rattle.job_seats.specs.declared.place.Link.{Link}
use Rattle.job_seats.specs.declared.place.Seat.{Seat}
use Rattle.job_seats.specs.Seats.{link_view, IsLink, SameLink, IsSeat, weight}
use Rattle.job_seats.specs.Left.{IsWhole, AllTaken}
use Rattle.job_seats.specs.Working.{work_at, Went, GaveUp}
use Rattle.job_crew.specs.Together.{AllFour, AllEnded}
use Rattle.job_crew.specs.Tying.{DequeId, AreLinks, own_view, own_id, kept_of, SameOwn, IsGathered, HaveLinks, LackParts, AreTied, IsFresh, links_weight}
use Rattle.job_crew.specs.Adding.{SameTies, kept_weight, IsAnswer, HasAnswers, HaveDrawn, HaveAnswered, AreAnswered, HasWorkedRest}
use Rattle.job_crew.proofs.Lists.{rec_at, rec_of, sum_zero, zip_long, zip_map, zip_sum, zip_rec}
use Rattle.job_crew.proofs.Parts.{parts_same, long_same, long_turned}
use Rattle.job_crew.proofs.Linked.{fresh_weights}
use Rattle.job_crew.proofs.Adding.{whole_work, part_work, both_work, all_went, all_gave}

links_long : (ls ms : List Link) → AllZip SameLink ls ms → length ms ≡ length ls
links_long ls ms h = zip_long SameLink ls ms h

-- links stay tied
links_tied : (links links' : List Link) (ids : List DequeId) → AllZip SameLink links links' → AreLinks links ids → AreLinks links' ids
links_tied [] [] ids same tied = tt
links_tied [] (m ∷ links') ids same tied = absurd same
links_tied (l ∷ links) [] ids same tied = absurd same
links_tied (l ∷ links) (m ∷ links') [] same tied = absurd tied
links_tied (l ∷ links) (m ∷ links') (id ∷ ids) same tied = (same.0.right, same.0.deque ∙ tied.1, same.0.parts ∙ tied.2, links_tied links links' ids same.1 tied.3)

abbrev done_all : Result (Unit {0}) (Unit {0})
done_all = Ok tt

abbrev no_answer : Result (Unit {0}) (Unit {0})
no_answer = Err tt

nothing_after : {A : Type 0} (xs : List A) → xs ++ [] ≡ xs
nothing_after [] = refl
nothing_after (x ∷ xs) = ap (λ l. x ∷ l) (nothing_after xs)

no_more_links : (links : List Link) → length links ≡ 0 → links ≡ []
no_more_links [] e = refl
no_more_links (l ∷ links) e = absurd (omega arith)

module _ {X : Type 0} where
  -- all places are still tied
  pub tied_after : (n : ℕ) (ss ts : List (Seat X)) → length ss ≡ n → AllZip SameTies ss ts → AreTied n 0 n n ss → AreTied 0 (length ts) 0 (length ts) ts
  tied_after n ss ts many same tied =
      let ids : map own_id ts ≡ map own_id ss = zip_map SameTies own_id (λ x y e. e.id) ss ts same in
      let all : length ts ≡ n = zip_long SameTies ss ts same ∙ many in
      let ties : AllByRecursion (λ (t : Seat X). AreLinks t.links.items (map own_id ss)) ts =
      zip_rec SameTies (λ (t : Seat X). AreLinks t.links.items (map own_id ss)) (λ (t : Seat X). AreLinks t.links.items (map own_id ss)) (λ x y e links. links_tied x.links.items y.links.items (map own_id ss) e.links links) ss ts same tied.ties in
      let long : HaveLinks n 0 n ts = long_same SameTies (λ x y e. links_long x.links.items y.links.items e.links) n 0 n ss ts same tied.long in
      let turned : HaveLinks 0 n 0 ts = long_turned n 0 0 ts (subst (λ (i : ℕ). HaveLinks n 0 i ts) (sym all) long) in
      subst (λ (i : ℕ). AreTied 0 i 0 i ts) (sym all) (record {
        ties = subst (λ (is : List DequeId). AllByRecursion (λ (t : Seat X). AreLinks t.links.items is) ts) (sym ids) ties;
        long = turned;
        parts = parts_same SameTies (λ x y e. e.parts) n 0 ss ts same tied.parts;
      })

  gathered_seat : (end : ℕ) (s t : Seat X) → IsGathered s t → IsSeat end s → IsSeat end t
  gathered_seat end s t g is = record {
    flavor = g.own.flavor ∙ is.flavor;
    part = (let p = g.whole.parts in omega arith);
    below = subst (λ (put : List ℕ). AllByRecursion (λ i. i < end) put) (sym g.own.put) is.below;
    links = subst (λ (ls : List Link). AllByRecursion IsLink ls) (sym g.links) tt;
    links_below = subst (λ (ls : List Link). AllByRecursion (λ (l : Link). AllByRecursion (λ i. i < end) (link_view l).put) ls) (sym g.links) tt;
  }

  pub gathered_seats : (end : ℕ) (ss ts : List (Seat X)) → AllZip IsGathered ss ts → AllByRecursion (IsSeat end) ss → AllByRecursion (IsSeat end) ts
  gathered_seats end ss ts gathered all = zip_rec IsGathered (IsSeat end) (IsSeat end) (gathered_seat end) ss ts gathered all

  any : (ss ts : List (Seat X)) → AllZip IsGathered ss ts → (Q : Seat X → Type 0) → ((s t : Seat X) → IsGathered s t → Q t) → AllByRecursion Q ts
  any [] [] h Q then = tt
  any [] (t ∷ ts) h Q then = absurd h
  any (s ∷ ss) [] h Q then = absurd h
  any (s ∷ ss) (t ∷ ts) h Q then = (then s t h.0, any ss ts h.1 Q then)

  pub gathered_whole : (ss ts : List (Seat X)) → AllZip IsGathered ss ts → AllByRecursion (λ s. IsWhole (own_view s)) ts
  gathered_whole ss ts gathered = any ss ts gathered (λ s. IsWhole (own_view s)) (λ s t g. g.whole)

  -- where a place has no links, what was taken there is what was taken from its deque
  own_weight : (s : Seat X) → s.links.items ≡ [] → (h : ℕ → ℕ) → weight h s ≡ sum_by h (own_view s).taken
  own_weight s none h = let e : links_weight h s.links.items ≡ 0 = ap (λ (ls : List Link). links_weight h ls) none in omega arith

  pub put_weight : (h : ℕ → ℕ) → Seat X → ℕ
  put_weight h s = sum_by h (own_view s).put

  weights_few : (ss : List (Seat X)) → AllByRecursion (λ s. s.links.items ≡ []) ss → AllByRecursion (λ s. IsWhole (own_view s)) ss → (h : ℕ → ℕ) → sum_by (λ s. weight h s) ss ≤ sum_by (λ s. sum_by h (own_view s).put) ss
  weights_few [] none whole h = omega arith
  weights_few (s ∷ ss) none whole h =
      let o = own_weight s none.0 h in
      let w = whole.0.taken h in
      let rest = weights_few ss none.1 whole.1 h in
      omega (arith, sum_by-cons (λ (s : Seat X). weight h s) s ss, sum_by-cons (λ (s : Seat X). sum_by h (own_view s).put) s ss)

  weights_all : (ss : List (Seat X)) → AllByRecursion (λ s. s.links.items ≡ []) ss → AllByRecursion (λ s. AllTaken (own_view s)) ss → (h : ℕ → ℕ) → sum_by (λ s. weight h s) ss ≡ sum_by (λ s. sum_by h (own_view s).put) ss
  weights_all [] none all h = refl
  weights_all (s ∷ ss) none all h =
      let o = own_weight s none.0 h in
      let w = all.0 h in
      let rest = weights_all ss none.1 all.1 h in
      omega (arith, sum_by-cons (λ (s : Seat X). weight h s) s ss, sum_by-cons (λ (s : Seat X). sum_by h (own_view s).put) s ss)

  kept_none : (end : ℕ) (ss : List (Seat X)) → AllByRecursion (IsFresh end) ss → (h : ℕ → ℕ) → sum_by (λ s. kept_weight h s) ss ≡ 0
  kept_none end ss fresh h =
      sum_zero (λ (s : Seat X). kept_weight h s) ss (rec_of (IsFresh end) (λ (s : Seat X). kept_weight h s ≡ 0) ss (λ s f. ap (λ (l : List (ℕ × X)). sum_by (λ (r : ℕ × X). h r.0) l) f.kept) fresh)

module _ {J X A : Type 0} (P : J → X → Type 0) (f : J → Work) (jobs : List J) (work : A → Work) (bounded : (a : A) → IsCounted (work a)) where
  answers_none : (ss : List (Seat X)) → AllByRecursion (IsFresh (length jobs)) ss → AllByRecursion (HasAnswers P jobs) ss
  answers_none ss fresh = rec_of (IsFresh (length jobs)) (HasAnswers P jobs) ss (λ s f. subst (λ (l : List (ℕ × X)). AllByRecursion (IsAnswer P jobs) l) (sym f.kept) tt) fresh

  module _ {V E : Type 0} where
    -- the places are tied as before, whoever gave up
    pub ended_same : (result : Result V E) (ss ts : List (Seat X)) (before now : List Work) → AllEnded result P f jobs ss ts before now → AllZip SameTies ss ts
    ended_same (Ok x) ss ts before now h = (all_went P f jobs ss ts before now h).drawn.same
    ended_same (Err e) ss ts before now h = (all_gave P f jobs ss ts before now h).same

  module _ (ss ts us : List (Seat X)) (fresh : AllByRecursion (IsFresh (length jobs)) ss) (put : (h : ℕ → ℕ) → sum_by (λ (s : Seat X). sum_by h (own_view s).put) ss ≡ sum_by h (below (length jobs)))
      (gathered : AllZip IsGathered ts us) (taken : (h : ℕ → ℕ) → sum_by (λ (s : Seat X). weight h s) us ≡ sum_by (λ (s : Seat X). weight h s) ts) where
    none_us : AllByRecursion (λ (s : Seat X). s.links.items ≡ []) us
    none_us = any ts us gathered (λ s. s.links.items ≡ []) (λ s t g. g.links)

    put_us : AllZip SameTies ss ts → (h : ℕ → ℕ) → sum_by (λ (s : Seat X). sum_by h (own_view s).put) us ≡ sum_by h (below (length jobs))
    put_us same h =
        zip_sum IsGathered (λ (s : Seat X). sum_by h (own_view s).put) (λ x y g. ap (λ (l : List ℕ). sum_by h l) g.own.put) ts us gathered
        ∙ (zip_sum SameTies (λ (s : Seat X). sum_by h (own_view s).put) (λ x y e. ap (λ (l : List ℕ). sum_by h l) e.put) ss ts same ∙ put h)

    -- some gave up
    crew_few : (F : Work → Type 0) (drawn : HaveDrawn F f jobs ss ts) (h : ℕ → ℕ) → sum_by h drawn.numbers ≤ sum_by h (below (length jobs))
    crew_few F drawn h =
        let none = fresh_weights (length jobs) ss fresh h in
        let d = drawn.taken h in
        let t = taken h in
        let p = put_us drawn.same h in
        let w = weights_few us none_us (gathered_whole ts us gathered) h in
        omega arith

    crew_gave : (before now : List A) → HaveDrawn (AreWithin (map work before) (map work now)) f jobs ss ts → AreWithin (map work before) (map work now) (work_sum f jobs)
    crew_gave before now drawn = within_whole (map work before) (map work now) _ (work_sum f jobs) (part_work f jobs drawn.numbers (crew_few (AreWithin (map work before) (map work now)) drawn)) drawn.work

    pub off_gave : {V E : Type 0} (ended : Result V E) (e : E) (before now : List A) → ended ≡ Err e → AllEnded ended P f jobs ss ts (map work before) (map work now) → AreWithin (map work before) (map work now) (work_sum f jobs)
    off_gave {V} {E} ended e before now is h =
        crew_gave before now (all_gave P f jobs ss ts (map work before) (map work now) (subst (λ (r : Result V E). AllEnded r P f jobs ss ts (map work before) (map work now)) is h))

    -- ---- what was left
    module _ (vs : List (Seat X)) (before mid : List A) (crew : HaveAnswered (AreDone (map work before) (map work mid)) P f jobs ss ts) where
      none_vs : AllZip SameTies us vs → AllByRecursion (λ (s : Seat X). s.links.items ≡ []) vs
      none_vs same = zip_rec SameTies (λ (s : Seat X). s.links.items ≡ []) (λ (s : Seat X). s.links.items ≡ []) (λ x y e none. no_more_links y.links.items (links_long x.links.items y.links.items e.links ∙ ap (λ (ls : List Link). length ls) none)) us vs same none_us

      put_vs : AllZip SameTies us vs → (h : ℕ → ℕ) → sum_by (λ (s : Seat X). sum_by h (own_view s).put) vs ≡ sum_by h (below (length jobs))
      put_vs same h = zip_sum SameTies (λ (s : Seat X). sum_by h (own_view s).put) (λ x y e. ap (λ (l : List ℕ). sum_by h l) e.put) us vs same ∙ put_us crew.drawn.same h

      -- numbers of the crew, and of the rest
      taken_vs : (F : Work → Type 0) (rest : HaveDrawn F f jobs us vs) (h : ℕ → ℕ) → sum_by (λ (s : Seat X). weight h s) vs ≡ sum_by h (crew.drawn.numbers ++ rest.numbers)
      taken_vs F rest h =
          let none = fresh_weights (length jobs) ss fresh h in
          let c = crew.drawn.taken h in
          let t = taken h in
          let r = rest.taken h in
          omega (arith, sum_by-append h crew.drawn.numbers rest.numbers)

      both_drawn : (more : List ℕ) → both (work_sum (work_at f jobs) crew.drawn.numbers) (work_sum (work_at f jobs) more) ≡ work_sum (work_at f jobs) (crew.drawn.numbers ++ more)
      both_drawn more = sym (both_work f jobs crew.drawn.numbers more)

      module _ (some : 0 < length mid) (old new : A) where
        now : List A
        now = slice_set mid 0 new

        rest_worked : HaveAnswered (λ w. work new ≡ done (work (get_or mid 0 old)) w) P f jobs us vs → AllByRecursion (λ (s : Seat X). AllTaken (own_view s)) vs → AreDone (map work before) (map work (slice_set mid 0 new)) (work_sum f jobs)
        rest_worked rest all =
            let G : Work → Type 0 = λ w. work new ≡ done (work (get_or mid 0 old)) w in
            let numbers : List ℕ = crew.drawn.numbers ++ rest.drawn.numbers in
            let whole : (h : ℕ → ℕ) → sum_by h numbers ≡ sum_by h (below (length jobs)) =
            λ h. sym (taken_vs G rest.drawn h) ∙ (weights_all vs (none_vs rest.drawn.same) all h ∙ put_vs rest.drawn.same h) in
            let then : AreDone (map work mid) (map work (slice_set mid 0 new)) (work_sum (work_at f jobs) rest.drawn.numbers) =
            first_worked work bounded done_all mid old new (work_sum (work_at f jobs) rest.drawn.numbers) some rest.drawn.work in
            subst (λ (w : Work). AreDone (map work before) (map work (slice_set mid 0 new)) w) (both_drawn rest.drawn.numbers ∙ whole_work f jobs numbers whole)
            (done_then (map work before) (map work mid) (map work (slice_set mid 0 new)) _ _ crew.drawn.work then)

        rest_gave : HaveDrawn (IsWithin (work (get_or mid 0 old)) (work new)) f jobs us vs → AllByRecursion (λ (s : Seat X). IsWhole (own_view s)) vs → AreWithin (map work before) (map work (slice_set mid 0 new)) (work_sum f jobs)
        rest_gave rest all =
            let G : Work → Type 0 = IsWithin (work (get_or mid 0 old)) (work new) in
            let numbers : List ℕ = crew.drawn.numbers ++ rest.numbers in
            let few : (h : ℕ → ℕ) → sum_by h numbers ≤ sum_by h (below (length jobs)) =
            λ h. let t = taken_vs G rest h in let w = weights_few vs (none_vs rest.same) all h in let p = put_vs rest.same h in omega arith in
            let then : AreWithin (map work mid) (map work (slice_set mid 0 new)) (work_sum (work_at f jobs) rest.numbers) =
            first_worked work bounded no_answer mid old new (work_sum (work_at f jobs) rest.numbers) some rest.work in
            let both_within : AreWithin (map work before) (map work (slice_set mid 0 new)) (work_sum (work_at f jobs) numbers) =
            subst (λ (w : Work). AreWithin (map work before) (map work (slice_set mid 0 new)) w) (both_drawn rest.numbers)
            (within_then (map work before) (map work mid) (map work (slice_set mid 0 new)) _ _ (all_counted work bounded before) crew.drawn.work then) in
            within_whole (map work before) (map work (slice_set mid 0 new)) _ (work_sum f jobs) (part_work f jobs numbers few) both_within

      rest_answered : (F : Work → Type 0) → HaveAnswered F P f jobs us vs → AllByRecursion (λ (s : Seat X). AllTaken (own_view s)) vs → AreAnswered P jobs vs
      rest_answered F rest all = record {
        kept = λ h.
            let none = kept_none (length jobs) ss fresh h in
            let c = crew.kept h in
            let g = zip_sum IsGathered (λ (s : Seat X). kept_weight h s) (λ x y e. ap (λ (l : List (ℕ × X)). sum_by (λ (r : ℕ × X). h r.0) l) e.own.kept) ts us gathered in
            let r = rest.kept h in
            let t = taken_vs F rest.drawn h in
            let w = weights_all vs (none_vs rest.drawn.same) all h in
            let p = put_vs rest.drawn.same h in
            omega (arith, sum_by-append h crew.drawn.numbers rest.drawn.numbers);
        answers = rest.answers (zip_rec IsGathered (HasAnswers P jobs) (HasAnswers P jobs) (λ x y e right. subst (λ (l : List (ℕ × X)). AllByRecursion (IsAnswer P jobs) l) (sym e.own.kept) right) ts us gathered (crew.answers (answers_none ss fresh)));
      }

    module _ {V E V' E' : Type 0} (ended : Result V E) (result : Result V' E') (vs : List (Seat X)) (before mid : List A) (some : 0 < length mid) (old new : A) (x : V) (is : ended ≡ Ok x)
        (h : AllEnded ended P f jobs ss ts (map work before) (map work mid)) (rest : HasWorkedRest result P f jobs us vs (work (get_or mid 0 old)) (work new)) where
      crew_went : HaveAnswered (AreDone (map work before) (map work mid)) P f jobs ss ts
      crew_went = all_went P f jobs ss ts (map work before) (map work mid) (subst (λ (r : Result V E). AllEnded r P f jobs ss ts (map work before) (map work mid)) is h)

      pub off_worked : AreWorked result (work_sum f jobs) (map work before) (map work (slice_set mid 0 new))
      off_worked = go result rest
        where
          go : (r : Result V' E') → HasWorkedRest r P f jobs us vs (work (get_or mid 0 old)) (work new) → AreWorked r (work_sum f jobs) (map work before) (map work (slice_set mid 0 new))
          go (Ok x) w = rest_worked vs before mid crew_went some old new w.0 w.1
          go (Err e) w = rest_gave vs before mid crew_went some old new w.0 w.1

      pub off_answered : OnOk result (AreAnswered P jobs vs)
      off_answered = go result rest
        where
          go : (r : Result V' E') → HasWorkedRest r P f jobs us vs (work (get_or mid 0 old)) (work new) → OnOk r (AreAnswered P jobs vs)
          go (Ok x) w = rest_answered vs before mid crew_went (λ all. work new ≡ done (work (get_or mid 0 old)) all) w.0 w.1
          go (Err e) w = tt

  -- ---- in order
  pub kept_more : (all all' kept : List (ℕ × X)) (ss : List (Seat X)) (s : Seat X) → all ≡ flat_map kept_of ss → all' ≡ all ++ kept → kept ≡ kept_of s → all' ≡ flat_map kept_of (ss ++ s ∷ [])
  kept_more all all' kept ss s is more of = more ∙ ((λ k. is k ++ of k) ∙ sym (flat_map-append kept_of ss (s ∷ []) ∙ ap (λ (l : List (ℕ × X)). flat_map kept_of ss ++ l) (nothing_after (kept_of s))))

  kept_all : (h : ℕ → ℕ) (ss : List (Seat X)) → sum_by (λ (r : ℕ × X). h r.0) (flat_map kept_of ss) ≡ sum_by (λ (s : Seat X). kept_weight h s) ss
  kept_all h [] = refl
  kept_all h (s ∷ ss) = let rest = kept_all h ss in omega (arith, sum_by-append (λ (r : ℕ × X). h r.0) (kept_of s) (flat_map kept_of ss), sum_by-cons (λ (s : Seat X). kept_weight h s) s ss)

  pub kept_numbers : (ss : List (Seat X)) (kept : List (ℕ × X)) → kept ≡ flat_map kept_of ss → AreAnswered P jobs ss → (h : ℕ → ℕ) → sum_by (λ (r : ℕ × X). h r.0) kept ≡ sum_by h (below (length jobs))
  kept_numbers ss kept is answered h = ap (λ (l : List (ℕ × X)). sum_by (λ (r : ℕ × X). h r.0) l) is ∙ (kept_all h ss ∙ answered.kept h)

  rec_joined : {B : Type 0} (Q : B → Type 0) (xs ys : List B) → AllByRecursion Q xs → AllByRecursion Q ys → AllByRecursion Q (xs ++ ys)
  rec_joined Q [] ys h h' = h'
  rec_joined Q (x ∷ xs) ys h h' = (h.0, rec_joined Q xs ys h.1 h')

  kept_right : (ss : List (Seat X)) → AllByRecursion (HasAnswers P jobs) ss → AllByRecursion (IsAnswer P jobs) (flat_map kept_of ss)
  kept_right [] all = tt
  kept_right (s ∷ ss) all = rec_joined (IsAnswer P jobs) (kept_of s) (flat_map kept_of ss) all.0 (kept_right ss all.1)

  contained : {B : Type 0} (Q : B → Type 0) (xs : List B) (x : B) → AllByRecursion Q xs → Contains xs x → Q x
  contained Q xs x all has = subst Q has.2 (rec_at Q xs has.0 x has.1 all)

  zip_gets : (js : List J) (xs : List X) → length xs ≡ length js → ((n : ℕ) → n < length js → (j : J) × (x : X) × (slice_get js n ≡ Some j) × (slice_get xs n ≡ Some x) × P j x) → AllZip P js xs
  zip_gets [] [] long each = tt
  zip_gets [] (x ∷ xs) long each = absurd (omega arith)
  zip_gets (j ∷ js) [] long each = absurd (omega arith)
  zip_gets (j ∷ js) (x ∷ xs) long each =
      let first = each 0 (omega arith) in
      let same_j : j ≡ first.0 = some_is j first.0 first.2 in
      let same_x : x ≡ first.1 = some_is x first.1 first.3 in
      (subst (λ (p : J × X). P p.0 p.1) (λ k. (sym same_j k, sym same_x k)) first.4, zip_gets js xs (omega arith) (λ n within. each (suc n) (omega arith)))
    where
      some_is : {B : Type 0} (a b : B) → Some a ≡ Some b → a ≡ b
      some_is a b e = cc

  pub all_there : (ss : List (Seat X)) (kept : List (ℕ × X)) (all : List X) → kept ≡ flat_map kept_of ss → AreAnswered P jobs ss → AreThere kept (length jobs) all → AllZip P jobs all
  all_there ss kept all is answered there =
      let right : AllByRecursion (IsAnswer P jobs) kept = subst (λ (l : List (ℕ × X)). AllByRecursion (IsAnswer P jobs) l) (sym is) (kept_right ss answered.answers) in
      zip_gets jobs all there.0 (λ n within.
      let at = there.1 n within in
      let a = contained (IsAnswer P jobs) kept (n, at.0) right at.2 in
      (a.job, at.0, a.at, at.1, a.answer))

  -- all was done, and there is no answer
  pub off_within : {V E : Type 0} (result : Result V E) (before now : List A) → IsErr result → AreDone (map work before) (map work now) (work_sum f jobs) → AreWorked result (work_sum f jobs) (map work before) (map work now)
  off_within (Ok x) before now err h = absurd (let e = err in cc)
  off_within (Err e) before now err h = done_within work bounded before (map work now) (work_sum f jobs) h

  -- nothing was done, and there is no answer
  pub off_nothing : {V E : Type 0} (result : Result V E) (all : List A) (w : Work) → IsErr result → AreWorked result w (map work all) (map work all)
  off_nothing (Ok x) all w err = absurd (let e = err in cc)
  off_nothing (Err e) all w err = within_whole (map work all) (map work all) no_work w (record { fronts = omega arith; merges = omega arith; checks = omega arith }) (done_within work bounded all (map work all) no_work (idle work bounded all))
