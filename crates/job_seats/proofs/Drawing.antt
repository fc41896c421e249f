-- What is drawn at a place.
use Rattle.std.proofs.Common.{◌≡◌, ℕ, zero, suc, ◌+◌, ◌-◌, ◌<◌, ◌≤◌, List, [], ◌∷◌, ◌++◌, length, set, get_or, sum_by, Option, Some, None, MatchOption, IfSome, refl, sym, ap, ◌∙◌, subst, arith}
use Rattle.std.specs.List.{AllByRecursion, AllZip}
use Rattle.std.proofs.lemmas.List.Sums.{sum_by-cons, sum_by-append, sum_by-set}
use Rattle.crossbeam_deque.specs.Handles.{stealer_deque, worker_view, worker_flavor, worker_deque}
use Rattle.number_draws.specs.declared.hand.Hand.{Hand}
use Rattle.number_draws.specs.Drawing.{Takes}
use Rattle.job_seats.specs.declared.place.Link.{Link}
use Rattle.job_seats.specs.declared.place.Seat.{Seat}
use Rattle.job_seats.specs.Seats.{link_view, IsLink, SameLink, IsBelow, IsSeat, Drew}

-- ---- a number that is taken is below the end
abbrev high : ℕ → ℕ → ℕ
high end i = 1 - (end - i)

put_none : (end : ℕ) (put : List ℕ) → AllByRecursion (λ i. i < end) put → sum_by (high end) put ≡ 0
put_none end [] all = refl
put_none end (x ∷ put) all = let first = all.0 in let rest = put_none end put all.1 in omega (arith, sum_by-cons (high end) x put)

low : (end x : ℕ) (put taken : List ℕ) → ((h : ℕ → ℕ) → sum_by h taken + sum_by h (x ∷ []) ≤ sum_by h put) → AllByRecursion (λ i. i < end) put → x < end
low end x put taken part all = let p = part (high end) in let z = put_none end put all in omega (arith, sum_by-cons (high end) x [])

pub low_result : (r : Option ℕ) (end : ℕ) (v w : Hand) → IsBelow end v → MatchOption r (w ≡ v) (λ n. Takes v (n ∷ []) w) → IfSome r (λ n. n < end)
low_result None end v w below h = tt
low_result (Some n) end v w below h = low end n v.put v.taken h.1 below

-- what a pass knows after it has taken these
abbrev Took : Hand → Hand → List ℕ → Type 0
Took v w numbers = (w.parts ≡ v.parts) × (w.put ≡ v.put) × ((h : ℕ → ℕ) → sum_by h w.taken ≡ sum_by h v.taken + sum_by h numbers)

took_none : (v w : Hand) → w ≡ v → Took v w []
took_none v w same = (ap (λ (u : Hand). u.parts) same, ap (λ (u : Hand). u.put) same, λ h. let t = ap (λ (u : Hand). sum_by h u.taken) same in omega arith)

took_one : (v w : Hand) (n : ℕ) → Takes v (n ∷ []) w → Took v w (n ∷ [])
took_one v w n takes = (ap (λ (u : Hand). u.parts) takes.0, ap (λ (u : Hand). u.put) takes.0, λ h. let t = ap (λ (u : Hand). sum_by h u.taken) takes.0 in omega (arith, sum_by-append h v.taken (n ∷ [])))

-- what is so of both, where a number was taken and where none was
by_result : (D : List ℕ → Type 0) (r : Option ℕ) (v w : Hand) → ((numbers : List ℕ) → Took v w numbers → D numbers) → MatchOption r (w ≡ v) (λ n. Takes v (n ∷ []) w) → MatchOption r (D []) (λ n. D (n ∷ []))
by_result D None v w then h = then [] (took_none v w h)
by_result D (Some n) v w then h = then (n ∷ []) (took_one v w n h)

took_same : (r : Option ℕ) (v w : Hand) → MatchOption r (w ≡ v) (λ n. Takes v (n ∷ []) w) → (w.parts ≡ v.parts) × (w.put ≡ v.put)
took_same None v w h = (ap (λ (u : Hand). u.parts) h, ap (λ (u : Hand). u.put) h)
took_same (Some n) v w h = (ap (λ (u : Hand). u.parts) h.0, ap (λ (u : Hand). u.put) h.0)

-- ---- links
pub link_after : (r : Option ℕ) (l l' : Link) → IsLink l → l'.thief ≡ l.thief → IsLink l' → MatchOption r (link_view l' ≡ link_view l) (λ n. Takes (link_view l) (n ∷ []) (link_view l')) → SameLink l l'
link_after r l l' is thief is' h = let same = took_same r (link_view l) (link_view l') h in record { right = is'; deque = ap (λ t. stealer_deque t) thief; parts = same.0; put = same.1 }

same_link : (l : Link) → IsLink l → SameLink l l
same_link l is = record { right = is; deque = refl; parts = refl; put = refl }

pub same_links : (ls : List Link) → AllByRecursion IsLink ls → AllZip SameLink ls ls
same_links [] all = tt
same_links (l ∷ ls) all = (same_link l all.0, same_links ls all.1)

link_set : (ls : List Link) (k : ℕ) (l' d : Link) → AllByRecursion IsLink ls → k < length ls → SameLink (get_or ls k d) l' → AllZip SameLink ls (set ls k l')
link_set [] k l' d all within same = absurd (omega arith)
link_set (l ∷ ls) zero l' d all within same = (same, same_links ls all.1)
link_set (l ∷ ls) (suc k) l' d all within same = (same_link l all.0, link_set ls k l' d all.1 (omega arith) same)

pub links_then : (ls ms ns : List Link) → AllZip SameLink ls ms → AllZip SameLink ms ns → AllZip SameLink ls ns
links_then [] [] [] h h' = tt
links_then [] [] (c ∷ ns) h h' = absurd h'
links_then [] (b ∷ ms) ns h h' = absurd h
links_then (a ∷ ls) [] ns h h' = absurd h
links_then (a ∷ ls) (b ∷ ms) [] h h' = absurd h'
links_then (a ∷ ls) (b ∷ ms) (c ∷ ns) h h' =
    (record { right = h'.0.right; deque = h'.0.deque ∙ h.0.deque; parts = h'.0.parts ∙ h.0.parts; put = h'.0.put ∙ h.0.put }, links_then ls ms ns h.1 h'.1)

pub links_right : (ls ls' : List Link) → AllZip SameLink ls ls' → AllByRecursion IsLink ls'
links_right [] [] h = tt
links_right [] (b ∷ ls') h = absurd h
links_right (a ∷ ls) [] h = absurd h
links_right (a ∷ ls) (b ∷ ls') h = (h.0.right, links_right ls ls' h.1)

links_below : (end : ℕ) (ls ls' : List Link) → AllZip SameLink ls ls' → AllByRecursion (λ (l : Link). IsBelow end (link_view l)) ls → AllByRecursion (λ (l : Link). IsBelow end (link_view l)) ls'
links_below end [] [] h all = tt
links_below end [] (b ∷ ls') h all = absurd h
links_below end (a ∷ ls) [] h all = absurd h
links_below end (a ∷ ls) (b ∷ ls') h all = (subst (λ (put : List ℕ). AllByRecursion (λ i. i < end) put) (sym h.0.put) all.0, links_below end ls ls' h.1 all.1)

pub links_long : (ls ls' : List Link) → AllZip SameLink ls ls' → length ls' ≡ length ls
links_long [] [] h = refl
links_long [] (b ∷ ls') h = absurd h
links_long (a ∷ ls) [] h = absurd h
links_long (a ∷ ls) (b ∷ ls') h = let rest = links_long ls ls' h.1 in omega arith

pub link_at : (ls : List Link) (k : ℕ) (d : Link) → AllByRecursion IsLink ls → k < length ls → IsLink (get_or ls k d)
link_at [] k d all within = absurd (omega arith)
link_at (l ∷ ls) zero d all within = all.0
link_at (l ∷ ls) (suc k) d all within = link_at ls k d all.1 (omega arith)

below_at : (end : ℕ) (ls : List Link) (k : ℕ) (d : Link) → AllByRecursion (λ (l : Link). IsBelow end (link_view l)) ls → k < length ls → IsBelow end (link_view (get_or ls k d))
below_at end [] k d all within = absurd (omega arith)
below_at end (l ∷ ls) zero d all within = all.0
below_at end (l ∷ ls) (suc k) d all within = below_at end ls k d all.1 (omega arith)

module _ {X : Type 0} where
  -- ---- the place
  pub seat_after : (end : ℕ) (s s' : Seat X) (numbers : List ℕ) → IsSeat end s → worker_flavor s'.own ≡ 0 → Drew s s' numbers → IsSeat end s'
  seat_after end s s' numbers is flavor drew = record {
    flavor = flavor;
    part = (let p = drew.parts in let q = is.part in omega arith);
    below = subst (λ (put : List ℕ). AllByRecursion (λ i. i < end) put) (sym drew.put) is.below;
    links = links_right s.links.items s'.links.items drew.links;
    links_below = links_below end s.links.items s'.links.items drew.links is.links_below;
  }

  pub own_drew : (end : ℕ) (s s' : Seat X) (r : Option ℕ) → IsSeat end s → worker_deque s'.own ≡ worker_deque s.own → s'.links.items ≡ s.links.items
      → MatchOption r (worker_view s'.own ≡ worker_view s.own) (λ n. Takes (worker_view s.own) (n ∷ []) (worker_view s'.own)) → MatchOption r (Drew s s' []) (λ n. Drew s s' (n ∷ []))
  own_drew end s s' r is deque links h = by_result (Drew s s') r (worker_view s.own) (worker_view s'.own) (λ numbers took. record {
    deque = deque;
    parts = took.0;
    put = took.1;
    links = subst (λ (ls : List Link). AllZip SameLink s.links.items ls) (sym links) (same_links s.links.items is.links);
    taken = λ h. let t = took.2 h in let l = ap (λ (ls : List Link). sum_by (λ (l : Link). sum_by h (link_view l).taken) ls) links in omega arith;
  }) h

  pub own_seat : (end : ℕ) (s s' : Seat X) (r : Option ℕ) → IsSeat end s → worker_flavor s'.own ≡ 0 → MatchOption r (Drew s s' []) (λ n. Drew s s' (n ∷ [])) → IsSeat end s'
  own_seat end s s' None is flavor h = seat_after end s s' [] is flavor h
  own_seat end s s' (Some n) is flavor h = seat_after end s s' (n ∷ []) is flavor h

  module _ (end : ℕ) (s s' : Seat X) (k : ℕ) (l l' : Link) (r : Option ℕ) (is : IsSeat end s) (within : k < length s.links.items) (is_at : l ≡ get_or s.links.items k l)
      (h : MatchOption r (link_view l' ≡ link_view l) (λ n. Takes (link_view l) (n ∷ []) (link_view l'))) where
    pub link_drew : worker_deque s'.own ≡ worker_deque s.own → worker_view s'.own ≡ worker_view s.own → s'.links.items ≡ set s.links.items k l' → SameLink l l' → MatchOption r (Drew s s' []) (λ n. Drew s s' (n ∷ []))
    link_drew deque own links same = by_result (Drew s s') r (link_view l) (link_view l') (λ numbers took. record {
      deque = deque;
      parts = ap (λ (v : Hand). v.parts) own;
      put = ap (λ (v : Hand). v.put) own;
      links = subst (λ (ls : List Link). AllZip SameLink s.links.items ls) (sym links) (link_set s.links.items k l' l is.links within (subst (λ (m : Link). SameLink m l') is_at same));
      taken = λ g.
          let t = took.2 g in
          let o = ap (λ (v : Hand). sum_by g v.taken) own in
          let e = ap (λ (m : Link). sum_by g (link_view m).taken) is_at in
          let all = ap (λ (ls : List Link). sum_by (λ (m : Link). sum_by g (link_view m).taken) ls) links in
          omega (arith, sum_by-set (λ (m : Link). sum_by g (link_view m).taken) s.links.items k l' l within);
    }) h

    pub link_low : IfSome r (λ n. n < end)
    link_low = low_result r end (link_view l) (link_view l') (subst (λ (m : Link). IsBelow end (link_view m)) (sym is_at) (below_at end s.links.items k l is.links_below within)) h

  -- what was drawn at a place stays so where only what is kept differs
  pub drew_keeping : (s s1 s' : Seat X) (numbers : List ℕ) → worker_deque s'.own ≡ worker_deque s1.own → worker_view s'.own ≡ worker_view s1.own → s'.links.items ≡ s1.links.items → Drew s s1 numbers → Drew s s' numbers
  drew_keeping s s1 s' numbers deque own links drew = record {
    deque = deque ∙ drew.deque;
    parts = ap (λ (v : Hand). v.parts) own ∙ drew.parts;
    put = ap (λ (v : Hand). v.put) own ∙ drew.put;
    links = subst (λ (ls : List Link). AllZip SameLink s.links.items ls) (sym links) drew.links;
    taken = λ h.
        let d = drew.taken h in
        let o = ap (λ (v : Hand). sum_by h v.taken) own in
        let all = ap (λ (ls : List Link). sum_by (λ (m : Link). sum_by h (link_view m).taken) ls) links in
        omega arith;
  }

  -- nothing was drawn
  pub drew_none : (end : ℕ) (s : Seat X) → IsSeat end s → Drew s s []
  drew_none end s is = record { deque = refl; parts = refl; put = refl; links = same_links s.links.items is.links; taken = λ h. omega arith }

  -- some were drawn, and then more
  pub drew_then : (a b c : Seat X) (numbers more : List ℕ) → Drew a b numbers → Drew b c more → Drew a c (numbers ++ more)
  drew_then a b c numbers more first then = record {
    deque = then.deque ∙ first.deque;
    parts = then.parts ∙ first.parts;
    put = then.put ∙ first.put;
    links = links_then a.links.items b.links.items c.links.items first.links then.links;
    taken = λ h. let f = first.taken h in let t = then.taken h in omega (arith, sum_by-append h numbers more);
  }
