-- A walk along chains: it begins, goes one name further, stops, and gives its names their ends.
use Rattle.std.proofs.Common.{◌≡◌, refl, sym, ◌∙◌, ap, subst, ℕ, zero, suc, ◌+◌, ◌<◌, ◌≤◌, ◌^◌, arith, Bool, true, false, List, [], ◌∷◌, ◌++◌, length, map, set, slice_get, Option, Some, None, option_map, ◌⊎◌, inl, inr}
use Rattle.std.proofs.lemmas.List.{length-append, length-map}
use Rattle.std.proofs.lemmas.Option.{slice_get-map, slice_get_within}
use native.Mathlib.Decide.{ℕ_discrete}
use Rattle.graph_search.proofs.Lists.{none_some, get-set_here, get-set_else, length-set_here, get-front}
use Rattle.graph_search.specs.Cycles.{Has}
use Rattle.chain_ends.specs.declared.links.End.{End}
use Rattle.chain_ends.specs.declared.links.End.TheVariants.{Unknown, Cyclic}
use Rattle.chain_ends.specs.declared.links.Link.{Link}
use Rattle.chain_ends.specs.declared.links.Link.TheVariants.{Ends, Goes}
use Rattle.chain_ends.specs.declared.walking.Mark.{Mark}
use Rattle.chain_ends.specs.declared.walking.Mark.TheVariants.{New, Open, Done}
use Rattle.chain_ends.specs.Following.{of_kind, end_of, end_within, most, chain_end, AreEnds}
use Rattle.chain_ends.specs.Walking.{first_mark, next_by, next_of, end_marked, through, done_count, Settled, LeadsTo, Leads, starts, longer, IsWalk, NoneRenewed, Walking, HasWalked}

-- lists of numbers that are longer by one at their end
snoc_same : (a b : List ℕ) (x y : ℕ) → a ++ x ∷ [] ≡ b ++ y ∷ [] → (a ≡ b) × (x ≡ y)
snoc_same [] [] x y e = (refl, cc)
snoc_same [] (z ∷ b) x y e = absurd (omega (arith, ap length e, length-append b (y ∷ [])))
snoc_same (z ∷ a) [] x y e = absurd (omega (arith, ap length e, length-append a (x ∷ [])))
snoc_same (z ∷ a) (w ∷ b) x y e =
    let f : a ++ x ∷ [] ≡ b ++ y ∷ [] = cc in
    let g : z ≡ w = cc in
    let r = snoc_same a b x y f in
    let s : a ≡ b = r.0 in
    (cc, r.1)

no_snoc : (a : List ℕ) (x : ℕ) → [] ≡ a ++ x ∷ [] → ⊥
no_snoc a x e = omega (arith, ap length e, length-append a (x ∷ []))

get_last : (xs : List ℕ) (x : ℕ) → slice_get (xs ++ x ∷ []) (length xs) ≡ Some x
get_last [] x = refl
get_last (y ∷ xs) x = get_last xs x

-- what stands in a list that is longer by one stood there, or is the one at the end
get_snoc : (xs : List ℕ) (x i n : ℕ) → slice_get (xs ++ x ∷ []) i ≡ Some n → (slice_get xs i ≡ Some n) ⊎ ((i ≡ length xs) × (x ≡ n))
get_snoc [] x zero n h = inr (refl, (let f : Some x ≡ Some n = h in cc))
get_snoc [] x (suc i) n h = none_some n h
get_snoc (y ∷ xs) x zero n h = inl h
get_snoc (y ∷ xs) x (suc i) n h = elim (get_snoc xs x i n h) [ inl e ↦ inl e | inr e ↦ inr (ap suc (e.0), e.1) ]

no_past : (xs : List Mark) (i : ℕ) → i < length xs → slice_get xs i ≡ None → ⊥
no_past [] i h n = omega arith
no_past (x ∷ xs) zero h n = none_some x (sym n)
no_past (x ∷ xs) (suc i) h n = no_past xs i (omega arith) n

-- marks that are one are no others
new_open : Some New ≡ Some Open → ⊥
new_open e = cc

new_done : (end : End) → Some New ≡ Some (Done end) → ⊥
new_done end e = cc

open_done : (end : End) → Some Open ≡ Some (Done end) → ⊥
open_done end e = cc

none_new : None ≡ Some New → ⊥
none_new e = cc

-- the first marks
begins_by : (l : Option Link) → option_map first_mark l ≡ Some New → (m : ℕ) × ((k : Bool) × (l ≡ Some (Goes k m)))
begins_by None e = absurd (let f : None ≡ Some New = e in cc)
begins_by (Some (Ends end)) e = absurd (let f : Some (Done end) ≡ Some New = e in cc)
begins_by (Some (Goes k m)) e = (m, (k, refl))

never_open : (l : Option Link) → option_map first_mark l ≡ Some Open → ⊥
never_open None e = let f : None ≡ Some Open = e in cc
never_open (Some (Ends end)) e = let f : Some (Done end) ≡ Some Open = e in cc
never_open (Some (Goes k m)) e = let f : Some New ≡ Some Open = e in cc

done_by : (links : List Link) (count n : ℕ) (end : End) (l : Option Link) → slice_get links n ≡ l → option_map first_mark l ≡ Some (Done end) → Settled links count n end
done_by links count n end None is e = absurd (let f : None ≡ Some (Done end) = e in cc)
done_by links count n end (Some (Goes k m)) is e = absurd (let f : Some New ≡ Some (Done end) = e in cc)
done_by links count n end (Some (Ends other)) is e = by
  where
    by : Settled links count n end
    by zero h = absurd (omega arith)
    by (suc s) h =
        let f : other ≡ end = (let g : Some (Done other) ≡ Some (Done end) = e in cc) in
        ap (end_of (end_within links s)) is ∙ f

pub begins : (links : List Link) → IsWalk links (map first_mark links) []
begins links = record {
  len = length-map links first_mark;
  fresh = λ n h. begins_by (slice_get links n) (sym (slice_get-map first_mark links n) ∙ h);
  settled = λ n end h. done_by links (done_count (map first_mark links)) n end (slice_get links n) refl (sym (slice_get-map first_mark links n) ∙ h);
  listed = λ n h. absurd (never_open (slice_get links n) (sym (slice_get-map first_mark links n) ∙ h));
  opened = λ i n h. none_some n h;
  once = λ i j n h k. none_some n h;
}

module _ (links : List Link) where
  cyclic_kind : (k : Bool) → of_kind k Cyclic ≡ Cyclic
  cyclic_kind true = refl
  cyclic_kind false = refl

  one_step : (s n : ℕ) (k : Bool) (m : ℕ) → slice_get links n ≡ Some (Goes k m) → end_within links (suc s) n ≡ of_kind k (end_within links s m)
  one_step s n k m is = ap (end_of (end_within links s)) is

  -- names that lead to such names only repeat
  repeats : (marks : List Mark) → ((n : ℕ) → slice_get marks n ≡ Some Open → (m : ℕ) × LeadsTo links n m × (slice_get marks m ≡ Some Open)) →
      (s n : ℕ) → slice_get marks n ≡ Some Open → end_within links s n ≡ Cyclic
  repeats marks closed zero n h = refl
  repeats marks closed (suc s) n h =
      let c = closed n h in
      one_step s n (c.1.0) (c.0) (c.1.1) ∙ ap (of_kind (c.1.0)) (repeats marks closed s (c.0) (c.2)) ∙ cyclic_kind (c.1.0)

  -- a walk goes one name further
  next_some : (at next : ℕ) (m : Option Mark) (l : Option Link) → next_by m l ≡ Some next → (m ≡ Some New) × ((k : Bool) × (l ≡ Some (Goes k next)))
  next_some at next (Some New) (Some (Goes k other)) e = (refl, (k, (let f : Some other ≡ Some next = e in let g : other ≡ next = cc in ap (λ n. Some (Goes k n)) g)))
  next_some at next (Some New) (Some (Ends end)) e = absurd (let f : None ≡ Some next = e in cc)
  next_some at next (Some New) None e = absurd (let f : None ≡ Some next = e in cc)
  next_some at next (Some Open) l e = absurd (let f : None ≡ Some next = e in cc)
  next_some at next (Some (Done end)) l e = absurd (let f : None ≡ Some next = e in cc)
  next_some at next None l e = absurd (let f : None ≡ Some next = e in cc)

  -- as many are done where a new one is opened
  count_open : (marks : List Mark) (n : ℕ) → slice_get marks n ≡ Some New → done_count (set marks n Open) ≡ done_count marks
  count_open [] n h = none_some New h
  count_open (New ∷ marks) zero h = refl
  count_open (Open ∷ marks) zero h = absurd (new_open (sym h))
  count_open (Done end ∷ marks) zero h = absurd (new_done end (sym h))
  count_open (New ∷ marks) (suc n) h = count_open marks n h
  count_open (Open ∷ marks) (suc n) h = count_open marks n h
  count_open (Done end ∷ marks) (suc n) h = ap suc (count_open marks n h)

  -- and one more where an open one is done
  count_done : (marks : List Mark) (n : ℕ) (end : End) → slice_get marks n ≡ Some Open → done_count (set marks n (Done end)) ≡ suc (done_count marks)
  count_done [] n end h = none_some Open h
  count_done (New ∷ marks) zero end h = absurd (new_open h)
  count_done (Open ∷ marks) zero end h = refl
  count_done (Done other ∷ marks) zero end h = absurd (open_done other (sym h))
  count_done (New ∷ marks) (suc n) end h = count_done marks n end h
  count_done (Open ∷ marks) (suc n) end h = count_done marks n end h
  count_done (Done other ∷ marks) (suc n) end h = ap suc (count_done marks n end h)

  -- what another mark than the one that is written was
  elsewhere : (marks : List Mark) (at n : ℕ) (a b : Mark) → slice_get (set marks at a) n ≡ Some b → ¬ (n ≡ at) → slice_get marks n ≡ Some b
  elsewhere marks at n a b h off = sym (get-set_else marks at n a off) ∙ h

  module _ (before marks : List Mark) (trail : List ℕ) (start at : ℕ) (w : Walking links before marks trail start at) where
    pub goes_further : (next : ℕ) → next_of links marks at ≡ Some next → Walking links before (set marks at Open) (trail ++ at ∷ []) start next
    goes_further next e = record {
      walk = record {
        len = length-set_here marks at Open ∙ w.walk.len;
        fresh = λ n h. by_new n h (ℕ_discrete n at);
        settled = λ n end h. by_done n end h (ℕ_discrete n at);
        listed = λ n h. by_open n h (ℕ_discrete n at);
        opened = λ i n h. on_trail n (get_snoc trail at i n h);
        once = λ i j n h g. one_place i j n (get_snoc trail at i n h) (get_snoc trail at j n g);
      };
      leads = longer w.leads (k, goes) refl;
      open_lead = λ n h. lead n h (ℕ_discrete n at);
      begun = inr (λ h. began h (ℕ_discrete start at));
      kept = λ n h. renewed n h (ℕ_discrete n at);
    }
      where
        some : (slice_get marks at ≡ Some New) × ((k : Bool) × (slice_get links at ≡ Some (Goes k next)))
        some = next_some at next (slice_get marks at) (slice_get links at) e

        new : slice_get marks at ≡ Some New
        new = some.0

        k : Bool
        k = some.1.0

        goes : slice_get links at ≡ Some (Goes k next)
        goes = some.1.1

        small : at < length marks
        small = slice_get_within marks at New new

        set_here : slice_get (set marks at Open) at ≡ Some Open
        set_here = get-set_here marks at Open small

        still_open : (m : ℕ) → slice_get marks m ≡ Some Open → Dec (m ≡ at) → slice_get (set marks at Open) m ≡ Some Open
        still_open m opened (yes same) = ap (slice_get (set marks at Open)) same ∙ set_here
        still_open m opened (no off) = get-set_else marks at m Open off ∙ opened

        by_new : (n : ℕ) → slice_get (set marks at Open) n ≡ Some New → Dec (n ≡ at) → (m : ℕ) × LeadsTo links n m
        by_new n h (yes same) = absurd (new_open (sym h ∙ ap (slice_get (set marks at Open)) same ∙ set_here))
        by_new n h (no off) = w.walk.fresh n (elsewhere marks at n Open New h off)

        by_done : (n : ℕ) (end : End) → slice_get (set marks at Open) n ≡ Some (Done end) → Dec (n ≡ at) → Settled links (done_count (set marks at Open)) n end
        by_done n end h (yes same) = absurd (open_done end (sym set_here ∙ ap (slice_get (set marks at Open)) (sym same) ∙ h))
        by_done n end h (no off) = subst (λ c. Settled links c n end) (sym (count_open marks at new)) (w.walk.settled n end (elsewhere marks at n Open (Done end) h off))

        by_open : (n : ℕ) → slice_get (set marks at Open) n ≡ Some Open → Dec (n ≡ at) → Has (trail ++ at ∷ []) n
        by_open n h (yes same) = (length trail, get_last trail at ∙ ap Some (sym same))
        by_open n h (no off) = let p = w.walk.listed n (elsewhere marks at n Open Open h off) in (p.0, get-front trail (at ∷ []) (p.0) n (p.1))

        on_trail : (n : ℕ) {i : ℕ} → (slice_get trail i ≡ Some n) ⊎ ((i ≡ length trail) × (at ≡ n)) → slice_get (set marks at Open) n ≡ Some Open
        on_trail n {i} (inl h) = still_open n (w.walk.opened i n h) (ℕ_discrete n at)
        on_trail n (inr e) = ap (slice_get (set marks at Open)) (sym (e.1)) ∙ set_here

        not_there : (i : ℕ) → slice_get trail i ≡ Some at → ⊥
        not_there i h = new_open (sym new ∙ w.walk.opened i at h)

        one_place : (i j n : ℕ) → (slice_get trail i ≡ Some n) ⊎ ((i ≡ length trail) × (at ≡ n)) → (slice_get trail j ≡ Some n) ⊎ ((j ≡ length trail) × (at ≡ n)) → i ≡ j
        one_place i j n (inl h) (inl g) = w.walk.once i j n h g
        one_place i j n (inl h) (inr g) = absurd (not_there i (h ∙ ap Some (sym (g.1))))
        one_place i j n (inr h) (inl g) = absurd (not_there j (g ∙ ap Some (sym (h.1))))
        one_place i j n (inr h) (inr g) = h.0 ∙ sym (g.0)

        still : (m : ℕ) → (slice_get marks m ≡ Some Open) ⊎ (m ≡ at) → slice_get (set marks at Open) m ≡ Some Open
        still m (inr same) = ap (slice_get (set marks at Open)) same ∙ set_here
        still m (inl opened) = still_open m opened (ℕ_discrete m at)

        lead : (n : ℕ) → slice_get (set marks at Open) n ≡ Some Open → Dec (n ≡ at) → (m : ℕ) × LeadsTo links n m × ((slice_get (set marks at Open) m ≡ Some Open) ⊎ (m ≡ next))
        lead n h (yes same) = (next, (k, ap (slice_get links) same ∙ goes), inr refl)
        lead n h (no off) = let l = w.open_lead n (elsewhere marks at n Open Open h off) in (l.0, l.1, inl (still (l.0) (l.2)))

        began : slice_get (set marks at Open) start ≡ Some New → Dec (start ≡ at) → ⊥
        began h (yes same) = new_open (sym h ∙ ap (slice_get (set marks at Open)) same ∙ set_here)
        began h (no off) = elim w.begun [ inl same ↦ off same | inr b ↦ b (elsewhere marks at start Open New h off) ]

        renewed : (n : ℕ) → slice_get (set marks at Open) n ≡ Some New → Dec (n ≡ at) → slice_get before n ≡ Some New
        renewed n h (yes same) = absurd (new_open (sym h ∙ ap (slice_get (set marks at Open)) same ∙ set_here))
        renewed n h (no off) = w.kept n (elsewhere marks at n Open New h off)

    -- a walk stops
    pub stops : next_of links marks at ≡ None → HasWalked links before marks trail start (end_marked (slice_get marks at))
    stops e = record {
      walk = w.walk;
      at = at;
      leads = w.leads;
      told = tells (slice_get marks at) refl;
      begun = not_begun w.begun;
      kept = w.kept;
    }
      where
        not_new : slice_get marks at ≡ Some New → ⊥
        not_new new =
            let f = w.walk.fresh at new in
            let g : next_of links marks at ≡ Some (f.0) = ap (λ m. next_by m (slice_get links at)) new ∙ ap (next_by (Some New)) (f.1.1) in
            let h : None ≡ Some (f.0) = sym e ∙ g in
            none_some (f.0) h

        all_open : slice_get marks at ≡ Some Open → (n : ℕ) → slice_get marks n ≡ Some Open → (m : ℕ) × LeadsTo links n m × (slice_get marks m ≡ Some Open)
        all_open opened n h = let l = w.open_lead n h in (l.0, l.1, elim (l.2) [ inl o ↦ o | inr same ↦ ap (slice_get marks) same ∙ opened ])

        past : slice_get marks at ≡ None → (l : Option Link) → slice_get links at ≡ l → Settled links (done_count marks) at Unknown
        past none (Some l) is =
            let small : at < length marks = (let i = slice_get_within links at l is in let q = w.walk.len in omega arith) in
            absurd (no_past marks at small none)
        past none None is = by
          where
            by : Settled links (done_count marks) at Unknown
            by zero h = absurd (omega arith)
            by (suc s) h = ap (end_of (end_within links s)) is

        tells : (m : Option Mark) → slice_get marks at ≡ m → Settled links (done_count marks) at (end_marked m)
        tells None is = past is (slice_get links at) refl
        tells (Some New) is = absurd (not_new is)
        tells (Some Open) is = λ s h. repeats marks (all_open is) s at is
        tells (Some (Done end)) is = w.walk.settled at end is

        not_begun : (start ≡ at) ⊎ (slice_get marks start ≡ Some New → ⊥) → slice_get marks start ≡ Some New → ⊥
        not_begun (inl same) new = not_new (ap (slice_get marks) (sym same) ∙ new)
        not_begun (inr b) new = b new

  -- the last name of a trail
  last_leads : (all rest : List ℕ) (n at : ℕ) → Leads links all at → all ≡ rest ++ n ∷ [] → Leads links rest n × LeadsTo links n at
  last_leads all rest n at starts e = absurd (no_snoc rest n e)
  last_leads all rest n at (longer {trail = trail} {n = m} h t is) e =
      let s = snoc_same trail rest m n (sym is ∙ e) in
      (subst (λ r. Leads links r n) (s.0) (subst (Leads links trail) (s.1) h), subst (λ m. LeadsTo links m at) (s.1) t)

  -- the last name of a trail is given its end
  pub gives : (before marks : List Mark) (all rest : List ℕ) (start n : ℕ) (end : End) → HasWalked links before marks all start end → all ≡ rest ++ n ∷ [] →
      HasWalked links before (set marks n (Done (through (slice_get links n) end))) rest start (through (slice_get links n) end)
  gives before marks all rest start n end w e = record {
    walk = record {
      len = length-set_here marks n (Done e2) ∙ w.walk.len;
      fresh = λ i h. by_new i h (ℕ_discrete i n);
      settled = λ i d h. by_done i d h (ℕ_discrete i n);
      listed = λ i h. by_open i h (ℕ_discrete i n);
      opened = λ i m h. still_open i m h (ℕ_discrete m n);
      once = λ i j m h g. w.walk.once i j m (in_all i m h) (in_all j m g);
    };
    at = n;
    leads = l.0;
    told = told;
    begun = λ h. by_start h (ℕ_discrete start n);
    kept = λ i h. renewed i h (ℕ_discrete i n);
  }
    where
      e2 : End
      e2 = through (slice_get links n) end

      l : Leads links rest n × LeadsTo links n (w.at)
      l = last_leads all rest n (w.at) (w.leads) e

      in_all : (i m : ℕ) → slice_get rest i ≡ Some m → slice_get all i ≡ Some m
      in_all i m h = ap (λ t. slice_get t i) e ∙ get-front rest (n ∷ []) i m h

      last_in : slice_get all (length rest) ≡ Some n
      last_in = ap (λ t. slice_get t (length rest)) e ∙ get_last rest n

      is_open : slice_get marks n ≡ Some Open
      is_open = w.walk.opened (length rest) n last_in

      still_open : (i m : ℕ) → slice_get rest i ≡ Some m → Dec (m ≡ n) → slice_get (set marks n (Done e2)) m ≡ Some Open
      still_open i m h (yes same) =
          let j : i ≡ length rest = w.walk.once i (length rest) m (in_all i m h) (last_in ∙ ap Some (sym same)) in
          let k : i < length rest = slice_get_within rest i m h in
          absurd (omega arith)
      still_open i m h (no off) = get-set_else marks n m (Done e2) off ∙ w.walk.opened i m (in_all i m h)

      small : n < length marks
      small = slice_get_within marks n Open is_open

      here : slice_get (set marks n (Done e2)) n ≡ Some (Done e2)
      here = get-set_here marks n (Done e2) small

      count : done_count (set marks n (Done e2)) ≡ suc (done_count marks)
      count = count_done marks n e2 is_open

      told : Settled links (done_count (set marks n (Done e2))) n e2
      told zero h = absurd (omega arith)
      told (suc s) h = one_step s n (l.1.0) (w.at) (l.1.1) ∙ ap (of_kind (l.1.0)) (w.told s (omega (arith, count))) ∙ ap (λ o. through o end) (sym (l.1.1))

      more : (i : ℕ) (d : End) → Settled links (done_count marks) i d → Settled links (done_count (set marks n (Done e2))) i d
      more i d t s h = t s (omega (arith, count))

      by_new : (i : ℕ) → slice_get (set marks n (Done e2)) i ≡ Some New → Dec (i ≡ n) → (m : ℕ) × LeadsTo links i m
      by_new i h (yes same) = absurd (new_done e2 (sym h ∙ ap (slice_get (set marks n (Done e2))) same ∙ here))
      by_new i h (no off) = w.walk.fresh i (elsewhere marks n i (Done e2) New h off)

      by_done : (i : ℕ) (d : End) → slice_get (set marks n (Done e2)) i ≡ Some (Done d) → Dec (i ≡ n) → Settled links (done_count (set marks n (Done e2))) i d
      by_done i d h (yes same) =
          let f : Some (Done e2) ≡ Some (Done d) = sym here ∙ ap (slice_get (set marks n (Done e2))) (sym same) ∙ h in
          let g : e2 ≡ d = cc in
          subst (λ i. Settled links (done_count (set marks n (Done e2))) i d) (sym same) (subst (Settled links (done_count (set marks n (Done e2))) n) g told)
      by_done i d h (no off) = more i d (w.walk.settled i d (elsewhere marks n i (Done e2) (Done d) h off))

      by_open : (i : ℕ) → slice_get (set marks n (Done e2)) i ≡ Some Open → Dec (i ≡ n) → Has rest i
      by_open i h (yes same) = absurd (open_done e2 (sym h ∙ ap (slice_get (set marks n (Done e2))) same ∙ here))
      by_open i h (no off) =
          let p = w.walk.listed i (elsewhere marks n i (Done e2) Open h off) in
          elim (get_snoc rest n (p.0) i (ap (λ t. slice_get t (p.0)) (sym e) ∙ p.1)) [ inl c ↦ (p.0, c) | inr c ↦ absurd (off (sym (c.1))) ]

      by_start : slice_get (set marks n (Done e2)) start ≡ Some New → Dec (start ≡ n) → ⊥
      by_start h (yes same) = new_done e2 (sym h ∙ ap (slice_get (set marks n (Done e2))) same ∙ here)
      by_start h (no off) = w.begun (elsewhere marks n start (Done e2) New h off)

      renewed : (i : ℕ) → slice_get (set marks n (Done e2)) i ≡ Some New → Dec (i ≡ n) → slice_get before i ≡ Some New
      renewed i h (yes same) = absurd (new_done e2 (sym h ∙ ap (slice_get (set marks n (Done e2))) same ∙ here))
      renewed i h (no off) = w.kept i (elsewhere marks n i (Done e2) New h off)

  -- all are done
  done_few : (marks : List Mark) → done_count marks ≤ length marks
  done_few [] = omega arith
  done_few (New ∷ marks) = let h = done_few marks in omega arith
  done_few (Open ∷ marks) = let h = done_few marks in omega arith
  done_few (Done end ∷ marks) = let h : done_count marks ≤ length marks = done_few marks in let q : suc (done_count marks) ≤ suc (length marks) = omega arith in q

  end_of_mark : (marks : List Mark) (n : ℕ) → IsWalk links marks [] → ((n : ℕ) → slice_get marks n ≡ Some New → ⊥) → length links < most → n < length links → (m : Option Mark) → slice_get marks n ≡ m →
      option_map (λ m. end_marked (Some m)) m ≡ Some (chain_end links n)
  end_of_mark marks n w none few h None is = absurd (let l = w.len in no_past marks n (omega arith) is)
  end_of_mark marks n w none few h (Some New) is = absurd (none n is)
  end_of_mark marks n w none few h (Some Open) is = absurd (let p = w.listed n is in none_some n (p.1))
  end_of_mark marks n w none few h (Some (Done end)) is = ap Some (sym (w.settled n end is most (let d = done_few marks in let l = w.len in omega arith)))

  pub all_ends : (marks : List Mark) → IsWalk links marks [] → ((n : ℕ) → slice_get marks n ≡ Some New → ⊥) → length links < most → AreEnds links (map (λ m. end_marked (Some m)) marks)
  all_ends marks w none few = (length-map marks (λ m. end_marked (Some m)) ∙ w.len, λ n h. slice_get-map (λ m. end_marked (Some m)) marks n ∙ end_of_mark marks n w none few h (slice_get marks n) refl)

-- a walk opens a new name with each step
abbrev pub new_count : List Mark → ℕ
new_count [] = 0
new_count (New ∷ marks) = suc (new_count marks)
new_count (Open ∷ marks) = new_count marks
new_count (Done end ∷ marks) = new_count marks

pub fewer_new : (marks : List Mark) (n : ℕ) → slice_get marks n ≡ Some New → new_count (set marks n Open) < new_count marks
fewer_new [] n h = none_some New h
fewer_new (New ∷ marks) zero h = let r : new_count marks < suc (new_count marks) = omega arith in r
fewer_new (Open ∷ marks) zero h = absurd (new_open (sym h))
fewer_new (Done end ∷ marks) zero h = absurd (new_done end (sym h))
fewer_new (New ∷ marks) (suc n) h = let r : new_count (set marks n Open) < new_count marks = fewer_new marks n h in let q : suc (new_count (set marks n Open)) < suc (new_count marks) = omega arith in q
fewer_new (Open ∷ marks) (suc n) h = fewer_new marks n h
fewer_new (Done end ∷ marks) (suc n) h = fewer_new marks n h

-- what a walk's steps ask
module _ (links : List Link) (marks : List Mark) where
  by_next : (m : Option Mark) (l : Option Link) (next : ℕ) → next_by m l ≡ Some next → m ≡ Some New
  by_next m l next e = (next_some links 0 next m l e).0

  pub next_new : (at next : ℕ) → next_of links marks at ≡ Some next → slice_get marks at ≡ Some New
  next_new at next e = by_next (slice_get marks at) (slice_get links at) next e

  pub next_small : (at next : ℕ) → next_of links marks at ≡ Some next → at < length marks
  next_small at next e = slice_get_within marks at New (next_new at next e)

  pub next_fewer : (at next : ℕ) → next_of links marks at ≡ Some next → new_count (set marks at Open) < new_count marks
  next_fewer at next e = fewer_new marks at (next_new at next e)

  pub walk_begins : (start : ℕ) → IsWalk links marks [] → Walking links marks marks [] start start
  walk_begins start w = record {
    walk = w;
    leads = starts;
    open_lead = λ n h. absurd (let p = w.listed n h in none_some n (p.1));
    begun = inl refl;
    kept = λ n h. h;
  }

  pub close_begins : (before : List Mark) (trail : List ℕ) (start : ℕ) (end : End) → HasWalked links before marks trail start end → HasWalked links marks marks trail start end
  close_begins before trail start end w = record { walk = w.walk; at = w.at; leads = w.leads; told = w.told; begun = w.begun; kept = λ n h. h }

  pub last_small : (before : List Mark) (all rest : List ℕ) (start n : ℕ) (end : End) → HasWalked links before marks all start end → all ≡ rest ++ n ∷ [] → n < length marks
  last_small before all rest start n end w e = slice_get_within marks n Open (w.walk.opened (length rest) n (ap (λ t. slice_get t (length rest)) e ∙ get_last rest n))

  -- all names before a number are settled, and it is the next
  pub one_more : (before : List Mark) (start : ℕ) → NoneRenewed before marks → ((n : ℕ) → n < start → slice_get before n ≡ Some New → ⊥) → (slice_get marks start ≡ Some New → ⊥) → (n : ℕ) → n < start + 1 → slice_get marks n ≡ Some New → ⊥
  one_more before start kept done here n small new = elim (ℕ_discrete n start) [ yes same ↦ here (ap (slice_get marks) (sym same) ∙ new) | no off ↦ done n (omega (arith, off)) (kept n new) ]

  pub all_settled : (start : ℕ) → length marks ≡ length links → ¬ (start < length links) → ((n : ℕ) → n < start → slice_get marks n ≡ Some New → ⊥) → (n : ℕ) → slice_get marks n ≡ Some New → ⊥
  all_settled start len past done n new = done n (let h = slice_get_within marks n New new in omega arith) new

pub fits_most : (n : ℕ) → n < 2 ^ 64 → n < most
unfolding most
fits_most n h = h
