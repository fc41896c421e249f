-- Each module of a plan stands in one component, and each component in one wave, so the waves have as many members as the plan has modules.
use Rattle.std.proofs.Common.{◌≡◌, ◌⊎◌, ℕ, zero, suc, ◌<◌, Bool, true, false, List, [], ◌∷◌, ◌++◌, length, get_or, slice_get, sum_by, Some, None, refl, sym, ap, ◌∙◌, subst, inl, inr, arith}
use Rattle.std.specs.Prelude.{eqb, ◌||◌}
use Rattle.std.specs.List.{flat_map, list_any}
use Rattle.std.proofs.lemmas.Bool.Decides.{nat_tests}
use Rattle.std.proofs.lemmas.List.Concat.{length-flat_map}
use Rattle.std.proofs.lemmas.Map.Steps.{length-le_from_distinct_below, le-length_from_below}
use Rattle.graph_search.specs.Cycles.{here, Has}
use Rattle.graph_search.specs.Reach.{IsRising}
use Rattle.graph_search.specs.Components.{AreComponents, AreMutual, StandsIn}
use Rattle.graph_search.specs.Waves.{AreWaves}
use Rattle.check_phases.proofs.Counts.{Once, has_append, any_has, once_distinct}
use Rattle.check_phases.proofs.Lists.{one_value, within_there}
use Rattle.recheck_merging.specs.Plans.{MembersAddUp}
use Rattle.recheck_merging.proofs.Groups.{grouped, waved, many_inner}
use Rattle.recheck_merging.proofs.Mapped.{rising_place}

has_later : (x : ℕ) (xs : List ℕ) (y : ℕ) → Has xs y → Has (x ∷ xs) y
has_later x xs y h = (suc h.0, h.1)

has_front : (xs ys : List ℕ) (x : ℕ) → Has xs x → Has (xs ++ ys) x
has_front [] ys x h = absurd (let z : None ≡ Some x = h.1 in cc)
has_front (y ∷ xs) ys x (zero, at) = (0, at)
has_front (y ∷ xs) ys x (suc i, at) = has_later y (xs ++ ys) x (has_front xs ys x (i, at))

has_behind : (xs ys : List ℕ) (x : ℕ) → Has ys x → Has (xs ++ ys) x
has_behind [] ys x h = h
has_behind (y ∷ xs) ys x h = has_later y (xs ++ ys) x (has_behind xs ys x h)

once_append : (xs ys : List ℕ) → Once xs → Once ys → ((x : ℕ) → Has xs x → Has ys x → ⊥) → Once (xs ++ ys)
once_append [] ys a b apart = b
once_append (x ∷ xs) ys a b apart =
    ((λ h. elim (has_append xs ys x h) [ inl old ↦ a.0 old | inr new ↦ apart x (0, refl) new ]), once_append xs ys a.1 b (λ y h k. apart y (has_later x xs y h) k))

module _ {X : Type 0} (f : X → List ℕ) where
  -- what stands in one of the lists
  has_flat : (ks : List X) (x : ℕ) → Has (flat_map f ks) x → (i : ℕ) × (k : X) × (slice_get ks i ≡ Some k) × Has (f k) x
  has_flat [] x h = absurd (let z : None ≡ Some x = h.1 in cc)
  has_flat (k ∷ ks) x h = go (has_append (f k) (flat_map f ks) x h) (λ later. has_flat ks x later)
    where
      go : Has (f k) x ⊎ Has (flat_map f ks) x → (Has (flat_map f ks) x → (i : ℕ) × (l : X) × (slice_get ks i ≡ Some l) × Has (f l) x) → (i : ℕ) × (l : X) × (slice_get (k ∷ ks) i ≡ Some l) × Has (f l) x
      go (inl first) rest = (0, k, refl, first)
      go (inr later) rest = let r = rest later in (suc r.0, r.1, r.2, r.3)

  flat_has : (ks : List X) (i : ℕ) (k : X) (x : ℕ) → slice_get ks i ≡ Some k → Has (f k) x → Has (flat_map f ks) x
  flat_has [] i k x at h = absurd (let z : None ≡ Some k = at in cc)
  flat_has (j ∷ ks) zero k x at h = has_front (f j) (flat_map f ks) x (subst (λ (l : X). Has (f l) x) (sym (one_value j k at)) h)
  flat_has (j ∷ ks) (suc i) k x at h = has_behind (f j) (flat_map f ks) x (flat_has ks i k x at h)

  once_flat : (ks : List X) → ((i : ℕ) (k : X) → slice_get ks i ≡ Some k → Once (f k))
      → ((i j : ℕ) (k l : X) (x : ℕ) → slice_get ks i ≡ Some k → slice_get ks j ≡ Some l → Has (f k) x → Has (f l) x → i ≡ j) → Once (flat_map f ks)
  once_flat [] each apart = tt
  once_flat (k ∷ ks) each apart =
      once_append (f k) (flat_map f ks) (each 0 k refl)
      (once_flat ks (λ i j at. each (suc i) j at) (λ i j l m x p q a b. let e : suc i ≡ suc j = apart (suc i) (suc j) l m x p q a b in omega arith))
      (λ x a b. let r = has_flat ks x b in let e : 0 ≡ suc r.0 = apart 0 (suc r.0) k r.1 x refl r.2 a r.3 in omega arith)

rising_once : (xs : List ℕ) → IsRising xs → Once xs
rising_once [] rising = tt
rising_once (x ∷ xs) rising =
    ((λ h. let less : x < x = rising 0 (suc h.0) x x (omega arith) refl h.1 in omega arith), rising_once xs (λ i j a b less p q. rising (suc i) (suc j) a b (omega arith) p q))

-- ---- as many as below a number

has_any : (xs : List ℕ) (x : ℕ) → Has xs x → list_any (eqb x) xs ≡ true
has_any [] x h = absurd (let z : None ≡ Some x = h.1 in cc)
has_any (y ∷ xs) x (zero, at) = go (eqb x y) (eqb_same x y (sym (one_value y x at)))
  where
    eqb_same : (a b : ℕ) → a ≡ b → eqb a b ≡ true
    eqb_same a b e = grind (arith, nat_tests)

    go : (b : Bool) → b ≡ true → (b || list_any (eqb x) xs) ≡ true
    go true e = refl
    go false e = absurd (let z : false ≡ true = e in cc)
has_any (y ∷ xs) x (suc i, at) = go (eqb x y) (has_any xs x (i, at))
  where
    go : (b : Bool) → list_any (eqb x) xs ≡ true → (b || list_any (eqb x) xs) ≡ true
    go true h = refl
    go false h = h

-- each number below n stands once, and no other
many_once : (xs : List ℕ) (n : ℕ) → Once xs → ((x : ℕ) → Has xs x → x < n) → ((x : ℕ) → x < n → Has xs x) → length xs ≡ n
many_once xs n once below each =
    let most = length-le_from_distinct_below xs n (once_distinct xs once) (λ x h. below x (any_has xs x h)) in
    let least = le-length_from_below xs n (λ x low. has_any xs x (each x low)) in
    omega arith

-- ---- components and waves

stands : (cs : List (List ℕ)) (k x : ℕ) → Has (get_or cs k []) x → StandsIn cs k x
stands [] k x h = absurd (let z : None ≡ Some x = h.1 in cc)
stands (m ∷ cs) zero x h = (m, refl, h)
stands (m ∷ cs) (suc k) x h = stands cs k x h

unstands : (cs : List (List ℕ)) (k x : ℕ) → StandsIn cs k x → Has (get_or cs k []) x
unstands [] k x s = absurd (let z : None ≡ Some s.0 = s.1 in cc)
unstands (m ∷ cs) zero x s = subst (λ (l : List ℕ). Has l x) (sym (one_value m s.0 s.1)) s.2
unstands (m ∷ cs) (suc k) x s = unstands cs k x s

once_members : (k : ℕ) → (cs : List (List ℕ)) → ((j : ℕ) (ms : List ℕ) → slice_get cs j ≡ Some ms → IsRising ms × (0 < length ms)) → Once (get_or cs k [])
once_members k [] each = tt
once_members zero (m ∷ cs) each = rising_once m (each 0 m refl).0
once_members (suc k) (m ∷ cs) each = once_members k cs (λ j ms at. each (suc j) ms at)

module _ (edges components waves : List (List ℕ)) (c : AreComponents edges components) (w : AreWaves edges components waves) where
  abbrev members : ℕ → List ℕ
  members k = get_or components k []

  abbrev in_wave : List ℕ → List ℕ
  in_wave ks = flat_map members ks

  itself : (x : ℕ) → AreMutual edges x x
  itself x = (here, here)

  one_component : (k j x : ℕ) → Has (members k) x → Has (members j) x → k ≡ j
  one_component k j x a b = c.apart k j x x (stands components k x a) (stands components j x b) (itself x)

  once_wave : (v : ℕ) (ks : List ℕ) → slice_get waves v ≡ Some ks → Once (in_wave ks)
  once_wave v ks at =
      once_flat members ks (λ i k there. once_members k components c.each)
      (λ i j k l x p q a b. rising_place ks i j k (w.each v ks at).0 p (q ∙ ap Some (sym (one_component k l x a b))))

  once_all : Once (flat_map in_wave waves)
  once_all =
      once_flat in_wave waves once_wave
      (λ i j ks ls x p q a b.
      let r = has_flat members ks x a in let t = has_flat members ls x b in
      let same : r.1 ≡ t.1 = one_component r.1 t.1 x r.3 t.3 in
      w.once i j r.1 (ks, p, (r.0, r.2)) (ls, q, (t.0, t.2 ∙ ap Some (sym same))))

  all_below : (x : ℕ) → Has (flat_map in_wave waves) x → x < length edges
  all_below x h = let r = has_flat in_wave waves x h in let t = has_flat members r.1 x r.3 in c.within t.1 x (stands components t.1 x t.3)

  all_there : (x : ℕ) → x < length edges → Has (flat_map in_wave waves) x
  all_there x low =
      let k = c.whole x low in
      let v = w.whole k.0 (within_there components k.0 k.1.0 k.1.1) in
      flat_has in_wave waves v.0 v.1.0 x v.1.1 (flat_has members v.1.0 v.1.2.0 k.0 x v.1.2.1 (unstands components k.0 x k.1))

  all_many : sum_by (λ ks. sum_by (λ k. length (members k)) ks) waves ≡ length edges
  all_many =
      ap (λ (f : List ℕ → ℕ). sum_by f waves) (λ j ks. sym (length-flat_map members ks) j)
      ∙ (sym (length-flat_map in_wave waves) ∙ many_once (flat_map in_wave waves) (length edges) once_all all_below all_there)

pub members_add_up : MembersAddUp
members_add_up s p plan = all_many plan.waves.edges p.components p.waves (grouped s p plan) (waved s p plan) ∙ many_inner s p plan
