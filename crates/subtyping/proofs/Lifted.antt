-- What the numbers tell of the pairs.
use Rattle.std.proofs.Common.{◌≡◌, ℕ, zero, suc, ◌<◌, Bool, true, false, ◌&&◌, ◌||◌, not, List, [], ◌∷◌, ◌++◌, length, get_or, slice_get, Some, Contains, refl, sym, ap, ◌∙◌, arith, inl, inr, subst, if◌then◌else◌}
use Rattle.type_values.specs.declared.types.FlowType.{FlowType, out-FlowType}
use Rattle.type_values.specs.declared.types.FlowType.TheOpen.{Union, Object, Tuple, Array, ReadArray, Function, Ref}
use Rattle.alias_table.specs.Aliases.{Key}
use Rattle.subtyping.specs.Rows.{Pair, Level, ways, is_free, does_open, is_leaf, has_no_ways, left_ways, right_ways, part_ways}
use Rattle.subtyping.specs.Closed.{IsClosed, IsBelow, HasAll}
use Rattle.subtyping.specs.Numbered.{at, every, some, ways_of, Refuted, refutes, AreRefuted, IsKept}
use Rattle.subtyping.specs.Collected.{StandFor, IsLost, IsHopeless, IsRow, AreRows}

-- the pairs that are alive
abbrev living_pairs : List Bool → List Pair → List Pair
living_pairs [] ps = []
living_pairs (b ∷ bs) [] = []
living_pairs (true ∷ bs) (p ∷ ps) = p ∷ living_pairs bs ps
living_pairs (false ∷ bs) (p ∷ ps) = living_pairs bs ps

abbrev Lives : List Bool → List Pair → Pair → Type 0
Lives alive pairs p = (k : ℕ) × (at alive k ≡ true) × (slice_get pairs k ≡ Some p)

here : {X : Type 0} (x : X) (xs : List X) → Contains (x ∷ xs) x
here x xs = (0, omega arith, refl)

there : {X : Type 0} (x y : X) (xs : List X) → Contains xs y → Contains (x ∷ xs) y
there x y xs c = (suc c.0, omega (arith, c.1), c.2)

lives_in : (alive : List Bool) (pairs : List Pair) (k : ℕ) (p : Pair) → at alive k ≡ true → slice_get pairs k ≡ Some p → Contains (living_pairs alive pairs) p
lives_in [] pairs k p on e = cc
lives_in (b ∷ bs) [] k p on e = cc
lives_in (true ∷ bs) (q ∷ ps) zero p on e = let same : q ≡ p = cc in subst (λ r. Contains (r ∷ living_pairs bs ps) p) (sym same) (here p (living_pairs bs ps))
lives_in (false ∷ bs) (q ∷ ps) zero p on e = cc
lives_in (true ∷ bs) (q ∷ ps) (suc k) p on e = there q p (living_pairs bs ps) (lives_in bs ps k p on e)
lives_in (false ∷ bs) (q ∷ ps) (suc k) p on e = lives_in bs ps k p on e

in_lives : (alive : List Bool) (pairs : List Pair) (j : ℕ) (p : Pair) → j < length (living_pairs alive pairs) → get_or (living_pairs alive pairs) j p ≡ p → Lives alive pairs p
in_lives [] pairs j p h e = absurd (omega (arith, h))
in_lives (b ∷ bs) [] j p h e = absurd (omega (arith, h))
in_lives (true ∷ bs) (q ∷ ps) zero p h e = (0, refl, ap Some e)
in_lives (true ∷ bs) (q ∷ ps) (suc j) p h e = let more = in_lives bs ps j p (omega (arith, h)) e in (suc more.0, more.1, more.2)
in_lives (false ∷ bs) (q ∷ ps) j p h e = let more = in_lives bs ps j p h e in (suc more.0, more.1, more.2)

within : {X : Type 0} (xs : List X) (k : ℕ) (x : X) → slice_get xs k ≡ Some x → k < length xs
within [] k x e = cc
within (y ∷ xs) zero x e = omega arith
within (y ∷ xs) (suc k) x e = let h = within xs k x e in omega (arith, h)

and_left : (a b : Bool) → (a && b) ≡ true → a ≡ true
and_left true b h = refl
and_left false b h = cc

and_right : (a b : Bool) → (a && b) ≡ true → b ≡ true
and_right true b h = h
and_right false b h = cc

-- a way that is alive has living pairs
way_lives : (alive : List Bool) (pairs : List Pair) (ks : List ℕ) (ps : List Pair) → StandFor pairs ks ps → every (at alive) ks ≡ true → (j : ℕ) (p : Pair) → j < length ps → get_or ps j p ≡ p → Contains (living_pairs alive pairs) p
way_lives alive pairs ks [] e on j p h is = absurd (omega (arith, h))
way_lives alive pairs [] (q ∷ ps) e on j p h is = cc
way_lives alive pairs (k ∷ ks) (q ∷ ps) e on zero p h is =
    let first : slice_get pairs k ≡ Some q = cc in
    lives_in alive pairs k p (and_left (at alive k) (every (at alive) ks) on) (first ∙ ap Some is)
way_lives alive pairs (k ∷ ks) (q ∷ ps) e on (suc j) p h is =
    let rest : StandFor pairs ks ps = cc in
    way_lives alive pairs ks ps rest (and_right (at alive k) (every (at alive) ks) on) j p (omega (arith, h)) is

some_way : (s : ℕ → Bool) (row : List (List ℕ)) → some s row ≡ true → (ks : List ℕ) × Contains row ks × (every s ks ≡ true)
some_way s [] on = cc
some_way s (ks ∷ row) on = go (every s ks) refl (λ h. some_way s row h)
  where
    go : (b : Bool) → every s ks ≡ b → (some s row ≡ true → (l : List ℕ) × Contains row l × (every s l ≡ true)) → (l : List ℕ) × Contains (ks ∷ row) l × (every s l ≡ true)
    go true is more = (ks, here ks row, is)
    go false is more = let found = more (sym (ap (λ b. b || some s row) is) ∙ on) in (found.0, there ks found.0 row found.1, found.2)

-- a row with a way that is alive justifies its pair
row_lives : (named : Key → FlowType) (alive : List Bool) (pairs : List Pair) (row : List (List ℕ)) (all : List (List Pair)) → IsRow named pairs row all → some (at alive) row ≡ true → (way : List Pair) × Contains all way × HasAll (living_pairs alive pairs) way
row_lives named alive pairs row all r on =
    let found = some_way (at alive) row on in
    let stands = r.0 found.0 found.1 in
    (stands.0, stands.1, λ p c. way_lives alive pairs found.0 stands.0 stands.2 found.2 c.0 p c.1 c.2)

pub sound : (named : Key → FlowType) (pairs : List Pair) (rows : List (List (List ℕ))) (alive : List Bool) (a b : FlowType) → length rows ≡ length pairs → AreRows named pairs rows → IsKept rows alive →
    slice_get pairs 0 ≡ Some (a, b) → at alive 0 ≡ true → IsBelow named a b
sound named pairs rows alive a b len table kept first on = (living_pairs alive pairs, closed, lives_in alive pairs 0 (a, b) on first)
  where
    closed : IsClosed named (living_pairs alive pairs)
    closed p c =
        let lives = in_lives alive pairs c.0 p c.1 c.2 in
        let inside = within pairs lives.0 p lives.2 in
        row_lives named alive pairs (ways_of rows lives.0) (ways named p) (table lives.0 p (omega (arith, inside, len)) lives.2) (kept lives.0 lives.1)

-- the numbers of a way
number_of : (pairs : List Pair) (ks : List ℕ) (ps : List Pair) → StandFor pairs ks ps → (i k : ℕ) → i < length ks → get_or ks i k ≡ k → (p : Pair) × Contains ps p × (slice_get pairs k ≡ Some p)
number_of pairs [] ps e i k h is = absurd (omega (arith, h))
number_of pairs (n ∷ ks) [] e i k h is = cc
number_of pairs (n ∷ ks) (p ∷ ps) e zero k h is = let first : slice_get pairs n ≡ Some p = cc in (p, here p ps, sym (ap (slice_get pairs) is) ∙ first)
number_of pairs (n ∷ ks) (p ∷ ps) e (suc i) k h is =
    let rest : StandFor pairs ks ps = cc in
    let found = number_of pairs ks ps rest i k (omega (arith, h)) is in (found.0, there p found.0 ps found.1, found.2)

-- no closed set has all of a hopeless way
not_hopeless : (named : Key → FlowType) (set way : List Pair) → IsClosed named set → HasAll set way → IsHopeless named way → ⊥
not_hopeless named set way closed has off = off.2 (set, closed, has off.0 off.1)

-- no closed set has a refuted pair
not_refuted : (named : Key → FlowType) (pairs : List Pair) (rows : List (List (List ℕ))) (set : List Pair) → length rows ≡ length pairs → AreRows named pairs rows → IsClosed named set →
    (k : ℕ) → Refuted rows k → (p : Pair) → slice_get pairs k ≡ Some p → Contains set p → ⊥
not_refuted named pairs rows set len table closed k (refutes _ need has more) p e c =
    let inside = within pairs k p e in
    let why = closed p c in
    elim ((table k p (omega (arith, inside, len)) e).1 why.0 why.1) [
      | inl row ↦ (
          let needed = has row.0 row.1 in
          let found = number_of pairs row.0 why.0 row.2 needed.0 (need row.0) needed.1 needed.2 in
          not_refuted named pairs rows set len table closed (need row.0) (more row.0 row.1) found.0 found.2 (why.2 found.0 found.1))
      | inr off ↦ not_hopeless named set why.0 closed why.2 off
    ]

pub complete : (named : Key → FlowType) (pairs : List Pair) (rows : List (List (List ℕ))) (alive : List Bool) (a b : FlowType) → length rows ≡ length pairs → AreRows named pairs rows → AreRefuted rows alive →
    slice_get pairs 0 ≡ Some (a, b) → IsBelow named a b → at alive 0 ≡ true
complete named pairs rows alive a b len table gone first below = go (at alive 0) refl
  where
    go : (x : Bool) → at alive 0 ≡ x → at alive 0 ≡ true
    go true is = is
    go false is = absurd (not_refuted named pairs rows below.0 len table below.1 0 (gone 0 is) (a, b) first below.2)

pub left_none : (named : Key → FlowType) (x : Level) (b : FlowType) → does_open x ≡ false → left_ways named x b ≡ []
left_none named (Ref home name) b h = cc
left_none named (Union all) b h = cc
left_none named x b h = refl

pub right_none : (named : Key → FlowType) (a : FlowType) (y : Level) → does_open y ≡ false → right_ways named a y ≡ []
right_none named a (Ref home name) h = cc
right_none named a (Union all) h = cc
right_none named a y h = refl

pub part_none : (x y : Level) → (is_leaf x || is_leaf y) ≡ true → part_ways x y ≡ []
part_none (Object c ps) (Object d qs) h = cc
part_none (Tuple xs) (Tuple ys) h = cc
part_none (Array x) (Array y) h = cc
part_none (Array x) (ReadArray y) h = cc
part_none (ReadArray x) (ReadArray y) h = cc
part_none (Function ps r) (Function qs s) h = cc
part_none x y h = refl

not_on : (b : Bool) → not b ≡ true → b ≡ false
not_on true h = cc
not_on false h = refl

pub no_ways : (named : Key → FlowType) (p : Pair) → has_no_ways (out-FlowType p.0) (out-FlowType p.1) ≡ true → ways named p ≡ []
no_ways named p h =
    let x = out-FlowType p.0 in let y = out-FlowType p.1 in
    let a = and_left (not (does_open x)) (not (does_open y) && ((is_leaf x || is_leaf y) && not (is_free x y))) h in
    let h2 = and_right (not (does_open x)) (not (does_open y) && ((is_leaf x || is_leaf y) && not (is_free x y))) h in
    let b = and_left (not (does_open y)) ((is_leaf x || is_leaf y) && not (is_free x y)) h2 in
    let h3 = and_right (not (does_open y)) ((is_leaf x || is_leaf y) && not (is_free x y)) h2 in
    let c = and_left (is_leaf x || is_leaf y) (not (is_free x y)) h3 in
    let d = not_on (is_free x y) (and_right (is_leaf x || is_leaf y) (not (is_free x y)) h3) in
    ap (λ b. if b then [] ∷ [] else left_ways named x p.1 ++ (right_ways named p.0 y ++ part_ways x y)) d
    ∙ ap (λ l. l ++ (right_ways named p.0 y ++ part_ways x y)) (left_none named x p.1 (not_on (does_open x) a))
    ∙ ap (λ l. l ++ part_ways x y) (right_none named p.0 y (not_on (does_open y) b))
    ∙ part_none x y c

pub lost_none : (named : Key → FlowType) (p : Pair) → ways named p ≡ [] → IsLost named p
lost_none named p none below =
    let why = below.1 p below.2 in
    let short : length (ways named p) ≡ 0 = ap length none in absurd (omega (arith, why.1.1, short))

pub lost_by_looks : (p : Pair) → has_no_ways (out-FlowType p.0) (out-FlowType p.1) ≡ true → (named : Key → FlowType) → IsLost named p
lost_by_looks p off named = lost_none named p (no_ways named p off)

in_way : (way : List Pair) (i : ℕ) (p : Pair) → i < length way → p ≡ get_or way i p → Contains way p
in_way way i p h e = (i, h, sym e)

pub hopeless : (way : List Pair) (i : ℕ) (p : Pair) → i < length way → p ≡ get_or way i p → ((named : Key → FlowType) → IsLost named p) → (named : Key → FlowType) → IsHopeless named way
hopeless way i p h e lost named = (p, in_way way i p h e, lost named)
