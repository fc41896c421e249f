-- Paths of which something holds have one rising list.
use Rattle.std.proofs.Common.{◌≡◌, ℕ, zero, suc, ◌<◌, List, [], ◌∷◌, slice_get, Some, refl, sym, ap, ◌∙◌, inl, inr, ◌⊎◌, arith, subst}
use Rattle.std.specs.Ordering.{nat_cmp, ordering_reverse}
use Rattle.std.specs.Cmp.Lexicographic.{slice_cmp, nat_list_cmp_total}
use Rattle.std.specs.declared.cmp.Ordering.{Ordering}
use Rattle.std.specs.declared.cmp.Ordering.TheVariants.{Less, Equal, Greater}
use Rattle.std.proofs.lemmas.Map.Lookups.{exact_bytes}
use Rattle.flow_base.specs.Program.{Bytes, IsRising}
use Rattle.flow_base.proofs.Rising.{IsBelowAll, below_all, not_below_itself, rising_rest}
use Rattle.check_values.specs.Rows.{put}
use Rattle.graph_search.proofs.Rising.{one_list}
use Rattle.graph_laws.proofs.Ways.{Told, HasPlace}
use Rattle.affected_sizes.specs.Paths.{HasPath, ArePaths}
use Rattle.graph_search.proofs.Lists.{none_some}

abbrev Cmp : Bytes → Bytes → Ordering
Cmp a b = slice_cmp nat_cmp a b

abbrev IsLess : Bytes → Bytes → Type 0
IsLess a b = Cmp a b ≡ Less

turned : (a b : Bytes) → Cmp a b ≡ Greater → IsLess b a
turned a b more = nat_list_cmp_total.antisymm b a ∙ ap ordering_reverse more

-- ---- one more path in its place

put_below : (p q : Bytes) (xs : List Bytes) → IsLess q p → IsBelowAll q xs → IsBelowAll q (put (slice_cmp nat_cmp) p xs)
put_below p q [] less below = (less, tt)
put_below p q (y ∷ xs) less below = go (Cmp p y) (put_below p q xs less below.1)
  where
    go : (o : Ordering) → IsBelowAll q (put (slice_cmp nat_cmp) p xs) → IsBelowAll q (elim o as (λ _. List Bytes) [ Less ↦ p ∷ y ∷ xs | Equal ↦ p ∷ xs | Greater ↦ y ∷ put (slice_cmp nat_cmp) p xs ])
    go Less rest = (less, below)
    go Equal rest = (less, below.1)
    go Greater rest = (below.0, rest)

rising_more : (q : Bytes) (xs : List Bytes) → IsBelowAll q xs → IsRising xs → IsRising (q ∷ xs)
rising_more q [] below rising = tt
rising_more q (x ∷ xs) below rising = (below.0, rising)

put_rising : (p : Bytes) (xs : List Bytes) → IsRising xs → IsRising (put (slice_cmp nat_cmp) p xs)
put_rising p [] rising = tt
put_rising p (y ∷ xs) rising = go (Cmp p y) refl (put_rising p xs (rising_rest y xs rising))
  where
    go : (o : Ordering) → Cmp p y ≡ o → IsRising (put (slice_cmp nat_cmp) p xs) → IsRising (elim o as (λ _. List Bytes) [ Less ↦ p ∷ y ∷ xs | Equal ↦ p ∷ xs | Greater ↦ y ∷ put (slice_cmp nat_cmp) p xs ])
    go Less is rest = (is, rising)
    go Equal is rest = subst (λ (z : Bytes). IsRising (z ∷ xs)) (sym (exact_bytes p y is)) rising
    go Greater is rest = rising_more y (put (slice_cmp nat_cmp) p xs) (put_below p y xs (turned p y is) (below_all y xs rising)) rest

put_has : (p : Bytes) (xs : List Bytes) → HasPlace (put (slice_cmp nat_cmp) p xs) p
put_has p [] = inl refl
put_has p (y ∷ xs) = go (Cmp p y) (put_has p xs)
  where
    go : (o : Ordering) → HasPlace (put (slice_cmp nat_cmp) p xs) p → HasPlace (elim o as (λ _. List Bytes) [ Less ↦ p ∷ y ∷ xs | Equal ↦ p ∷ xs | Greater ↦ y ∷ put (slice_cmp nat_cmp) p xs ]) p
    go Less rest = inl refl
    go Equal rest = inl refl
    go Greater rest = inr rest

put_keeps : (p q : Bytes) (xs : List Bytes) → HasPlace xs q → HasPlace (put (slice_cmp nat_cmp) p xs) q
put_keeps p q [] has = absurd has
put_keeps p q (y ∷ xs) has = go (Cmp p y) refl has (put_keeps p q xs)
  where
    go : (o : Ordering) → Cmp p y ≡ o → HasPlace (y ∷ xs) q → (HasPlace xs q → HasPlace (put (slice_cmp nat_cmp) p xs) q) → HasPlace (elim o as (λ _. List Bytes) [ Less ↦ p ∷ y ∷ xs | Equal ↦ p ∷ xs | Greater ↦ y ∷ put (slice_cmp nat_cmp) p xs ]) q
    go Less is has rest = inr has
    go Equal is (inl same) rest = inl (exact_bytes p y is ∙ same)
    go Equal is (inr later) rest = inr later
    go Greater is (inl same) rest = inl same
    go Greater is (inr later) rest = inr (rest later)

put_only : (p q : Bytes) (xs : List Bytes) → HasPlace (put (slice_cmp nat_cmp) p xs) q → (p ≡ q) ⊎ HasPlace xs q
put_only p q [] (inl same) = inl same
put_only p q [] (inr never) = absurd never
put_only p q (y ∷ xs) has = go (Cmp p y) has (put_only p q xs)
  where
    go : (o : Ordering) → HasPlace (elim o as (λ _. List Bytes) [ Less ↦ p ∷ y ∷ xs | Equal ↦ p ∷ xs | Greater ↦ y ∷ put (slice_cmp nat_cmp) p xs ]) q → (HasPlace (put (slice_cmp nat_cmp) p xs) q → (p ≡ q) ⊎ HasPlace xs q) → (p ≡ q) ⊎ HasPlace (y ∷ xs) q
    go Less (inl same) rest = inl same
    go Less (inr has) rest = inr has
    go Equal (inl same) rest = inl same
    go Equal (inr later) rest = inr (inr later)
    go Greater (inl same) rest = inr (inl same)
    go Greater (inr has) rest = elim (rest has) [ inl same ↦ inl same | inr later ↦ inr (inr later) ]

-- ---- the list

pub place_has : (xs : List Bytes) (p : Bytes) → HasPath xs p → HasPlace xs p
place_has xs p has = go xs has.0 has.1
  where
    go : (xs : List Bytes) (i : ℕ) → slice_get xs i ≡ Some p → HasPlace xs p
    go [] i at = none_some p at
    go (x ∷ xs) zero at = inl (let z : Some x ≡ Some p = at in cc)
    go (x ∷ xs) (suc i) at = inr (go xs i at)

pub has_place : (xs : List Bytes) (p : Bytes) → HasPlace xs p → HasPath xs p
has_place [] p has = absurd has
has_place (x ∷ xs) p (inl same) = (0, ap Some same)
has_place (x ∷ xs) p (inr later) = let r = has_place xs p later in (suc r.0, r.1)

-- the paths of a list of which it holds, rising
record AreSome (Holds : Bytes → Type 0) (bound paths : List Bytes) : Type 0 where
  rising : IsRising paths
  sound : (p : Bytes) → HasPlace paths p → Holds p
  complete : (p : Bytes) → HasPlace bound p → Holds p → HasPlace paths p

some_paths : (Holds : Bytes → Type 0) → ((p : Bytes) → Told (Holds p)) → (bound : List Bytes) → (paths : List Bytes) × AreSome Holds bound paths
some_paths Holds told [] = ([], record { rising = tt; sound = λ p has. absurd has; complete = λ p has holds. absurd has })
some_paths Holds told (q ∷ bound) = go (told q) (some_paths Holds told bound)
  where
    go : Told (Holds q) → (paths : List Bytes) × AreSome Holds bound paths → (paths : List Bytes) × AreSome Holds (q ∷ bound) paths
    go (inl holds) rest = let r = rest.1 in (
      put (slice_cmp nat_cmp) q rest.0,
      record {
        rising = put_rising q rest.0 r.rising;
        sound = λ p has. elim (put_only q p rest.0 has) [ inl same ↦ subst Holds same holds | inr later ↦ r.sound p later ];
        complete = λ p has is. elim has [ inl same ↦ subst (λ (z : Bytes). HasPlace (put (slice_cmp nat_cmp) q rest.0) z) same (put_has q rest.0) | inr later ↦ put_keeps q p rest.0 (r.complete p later is) ];
      },
    )
    go (inr never) rest = let r = rest.1 in (
      rest.0,
      record {
        rising = r.rising;
        sound = r.sound;
        complete = λ p has is. elim has [ inl same ↦ absurd (never (subst Holds (sym same) is)) | inr later ↦ r.complete p later is ];
      },
    )

-- what can be told of paths, and holds of none but those in a list, has a rising list
pub rising_list : (Holds : Bytes → Type 0) → ((p : Bytes) → Told (Holds p)) → (bound : List Bytes) → ((p : Bytes) → Holds p → HasPlace bound p) → (paths : List Bytes) × ArePaths Holds paths
rising_list Holds told bound inside =
    let r = some_paths Holds told bound in
    let are = r.1 in (
      r.0,
      record {
        rising = are.rising;
        sound = λ p has. are.sound p (place_has r.0 p has);
        complete = λ p holds. has_place r.0 p (are.complete p (inside p holds) holds);
      },
    )

-- ---- one list

below_at : (p q : Bytes) (xs : List Bytes) (i : ℕ) → IsBelowAll p xs → slice_get xs i ≡ Some q → IsLess p q
below_at p q [] i below at = none_some q at
below_at p q (x ∷ xs) zero below at = let z : Some x ≡ Some q = at in let same : x ≡ q = cc in subst (λ (y : Bytes). IsLess p y) same below.0
below_at p q (x ∷ xs) (suc i) below at = below_at p q xs i below.1 at

pub in_order : (xs : List Bytes) → IsRising xs → (i j : ℕ) (p q : Bytes) → i < j → slice_get xs i ≡ Some p → slice_get xs j ≡ Some q → IsLess p q
in_order [] rising i j p q less at there = none_some p at
in_order (x ∷ xs) rising i zero p q less at there = absurd (omega arith)
in_order (x ∷ xs) rising zero (suc j) p q less at there = let z : Some x ≡ Some p = at in let same : x ≡ p = cc in subst (λ (y : Bytes). IsLess y q) same (below_at x q xs j (below_all x xs rising) there)
in_order (x ∷ xs) rising (suc i) (suc j) p q less at there = in_order xs (rising_rest x xs rising) i j p q (omega arith) at there

not_back : (p q : Bytes) → IsLess p q → IsLess q p → ⊥
not_back p q there back = not_below_itself p (nat_list_cmp_total.trans p q p there back)

pub one_rising_list : (P Q : Bytes → Type 0) → ((p : Bytes) → P p → Q p) → ((p : Bytes) → Q p → P p) → (some others : List Bytes) → ArePaths P some → ArePaths Q others → some ≡ others
one_rising_list P Q there back some others a b =
    one_list IsLess not_below_itself not_back some others (in_order some a.rising) (in_order others b.rising)
    (λ i p at. b.complete p (there p (a.sound p (i, at))))
    (λ i p at. a.complete p (back p (b.sound p (i, at))))
