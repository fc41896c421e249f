-- A list with one more in its place, by any total order in which those that are alike are equal.
use Rattle.std.proofs.Common.{◌≡◌, ◌⊎◌, ◌↔◌, zero, suc, List, [], ◌∷◌, refl, sym, ap, ◌∙◌, subst, inl, inr, arith}
use Rattle.std.specs.Ordering.{ordering_reverse}
use Rattle.std.specs.Cmp.{IsTotalOrder}
use Rattle.std.specs.List.{Contains, AllByRecursion}
use Rattle.std.specs.List.Sorted.{IsStrictlySortedBy}
use Rattle.std.specs.declared.cmp.Ordering.{Ordering}
use Rattle.std.specs.declared.cmp.Ordering.TheVariants.{Less, Equal, Greater}
use Rattle.check_values.specs.Rows.{put, ordered}

-- ---- what a list has

pub has_first : {X : Type 0} (x : X) (xs : List X) → Contains (x ∷ xs) x
has_first x xs = (0, omega arith, refl)

pub has_more : {X : Type 0} (x y : X) (xs : List X) → Contains xs y → Contains (x ∷ xs) y
has_more x y xs (k, within, is) = (suc k, omega (arith, within), is)

pub has_either : {X : Type 0} (x y : X) (xs : List X) → Contains (x ∷ xs) y → (x ≡ y) ⊎ Contains xs y
has_either x y xs (zero, within, is) = inl is
has_either x y xs (suc k, within, is) = inr (k, omega (arith, within), is)

pub has_none : {X : Type 0} (y : X) → Contains [] y → ⊥
has_none y (k, within, is) = absurd (omega (arith, within))

of_each : {X : Type 0} (P : X → Type 0) (xs : List X) (y : X) → AllByRecursion P xs → Contains xs y → P y
of_each P [] y all has = absurd (has_none y has)
of_each {X} P (x ∷ xs) y (first, more) has = go (has_either x y xs has) (of_each P xs y more)
  where
    go : (x ≡ y) ⊎ Contains xs y → (Contains xs y → P y) → P y
    go (inl is) rest = subst P is first
    go (inr later) rest = rest later

each_of : {X : Type 0} (P : X → Type 0) (xs : List X) → ((y : X) → Contains xs y → P y) → AllByRecursion P xs
each_of P [] has = tt
each_of P (x ∷ xs) has = (has x (has_first x xs), each_of P xs (λ y later. has y (has_more x y xs later)))

module _ {X : Type 0} (cmp : X → X → Ordering) (total : IsTotalOrder cmp) (exact : (x y : X) → cmp x y ≡ Equal → x ≡ y) where
  -- ---- one more in its place

  abbrev placed : X → X → List X → Ordering → List X
  placed x y more o = elim o as (λ _. List X) [ Less ↦ x ∷ y ∷ more | Equal ↦ x ∷ more | Greater ↦ y ∷ put cmp x more ]

  put_first : (x : X) (xs : List X) → Contains (put cmp x xs) x
  put_first x [] = has_first x []
  put_first x (y ∷ more) = go (cmp x y) (put_first x more)
    where
      go : (o : Ordering) → Contains (put cmp x more) x → Contains (placed x y more o) x
      go Less rest = has_first x (y ∷ more)
      go Equal rest = has_first x more
      go Greater rest = has_more y x (put cmp x more) rest

  put_kept : (x z : X) (xs : List X) → Contains xs z → Contains (put cmp x xs) z
  put_kept x z [] has = absurd (has_none z has)
  put_kept x z (y ∷ more) has = go (cmp x y) refl (has_either y z more has) (put_kept x z more)
    where
      go : (o : Ordering) → cmp x y ≡ o → (y ≡ z) ⊎ Contains more z → (Contains more z → Contains (put cmp x more) z) → Contains (placed x y more o) z
      go Less e either rest = has_more x z (y ∷ more) has
      go Equal e (inl is) rest = subst (Contains (x ∷ more)) (exact x y e ∙ is) (has_first x more)
      go Equal e (inr later) rest = has_more x z more later
      go Greater e (inl is) rest = subst (Contains (y ∷ put cmp x more)) is (has_first y (put cmp x more))
      go Greater e (inr later) rest = has_more y z (put cmp x more) (rest later)

  put_only : (x z : X) (xs : List X) → Contains (put cmp x xs) z → (x ≡ z) ⊎ Contains xs z
  put_only x z [] has = has_either x z [] has
  put_only x z (y ∷ more) has = go (cmp x y) (put_only x z more) has
    where
      later_too : (x ≡ z) ⊎ Contains more z → (x ≡ z) ⊎ Contains (y ∷ more) z
      later_too (inl is) = inl is
      later_too (inr later) = inr (has_more y z more later)

      behind : (y ≡ z) ⊎ Contains (put cmp x more) z → (Contains (put cmp x more) z → (x ≡ z) ⊎ Contains more z) → (x ≡ z) ⊎ Contains (y ∷ more) z
      behind (inl is) rest = inr (subst (Contains (y ∷ more)) is (has_first y more))
      behind (inr later) rest = later_too (rest later)

      go : (o : Ordering) → (Contains (put cmp x more) z → (x ≡ z) ⊎ Contains more z) → Contains (placed x y more o) z → (x ≡ z) ⊎ Contains (y ∷ more) z
      go Less rest there = has_either x z (y ∷ more) there
      go Equal rest there = later_too (has_either x z more there)
      go Greater rest there = behind (has_either y z (put cmp x more) there) rest

  put_rises : (x : X) (xs : List X) → IsStrictlySortedBy cmp xs → IsStrictlySortedBy cmp (put cmp x xs)
  unfolding IsStrictlySortedBy
  put_rises x [] rises = (tt, tt)
  put_rises x (y ∷ more) (first, rises) = go (cmp x y) refl (put_rises x more rises)
    where
      go : (o : Ordering) → cmp x y ≡ o → IsStrictlySortedBy cmp (put cmp x more) → IsStrictlySortedBy cmp (placed x y more o)
      go Less e rest = ((e, each_of (λ z. cmp x z ≡ Less) more (λ z later. total.trans x y z e (of_each (λ w. cmp y w ≡ Less) more z first later))), (first, rises))
      go Equal e rest = (each_of (λ z. cmp x z ≡ Less) more (λ z later. total.congr x y z e ∙ of_each (λ w. cmp y w ≡ Less) more z first later), rises)
      go Greater e rest = (each_of (λ z. cmp y z ≡ Less) (put cmp x more) (λ z has. below z (put_only x z more has)), rest)
        where
          below : (z : X) → (x ≡ z) ⊎ Contains more z → cmp y z ≡ Less
          below z (inl is) = ap (cmp y) (sym is) ∙ total.antisymm y x ∙ ap ordering_reverse e
          below z (inr later) = of_each (λ w. cmp y w ≡ Less) more z first later

  -- ---- all of them

  pub ordered_rises : (xs : List X) → IsStrictlySortedBy cmp (ordered cmp xs)
  unfolding IsStrictlySortedBy
  ordered_rises [] = tt
  ordered_rises (x ∷ more) = put_rises x (ordered cmp more) (ordered_rises more)

  pub ordered_has : (xs : List X) (z : X) → Contains xs z → Contains (ordered cmp xs) z
  ordered_has [] z has = absurd (has_none z has)
  ordered_has (x ∷ more) z has = go (has_either x z more has) (ordered_has more z)
    where
      go : (x ≡ z) ⊎ Contains more z → (Contains more z → Contains (ordered cmp more) z) → Contains (put cmp x (ordered cmp more)) z
      go (inl is) rest = subst (Contains (put cmp x (ordered cmp more))) is (put_first x (ordered cmp more))
      go (inr later) rest = put_kept x z (ordered cmp more) (rest later)

  pub ordered_only : (xs : List X) (z : X) → Contains (ordered cmp xs) z → Contains xs z
  ordered_only [] z has = has
  ordered_only (x ∷ more) z has = go (put_only x z (ordered cmp more) has) (ordered_only more z)
    where
      go : (x ≡ z) ⊎ Contains (ordered cmp more) z → (Contains (ordered cmp more) z → Contains more z) → Contains (x ∷ more) z
      go (inl is) rest = subst (Contains (x ∷ more)) is (has_first x more)
      go (inr later) rest = has_more x z more (rest later)

  -- ---- one such list

  not_itself : (x : X) → cmp x x ≡ Less → ⊥
  not_itself x less = let turned : Less ≡ Greater = sym less ∙ total.antisymm x x ∙ ap ordering_reverse less in cc

  not_both : (x y : X) → cmp x y ≡ Less → cmp y x ≡ Less → ⊥
  not_both x y first second = not_itself x (total.trans x y x first second)

  one_rises : (xs ys : List X) → IsStrictlySortedBy cmp xs → IsStrictlySortedBy cmp ys → ((z : X) → Contains xs z → Contains ys z) → ((z : X) → Contains ys z → Contains xs z) → xs ≡ ys
  unfolding IsStrictlySortedBy
  one_rises [] [] a b to back = refl
  one_rises [] (y ∷ ys) a b to back = absurd (has_none y (back y (has_first y ys)))
  one_rises (x ∷ xs) [] a b to back = absurd (has_none x (to x (has_first x xs)))
  one_rises (x ∷ xs) (y ∷ ys) (first, rises) (second, climbs) to back =
      let same : x ≡ y = go (has_either y x ys (to x (has_first x xs))) (has_either x y xs (back y (has_first y ys))) in
      let rest : xs ≡ ys = one_rises xs ys rises climbs (λ z has. kept x y xs ys first same to z has) (λ z has. kept y x ys xs second (sym same) back z has) in
      λ i. same i ∷ rest i
    where
      go : (y ≡ x) ⊎ Contains ys x → (x ≡ y) ⊎ Contains xs y → x ≡ y
      go (inl is) other = sym is
      go (inr later) (inl is) = is
      go (inr later) (inr behind) = absurd (not_both x y (of_each (λ w. cmp x w ≡ Less) xs y first behind) (of_each (λ w. cmp y w ≡ Less) ys x second later))

      kept : (a b : X) (ps qs : List X) → AllByRecursion (λ w. cmp a w ≡ Less) ps → a ≡ b → ((z : X) → Contains (a ∷ ps) z → Contains (b ∷ qs) z) → (z : X) → Contains ps z → Contains qs z
      kept a b ps qs above same moves z has = past (has_either b z qs (moves z (has_more a z ps has)))
        where
          past : (b ≡ z) ⊎ Contains qs z → Contains qs z
          past (inl is) = absurd (not_itself a (subst (λ w. cmp a w ≡ Less) (sym (same ∙ is)) (of_each (λ w. cmp a w ≡ Less) ps z above has)))
          past (inr later) = later

  pub ordered_one : (xs all : List X) → IsStrictlySortedBy cmp all → ((z : X) → Contains all z ↔ Contains xs z) → all ≡ ordered cmp xs
  ordered_one xs all rises same = one_rises all (ordered cmp xs) rises (ordered_rises xs) (λ z has. ordered_has xs z ((same z).0 has)) (λ z has. (same z).1 (ordered_only xs z has))
