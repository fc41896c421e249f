-- Stacks: the last place of a test, links to the next outer place, and changes at a place.
use Rattle.std.proofs.Common.{◌≡◌, ◌⊎◌, inl, inr, ℕ, zero, suc, ◌<◌, ◌≤◌, Bool, true, false, ◌||◌, ◌&&◌, List, [], ◌∷◌, ◌++◌, length, take, map, drop, get_or, slice_get, slice_set, Option, Some, None, cond, refl, sym, ap, ◌∙◌, subst, append_assoc, length-append, arith}
use Rattle.std.specs.List.{list_any}
use Rattle.std.proofs.Math.Seq.{take-append_seam}
use Rattle.std.proofs.lemmas.List.{map-append}
use Rattle.std.proofs.lemmas.List.Folds.{list_any-append}
use Rattle.scopes.specs.Stack.{one_further, last_at, AreLinked, at_place}

-- the number of the place behind one, and 0 where there is none
abbrev pub after_place : Option ℕ → ℕ
after_place None = 0
after_place (Some at) = suc at

module _ {A : Type 0} where
  -- ---- one element more

  pub last_at_more : (test : A → Bool) (xs : List A) (x : A) → last_at test (xs ++ x ∷ []) ≡ cond (test x) (Some (length xs)) (last_at test xs)
  last_at_more test [] x = refl
  last_at_more test (y ∷ xs) x = ap (λ (o : Option ℕ). one_further o (cond (test y) (Some 0) None)) (last_at_more test xs x) ∙ go (test x)
    where
      go : (b : Bool) → one_further (cond b (Some (length xs)) (last_at test xs)) (cond (test y) (Some 0) None) ≡ cond b (Some (suc (length xs))) (one_further (last_at test xs) (cond (test y) (Some 0) None))
      go true = refl
      go false = refl

  -- an element of a longer stack is one of the shorter one, or the last one
  pub get_more : (xs : List A) (x : A) (at : ℕ) (y : A) → slice_get (xs ++ x ∷ []) at ≡ Some y → ((slice_get xs at ≡ Some y) × (take at (xs ++ x ∷ []) ≡ take at xs)) ⊎ ((y ≡ x) × (take at (xs ++ x ∷ []) ≡ xs))
  get_more [] x zero y is = inr (cc, refl)
  get_more [] x (suc at) y is = absurd (cc)
  get_more (z ∷ xs) x zero y is = inl (is, refl)
  get_more (z ∷ xs) x (suc at) y is = go (get_more xs x at y is)
    where
      go : ((slice_get xs at ≡ Some y) × (take at (xs ++ x ∷ []) ≡ take at xs)) ⊎ ((y ≡ x) × (take at (xs ++ x ∷ []) ≡ xs)) → ((slice_get xs at ≡ Some y) × (z ∷ take at (xs ++ x ∷ []) ≡ z ∷ take at xs)) ⊎ ((y ≡ x) × (z ∷ take at (xs ++ x ∷ []) ≡ z ∷ xs))
      go (inl (got, front)) = inl (got, ap (λ (l : List A). z ∷ l) front)
      go (inr (last, front)) = inr (last, ap (λ (l : List A). z ∷ l) front)

  pub get_front : (xs : List A) (x : A) (at : ℕ) (y : A) → slice_get xs at ≡ Some y → (slice_get (xs ++ x ∷ []) at ≡ Some y) × (take at (xs ++ x ∷ []) ≡ take at xs)
  get_front [] x at y is = absurd (cc)
  get_front (z ∷ xs) x zero y is = (is, refl)
  get_front (z ∷ xs) x (suc at) y is = let rest = get_front xs x at y is in (rest.0, ap (λ (l : List A). z ∷ l) rest.1)

  pub get_last : (xs ys : List A) (x : A) → slice_get (xs ++ x ∷ ys) (length xs) ≡ Some x
  get_last [] ys x = refl
  get_last (y ∷ xs) ys x = get_last xs ys x

  module _ (like : A → A → Bool) (outer : A → Option ℕ) where
    pub linked_more : (xs : List A) (x : A) → AreLinked like outer xs → outer x ≡ last_at (like x) xs → AreLinked like outer (xs ++ x ∷ [])
    linked_more xs x linked last at y is = go (get_more xs x at y is)
      where
        go : ((slice_get xs at ≡ Some y) × (take at (xs ++ x ∷ []) ≡ take at xs)) ⊎ ((y ≡ x) × (take at (xs ++ x ∷ []) ≡ xs)) → outer y ≡ last_at (like y) (take at (xs ++ x ∷ []))
        go (inl (got, front)) = linked at y got ∙ ap (last_at (like y)) (sym front)
        go (inr (same, front)) = ap outer same ∙ last ∙ ap (λ (z : A). last_at (like z) xs) (sym same) ∙ ap (last_at (like y)) (sym front)

    pub linked_front : (xs : List A) (x : A) → AreLinked like outer (xs ++ x ∷ []) → AreLinked like outer xs
    linked_front xs x linked at y is = let more = get_front xs x at y is in linked at y more.0 ∙ ap (last_at (like y)) more.1

    pub linked_last : (xs ys : List A) (x : A) → AreLinked like outer (xs ++ x ∷ ys) → outer x ≡ last_at (like x) xs
    linked_last xs ys x linked = linked (length xs) x (get_last xs ys x) ∙ ap (last_at (like x)) (take-append_seam xs (x ∷ ys))

  -- ---- changes at a place

  pub length_changed : (at : ℕ) (f : A → A) (xs : List A) → length (at_place at f xs) ≡ length xs
  length_changed at f [] = refl
  length_changed zero f (x ∷ xs) = refl
  length_changed (suc at) f (x ∷ xs) = ap suc (length_changed at f xs)

  pub take_changed : (k at : ℕ) (f : A → A) (xs : List A) → take k (at_place at f xs) ≡ at_place at f (take k xs)
  take_changed zero at f xs = refl
  take_changed (suc k) at f [] = refl
  take_changed (suc k) zero f (x ∷ xs) = refl
  take_changed (suc k) (suc at) f (x ∷ xs) = ap (λ (l : List A). x ∷ l) (take_changed k at f xs)

  pub last_at_changed : (test : A → Bool) (f : A → A) → ((x : A) → test (f x) ≡ test x) → (at : ℕ) (xs : List A) → last_at test (at_place at f xs) ≡ last_at test xs
  last_at_changed test f same at [] = refl
  last_at_changed test f same zero (x ∷ xs) = ap (λ (b : Bool). one_further (last_at test xs) (cond b (Some 0) None)) (same x)
  last_at_changed test f same (suc at) (x ∷ xs) = ap (λ (o : Option ℕ). one_further o (cond (test x) (Some 0) None)) (last_at_changed test f same at xs)

  pub get_changed : (f : A → A) (n at : ℕ) (xs : List A) (y : A) → slice_get (at_place n f xs) at ≡ Some y → (x : A) × (slice_get xs at ≡ Some x) × ((y ≡ x) ⊎ (y ≡ f x))
  get_changed f n at [] y is = absurd (cc)
  get_changed f zero zero (x ∷ xs) y is = (x, refl, inr (cc))
  get_changed f zero (suc at) (x ∷ xs) y is = (y, is, inl refl)
  get_changed f (suc n) zero (x ∷ xs) y is = (y, is, inl refl)
  get_changed f (suc n) (suc at) (x ∷ xs) y is = get_changed f n at xs y is

  -- a change of what no link is told by
  pub linked_changed : (like : A → A → Bool) (outer : A → Option ℕ) (f : A → A) → ((x : A) → like (f x) ≡ like x) → ((x y : A) → like x (f y) ≡ like x y) → ((x : A) → outer (f x) ≡ outer x) →
      (n : ℕ) (xs : List A) → AreLinked like outer xs → AreLinked like outer (at_place n f xs)
  linked_changed like outer f alike same_test same_outer n xs linked at y is = go (get_changed f n at xs y is)
    where
      front : (x : A) → last_at (like x) (take at xs) ≡ last_at (like x) (take at (at_place n f xs))
      front x = sym (ap (last_at (like x)) (take_changed at n f xs) ∙ last_at_changed (like x) f (same_test x) n (take at xs))

      go : (x : A) × (slice_get xs at ≡ Some x) × ((y ≡ x) ⊎ (y ≡ f x)) → outer y ≡ last_at (like y) (take at (at_place n f xs))
      go (x, got, inl e) = ap outer e ∙ linked at x got ∙ front x ∙ ap (λ (z : A). last_at (like z) (take at (at_place n f xs))) (sym e)
      go (x, got, inr e) =
          ap outer e ∙ same_outer x ∙ linked at x got ∙ front x ∙ ap (λ (test : A → Bool). last_at test (take at (at_place n f xs))) (sym (alike x))
          ∙ ap (λ (z : A). last_at (like z) (take at (at_place n f xs))) (sym e)

  -- a change and the one that takes it back
  pub change_back : (f g : A → A) (at : ℕ) (xs : List A) (x : A) → slice_get xs at ≡ Some x → g (f x) ≡ x → at_place at g (at_place at f xs) ≡ xs
  change_back f g at [] x is back = refl
  change_back f g zero (y ∷ xs) x is back = let e : y ≡ x = cc in ap (λ (z : A). z ∷ xs) (subst (λ (z : A). g (f z) ≡ z) (sym e) back)
  change_back f g (suc at) (y ∷ xs) x is back = ap (λ (l : List A). y ∷ l) (change_back f g at xs x is back)

  -- the change, as a write of what was read there
  pub set_changed : (f : A → A) (xs : List A) (at : ℕ) (x : A) → at < length xs → x ≡ get_or xs at x → slice_set xs at (f x) ≡ at_place at f xs
  set_changed f [] at x within is = absurd (omega arith)
  set_changed f (y ∷ xs) zero x within is = ap (λ (z : A). f z ∷ xs) is
  set_changed f (y ∷ xs) (suc at) x within is = ap (λ (l : List A). y ∷ l) (set_changed f xs at x (omega arith) is)

  pub past_changed : (f : A → A) (xs : List A) (at : ℕ) → length xs ≤ at → at_place at f xs ≡ xs
  past_changed f [] at past = refl
  past_changed f (y ∷ xs) zero past = absurd (omega arith)
  past_changed f (y ∷ xs) (suc at) past = ap (λ (l : List A). y ∷ l) (past_changed f xs at (omega arith))

  pub changed_seam : (f : A → A) (xs ys : List A) (x : A) → at_place (length xs) f (xs ++ x ∷ ys) ≡ xs ++ f x ∷ ys
  changed_seam f [] ys x = refl
  changed_seam f (y ∷ xs) ys x = ap (λ (l : List A). y ∷ l) (changed_seam f xs ys x)

  -- ---- what is found

  abbrev pub IsFound : (A → Bool) → List A → ℕ → Type 0
  IsFound test xs n = (front : List A) × (x : A) × (back : List A) × (xs ≡ front ++ x ∷ back) × (length front ≡ n) × (test x ≡ true) × (last_at test back ≡ None)

  pub last_found : (test : A → Bool) (xs : List A) (n : ℕ) → last_at test xs ≡ Some n → IsFound test xs n
  last_found test [] n is = absurd (cc)
  last_found test (x ∷ xs) n is = go (λ m e. last_found test xs m e) (last_at test xs) refl (test x) refl is
    where
      go : ((m : ℕ) → last_at test xs ≡ Some m → IsFound test xs m) → (o : Option ℕ) → last_at test xs ≡ o → (b : Bool) → test x ≡ b → one_further o (cond b (Some 0) None) ≡ Some n → IsFound test (x ∷ xs) n
      go known (Some m) rest b here is =
          let (front, y, back, split, long, passes, none) = known m rest in
          (x ∷ front, y, back, ap (λ (l : List A). x ∷ l) split, ap suc long ∙ cc, passes, none)
      go known None rest true here is = ([], x, xs, refl, cc, here, rest)
      go known None rest false here is = absurd (cc)

  -- where no element passes
  module _ (test : A → Bool) where
    none_behind : (x : A) (xs : List A) → last_at test (x ∷ xs) ≡ None → (last_at test xs ≡ None) × (test x ≡ false)
    none_behind x xs is = go (last_at test xs) refl (test x) refl is
      where
        go : (o : Option ℕ) → last_at test xs ≡ o → (b : Bool) → test x ≡ b → one_further o (cond b (Some 0) None) ≡ None → (last_at test xs ≡ None) × (test x ≡ false)
        go (Some m) rest b here is = absurd (cc)
        go None rest true here is = absurd (cc)
        go None rest false here is = (rest, here)

    pub none_since : (k : ℕ) (xs : List A) → last_at test xs ≡ None → list_any test (drop k xs) ≡ false
    none_since zero [] is = refl
    none_since (suc k) [] is = refl
    none_since zero (x ∷ xs) is = let both = none_behind x xs is in ap (λ (b : Bool). b || list_any test xs) both.1 ∙ none_since zero xs both.0
    none_since (suc k) (x ∷ xs) is = none_since k xs (none_behind x xs is).0

    -- whether one passes behind a place
    some_behind : (xs : List A) (n : ℕ) → last_at test xs ≡ Some n → list_any test xs ≡ true
    some_behind xs n is = let (front, x, back, split, long, passes, none) = last_found test xs n is in
        ap (list_any test) split ∙ list_any-append test front (x ∷ back) ∙ ap (λ (b : Bool). list_any test front || (b || list_any test back)) passes ∙ go (list_any test front)
      where
        go : (b : Bool) → b || true ≡ true
        go true = refl
        go false = refl

    pub found_since : (k : ℕ) (xs : List A) (n : ℕ) → last_at test xs ≡ Some n → ((k ≤ n) → list_any test (drop k xs) ≡ true) × ((n < k) → list_any test (drop k xs) ≡ false)
    found_since zero xs n is = (λ _. some_behind xs n is, λ below. absurd (omega arith))
    found_since (suc k) [] n is = absurd (cc)
    found_since (suc k) (x ∷ xs) n is = go (λ m e. found_since k xs m e) (last_at test xs) refl (test x) refl is
      where
        go : ((m : ℕ) → last_at test xs ≡ Some m → ((k ≤ m) → list_any test (drop k xs) ≡ true) × ((m < k) → list_any test (drop k xs) ≡ false)) →
            (o : Option ℕ) → last_at test xs ≡ o → (b : Bool) → test x ≡ b → one_further o (cond b (Some 0) None) ≡ Some n → ((suc k ≤ n) → list_any test (drop k xs) ≡ true) × ((n < suc k) → list_any test (drop k xs) ≡ false)
        go known (Some m) rest b here is = let e : suc m ≡ n = cc in let found = known m rest in (λ within. found.0 (omega arith), λ below. found.1 (omega arith))
        go known None rest true here is = let e : 0 ≡ n = cc in (λ within. absurd (omega arith), λ below. none_since k xs rest)
        go known None rest false here is = absurd (cc)

    pub any_of_none : (other : A → Bool) (xs : List A) → last_at test xs ≡ None → list_any (λ x. test x && other x) xs ≡ false
    any_of_none other [] is = refl
    any_of_none other (x ∷ xs) is = let both = none_behind x xs is in
        ap (λ (b : Bool). (b && other x) || list_any (λ x. test x && other x) xs) both.1 ∙ any_of_none other xs both.0

    pub map_of_none : (f : A → A) → ((x : A) → test x ≡ false → f x ≡ x) → (xs : List A) → last_at test xs ≡ None → map f xs ≡ xs
    map_of_none f stays [] is = refl
    map_of_none f stays (x ∷ xs) is = let both = none_behind x xs is in
        ap (λ (y : A). y ∷ map f xs) (stays x both.1) ∙ ap (λ (l : List A). x ∷ l) (map_of_none f stays xs both.0)

    -- of those that pass the test, the last one, or one before it
    pub any_step : (other : A → Bool) (front back : List A) (x : A) → test x ≡ true → last_at test back ≡ None → list_any (λ x. test x && other x) (front ++ x ∷ back) ≡ (other x || list_any (λ x. test x && other x) front)
    any_step other front back x here rest =
        list_any-append (λ x. test x && other x) front (x ∷ back) ∙ ap (λ (b : Bool). list_any (λ x. test x && other x) front || ((b && other x) || list_any (λ x. test x && other x) back)) here
        ∙ ap (λ (b : Bool). list_any (λ x. test x && other x) front || (other x || b)) (any_of_none other back rest) ∙ go (other x) (list_any (λ x. test x && other x) front)
      where
        go : (a b : Bool) → b || (a || false) ≡ a || b
        go true true = refl
        go true false = refl
        go false true = refl
        go false false = refl

    -- the last one that passes the test is changed, where those behind are changed already
    pub map_step : (f g : A → A) → ((x : A) → test x ≡ false → f x ≡ x) → (front back more : List A) (x : A) → g x ≡ f x → last_at test back ≡ None →
        at_place (length front) g ((front ++ x ∷ back) ++ map f more) ≡ front ++ map f (x ∷ back ++ more)
    map_step f g stays front back more x same rest =
        ap (at_place (length front) g) (append_assoc front (x ∷ back) (map f more)) ∙ changed_seam g front (back ++ map f more) x
        ∙ ap (λ (y : A). front ++ y ∷ (back ++ map f more)) same
        ∙ ap (λ (l : List A). front ++ f x ∷ (l ++ map f more)) (sym (map_of_none f stays back rest)) ∙ ap (λ (l : List A). front ++ f x ∷ l) (sym (map-append f back more))

    -- the number of the place behind one
    pub place_within : (xs : List A) → after_place (last_at test xs) ≤ length xs
    place_within xs = go (last_at test xs) refl
      where
        go : (o : Option ℕ) → last_at test xs ≡ o → after_place o ≤ length xs
        go None is = omega arith
        go (Some n) is = let (front, x, back, split, long, passes, none) = last_found test xs n is in
            omega (arith, ap length split, length-append front (x ∷ back))

    pub last_within : (xs : List A) (n : ℕ) → Some n ≡ last_at test xs → n < length xs
    last_within xs n is = omega (arith, subst (λ (o : Option ℕ). after_place o ≤ length xs) (sym is) (place_within xs))
