-- Lists of which one element changes, and lists side by side.
use Rattle.std.proofs.Common.{◌≡◌, ℕ, zero, suc, ◌+◌, ◌<◌, ◌≤◌, List, [], ◌∷◌, ◌++◌, length, map, set, take, get_or, sum_by, refl, ap, ◌∙◌, subst, arith}
use Rattle.std.specs.List.{AllByRecursion, AllZip}
use Rattle.std.proofs.lemmas.List.Sums.{sum_by-cons, sum_by-set}

module _ {A : Type 0} where
  pub rec_set : (P : A → Type 0) (xs : List A) (k : ℕ) (y : A) → P y → AllByRecursion P xs → AllByRecursion P (set xs k y)
  rec_set P [] k y one all = tt
  rec_set P (x ∷ xs) zero y one all = (one, all.1)
  rec_set P (x ∷ xs) (suc k) y one all = (all.0, rec_set P xs k y one all.1)

  pub rec_at : (P : A → Type 0) (xs : List A) (k : ℕ) (d : A) → k < length xs → AllByRecursion P xs → P (get_or xs k d)
  rec_at P [] k d within all = absurd (omega arith)
  rec_at P (x ∷ xs) zero d within all = all.0
  rec_at P (x ∷ xs) (suc k) d within all = rec_at P xs k d (omega arith) all.1

  pub rec_of : (P Q : A → Type 0) (xs : List A) → ((x : A) → P x → Q x) → AllByRecursion P xs → AllByRecursion Q xs
  rec_of P Q [] then all = tt
  rec_of P Q (x ∷ xs) then all = (then x all.0, rec_of P Q xs then all.1)

  pub rec_push : (P : A → Type 0) (xs : List A) (y : A) → AllByRecursion P xs → P y → AllByRecursion P (xs ++ y ∷ [])
  rec_push P [] y all one = (one, tt)
  rec_push P (x ∷ xs) y all one = (all.0, rec_push P xs y all.1 one)

  pub rec_map : {B : Type 0} (f : A → B) (P : B → Type 0) (xs : List A) → AllByRecursion P (map f xs) → AllByRecursion (λ x. P (f x)) xs
  rec_map f P [] all = tt
  rec_map f P (x ∷ xs) all = (all.0, rec_map f P xs all.1)

  pub set_long : (xs : List A) (k : ℕ) (y : A) → length (set xs k y) ≡ length xs
  set_long [] k y = refl
  set_long (x ∷ xs) zero y = refl
  set_long (x ∷ xs) (suc k) y = let rest = set_long xs k y in omega arith

  pub long_map : {B : Type 0} (f : A → B) (xs : List A) → length (map f xs) ≡ length xs
  long_map f [] = refl
  long_map f (x ∷ xs) = let rest = long_map f xs in omega arith

  pub map_get : {B : Type 0} (f : A → B) (xs : List A) (k : ℕ) (d : A) → k < length xs → get_or (map f xs) k (f d) ≡ f (get_or xs k d)
  map_get f [] k d within = absurd (omega arith)
  map_get f (x ∷ xs) zero d within = refl
  map_get f (x ∷ xs) (suc k) d within = map_get f xs k d (omega arith)

  -- what stays where the value at a place stays
  pub map_keep : {B : Type 0} (f : A → B) (xs : List A) (k : ℕ) (y d : A) → k < length xs → f y ≡ f (get_or xs k d) → map f (set xs k y) ≡ map f xs
  map_keep f [] k y d within same = absurd (omega arith)
  map_keep {B} f (x ∷ xs) zero y d within same = ap (λ (b : B). b ∷ map f xs) same
  map_keep {B} f (x ∷ xs) (suc k) y d within same = ap (λ (l : List B). f x ∷ l) (map_keep f xs k y d (omega arith) same)

  pub sum_keep : (f : A → ℕ) (xs : List A) (k : ℕ) (y d : A) → k < length xs → f y ≡ f (get_or xs k d) → sum_by f (set xs k y) ≡ sum_by f xs
  sum_keep f xs k y d within same = omega (arith, sum_by-set f xs k y d within)

  pub sum_zero : (f : A → ℕ) (xs : List A) → AllByRecursion (λ x. f x ≡ 0) xs → sum_by f xs ≡ 0
  sum_zero f [] all = refl
  sum_zero f (x ∷ xs) all = let one = all.0 in let rest = sum_zero f xs all.1 in omega (arith, sum_by-cons f x xs)

  take_front : (xs ys : List A) → take (length xs) (xs ++ ys) ≡ xs
  take_front [] ys = take_no ys
    where
      take_no : (zs : List A) → take 0 zs ≡ []
      take_no [] = refl
      take_no (z ∷ zs) = refl
  take_front (x ∷ xs) ys = ap (λ (l : List A). x ∷ l) (take_front xs ys)

  -- what a vector has once a slice of all of it is given back
  pub written_back : (n : ℕ) (new rest : List A) → n ≡ length new → take n (new ++ rest) ≡ new
  written_back n new rest e = ap (λ (i : ℕ). take i (new ++ rest)) e ∙ take_front new rest

  -- what holds of the first ones
  abbrev pub AllFirst : (A → Type 0) → ℕ → List A → Type 0
  AllFirst P zero xs = Unit {0}
  AllFirst P (suc k) [] = Unit {0}
  AllFirst P (suc k) (x ∷ xs) = P x × AllFirst P k xs

  first_set : (P : A → Type 0) (xs : List A) (k : ℕ) (y : A) → P y → AllFirst P k xs → AllFirst P (suc k) (set xs k y)
  first_set P [] k y one all = tt
  first_set P (x ∷ xs) zero y one all = (one, tt)
  first_set P (x ∷ xs) (suc k) y one all = (all.0, first_set P xs k y one all.1)

  pub first_all : (P : A → Type 0) (xs : List A) (k : ℕ) → length xs ≤ k → AllFirst P k xs → AllByRecursion P xs
  first_all P [] k whole all = tt
  first_all P (x ∷ xs) zero whole all = absurd (omega arith)
  first_all P (x ∷ xs) (suc k) whole all = (all.0, first_all P xs k (omega arith) all.1)

  pub first_more : (P : A → Type 0) (xs : List A) (k : ℕ) (y : A) → P y → AllFirst P k xs → AllFirst P (k + 1) (set xs k y)
  first_more P xs k y one all = let e : suc k ≡ k + 1 = omega arith in subst (λ (n : ℕ). AllFirst P n (set xs k y)) e (first_set P xs k y one all)

  module _ (R : A → A → Type 0) where
    pub zip_long : (xs ys : List A) → AllZip R xs ys → length ys ≡ length xs
    zip_long [] [] h = refl
    zip_long [] (y ∷ ys) h = absurd h
    zip_long (x ∷ xs) [] h = absurd h
    zip_long (x ∷ xs) (y ∷ ys) h = let rest = zip_long xs ys h.1 in omega arith

    pub zip_same : ((x : A) → R x x) → (xs : List A) → AllZip R xs xs
    zip_same same [] = tt
    zip_same same (x ∷ xs) = (same x, zip_same same xs)

    pub zip_set : ((x y z : A) → R x y → R y z → R x z) → (xs ys : List A) (k : ℕ) (y d : A) → k < length ys → R (get_or ys k d) y → AllZip R xs ys → AllZip R xs (set ys k y)
    zip_set trans [] [] k y d within one h = absurd (omega arith)
    zip_set trans [] (z ∷ ys) k y d within one h = absurd h
    zip_set trans (x ∷ xs) [] k y d within one h = absurd h
    zip_set trans (x ∷ xs) (z ∷ ys) zero y d within one h = (trans x z y h.0 one, h.1)
    zip_set trans (x ∷ xs) (z ∷ ys) (suc k) y d within one h = (h.0, zip_set trans xs ys k y d (omega arith) one h.1)

    pub zip_at : (xs ys : List A) (k : ℕ) (d e : A) → k < length ys → AllZip R xs ys → R (get_or xs k d) (get_or ys k e)
    zip_at [] [] k d e within h = absurd (omega arith)
    zip_at [] (y ∷ ys) k d e within h = absurd h
    zip_at (x ∷ xs) [] k d e within h = absurd h
    zip_at (x ∷ xs) (y ∷ ys) zero d e within h = h.0
    zip_at (x ∷ xs) (y ∷ ys) (suc k) d e within h = zip_at xs ys k d e (omega arith) h.1

    pub zip_map : {B : Type 0} (f : A → B) → ((x y : A) → R x y → f y ≡ f x) → (xs ys : List A) → AllZip R xs ys → map f ys ≡ map f xs
    zip_map f same [] [] h = refl
    zip_map f same [] (y ∷ ys) h = absurd h
    zip_map f same (x ∷ xs) [] h = absurd h
    zip_map {B} f same (x ∷ xs) (y ∷ ys) h = λ i. same x y h.0 i ∷ zip_map f same xs ys h.1 i

    pub zip_sum : (f : A → ℕ) → ((x y : A) → R x y → f y ≡ f x) → (xs ys : List A) → AllZip R xs ys → sum_by f ys ≡ sum_by f xs
    zip_sum f same [] [] h = refl
    zip_sum f same [] (y ∷ ys) h = absurd h
    zip_sum f same (x ∷ xs) [] h = absurd h
    zip_sum f same (x ∷ xs) (y ∷ ys) h = let one = same x y h.0 in let rest = zip_sum f same xs ys h.1 in omega (arith, sum_by-cons f x xs, sum_by-cons f y ys)

    pub zip_rec : (P Q : A → Type 0) → ((x y : A) → R x y → P x → Q y) → (xs ys : List A) → AllZip R xs ys → AllByRecursion P xs → AllByRecursion Q ys
    zip_rec P Q then [] [] h all = tt
    zip_rec P Q then [] (y ∷ ys) h all = absurd h
    zip_rec P Q then (x ∷ xs) [] h all = absurd h
    zip_rec P Q then (x ∷ xs) (y ∷ ys) h all = (then x y h.0 all.0, zip_rec P Q then xs ys h.1 all.1)

    pub zip_with : (Q : A → Type 0) (S : A → A → Type 0) → ((x y : A) → R x y → Q y → S x y) → (xs ys : List A) → AllZip R xs ys → AllByRecursion Q ys → AllZip S xs ys
    zip_with Q S then [] [] h all = tt
    zip_with Q S then [] (y ∷ ys) h all = absurd h
    zip_with Q S then (x ∷ xs) [] h all = absurd h
    zip_with Q S then (x ∷ xs) (y ∷ ys) h all = (then x y h.0 all.0, zip_with Q S then xs ys h.1 all.1)

    pub zip_then : (S T : A → A → Type 0) → ((x y z : A) → R x y → S y z → T x z) → (xs ys zs : List A) → AllZip R xs ys → AllZip S ys zs → AllZip T xs zs
    zip_then S T then [] [] [] h h' = tt
    zip_then S T then [] [] (z ∷ zs) h h' = absurd h'
    zip_then S T then [] (y ∷ ys) zs h h' = absurd h
    zip_then S T then (x ∷ xs) [] zs h h' = absurd h
    zip_then S T then (x ∷ xs) (y ∷ ys) [] h h' = absurd h'
    zip_then S T then (x ∷ xs) (y ∷ ys) (z ∷ zs) h h' = (then x y z h.0 h'.0, zip_then S T then xs ys zs h.1 h'.1)
