-- Spellings of numbers, from the last digit on.
use Rattle.std.proofs.Common.{◌≡◌, ℕ, ◌+◌, ◌/◌, ◌%◌, ◌^◌, ◌<◌, ◌≤◌, Bool, true, false, ◌&&◌, List, [], ◌∷◌, ◌++◌, length, cond, eqb, refl, sym, ap, ◌∙◌, ◌⊎◌, inl, inr, arith}
use Rattle.std.proofs.lemmas.Bool.{cases_lt}
use Rattle.std.specs.Str.{bytes_eq}
use Rattle.std.specs.Fmt.{decimal}
use Rattle.std.proofs.lemmas.Fmt.{decimal_digit, decimal_step}

-- two lists that grow at their ends are the same where the fronts and the last ones are
last_apart : (x : ℕ) (ys : List ℕ) (b : ℕ) → bytes_eq (x ∷ []) (ys ++ b ∷ []) ≡ cond (eqb x b) (bytes_eq [] ys) false
last_apart x [] b = go (eqb x b)
  where
    go : (c : Bool) → c && true ≡ cond c true false
    go true = refl
    go false = refl
last_apart x (y ∷ []) b = go (eqb x y) (eqb x b)
  where
    go : (c d : Bool) → c && false ≡ cond d false false
    go true true = refl
    go true false = refl
    go false true = refl
    go false false = refl
last_apart x (y ∷ z ∷ ys) b = go (eqb x y) (eqb x b)
  where
    go : (c d : Bool) → c && false ≡ cond d false false
    go true true = refl
    go true false = refl
    go false true = refl
    go false false = refl

front_apart : (x y : ℕ) (xs : List ℕ) (a b : ℕ) → bytes_eq ((x ∷ xs) ++ a ∷ []) (b ∷ []) ≡ false
front_apart x y [] a b = go (eqb x b)
  where
    go : (c : Bool) → c && false ≡ false
    go true = refl
    go false = refl
front_apart x y (z ∷ xs) a b = go (eqb x b)
  where
    go : (c : Bool) → c && false ≡ false
    go true = refl
    go false = refl

pub same_ends : (xs ys : List ℕ) (a b : ℕ) → bytes_eq (xs ++ a ∷ []) (ys ++ b ∷ []) ≡ cond (eqb a b) (bytes_eq xs ys) false
same_ends [] ys a b = last_apart a ys b
same_ends (x ∷ xs) [] a b = front_apart x x xs a b ∙ go (eqb a b)
  where
    go : (c : Bool) → false ≡ cond c false false
    go true = refl
    go false = refl
same_ends (x ∷ xs) (y ∷ ys) a b = ap (λ (c : Bool). eqb x y && c) (same_ends xs ys a b) ∙ go (eqb x y) (eqb a b)
  where
    go : (c d : Bool) → c && cond d (bytes_eq xs ys) false ≡ cond d (c && bytes_eq xs ys) false
    go true true = refl
    go true false = refl
    go false true = refl
    go false false = refl

-- no spelling is empty
nothing_spelt : (xs : List ℕ) (a : ℕ) → bytes_eq (xs ++ a ∷ []) [] ≡ false
nothing_spelt [] a = refl
nothing_spelt (x ∷ xs) a = refl

-- a digit alone, and a digit behind others
digit_ends : (n : ℕ) → n < 10 → decimal n ≡ [] ++ (48 + n % 10) ∷ []
digit_ends n small = let same : n % 10 ≡ n = omega arith in decimal_digit n small ∙ ap (λ (k : ℕ). (48 + k) ∷ []) (sym same)

nothing_is : (n : ℕ) → n < 2 ^ 64 → false ≡ bytes_eq (decimal n) []
nothing_is n fits = go (cases_lt n 10)
  where
    go : (n < 10) ⊎ (10 ≤ n) → false ≡ bytes_eq (decimal n) []
    go (inl small) = sym (ap (λ (d : List ℕ). bytes_eq d []) (digit_ends n small) ∙ nothing_spelt [] (48 + n % 10))
    go (inr large) = sym (ap (λ (d : List ℕ). bytes_eq d []) (decimal_step n large fits) ∙ nothing_spelt (decimal (n / 10)) (48 + n % 10))

pub none_spelt : (n : ℕ) (spelling : List ℕ) → n < 2 ^ 64 → length spelling ≡ 0 → false ≡ bytes_eq (decimal n) spelling
none_spelt n [] fits empty = nothing_is n fits
none_spelt n (x ∷ spelling) fits empty = absurd (omega arith)

pub digit_spelt : (n : ℕ) (front : List ℕ) (last : ℕ) → n < 10 → bytes_eq (decimal n) (front ++ last ∷ []) ≡ cond (eqb (48 + n % 10) last) (bytes_eq [] front) false
digit_spelt n front last small = ap (λ (d : List ℕ). bytes_eq d (front ++ last ∷ [])) (digit_ends n small) ∙ same_ends [] front (48 + n % 10) last

pub number_spelt : (n : ℕ) (front : List ℕ) (last : ℕ) → 10 ≤ n → n < 2 ^ 64 → bytes_eq (decimal n) (front ++ last ∷ []) ≡ cond (eqb (48 + n % 10) last) (bytes_eq (decimal (n / 10)) front) false
number_spelt n front last large fits = ap (λ (d : List ℕ). bytes_eq d (front ++ last ∷ [])) (decimal_step n large fits) ∙ same_ends (decimal (n / 10)) front (48 + n % 10) last
