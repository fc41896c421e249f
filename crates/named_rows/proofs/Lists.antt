-- Lists that a loop makes of the elements so far, and names among names.
use Rattle.std.proofs.Common.{◌≡◌, ℕ, ◌+◌, ◌<◌, Bool, true, false, ◌||◌, cond, List, [], ◌∷◌, ◌++◌, filter, length, take, get_or, take-suc, add-one, bytes_eq, refl, sym, ap, ◌∙◌, append-nil}
use Rattle.std.specs.List.{flat_map}
use Rattle.std.specs.Cmp.Lexicographic.{bytes_decides}
use Rattle.std.proofs.lemmas.Grind.{flat_map-append}
use Rattle.std.proofs.lemmas.List.Elements.{filter-append}
use Rattle.check_values.specs.Rows.{Bytes, Rows, is_among}
use Rattle.named_rows.specs.Seen.{seen}

pub flat_last : {A B : Type 0} (f : A → List B) (xs : List A) (x : A) → flat_map f (xs ++ x ∷ []) ≡ flat_map f xs ++ f x
flat_last {A} {B} f xs x = flat_map-append f xs (x ∷ []) ∙ ap (λ (l : List B). flat_map f xs ++ l) (append-nil (f x))

-- one element more
pub flat_more : {A B : Type 0} (f : A → List B) (xs : List A) (i : ℕ) (d : A) → i < length xs → flat_map f (take (i + 1) xs) ≡ flat_map f (take i xs) ++ f (get_or xs i d)
flat_more f xs i d within = ap (λ (k : ℕ). flat_map f (take k xs)) (add-one i) ∙ ap (flat_map f) (take-suc xs i d within) ∙ flat_last f (take i xs) (get_or xs i d)

pub seen_more : {A B : Type 0} (f : A → B) (rows : Rows A) (row : Bytes × A) → seen f (rows ++ row ∷ []) ≡ seen f rows ++ (row.0, f row.1) ∷ []
seen_more f [] row = refl
seen_more {A} {B} f (r ∷ rows) row = ap (λ (l : Rows B). (r.0, f r.1) ∷ l) (seen_more f rows row)

pub filter_last : {X : Type 0} (p : X → Bool) (xs : List X) (y : X) → filter p (xs ++ y ∷ []) ≡ filter p xs ++ cond (p y) (y ∷ []) []
filter_last p xs y = filter-append p xs (y ∷ [])

pub among_last : (xs : List Bytes) (y q : Bytes) → is_among (xs ++ y ∷ []) q ≡ cond (bytes_eq q y) true (is_among xs q)
among_last [] y q = go (bytes_eq q y)
  where
    go : (b : Bool) → b || false ≡ cond b true false
    go true = refl
    go false = refl
among_last (x ∷ xs) y q = ap (λ (b : Bool). bytes_eq q x || b) (among_last xs y q) ∙ go (bytes_eq q x) (bytes_eq q y)
  where
    go : (a b : Bool) → a || cond b true (is_among xs q) ≡ cond b true (a || is_among xs q)
    go true true = refl
    go true false = refl
    go false b = refl

pub bytes_turned : (a b : Bytes) → bytes_eq a b ≡ bytes_eq b a
bytes_turned a b = go (bytes_eq a b) (bytes_eq b a) refl refl
  where
    go : (c d : Bool) → bytes_eq a b ≡ c → bytes_eq b a ≡ d → c ≡ d
    go true true e f = refl
    go false false e f = refl
    go true false e f = sym ((bytes_decides b a).1 (sym ((bytes_decides a b).0 e))) ∙ f
    go false true e f = sym e ∙ (bytes_decides a b).1 (sym ((bytes_decides b a).0 f))
