-- The parts of folders and paths.
use Rattle.std.proofs.Common.{◌≡◌, ℕ, zero, suc, ◌+◌, ◌<◌, ◌≤◌, Bool, true, false, ◌==◌, List, [], ◌∷◌, ◌++◌, length, map, drop, reverse, Some, None, codes, refl, sym, ap, ◌∙◌, append_assoc, arith, get_or, take, take-suc, add-one, eqb→eq, T, subst}
use denote.Ref.{Bor}
use Rattle.flow_values.specs.Path.{SLASH}
use Rattle.std.specs.List.{join_with_byte}
use mathlib.Core.List.{reverse-reverse}
use Rattle.std.proofs.lemmas.List.{reverse-append, length-reverse}
use Rattle.check_values.specs.Rows.{Bytes}
use Rattle.module_resolution.specs.Resolution.{all_applied, candidates_at}

-- without the last part
pub folder_parts : (parts : List Bytes) (last : Bytes) → reverse parts ≡ drop 1 (reverse (parts ++ last ∷ []))
folder_parts parts last = sym (ap (λ (l : List Bytes). drop 1 l) (reverse-append parts (last ∷ [])))

pub map_more : {A B : Type 0} (f : A → B) (xs : List A) (x : A) (ys : List B) → map f (xs ++ x ∷ []) ++ ys ≡ map f xs ++ (f x ∷ ys)
map_more f [] x ys = refl
map_more {A} {B} f (z ∷ xs) x ys = ap (λ (l : List B). f z ∷ l) (map_more f xs x ys)

-- what leads nowhere leads nowhere with more parts
pub nowhere : (parts : List Bytes) → all_applied None parts ≡ None
nowhere [] = refl
nowhere (part ∷ parts) = refl

pub join_more : (c : ℕ) (xs : List Bytes) (y : Bytes) → 0 < length xs → join_with_byte c (xs ++ y ∷ []) ≡ join_with_byte c xs ++ (c ∷ y)
join_more c [] y some = absurd (omega arith)
join_more c (x ∷ []) y some = refl
join_more c (x ∷ z ∷ zs) y some = ap (λ (l : Bytes). x ++ (c ∷ l)) (join_more c (z ∷ zs) y (omega arith)) ∙ sym (append_assoc x (c ∷ join_with_byte c (z ∷ zs)) (c ∷ y))

abbrev path_so_far : List (Bor Bytes) → ℕ → Bytes
path_so_far parts i = join_with_byte SLASH (map (λ p. p.now) (take i parts))

map-last : {A B : Type 0} (f : A → B) (xs : List A) (x : A) → map f (xs ++ x ∷ []) ≡ map f xs ++ f x ∷ []
map-last f [] x = refl
map-last {A} {B} f (z ∷ xs) x = ap (λ (l : List B). f z ∷ l) (map-last f xs x)

so_far-suc : (parts : List (Bor Bytes)) (i : ℕ) (d : Bor Bytes) → i < length parts → map (λ (p : Bor Bytes). p.now) (take (suc i) parts) ≡ map (λ (p : Bor Bytes). p.now) (take i parts) ++ (get_or parts i d).now ∷ []
so_far-suc parts i d within = ap (map (λ (p : Bor Bytes). p.now)) (take-suc parts i d within) ∙ map-last (λ (p : Bor Bytes). p.now) (take i parts) (get_or parts i d)

length-so_far : (parts : List (Bor Bytes)) (i : ℕ) → 0 < i → i < length parts → 0 < length (map (λ (p : Bor Bytes). p.now) (take i parts))
length-so_far [] i some within = absurd (omega arith)
length-so_far (p ∷ ps) zero some within = absurd (omega arith)
length-so_far (p ∷ ps) (suc i) some within = omega arith

pub path_more : (path : Bytes) (parts : List (Bor Bytes)) (i : ℕ) (d : Bor Bytes) → path ≡ join_with_byte SLASH (map (λ p. p.now) (take i parts)) → 0 < i → i < length parts → (path ++ SLASH ∷ []) ++ (get_or parts i d).now ≡ join_with_byte SLASH (map (λ p. p.now) (take (i + 1) parts))
path_more path parts i d is some within =
    ap (λ (l : Bytes). (l ++ SLASH ∷ []) ++ (get_or parts i d).now) is
    ∙ append_assoc (path_so_far parts i) (SLASH ∷ []) (get_or parts i d).now
    ∙ sym (join_more SLASH (map (λ (p : Bor Bytes). p.now) (take i parts)) (get_or parts i d).now (length-so_far parts i some within))
    ∙ ap (join_with_byte SLASH) (sym (so_far-suc parts i d within))
    ∙ ap (λ (k : ℕ). path_so_far parts k) (sym (add-one i))

pub path_first : (path : Bytes) (parts : List (Bor Bytes)) (i : ℕ) (d : Bor Bytes) → path ≡ join_with_byte SLASH (map (λ p. p.now) (take i parts)) → i ≤ 0 → i < length parts → path ++ (get_or parts i d).now ≡ join_with_byte SLASH (map (λ p. p.now) (take (i + 1) parts))
path_first path [] i d is none within = absurd (omega arith)
path_first path (p ∷ ps) zero d is none within = ap (λ (l : Bytes). l ++ p.now) is
path_first path (p ∷ ps) (suc i) d is none within = absurd (omega arith)

-- the root has one candidate, and every other place three
pub candidates_none : (xs : List (Bor Bytes)) → (length xs == 0) ≡ true → candidates_at (Some (reverse (map (λ p. p.now) xs))) ≡ codes "index.js" ∷ []
candidates_none [] none = refl
candidates_none (x ∷ xs) none = absurd (let e : suc (length xs) ≡ 0 = eqb→eq (suc (length xs)) 0 (subst T (sym none) tt) in omega (arith, e))

abbrev three : Bytes → List Bytes
three path = path ∷ (path ++ codes ".js") ∷ (path ++ codes "/index.js") ∷ []

some_candidates : (parts : List Bytes) → 0 < length parts → candidates_at (Some (reverse parts)) ≡ three (join_with_byte SLASH parts)
some_candidates parts some = go (reverse parts) refl
  where
    go : (r : List Bytes) → reverse parts ≡ r → candidates_at (Some r) ≡ three (join_with_byte SLASH parts)
    go [] e = absurd (let l = length-reverse parts in let f : length (reverse parts) ≡ 0 = ap length e in omega arith)
    go (inner ∷ outer) e = ap (λ (l : List Bytes). three (join_with_byte SLASH l)) (ap reverse (sym e) ∙ reverse-reverse parts)

length-now : (xs : List (Bor Bytes)) → length (map (λ (p : Bor Bytes). p.now) xs) ≡ length xs
length-now [] = refl
length-now (x ∷ xs) = ap suc (length-now xs)

some_length : (xs : List (Bor Bytes)) → (length xs == 0) ≡ false → 0 < length xs
some_length [] some = absurd (cc)
some_length (x ∷ xs) some = omega arith

pub candidates_some : (xs : List (Bor Bytes)) → (length xs == 0) ≡ false → candidates_at (Some (reverse (map (λ p. p.now) xs))) ≡ join_with_byte SLASH (map (λ p. p.now) xs) ∷ (join_with_byte SLASH (map (λ p. p.now) xs) ++ codes ".js") ∷ (join_with_byte SLASH (map (λ p. p.now) xs) ++ codes "/index.js") ∷ []
candidates_some xs some = some_candidates (map (λ (p : Bor Bytes). p.now) xs) (let a = length-now xs in let b = some_length xs some in omega arith)
