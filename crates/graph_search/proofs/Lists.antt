-- Looking into lists by places.
use Rattle.std.proofs.Common.{◌≡◌, ℕ, zero, suc, ◌+◌, ◌<◌, ◌≤◌, ◌⊎◌, Bool, true, false, List, [], ◌∷◌, ◌++◌, length, set, get_or, slice_get, take, Some, None, refl, sym, ap, ◌∙◌, inl, inr, arith, subst}
use native.Mathlib.Decide.{ℕ_discrete}
use Rattle.graph_search.specs.Cycles.{Has, IsOn}
use Rattle.graph_search.specs.Searching.{open_count}

pub none_some : {A X : Type 0} (x : A) → None ≡ Some x → X
none_some x e = cc

pub get-set_here : {A : Type 0} (xs : List A) (e : ℕ) (x : A) → e < length xs → slice_get (set xs e x) e ≡ Some x
get-set_here [] e x h = absurd (omega arith)
get-set_here (y ∷ ys) zero x h = refl
get-set_here (y ∷ ys) (suc e) x h = get-set_here ys e x (omega arith)

pub get-set_else : {A : Type 0} (xs : List A) (e k : ℕ) (x : A) → ¬ (k ≡ e) → slice_get (set xs e x) k ≡ slice_get xs k
get-set_else [] e k x h = refl
get-set_else (y ∷ ys) zero zero x h = absurd (h refl)
get-set_else (y ∷ ys) zero (suc k) x h = refl
get-set_else (y ∷ ys) (suc e) zero x h = refl
get-set_else (y ∷ ys) (suc e) (suc k) x h = get-set_else ys e k x (λ same. h (ap suc same))

pub length-set_here : {A : Type 0} (xs : List A) (e : ℕ) (x : A) → length (set xs e x) ≡ length xs
length-set_here [] e x = refl
length-set_here (y ∷ ys) zero x = refl
length-set_here (y ∷ ys) (suc e) x = ap suc (length-set_here ys e x)

-- a mark that is written is on, one that is cleared isn't, and the others stay
pub set_on : (ms : List Bool) (y : ℕ) → y < length ms → IsOn (set ms y true) y
set_on ms y small = get-set_here ms y true small

pub set_off : (ms : List Bool) (y z : ℕ) → y < length ms → IsOn (set ms y false) z → IsOn ms z × ¬ (z ≡ y)
set_off ms y z small on = elim (ℕ_discrete z y) [
  | yes same ↦ absurd (let f : Some false ≡ Some true = sym (get-set_here ms y false small) ∙ ap (slice_get (set ms y false)) (sym same) ∙ on in cc)
  | no other ↦ (sym (get-set_else ms y z false other) ∙ on, other)
]

pub stays_on : (ms : List Bool) (y z : ℕ) → IsOn ms z → IsOn (set ms y false) z ⊎ (z ≡ y)
stays_on ms y z on = elim (ℕ_discrete z y) [ yes same ↦ inr same | no other ↦ inl (get-set_else ms y z false other ∙ on) ]

pub stays_marked : (ms : List Bool) (y z : ℕ) → IsOn ms z → IsOn (set ms y true) z
stays_marked ms y z on = elim (ℕ_discrete z y) [ yes same ↦ ap (slice_get (set ms y true)) same ∙ get-set_here ms y true (subst (λ (k : ℕ). k < length ms) same (get_small ms z true on)) | no other ↦ get-set_else ms y z true other ∙ on ]
  where
    get_small : {A : Type 0} (xs : List A) (e : ℕ) (x : A) → slice_get xs e ≡ Some x → e < length xs
    get_small [] e x is = none_some x is
    get_small (y ∷ ys) zero x is = omega arith
    get_small (y ∷ ys) (suc e) x is = let h = get_small ys e x is in omega arith

pub was_marked : (ms : List Bool) (y z : ℕ) → IsOn (set ms y true) z → IsOn ms z ⊎ (z ≡ y)
was_marked ms y z on = elim (ℕ_discrete z y) [ yes same ↦ inr same | no other ↦ inl (sym (get-set_else ms y z true other) ∙ on) ]

pub count-set : (bs : List Bool) (e : ℕ) → IsOn bs e → open_count (set bs e false) + 1 ≡ open_count bs
count-set [] e h = none_some true h
count-set (true ∷ bs) zero h = omega arith
count-set (false ∷ bs) zero h = let f : Some false ≡ Some true = h in cc
count-set (true ∷ bs) (suc e) h = let r = count-set bs e h in omega arith
count-set (false ∷ bs) (suc e) h = count-set bs e h

pub get-front : {A : Type 0} (xs ys : List A) (i : ℕ) (x : A) → slice_get xs i ≡ Some x → slice_get (xs ++ ys) i ≡ Some x
get-front [] ys i x h = none_some x h
get-front (y ∷ xs) ys zero x h = h
get-front (y ∷ xs) ys (suc i) x h = get-front xs ys i x h

pub has-last : (xs : List ℕ) (x : ℕ) → Has (xs ++ x ∷ []) x
has-last [] x = (0, refl)
has-last (y ∷ xs) x = let r = has-last xs x in (suc r.0, r.1)

pub last-split : (xs : List ℕ) (y i x : ℕ) → slice_get (xs ++ y ∷ []) i ≡ Some x → Has xs x ⊎ (x ≡ y)
last-split [] y zero x h = inr (let f : Some y ≡ Some x = h in cc)
last-split [] y (suc i) x h = none_some x h
last-split (z ∷ xs) y zero x h = inl (0, h)
last-split (z ∷ xs) y (suc i) x h = elim (last-split xs y i x h) [ inl r ↦ inl (suc r.0, r.1) | inr s ↦ inr s ]

pub get_small : {A : Type 0} (xs : List A) (e : ℕ) (x : A) → slice_get xs e ≡ Some x → e < length xs
get_small [] e x is = none_some x is
get_small (y ∷ ys) zero x is = omega arith
get_small (y ∷ ys) (suc e) x is = let h = get_small ys e x is in omega arith

pub get_index : {A : Type 0} (xs : List A) (e : ℕ) (d x : A) → e < length xs → get_or xs e d ≡ x → slice_get xs e ≡ Some x
get_index [] e d x h is = absurd (omega arith)
get_index (y ∷ ys) zero d x h is = ap Some is
get_index (y ∷ ys) (suc e) d x h is = get_index ys e d x (omega arith) is

take_next : (es : List ℕ) (i j x : ℕ) → slice_get (take (suc i) es) j ≡ Some x → Has (take i es) x ⊎ (get_or es i 0 ≡ x)
take_next [] zero j x is = none_some x is
take_next [] (suc i) j x is = none_some x is
take_next (e ∷ es) zero zero x is = inr (let k : Some e ≡ Some x = is in cc)
take_next (e ∷ es) zero (suc j) x is = none_some x is
take_next (e ∷ es) (suc i) zero x is = inl (0, is)
take_next (e ∷ es) (suc i) (suc j) x is = elim (take_next es i j x is) [ inl r ↦ inl (suc r.0, r.1) | inr s ↦ inr s ]

-- what the first i + 1 have, the first i have, or it is the next
pub has_more : (ys : List ℕ) (i x : ℕ) → Has (take (i + 1) ys) x → Has (take i ys) x ⊎ (get_or ys i 0 ≡ x)
has_more ys i x (j, is) = let up : i + 1 ≡ suc i = omega arith in take_next ys i j x (subst (λ (n : ℕ). slice_get (take n ys) j ≡ Some x) up is)

pub take_whole : {A : Type 0} (xs : List A) (n : ℕ) → length xs ≤ n → take n xs ≡ xs
take_whole [] zero h = refl
take_whole [] (suc n) h = refl
take_whole (x ∷ xs) zero h = absurd (omega arith)
take_whole (x ∷ xs) (suc n) h = ap (λ l. x ∷ l) (take_whole xs n (omega arith))

pub only_has : (y x : ℕ) → Has (y ∷ []) x → x ≡ y
only_has y x (zero, is) = let f : Some y ≡ Some x = is in cc
only_has y x (suc n, is) = none_some x is

pub has_none : (x : ℕ) → Has [] x → ⊥
has_none x (i, is) = none_some x is

pub off_here : (ms : List Bool) (y : ℕ) → y < length ms → get_or ms y false ≡ false → ¬ (IsOn ms y)
off_here ms y small is on = let both : Some false ≡ Some true = sym (get_index ms y false false small is) ∙ on in cc

-- ---- the first numbers of a list, one more at a time

take_more : (es : List ℕ) (i j x : ℕ) → slice_get (take i es) j ≡ Some x → slice_get (take (suc i) es) j ≡ Some x
take_more [] zero j x at = none_some x at
take_more [] (suc i) j x at = none_some x at
take_more (e ∷ es) zero j x at = none_some x at
take_more (e ∷ es) (suc i) zero x at = at
take_more (e ∷ es) (suc i) (suc j) x at = take_more es i j x at

at_next : (es : List ℕ) (i : ℕ) → i < length es → slice_get (take (suc i) es) i ≡ Some (get_or es i 0)
at_next [] i h = absurd (omega arith)
at_next (e ∷ es) zero h = refl
at_next (e ∷ es) (suc i) h = at_next es i (omega arith)

pub earlier : (ys : List ℕ) (i z : ℕ) → Has (take i ys) z → Has (take (i + 1) ys) z
earlier ys i z (j, at) = let up : suc i ≡ i + 1 = omega arith in (j, subst (λ (n : ℕ). slice_get (take n ys) j ≡ Some z) up (take_more ys i j z at))

pub this : (ys : List ℕ) (i : ℕ) → i < length ys → Has (take (i + 1) ys) (get_or ys i 0)
this ys i within = let up : suc i ≡ i + 1 = omega arith in (i, subst (λ (n : ℕ). slice_get (take n ys) i ≡ Some (get_or ys i 0)) up (at_next ys i within))

pub this_one : (ys : List ℕ) (i y z : ℕ) → y ≡ get_or ys i 0 → i < length ys → Has (y ∷ []) z → Has (take (i + 1) ys) z
this_one ys i y z is within has = subst (λ (x : ℕ). Has (take (i + 1) ys) x) (sym is ∙ sym (only_has y z has)) (this ys i within)
