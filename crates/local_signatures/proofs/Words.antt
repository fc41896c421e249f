-- Which words are among the words of a list.
use Rattle.std.proofs.Common.{◌≡◌, Bool, true, false, not, ◌||◌, List, [], ◌∷◌, ◌++◌, filter, flat_map, refl, sym, ap, ◌∙◌, ◌⊎◌, inl, inr, subst, cond, bytes_eq}
use Rattle.std.specs.Cmp.Lexicographic.{bytes_decides}
use Rattle.std.proofs.lemmas.List.Folds.{list_any-append}
use Rattle.check_values.specs.Rows.{Bytes, is_among, distinct}

pub bytes_same : (a b : Bytes) → bytes_eq a b ≡ true → a ≡ b
bytes_same a b e = (bytes_decides a b).0 e

pub bytes_itself : (a : Bytes) → bytes_eq a a ≡ true
bytes_itself a = (bytes_decides a a).1 refl

either_of : (a b : Bool) → a || b ≡ true → (a ≡ true) ⊎ (b ≡ true)
either_of true b is = inl refl
either_of false b is = inr is

left_of : (a b : Bool) → a ≡ true → a || b ≡ true
left_of true b is = refl
left_of false b is = absurd (cc)

right_of : (a b : Bool) → b ≡ true → a || b ≡ true
right_of true b is = refl
right_of false b is = is

pub among_either : (xs ys : List Bytes) (w : Bytes) → is_among (xs ++ ys) w ≡ true → (is_among xs w ≡ true) ⊎ (is_among ys w ≡ true)
among_either xs ys w is = either_of (is_among xs w) (is_among ys w) (sym (list_any-append (bytes_eq w) xs ys) ∙ is)

pub among_left : (xs ys : List Bytes) (w : Bytes) → is_among xs w ≡ true → is_among (xs ++ ys) w ≡ true
among_left xs ys w is = list_any-append (bytes_eq w) xs ys ∙ left_of (is_among xs w) (is_among ys w) is

pub among_right : (xs ys : List Bytes) (w : Bytes) → is_among ys w ≡ true → is_among (xs ++ ys) w ≡ true
among_right xs ys w is = list_any-append (bytes_eq w) xs ys ∙ right_of (is_among xs w) (is_among ys w) is

among_filtered : (p : Bytes → Bool) (xs : List Bytes) (w : Bytes) → is_among (filter p xs) w ≡ true → is_among xs w ≡ true
among_filtered p [] w is = is
among_filtered p (x ∷ xs) w is = go (p x) is (among_filtered p xs w)
  where
    go : (b : Bool) → is_among (cond b (x ∷ filter p xs) (filter p xs)) w ≡ true → (is_among (filter p xs) w ≡ true → is_among xs w ≡ true) → bytes_eq w x || is_among xs w ≡ true
    go true is rest = elim (either_of (bytes_eq w x) (is_among (filter p xs) w) is) [ inl e ↦ left_of (bytes_eq w x) (is_among xs w) e | inr e ↦ right_of (bytes_eq w x) (is_among xs w) (rest e) ]
    go false is rest = right_of (bytes_eq w x) (is_among xs w) (rest is)

-- what passes the filter stays
among_kept : (p : Bytes → Bool) (xs : List Bytes) (w : Bytes) → p w ≡ true → is_among xs w ≡ true → is_among (filter p xs) w ≡ true
among_kept p [] w pass is = is
among_kept p (x ∷ xs) w pass is = go (bytes_eq w x) refl (p x) refl (among_kept p xs w pass)
  where
    go : (a : Bool) → bytes_eq w x ≡ a → (b : Bool) → p x ≡ b → (is_among xs w ≡ true → is_among (filter p xs) w ≡ true) → is_among (cond b (x ∷ filter p xs) (filter p xs)) w ≡ true
    go true e true f rest = left_of (bytes_eq w x) (is_among (filter p xs) w) e
    go true e false f rest = absurd (let s = sym pass ∙ ap p (bytes_same w x e) ∙ f in cc)
    go false e true f rest = right_of (bytes_eq w x) (is_among (filter p xs) w) (rest (ap (λ (a : Bool). a || is_among xs w) (sym e) ∙ is))
    go false e false f rest = rest (ap (λ (a : Bool). a || is_among xs w) (sym e) ∙ is)

pub among_distinct : (xs : List Bytes) (w : Bytes) → is_among (distinct xs) w ≡ true → is_among xs w ≡ true
among_distinct [] w is = is
among_distinct (x ∷ xs) w is = elim (either_of (bytes_eq w x) (is_among (filter (λ later. not (bytes_eq later x)) (distinct xs)) w) is) [
  | inl e ↦ left_of (bytes_eq w x) (is_among xs w) e
  | inr e ↦ right_of (bytes_eq w x) (is_among xs w) (among_distinct xs w (among_filtered (λ later. not (bytes_eq later x)) (distinct xs) w e))
]

pub among_all : (xs : List Bytes) (w : Bytes) → is_among xs w ≡ true → is_among (distinct xs) w ≡ true
among_all [] w is = is
among_all (x ∷ xs) w is = go (bytes_eq w x) refl (among_all xs w)
  where
    go : (b : Bool) → bytes_eq w x ≡ b → (is_among xs w ≡ true → is_among (distinct xs) w ≡ true) → bytes_eq w x || is_among (filter (λ later. not (bytes_eq later x)) (distinct xs)) w ≡ true
    go true e rest = left_of (bytes_eq w x) _ e
    go false e rest = right_of (bytes_eq w x) _ (among_kept (λ later. not (bytes_eq later x)) (distinct xs) w (ap not e) (rest (ap (λ (a : Bool). a || is_among xs w) (sym e) ∙ is)))

pub among_flat : (f : Bytes → List Bytes) (xs : List Bytes) (w : Bytes) → is_among (flat_map f xs) w ≡ true → (x : Bytes) × (is_among xs x ≡ true) × (is_among (f x) w ≡ true)
among_flat f [] w is = absurd (cc)
among_flat f (x ∷ xs) w is = elim (among_either (f x) (flat_map f xs) w is) [
  | inl e ↦ (x, left_of (bytes_eq x x) (is_among xs x) (bytes_itself x), e)
  | inr e ↦ (let r = among_flat f xs w e in (r.0, right_of (bytes_eq r.0 x) (is_among xs r.0) r.1, r.2))
]

pub among_some : (f : Bytes → List Bytes) (xs : List Bytes) (x w : Bytes) → is_among xs x ≡ true → is_among (f x) w ≡ true → is_among (flat_map f xs) w ≡ true
among_some f [] x w there is = absurd (cc)
among_some f (y ∷ ys) x w there is = elim (either_of (bytes_eq x y) (is_among ys x) there) [
  | inl e ↦ among_left (f y) (flat_map f ys) w (subst (λ (z : Bytes). is_among (f z) w ≡ true) (bytes_same x y e) is)
  | inr e ↦ among_right (f y) (flat_map f ys) w (among_some f ys x w e is)
]
