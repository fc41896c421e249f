-- The variables among changes, outside of a scope and of a function.
use Rattle.std.proofs.Common.{◌≡◌, ◌⊎◌, not, Bool, true, false, List, [], ◌∷◌, ◌++◌, filter, Option, Some, None, cond, Contains, inl, inr, refl, sym, ap, ◌∙◌, subst}
use Rattle.std.specs.List.{cons_option, filter_map}
use Rattle.std.proofs.lemmas.Bool.{false≢true, not-true, or_parts, or_from}
use Rattle.std.proofs.lemmas.List.Elements.{All-contains, All-contains_itself, All-filter, filter_passes}
use Rattle.std.proofs.lemmas.List.Folds.{list_any-append}
use Rattle.check_values.specs.Rows.{Bytes, is_among}
use Rattle.subtyping.proofs.Whole.{first_or, nothing, here, there}
use Rattle.typing.specs.Changes.{Change, sets_variable, sets_property, may_set_all, from_inside, is_outside, outside}

pub never : {A : Type 0} → false ≡ true → A
never is = absurd (false≢true is)

-- ---- names of two lists

pub among_neither : (own more : List Bytes) (name : Bytes) → is_among own name ≡ false → is_among more name ≡ false → is_among (own ++ more) name ≡ false
among_neither own more name first second = list_any-append _ own more ∙ or_from (is_among own name) (is_among more name) first second

pub among_parts : (own more : List Bytes) (name : Bytes) → is_among (own ++ more) name ≡ false → (is_among own name ≡ false) × (is_among more name ≡ false)
among_parts own more name free = or_parts (is_among own name) (is_among more name) (sym (list_any-append _ own more) ∙ free)

-- ---- outside of a scope

pub filter_in : {X : Type 0} (f : X → Bool) (xs : List X) (x : X) → f x ≡ true → Contains xs x → Contains (filter f xs) x
filter_in f [] x is has = nothing x has
filter_in {X} f (y ∷ xs) x is has = go (f y) refl (first_or y xs x has) (filter_in f xs x is)
  where
    go : (b : Bool) → f y ≡ b → (y ≡ x) ⊎ Contains xs x → (Contains xs x → Contains (filter f xs) x) → Contains (cond b (y ∷ filter f xs) (filter f xs)) x
    go true at (inl same) later = subst (λ (z : X). Contains (z ∷ filter f xs) x) (sym same) (here x (filter f xs))
    go true at (inr rest) later = there y x (filter f xs) (later rest)
    go false at (inl same) later = never (sym at ∙ ap f same ∙ is)
    go false at (inr rest) later = later rest

-- ---- outside of a function

pub mapped_in : {X Y : Type 0} (h : X → Option Y) (xs : List X) (x : X) (y : Y) → h x ≡ Some y → Contains xs x → Contains (filter_map h xs) y
mapped_in h [] x y is has = nothing x has
mapped_in {X} {Y} h (z ∷ xs) x y is has = go (h z) refl (first_or z xs x has) (mapped_in h xs x y is)
  where
    go : (o : Option Y) → h z ≡ o → (z ≡ x) ⊎ Contains xs x → (Contains xs x → Contains (filter_map h xs) y) → Contains (cons_option o (filter_map h xs)) y
    go o at (inl same) later = subst (λ (u : Option Y). Contains (cons_option u (filter_map h xs)) y) (sym is ∙ sym (ap h same) ∙ at) (here y (filter_map h xs))
    go None at (inr rest) later = later rest
    go (Some u) at (inr rest) later = there u y (filter_map h xs) (later rest)

pub mapped_out : {X Y : Type 0} (h : X → Option Y) (xs : List X) (y : Y) → Contains (filter_map h xs) y → (x : X) × Contains xs x × (h x ≡ Some y)
mapped_out h [] y has = nothing y has
mapped_out {X} {Y} h (z ∷ xs) y has = go (h z) refl has (mapped_out h xs y)
  where
    further : (x : X) × Contains xs x × (h x ≡ Some y) → (x : X) × Contains (z ∷ xs) x × (h x ≡ Some y)
    further (x, in_rest, is) = (x, there z x xs in_rest, is)

    go : (o : Option Y) → h z ≡ o → Contains (cons_option o (filter_map h xs)) y → (Contains (filter_map h xs) y → (x : X) × Contains xs x × (h x ≡ Some y)) → (x : X) × Contains (z ∷ xs) x × (h x ≡ Some y)
    go None at given later = further (later given)
    go (Some u) at given later = elim (first_or u (filter_map h xs) y given) [ inl same ↦ (z, here z xs, at ∙ ap Some same) | inr rest ↦ further (later rest) ]

abbrev pub is_inner : Option Change → Bool
is_inner (Some (sets_variable inner name)) = inner
is_inner o = false

abbrev pub name_in : Bytes → Option Change → Bytes
name_in name (Some (sets_variable inner own)) = own
name_in name o = name

abbrev pub is_variable : Option Change → Bool
is_variable (Some (sets_variable inner own)) = true
is_variable o = false

abbrev is_outside_too : List Bytes → Option Change → Bool
is_outside_too own None = true
is_outside_too own (Some c) = is_outside own c

-- what comes out of a function has its name
pub outside_alike : (own : List Bytes) (c d : Change) → from_inside c ≡ Some d → is_outside own d ≡ is_outside own c
outside_alike own (sets_variable within name) d is = ap (λ (o : Option Change). is_outside_too own o) (sym is)
outside_alike own (sets_property name) d is = ap (λ (o : Option Change). is_outside_too own o) (sym is)
outside_alike own may_set_all d is = absurd (let wrong : ⊥ = cc in wrong)

pub outside_parts : (own more : List Bytes) (c : Change) → is_outside (own ++ more) c ≡ true → (is_outside own c ≡ true) × (is_outside more c ≡ true)
outside_parts own more (sets_variable within name) is = (let parted = among_parts own more name (not-true (is_among (own ++ more) name) is) in (ap not parted.0, ap not parted.1))
outside_parts own more (sets_property name) is = (refl, refl)
outside_parts own more may_set_all is = (refl, refl)

pub outside_both : (own more : List Bytes) (c : Change) → is_outside own c ≡ true → is_outside more c ≡ true → is_outside (own ++ more) c ≡ true
outside_both own more (sets_variable within name) first second = ap not (among_neither own more name (not-true (is_among own name) first) (not-true (is_among more name) second))
outside_both own more (sets_property name) first second = refl
outside_both own more may_set_all first second = refl

pub filter_out : (own : List Bytes) (changes : List Change) (c : Change) → Contains (outside own changes) c → Contains changes c × (is_outside own c ≡ true)
filter_out own changes c has = (
  All-contains (Contains changes) (outside own changes) c (All-filter (is_outside own) (Contains changes) changes (All-contains_itself changes)) has,
  All-contains (λ (d : Change). is_outside own d ≡ true) (outside own changes) c (filter_passes (is_outside own) changes) has,
)
