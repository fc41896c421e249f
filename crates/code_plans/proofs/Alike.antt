-- Lists with the same changes tell alike of loops and of functions inside.
use Rattle.std.proofs.Common.{◌≡◌, ℕ, Bool, true, false, ◌&&◌, ◌||◌, List, [], ◌∷◌, Option, Some, None, option_map, unwrap_or, refl, sym, ap, ◌∙◌, rules}
use Rattle.std.specs.List.{list_any, filter_map}
use Rattle.std.specs.Cmp.Lexicographic.{bytes_decides}
use Rattle.std.proofs.lemmas.Bool.{false≢true}
use Rattle.check_values.specs.Rows.{Bytes}
use Rattle.flow_facts.specs.declared.place.Place.{Place}
use Rattle.flow_facts.specs.Known.{is_of, is_named, is_property, is_killed, live, without}
use Rattle.typing.specs.Names.{Scope, numbers_of, number_of}
use Rattle.typing.specs.Changes.{Change, sets_variable, sets_property, may_set_all, sets_inside, is_set_inside, variable_set, property_set, sets_all}
use Rattle.typing.specs.States.{Env}
use Rattle.typing.specs.Statements.{killed_by, loop_env}
use Rattle.code_plans.specs.Plans.{same, includes}
use Rattle.code_plans.proofs.Meeting.{same_is}

same_self : (c : Change) → same c c ≡ true
same_self (sets_variable true name) = (bytes_decides name name).1 refl
same_self (sets_variable false name) = (bytes_decides name name).1 refl
same_self (sets_property name) = (bytes_decides name name).1 refl
same_self may_set_all = refl

or_truth : (b : Bool) → (b || true) ≡ true
or_truth true = refl
or_truth false = refl

-- one that is there is found
found : (f : Change → Bool) (xs : List Change) (c : Change) → list_any (same c) xs ≡ true → f c ≡ true → list_any f xs ≡ true
found f [] c there is = absurd (false≢true there)
found f (x ∷ xs) c there is = go (same c x) refl there (found f xs c)
  where
    go : (b : Bool) → same c x ≡ b → (b || list_any (same c) xs) ≡ true → (list_any (same c) xs ≡ true → f c ≡ true → list_any f xs ≡ true) → (f x || list_any f xs) ≡ true
    go true e t rest = ap (λ (b : Bool). b || list_any f xs) (ap f (sym (same_is c x e)) ∙ is)
    go false e t rest = ap (λ (b : Bool). f x || b) (rest t is) ∙ or_truth (f x)

-- what is found in a list is found in each that has its changes
kept : (f : Change → Bool) (xs ys : List Change) → ((c : Change) → list_any (same c) xs ≡ true → list_any (same c) ys ≡ true) → list_any f xs ≡ true → list_any f ys ≡ true
kept f [] ys has is = absurd (false≢true is)
kept f (x ∷ xs) ys has is = go (f x) refl is (kept f xs ys (λ c there. has c (ap (λ (b : Bool). same c x || b) there ∙ or_truth (same c x))))
  where
    go : (b : Bool) → f x ≡ b → (b || list_any f xs) ≡ true → (list_any f xs ≡ true → list_any f ys ≡ true) → list_any f ys ≡ true
    go true e t rest = found f ys x (has x (ap (λ (b : Bool). b || list_any (same x) xs) (same_self x))) e
    go false e t rest = rest t

pub any_alike : (f : Change → Bool) (xs ys : List Change) → includes xs ≡ includes ys → list_any f xs ≡ list_any f ys
unfolding includes
any_alike f xs ys is = go (list_any f xs) (list_any f ys) refl refl
  where
    go : (a b : Bool) → list_any f xs ≡ a → list_any f ys ≡ b → a ≡ b
    go true true e d = refl
    go false false e d = refl
    go true false e d = sym (kept f xs ys (λ c there. sym (ap (λ (h : Change → Bool). h c) is) ∙ there) e) ∙ d
    go false true e d = sym e ∙ kept f ys xs (λ c there. ap (λ (h : Change → Bool). h c) is ∙ there) d

-- names that functions inside assign
pub inside_alike : (xs ys : List Change) → includes xs ≡ includes ys → (name : Bytes) → is_set_inside xs name ≡ is_set_inside ys name
inside_alike xs ys is name = any_alike (sets_inside name) xs ys is

-- ---- loops

any_mapped : {X Y : Type 0} (f : Y → Bool) (h : X → Option Y) (xs : List X) → list_any f (filter_map h xs) ≡ list_any (λ x. unwrap_or (option_map f (h x)) false) xs
any_mapped f h [] = refl
any_mapped {X} {Y} f h (x ∷ xs) = go (h x) refl (any_mapped f h xs)
  where
    go : (o : Option Y) → h x ≡ o → list_any f (filter_map h xs) ≡ list_any (λ y. unwrap_or (option_map f (h y)) false) xs → list_any f (filter_map h (x ∷ xs)) ≡ list_any (λ y. unwrap_or (option_map f (h y)) false) (x ∷ xs)
    go None e rest = search rules
    go (Some y) e rest = search rules

mapped_alike : {Y : Type 0} (f : Y → Bool) (h : Change → Option Y) (xs ys : List Change) → includes xs ≡ includes ys → list_any f (filter_map h xs) ≡ list_any f (filter_map h ys)
mapped_alike f h xs ys is = any_mapped f h xs ∙ any_alike (λ x. unwrap_or (option_map f (h x)) false) xs ys is ∙ sym (any_mapped f h ys)

bound_alike : (scope : Scope) (f : ℕ → Bool) (xs ys : List Change) → includes xs ≡ includes ys → list_any f (numbers_of scope (filter_map variable_set xs)) ≡ list_any f (numbers_of scope (filter_map variable_set ys))
bound_alike scope f xs ys is =
    any_mapped f (number_of scope) (filter_map variable_set xs) ∙ mapped_alike (λ name. unwrap_or (option_map f (number_of scope name)) false) variable_set xs ys is ∙ sym (any_mapped f (number_of scope) (filter_map variable_set ys))

killed_alike : (scope : Scope) (xs ys : List Change) → includes xs ≡ includes ys → (q : Place) → is_killed (killed_by scope xs) q ≡ is_killed (killed_by scope ys) q
killed_alike scope xs ys is q = λ i.
    bound_alike scope (λ binding. is_of binding q) xs ys is i || mapped_alike (λ name. is_named name q) property_set xs ys is i || any_alike sets_all xs ys is i && is_property q

pub loop_alike : (xs ys : List Change) (env : Env) → includes xs ≡ includes ys → loop_env xs env ≡ loop_env ys env
loop_alike xs ys env is = λ i. record env { facts = live (without (λ q. killed_alike env.scope xs ys is q i)) env.facts; breaks = None }
