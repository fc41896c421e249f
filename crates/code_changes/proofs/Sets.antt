-- Names in sets, and changes one after the other.
use Rattle.std.proofs.Common.{◌≡◌, ℕ, ◌+◌, ◌<◌, ◌≤◌, Bool, true, false, ◌||◌, List, [], ◌∷◌, ◌++◌, length, take, drop, Option, Some, None, get_or, take-suc, add-one, cond, bytes_eq, refl, sym, ap, ◌∙◌, append-nil}
use Rattle.std.specs.List.{cons_option, filter_map, list_any}
use Rattle.std.specs.Ordering.{nat_cmp}
use Rattle.std.specs.Cmp.Lexicographic.{slice_cmp}
use Rattle.std.specs.BTreeMap.{is_at}
use Rattle.std.specs.BTreeSet.{BTreeSet, contains, Updates}
use Rattle.std.proofs.lemmas.List.{map-append, take_all, take-append-drop}
use Rattle.std.proofs.lemmas.List.Elements.{filter_map-append}
use Rattle.std.proofs.lemmas.List.Folds.{list_any-append}
use Rattle.std.proofs.lemmas.Map.Text.{is_eq-slice_cmp}
use Rattle.check_values.specs.Rows.{Bytes}
use Rattle.typing.specs.Names.{Scope, Binding, binding_of, numbers_of, number_of}
use Rattle.typing.specs.Changes as typing
use Rattle.typing.specs.Changes.{variable_set, property_set, sets_all, sets_inside, is_set_inside}
use Rattle.code_changes.specs.View.{change_view, changes_view}
use Rattle.code_changes.specs.declared.change.Change.{Change}
use Rattle.code_changes.proofs.Lists.{both}
use Rattle.code_changes.proofs.OwnNames.{taken, or_turned, or_false}

view_both : (xs ys : List Change) → changes_view (xs ++ ys) ≡ changes_view xs ++ changes_view ys
unfolding changes_view
view_both xs ys = map-append change_view xs ys

view_one : (x : Change) → changes_view (x ∷ []) ≡ change_view x ∷ []
unfolding changes_view
view_one x = refl

-- what is told of changes is told of one after the other
module _ {X : Type 0} (told : List typing.Change → List X) (told_both : (xs ys : List typing.Change) → told (xs ++ ys) ≡ told xs ++ told ys) where
  told_turned : (all : List Change) (i : ℕ) (x : Change) (start before after : List X) → i < length all → x ≡ get_or all i x → before ≡ start ++ told (changes_view (take i all)) → after ≡ before ++ told (change_view x ∷ []) → after ≡ start ++ told (changes_view (take (i + 1) all))
  told_turned all i x start before after within is so_far adds =
      both start before after (told (changes_view (take i all))) (told (change_view x ∷ [])) so_far adds
      ∙ sym (ap (λ (l : List X). start ++ l) (ap told (ap changes_view (taken all i x within is) ∙ view_both (take i all) (x ∷ []) ∙ ap (λ (l : List typing.Change). changes_view (take i all) ++ l) (view_one x)) ∙ told_both (changes_view (take i all)) (change_view x ∷ [])))

  told_ended : (all : List Change) (i : ℕ) (start after : List X) → length all ≤ i → after ≡ start ++ told (changes_view (take i all)) → after ≡ start ++ told (changes_view all)
  told_ended all i start after past is = is ∙ ap (λ (l : List Change). start ++ told (changes_view l)) (take_all i all past)

-- the numbers of the variables that are assigned
numbers_both : (scope : Scope) (xs ys : List typing.Change) → numbers_of scope (filter_map variable_set (xs ++ ys)) ≡ numbers_of scope (filter_map variable_set xs) ++ numbers_of scope (filter_map variable_set ys)
numbers_both scope xs ys = ap (numbers_of scope) (filter_map-append variable_set xs ys) ∙ filter_map-append (number_of scope) (filter_map variable_set xs) (filter_map variable_set ys)

pub numbers_turned : (scope : Scope) (all : List Change) (i : ℕ) (x : Change) (before after : List ℕ) → i < length all → x ≡ get_or all i x → before ≡ numbers_of scope (filter_map variable_set (changes_view (take i all))) →
    after ≡ before ++ numbers_of scope (filter_map variable_set (change_view x ∷ [])) → after ≡ numbers_of scope (filter_map variable_set (changes_view (take (i + 1) all)))
numbers_turned scope all i x = told_turned (λ (cs : List typing.Change). numbers_of scope (filter_map variable_set cs)) (numbers_both scope) all i x []

pub numbers_ended : (scope : Scope) (all : List Change) (i : ℕ) (after : List ℕ) → length all ≤ i → after ≡ numbers_of scope (filter_map variable_set (changes_view (take i all))) → after ≡ numbers_of scope (filter_map variable_set (changes_view all))
numbers_ended scope all i after = told_ended (λ (cs : List typing.Change). numbers_of scope (filter_map variable_set cs)) (numbers_both scope) all i [] after

-- the names of the properties that are assigned
pub properties_turned : (all : List Change) (i : ℕ) (x : Change) (before after : List Bytes) → i < length all → x ≡ get_or all i x → before ≡ filter_map property_set (changes_view (take i all)) → after ≡ before ++ filter_map property_set (change_view x ∷ []) →
    after ≡ filter_map property_set (changes_view (take (i + 1) all))
properties_turned all i x = told_turned (filter_map property_set) (filter_map-append property_set) all i x []

pub properties_ended : (all : List Change) (i : ℕ) (after : List Bytes) → length all ≤ i → after ≡ filter_map property_set (changes_view (take i all)) → after ≡ filter_map property_set (changes_view all)
properties_ended all i after = told_ended (filter_map property_set) (filter_map-append property_set) all i [] after

-- whether any may change all
any_one : (test : typing.Change → Bool) (all : List Change) (i : ℕ) (x : Change) → i < length all → x ≡ get_or all i x → list_any test (changes_view (take (i + 1) all)) ≡ (list_any test (changes_view (take i all)) || test (change_view x))
any_one test all i x within is =
    ap (list_any test) (ap changes_view (taken all i x within is) ∙ view_both (take i all) (x ∷ []) ∙ ap (λ (l : List typing.Change). changes_view (take i all) ++ l) (view_one x))
    ∙ list_any-append test (changes_view (take i all)) (change_view x ∷ []) ∙ ap (λ (b : Bool). list_any test (changes_view (take i all)) || b) (or_false (test (change_view x)))

pub none_turned : (all : List Change) (i : ℕ) (x : Change) → i < length all → x ≡ get_or all i x → list_any sets_all (changes_view (take i all)) ≡ false → sets_all (change_view x) ≡ false → list_any sets_all (changes_view (take (i + 1) all)) ≡ false
none_turned all i x within is so_far other = any_one sets_all all i x within is ∙ ap (λ (b : Bool). b || sets_all (change_view x)) so_far ∙ other

some_kept : (test : typing.Change → Bool) (xs ys : List Change) → list_any test (changes_view xs) ≡ true → list_any test (changes_view (xs ++ ys)) ≡ true
some_kept test xs ys is = ap (list_any test) (view_both xs ys) ∙ list_any-append test (changes_view xs) (changes_view ys) ∙ ap (λ (b : Bool). b || list_any test (changes_view ys)) is

pub some_found : (all : List Change) (i : ℕ) (x : Change) → i < length all → x ≡ get_or all i x → sets_all (change_view x) ≡ true → true ≡ list_any sets_all (changes_view all)
some_found all i x within is here =
    sym (ap (λ (l : List Change). list_any sets_all (changes_view l)) (sym (take-append-drop (i + 1) all))
    ∙ some_kept sets_all (take (i + 1) all) (drop (i + 1) all) (any_one sets_all all i x within is ∙ ap (λ (b : Bool). list_any sets_all (changes_view (take i all)) || b) here ∙ go (list_any sets_all (changes_view (take i all)))))
  where
    go : (b : Bool) → (b || true) ≡ true
    go true = refl
    go false = refl

pub none_found : (all : List Change) (i : ℕ) → length all ≤ i → list_any sets_all (changes_view (take i all)) ≡ false → false ≡ list_any sets_all (changes_view all)
none_found all i past is = sym (ap (λ (l : List Change). list_any sets_all (changes_view l)) (sym (take_all i all past)) ∙ is)

-- ---- names in a set

-- one name more in the set
pub name_added : (s t : BTreeSet Bytes) (key own : Bytes) → key ≡ own → Updates (slice_cmp nat_cmp) s t key true → (q : Bytes) → contains (slice_cmp nat_cmp) t q ≡ (contains (slice_cmp nat_cmp) s q || bytes_eq own q)
name_added s t key own same updates q =
    updates.0 q ∙ ap (λ (b : Bool). cond b true (contains (slice_cmp nat_cmp) s q)) (is_eq-slice_cmp key q ∙ ap (λ (k : Bytes). bytes_eq k q) same) ∙ or_turned (bytes_eq own q) (contains (slice_cmp nat_cmp) s q)

pub none_added : (s : BTreeSet Bytes) (q : Bytes) → contains (slice_cmp nat_cmp) s q ≡ (contains (slice_cmp nat_cmp) s q || false)
none_added s q = sym (or_false (contains (slice_cmp nat_cmp) s q))

pub inner_turned : (has has' : Bytes → Bool) (all : List Change) (i : ℕ) (x : Change) → i < length all → x ≡ get_or all i x → ((q : Bytes) → has q ≡ is_set_inside (changes_view (take i all)) q) → ((q : Bytes) → has' q ≡ (has q || sets_inside q (change_view x))) →
    (q : Bytes) → has' q ≡ is_set_inside (changes_view (take (i + 1) all)) q
inner_turned has has' all i x within is so_far adds q = adds q ∙ ap (λ (b : Bool). b || sets_inside q (change_view x)) (so_far q) ∙ sym (any_one (sets_inside q) all i x within is)

pub inner_ended : (has : Bytes → Bool) (all : List Change) (i : ℕ) → length all ≤ i → ((q : Bytes) → has q ≡ is_set_inside (changes_view (take i all)) q) → (q : Bytes) → has q ≡ is_set_inside (changes_view all) q
inner_ended has all i past so_far q = so_far q ∙ ap (λ (l : List Change). is_set_inside (changes_view l) q) (take_all i all past)

-- the number of one name
pub number_found : (scope : Scope) (name : Bytes) (b : Binding) → Some b ≡ binding_of scope.names name → numbers_of scope (name ∷ []) ≡ b.number ∷ []
number_found scope name b is = ap (λ (o : Option Binding). cons_option (elim o as (λ _. Option ℕ) [ None ↦ None | Some b ↦ Some b.number ]) []) (sym is)

pub number_missing : (scope : Scope) (name : Bytes) → None ≡ binding_of scope.names name → numbers_of scope (name ∷ []) ≡ []
number_missing scope name is = ap (λ (o : Option Binding). cons_option (elim o as (λ _. Option ℕ) [ None ↦ None | Some b ↦ Some b.number ]) []) (sym is)

-- ---- before the first one

pub inner_begun : (set : BTreeSet Bytes) → set.keys ≡ [] → (q : Bytes) → contains (slice_cmp nat_cmp) set q ≡ is_set_inside (changes_view []) q
unfolding changes_view
inner_begun set none q = ap (list_any (is_at (slice_cmp nat_cmp q))) none

pub numbers_begun : (scope : Scope) (numbers : List ℕ) → numbers ≡ [] → numbers ≡ numbers_of scope (filter_map variable_set (changes_view []))
unfolding changes_view
numbers_begun scope numbers none = none

pub properties_begun : (names : List Bytes) → names ≡ [] → names ≡ filter_map property_set (changes_view [])
unfolding changes_view
properties_begun names none = none

pub none_begun : list_any sets_all (changes_view []) ≡ false
unfolding changes_view
none_begun = refl
