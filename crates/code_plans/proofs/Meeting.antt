-- Changes that were met.
use Rattle.std.proofs.Common.{◌≡◌, ℕ, ◌+◌, ◌<◌, ◌≤◌, Bool, true, false, not, ◌||◌, List, [], ◌∷◌, ◌++◌, length, take, get_or, refl, sym, ap, ◌∙◌, subst}
use Rattle.std.specs.List.{list_any}
use Rattle.std.specs.Ordering.{nat_cmp}
use Rattle.std.specs.Cmp.Lexicographic.{slice_cmp, bytes_decides}
use Rattle.std.specs.BTreeMap.{is_at}
use Rattle.std.specs.BTreeSet.{BTreeSet, contains, Updates}
use Rattle.std.proofs.lemmas.Bool.{false≢true}
use Rattle.std.proofs.lemmas.List.{map-append, take_all}
use Rattle.std.proofs.lemmas.List.Folds.{list_any-append}
use Rattle.check_values.specs.Rows.{Bytes}
use Rattle.typing.specs.Changes as typing
use Rattle.typing.specs.Changes.{sets_variable, sets_property, may_set_all}
use Rattle.code_changes.specs.View.{change_view, changes_view}
use Rattle.code_changes.specs.declared.change.Change.{Change}
use Rattle.code_changes.proofs.OwnNames.{name_more, or_false, taken}
use Rattle.code_plans.specs.Plans.{same, includes}
use Rattle.code_plans.specs.View.{is_met, Meets}
use Rattle.code_plans.specs.declared.distinct.Met.{Met}

-- ---- membership

pub includes_none : (c : typing.Change) → includes [] c ≡ false
unfolding includes
includes_none c = refl

pub includes_both : (xs ys : List typing.Change) (c : typing.Change) → includes (xs ++ ys) c ≡ (includes xs c || includes ys c)
unfolding includes
includes_both xs ys c = list_any-append (same c) xs ys

pub includes_one : (x c : typing.Change) → includes (x ∷ []) c ≡ same c x
unfolding includes
includes_one x c = or_false (same c x)

pub includes_more : (xs : List typing.Change) (x c : typing.Change) → includes (xs ++ x ∷ []) c ≡ (includes xs c || same c x)
includes_more xs x c = includes_both xs (x ∷ []) c ∙ ap (λ (b : Bool). includes xs c || b) (includes_one x c)

-- changes that are the same are equal
pub same_is : (a b : typing.Change) → same a b ≡ true → a ≡ b
same_is (sets_variable true a) (sets_variable true b) e = ap (sets_variable true) ((bytes_decides a b).0 e)
same_is (sets_variable false a) (sets_variable false b) e = ap (sets_variable false) ((bytes_decides a b).0 e)
same_is (sets_variable true a) (sets_variable false b) e = absurd (false≢true e)
same_is (sets_variable false a) (sets_variable true b) e = absurd (false≢true e)
same_is (sets_variable true a) (sets_property b) e = absurd (false≢true e)
same_is (sets_variable false a) (sets_property b) e = absurd (false≢true e)
same_is (sets_variable true a) may_set_all e = absurd (false≢true e)
same_is (sets_variable false a) may_set_all e = absurd (false≢true e)
same_is (sets_property a) (sets_variable true b) e = absurd (false≢true e)
same_is (sets_property a) (sets_variable false b) e = absurd (false≢true e)
same_is (sets_property a) (sets_property b) e = ap sets_property ((bytes_decides a b).0 e)
same_is (sets_property a) may_set_all e = absurd (false≢true e)
same_is may_set_all (sets_variable true b) e = absurd (false≢true e)
same_is may_set_all (sets_variable false b) e = absurd (false≢true e)
same_is may_set_all (sets_property b) e = absurd (false≢true e)
same_is may_set_all may_set_all e = refl

-- one that is there already adds nothing
absorbed : (xs : List typing.Change) (x c : typing.Change) → includes xs x ≡ true → includes xs c ≡ (includes xs c || same c x)
absorbed xs x c there = go (same c x) refl
  where
    go : (b : Bool) → same c x ≡ b → includes xs c ≡ (includes xs c || same c x)
    go false e = sym (ap (λ (b : Bool). includes xs c || b) e ∙ or_false (includes xs c))
    go true e =
        let is : includes xs c ≡ true = ap (includes xs) (same_is c x e) ∙ there in
        is ∙ sym (ap (λ (b : Bool). b || same c x) is)

pub view_more : (xs : List Change) (x : Change) → changes_view (xs ++ x ∷ []) ≡ changes_view xs ++ change_view x ∷ []
unfolding changes_view
view_more xs x = map-append change_view xs (x ∷ [])

pub view_taken : (all : List Change) (i : ℕ) (x : Change) → i < length all → x ≡ get_or all i x → changes_view (take (i + 1) all) ≡ changes_view (take i all) ++ change_view x ∷ []
view_taken all i x within is = ap changes_view (taken all i x within is) ∙ view_more (take i all) x

-- ---- what was met

pub none_met : (m : Met) → m.inside.keys ≡ [] → m.variables.keys ≡ [] → m.properties.keys ≡ [] → m.all ≡ false → (c : typing.Change) → is_met m c ≡ false
none_met m inside variables properties all (sets_variable true name) = ap (list_any (is_at (slice_cmp nat_cmp name))) inside
none_met m inside variables properties all (sets_variable false name) = ap (list_any (is_at (slice_cmp nat_cmp name))) variables
none_met m inside variables properties all (sets_property name) = ap (list_any (is_at (slice_cmp nat_cmp name))) properties
none_met m inside variables properties all may_set_all = all

pub inside_met : (m n : Met) (key name : Bytes) → key ≡ name → Updates (slice_cmp nat_cmp) m.inside n.inside key true → n.variables ≡ m.variables → n.properties ≡ m.properties → n.all ≡ m.all → (c : typing.Change) → is_met n c ≡ (is_met m c || same c (sets_variable true name))
inside_met m n key name is adds variables properties all (sets_variable true q) = name_more m.inside n.inside key name is adds q
inside_met m n key name is adds variables properties all (sets_variable false q) = ap (λ (s : BTreeSet Bytes). contains (slice_cmp nat_cmp) s q) variables ∙ sym (or_false (contains (slice_cmp nat_cmp) m.variables q))
inside_met m n key name is adds variables properties all (sets_property q) = ap (λ (s : BTreeSet Bytes). contains (slice_cmp nat_cmp) s q) properties ∙ sym (or_false (contains (slice_cmp nat_cmp) m.properties q))
inside_met m n key name is adds variables properties all may_set_all = all ∙ sym (or_false m.all)

pub variable_met : (m n : Met) (key name : Bytes) → key ≡ name → Updates (slice_cmp nat_cmp) m.variables n.variables key true → n.inside ≡ m.inside → n.properties ≡ m.properties → n.all ≡ m.all → (c : typing.Change) → is_met n c ≡ (is_met m c || same c (sets_variable false name))
variable_met m n key name is adds inside properties all (sets_variable false q) = name_more m.variables n.variables key name is adds q
variable_met m n key name is adds inside properties all (sets_variable true q) = ap (λ (s : BTreeSet Bytes). contains (slice_cmp nat_cmp) s q) inside ∙ sym (or_false (contains (slice_cmp nat_cmp) m.inside q))
variable_met m n key name is adds inside properties all (sets_property q) = ap (λ (s : BTreeSet Bytes). contains (slice_cmp nat_cmp) s q) properties ∙ sym (or_false (contains (slice_cmp nat_cmp) m.properties q))
variable_met m n key name is adds inside properties all may_set_all = all ∙ sym (or_false m.all)

pub property_met : (m n : Met) (key name : Bytes) → key ≡ name → Updates (slice_cmp nat_cmp) m.properties n.properties key true → n.inside ≡ m.inside → n.variables ≡ m.variables → n.all ≡ m.all → (c : typing.Change) → is_met n c ≡ (is_met m c || same c (sets_property name))
property_met m n key name is adds inside variables all (sets_property q) = name_more m.properties n.properties key name is adds q
property_met m n key name is adds inside variables all (sets_variable true q) = ap (λ (s : BTreeSet Bytes). contains (slice_cmp nat_cmp) s q) inside ∙ sym (or_false (contains (slice_cmp nat_cmp) m.inside q))
property_met m n key name is adds inside variables all (sets_variable false q) = ap (λ (s : BTreeSet Bytes). contains (slice_cmp nat_cmp) s q) variables ∙ sym (or_false (contains (slice_cmp nat_cmp) m.variables q))
property_met m n key name is adds inside variables all may_set_all = all ∙ sym (or_false m.all)

pub all_met : (m n : Met) → n.inside ≡ m.inside → n.variables ≡ m.variables → n.properties ≡ m.properties → n.all ≡ true → (c : typing.Change) → is_met n c ≡ (is_met m c || same c may_set_all)
all_met m n inside variables properties all (sets_property q) = ap (λ (s : BTreeSet Bytes). contains (slice_cmp nat_cmp) s q) properties ∙ sym (or_false (contains (slice_cmp nat_cmp) m.properties q))
all_met m n inside variables properties all (sets_variable true q) = ap (λ (s : BTreeSet Bytes). contains (slice_cmp nat_cmp) s q) inside ∙ sym (or_false (contains (slice_cmp nat_cmp) m.inside q))
all_met m n inside variables properties all (sets_variable false q) = ap (λ (s : BTreeSet Bytes). contains (slice_cmp nat_cmp) s q) variables ∙ sym (or_false (contains (slice_cmp nat_cmp) m.variables q))
all_met m n inside variables properties all may_set_all = all ∙ sym (or_truth m.all)
  where
    or_truth : (b : Bool) → (b || true) ≡ true
    or_truth true = refl
    or_truth false = refl

pub name_new : (s : BTreeSet Bytes) (key name : Bytes) (b : Bool) → b ≡ not (contains (slice_cmp nat_cmp) s key) → key ≡ name → b ≡ not (contains (slice_cmp nat_cmp) s name)
name_new s key name b told is = told ∙ ap (λ (k : Bytes). not (contains (slice_cmp nat_cmp) s k)) is

-- ---- lists of what was met

pub new_added : (m n : Met) (x copy : Change) (list more : List Change) → ((c : typing.Change) → is_met n c ≡ (is_met m c || same c (change_view x))) → copy ≡ x → more ≡ list ++ copy ∷ [] →
    (changes : List typing.Change) → Meets m list changes → Meets n more (changes ++ change_view x ∷ [])
new_added m n x copy list more met is adds changes before c = (
  met c ∙ ap (λ (b : Bool). b || same c (change_view x)) (before c).0 ∙ sym (includes_more changes (change_view x) c),
  ap (λ (l : List typing.Change). includes l c) (ap changes_view (adds ∙ ap (λ (y : Change). list ++ y ∷ []) is) ∙ view_more list x) ∙ includes_more (changes_view list) (change_view x) c
      ∙ ap (λ (b : Bool). b || same c (change_view x)) (before c).1 ∙ sym (includes_more changes (change_view x) c),
)

pub old_added : (m n : Met) (x : Change) (list : List Change) (b : Bool) → ((c : typing.Change) → is_met n c ≡ (is_met m c || same c (change_view x))) → b ≡ not (is_met m (change_view x)) → b ≡ false →
    (changes : List typing.Change) → Meets m list changes → Meets n list (changes ++ change_view x ∷ [])
old_added m n x list b met told old changes before c =
    let there : includes changes (change_view x) ≡ true = sym (before (change_view x)).0 ∙ go (is_met m (change_view x)) (sym told ∙ old) in (
      met c ∙ ap (λ (d : Bool). d || same c (change_view x)) (before c).0 ∙ sym (includes_more changes (change_view x) c),
      (before c).1 ∙ absorbed changes (change_view x) c there ∙ sym (includes_more changes (change_view x) c),
    )
  where
    go : (d : Bool) → not d ≡ false → d ≡ true
    go true e = refl
    go false e = sym e

pub meets_none : (m : Met) (list all : List Change) → ((c : typing.Change) → is_met m c ≡ false) → list ≡ [] → Meets m list (changes_view (take 0 all))
unfolding changes_view
meets_none m list all none is c = (none c ∙ sym (includes_none c), ap (λ (l : List Change). includes (changes_view l) c) is)

pub meets_more : (m : Met) (list all : List Change) (i : ℕ) (x : Change) → i < length all → x ≡ get_or all i x → Meets m list (changes_view (take i all) ++ change_view x ∷ []) → Meets m list (changes_view (take (i + 1) all))
meets_more m list all i x within is = subst (Meets m list) (sym (view_taken all i x within is))

pub meets_all : (m : Met) (list all : List Change) (i : ℕ) → length all ≤ i → Meets m list (changes_view (take i all)) → includes (changes_view list) ≡ includes (changes_view all)
meets_all m list all i past so_far = λ j c. ((so_far c).1 ∙ ap (λ (l : List Change). includes (changes_view l) c) (take_all i all past)) j
