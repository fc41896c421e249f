-- Which names were exported before.
use Rattle.std.proofs.Common.{◌≡◌, ℕ, suc, ◌+◌, ◌<◌, ◌≤◌, Bool, true, false, not, cond, ◌||◌, List, [], ◌∷◌, ◌++◌, length, take, take_all, get_or, bytes_eq, refl, sym, ap, ◌∙◌, subst, append_assoc, append-nil}
use Rattle.std.proofs.lemmas.List.{take_more}
use Rattle.std.proofs.lemmas.Map.Text.{is_eq-slice_cmp}
use Rattle.std.specs.List.{list_any}
use Rattle.std.specs.Ordering.{nat_cmp, is_eq}
use Rattle.std.specs.Cmp.Lexicographic.{slice_cmp}
use Rattle.std.specs.BTreeSet.{BTreeSet, contains}
use Rattle.check_values.specs.Rows.{Bytes, is_among}
use Rattle.check_values.specs.declared.codes.Code.TheVariants.{NameAlreadyBound}
use Rattle.named_rows.proofs.Lists.{bytes_turned}
use Rattle.js_grammar.specs.Items as g
use Rattle.js_grammar.specs.Items.{no_exported, more_exported}
use Rattle.js_tree.specs.View.{exported_view, exporteds_view, item_form_view, items_view}
use Rattle.js_tree.specs.declared.items.Exported.{Exported}
use Rattle.js_tree.specs.declared.items.Item.{Item}
use Rattle.typing.specs.States.{World, Notes, fault_at, name_fault}
use Rattle.module_errors.specs.TopNames.{Exporting, exportings_in, exportings_of_item, exportings_of, exported_twice}
use Rattle.check_items.specs.Exported.{IsBefore}
use Rattle.check_items.proofs.InOrder.{exporteds_none, exporteds_more, items_none as no_items, items_more}

-- ---- the exported names of lists

pub listed_none : (first : List Exporting) → first ≡ first ++ exportings_in (exporteds_view [])
listed_none first = sym (append-nil first) ∙ ap (λ (ns : g.Exporteds). first ++ exportings_in ns) (sym exporteds_none)

pub listed_next : (xs : List Exported) (i : ℕ) (x : Exported) (first before after : List Exporting) → i < length xs → x ≡ get_or xs i x →
    after ≡ before ++ exportings_in (more_exported no_exported (exported_view x)) → before ≡ first ++ exportings_in (exporteds_view (take i xs)) → after ≡ first ++ exportings_in (exporteds_view (take (i + 1) xs))
listed_next xs i x first before after within at adds so_far =
    adds ∙ ap (λ (l : List Exporting). l ++ exportings_in (more_exported no_exported (exported_view x))) so_far
    ∙ append_assoc first (exportings_in (exporteds_view (take i xs))) (exportings_in (more_exported no_exported (exported_view x)))
    ∙ ap (λ (l : List Exporting). first ++ l) (sym (ap exportings_in (exporteds_more xs i x within at)))

pub listed_all : (xs all : List Exported) (i : ℕ) (first after : List Exporting) → length xs ≤ i → xs ≡ all → after ≡ first ++ exportings_in (exporteds_view (take i xs)) → after ≡ first ++ exportings_in (exporteds_view all)
listed_all xs all i first after long same is = is ∙ ap (λ (ns : List Exported). first ++ exportings_in (exporteds_view ns)) (take_all i xs long ∙ same)

pub items_none : (all : List Exporting) → all ≡ [] → all ≡ exportings_of (items_view [])
items_none all none = none ∙ sym (ap exportings_of no_items)

pub items_next : (xs : List Item) (i : ℕ) (x : Item) (before after : List Exporting) → i < length xs → x ≡ get_or xs i x → after ≡ before ++ exportings_of_item x.first (item_form_view x.form) →
    before ≡ exportings_of (items_view (take i xs)) → after ≡ exportings_of (items_view (take (i + 1) xs))
items_next xs i x before after within at adds so_far =
    adds ∙ ap (λ (l : List Exporting). l ++ exportings_of_item x.first (item_form_view x.form)) so_far ∙ sym (ap exportings_of (items_more xs i x within at))

pub items_all : (xs : List Item) (i : ℕ) (after : List Exporting) → length xs ≤ i → after ≡ exportings_of (items_view (take i xs)) → after ≡ exportings_of (items_view xs)
items_all xs i after long is = is ∙ ap (λ (l : List Item). exportings_of (items_view l)) (take_all i xs long)

-- ---- second exports

-- one name more was exported
pub before_more : (names : List Bytes) (old new : BTreeSet Bytes) (key name : Bytes) → IsBefore names old → key ≡ name →
    ((q : Bytes) → contains (slice_cmp nat_cmp) new q ≡ cond (is_eq (slice_cmp nat_cmp key q)) true (contains (slice_cmp nat_cmp) old q)) → IsBefore (name ∷ names) new
before_more names old new key name before same adds q =
    adds q ∙ ap (λ (b : Bool). cond b true (contains (slice_cmp nat_cmp) old q)) (is_eq-slice_cmp key q ∙ ap (λ (k : Bytes). bytes_eq k q) same ∙ bytes_turned name q)
    ∙ ap (λ (b : Bool). cond (bytes_eq q name) true b) (before q) ∙ go (bytes_eq q name)
  where
    go : (b : Bool) → cond b true (is_among names q) ≡ b || is_among names q
    go true = refl
    go false = refl

pub first_export : (w : World) (names : List Bytes) (set : BTreeSet Bytes) (key : Bytes) (x : Exporting) (n : Notes) → IsBefore names set → key ≡ x.1 → true ≡ not (contains (slice_cmp nat_cmp) set key) →
    n ≡ exported_twice w names (x ∷ []) n
first_export w names set key x n before same fresh = go (is_among names x.1) (fresh ∙ ap not (ap (contains (slice_cmp nat_cmp) set) same ∙ before x.1))
  where
    go : (b : Bool) → true ≡ not b → n ≡ cond b (name_fault (fault_at w x.0 (suc x.0) NameAlreadyBound x.1) n) n
    go true e = absurd (cc)
    go false e = refl

pub second_export : (w : World) (names : List Bytes) (set : BTreeSet Bytes) (key : Bytes) (x : Exporting) (n after : Notes) → IsBefore names set → key ≡ x.1 → false ≡ not (contains (slice_cmp nat_cmp) set key) →
    after ≡ name_fault (fault_at w x.0 (suc x.0) NameAlreadyBound x.1) n → after ≡ exported_twice w names (x ∷ []) n
second_export w names set key x n after before same met is = is ∙ go (is_among names x.1) (met ∙ ap not (ap (contains (slice_cmp nat_cmp) set) same ∙ before x.1))
  where
    go : (b : Bool) → false ≡ not b → name_fault (fault_at w x.0 (suc x.0) NameAlreadyBound x.1) n ≡ cond b (name_fault (fault_at w x.0 (suc x.0) NameAlreadyBound x.1) n) n
    go true e = refl
    go false e = absurd (cc)

-- the names so far, the last one first
abbrev pub names_with : List Exporting → List Bytes → List Bytes
names_with [] names = names
names_with (x ∷ more) names = names_with more (x.1 ∷ names)

names_last : (xs : List Exporting) (y : Exporting) (names : List Bytes) → names_with (xs ++ y ∷ []) names ≡ y.1 ∷ names_with xs names
names_last [] y names = refl
names_last (x ∷ xs) y names = names_last xs y (x.1 ∷ names)

twice_last : (w : World) (xs : List Exporting) (y : Exporting) (names : List Bytes) (n : Notes) → exported_twice w names (xs ++ y ∷ []) n ≡ exported_twice w (names_with xs names) (y ∷ []) (exported_twice w names xs n)
twice_last w [] y names n = refl
twice_last w (x ∷ xs) y names n = twice_last w xs y (x.1 ∷ names) (cond (is_among names x.1) (name_fault (fault_at w x.0 (suc x.0) NameAlreadyBound x.1) n) n)

taken : (xs : List Exporting) (i : ℕ) (x : Exporting) → i < length xs → x ≡ get_or xs i x → take (i + 1) xs ≡ take i xs ++ x ∷ []
taken xs i x within at = take_more xs i x within ∙ ap (λ (y : Exporting). take i xs ++ y ∷ []) (sym at)

pub before_none : (set : BTreeSet Bytes) → set.keys ≡ [] → IsBefore [] set
before_none set none q = ap (λ (l : List Bytes). list_any (λ k. is_eq (slice_cmp nat_cmp q k)) l) none

pub before_next : (xs : List Exporting) (i : ℕ) (x : Exporting) (set : BTreeSet Bytes) → i < length xs → x ≡ get_or xs i x → IsBefore (x.1 ∷ names_with (take i xs) []) set → IsBefore (names_with (take (i + 1) xs) []) set
before_next xs i x set within at is = subst (λ (l : List Bytes). IsBefore l set) (sym (ap (λ (l : List Exporting). names_with l []) (taken xs i x within at) ∙ names_last (take i xs) x [])) is

pub notes_next : (w : World) (xs : List Exporting) (i : ℕ) (x : Exporting) (first before after : Notes) → i < length xs → x ≡ get_or xs i x → after ≡ exported_twice w (names_with (take i xs) []) (x ∷ []) before →
    before ≡ exported_twice w [] (take i xs) first → after ≡ exported_twice w [] (take (i + 1) xs) first
notes_next w xs i x first before after within at is so_far =
    is ∙ ap (exported_twice w (names_with (take i xs) []) (x ∷ [])) so_far ∙ sym (twice_last w (take i xs) x [] first) ∙ ap (λ (l : List Exporting). exported_twice w [] l first) (sym (taken xs i x within at))

pub notes_all : (w : World) (xs all : List Exporting) (i : ℕ) (first after : Notes) → length xs ≤ i → xs ≡ all → after ≡ exported_twice w [] (take i xs) first → after ≡ exported_twice w [] all first
notes_all w xs all i first after long same is = is ∙ ap (λ (l : List Exporting). exported_twice w [] l first) (take_all i xs long ∙ same)
