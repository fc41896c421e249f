-- Changes that are added.
use Rattle.std.proofs.Common.{◌≡◌, Bool, true, false, ◌&&◌, ◌||◌, cond, List, [], ◌∷◌, ◌++◌, refl, sym, ap, ◌∙◌}
use Rattle.std.specs.List.{list_any}
use Rattle.check_values.specs.Rows.{Bytes}
use Rattle.typing.specs.Changes as typing
use Rattle.typing.specs.Changes.{outside, is_outside}
use Rattle.code_changes.specs.View.{changes_view}
use Rattle.code_changes.specs.declared.change.Change.{Change}
use Rattle.code_changes.proofs.OwnNames.{or_false}
use Rattle.code_plans.specs.Plans.{same, includes}
use Rattle.code_plans.specs.View.{Adds}
use Rattle.code_plans.proofs.Meeting.{includes_both, includes_none, same_is}

pub adds_all : (a b : List Change) (xs : List typing.Change) → changes_view b ≡ changes_view a ++ xs → Adds a b xs
adds_all a b xs is c = ap (λ (l : List typing.Change). includes l c) is ∙ includes_both (changes_view a) xs c

pub adds_none : (a : List Change) → Adds a a []
adds_none a c = sym (ap (λ (b : Bool). includes (changes_view a) c || b) (includes_none c) ∙ or_false (includes (changes_view a) c))

-- behind none
pub adds_alone : (a b : List Change) (xs : List typing.Change) → a ≡ [] → Adds a b xs → includes (changes_view b) ≡ includes xs
unfolding changes_view
adds_alone a b xs none adds = λ i c. (adds c ∙ ap (λ (l : List Change). includes (changes_view l) c || includes xs c) none ∙ ap (λ (d : Bool). d || includes xs c) (includes_none c)) i

pub adds_both : (a b c : List Change) (xs ys : List typing.Change) → Adds a b xs → Adds b c ys → Adds a c (xs ++ ys)
adds_both a b c xs ys first second k =
    second k ∙ ap (λ (d : Bool). d || includes ys k) (first k) ∙ assoc (includes (changes_view a) k) (includes xs k) (includes ys k) ∙ ap (λ (d : Bool). includes (changes_view a) k || d) (sym (includes_both xs ys k))
  where
    assoc : (d e f : Bool) → ((d || e) || f) ≡ (d || (e || f))
    assoc true e f = refl
    assoc false e f = refl

pub adds_as : (a b : List Change) (xs ys : List typing.Change) → includes xs ≡ includes ys → Adds a b xs → Adds a b ys
adds_as a b xs ys is adds c = adds c ∙ ap (λ (f : typing.Change → Bool). includes (changes_view a) c || f c) is

-- ---- without own names

never : (b : Bool) → (b && false) ≡ false
never true = refl
never false = refl

outside_next : (names : List Bytes) (x : typing.Change) (xs : List typing.Change) (c : typing.Change) → list_any (same c) (outside names xs) ≡ (list_any (same c) xs && is_outside names c) →
    list_any (same c) (outside names (x ∷ xs)) ≡ (list_any (same c) (x ∷ xs) && is_outside names c)
outside_next names x xs c rest = go (is_outside names x) refl (same c x) refl
  where
    stays : (b : Bool) → is_outside names x ≡ b → list_any (same c) (outside names (x ∷ xs)) ≡ list_any (same c) (cond b (x ∷ outside names xs) (outside names xs))
    stays b is = ap (λ (d : Bool). list_any (same c) (cond d (x ∷ outside names xs) (outside names xs))) is

    go : (b : Bool) → is_outside names x ≡ b → (d : Bool) → same c x ≡ d → list_any (same c) (outside names (x ∷ xs)) ≡ (list_any (same c) (x ∷ xs) && is_outside names c)
    go true is true alike =
        stays true is ∙ ap (λ (d : Bool). d || list_any (same c) (outside names xs)) alike ∙ sym (ap (λ (d : Bool). (d || list_any (same c) xs) && is_outside names c) alike ∙ ap (is_outside names) (same_is c x alike) ∙ is)
    go true is false alike = stays true is ∙ ap (λ (d : Bool). d || list_any (same c) (outside names xs)) alike ∙ rest ∙ sym (ap (λ (d : Bool). (d || list_any (same c) xs) && is_outside names c) alike)
    go false is true alike =
        let none : is_outside names c ≡ false = ap (is_outside names) (same_is c x alike) ∙ is in
        stays false is ∙ rest ∙ ap (λ (d : Bool). list_any (same c) xs && d) none ∙ never (list_any (same c) xs) ∙ sym (ap (λ (d : Bool). list_any (same c) (x ∷ xs) && d) none ∙ never (list_any (same c) (x ∷ xs)))
    go false is false alike = stays false is ∙ rest ∙ sym (ap (λ (d : Bool). (d || list_any (same c) xs) && is_outside names c) alike)

outside_is : (names : List Bytes) (xs : List typing.Change) (c : typing.Change) → list_any (same c) (outside names xs) ≡ (list_any (same c) xs && is_outside names c)
outside_is names [] c = refl
outside_is names (x ∷ xs) c = outside_next names x xs c (outside_is names xs c)

-- it tells alike of lists that tell alike
pub outside_alike : (names : List Bytes) (xs ys : List typing.Change) → includes xs ≡ includes ys → includes (outside names xs) ≡ includes (outside names ys)
unfolding includes
outside_alike names xs ys is = λ i c. (outside_is names xs c ∙ ap (λ (f : typing.Change → Bool). f c && is_outside names c) is ∙ sym (outside_is names ys c)) i
