-- What the values of an array ask, one after the other, and what stands beside a recheck: one list of questions at most, or none.
use Rattle.std.proofs.Common.{◌≡◌, ℕ, zero, suc, ◌<◌, ◌+◌, List, [], ◌∷◌, ◌++◌, length, map, take, get_or, Option, Some, None, refl, sym, ap, ◌∙◌, subst, inl, inr, ◌⊎◌, arith}
use Rattle.std.specs.Prelude.{codes, Result, Ok, Err, IfOk, IfNone}
use Rattle.std.specs.List.{AllZip}
use Rattle.std.proofs.lemmas.List.{map_more, get_or-map, length-map}
use Rattle.std.proofs.lemmas.Option.{none-some, same_Some}
use Rattle.std.proofs.lemmas.Slice.Zip.{all_zipped_more}
use Rattle.serde_json.specs.Data.{Data, null, boolean, number, string, array, object, Items, no_items, item}
use Rattle.serde_json.specs.Find.{get, as_array}
use Rattle.serde_json.specs.View.{view, items_of}
use Rattle.serde_json.specs.declared.value.Value.{Value}
use Rattle.asks.specs.declared.ask.Ask as the_ask
use Rattle.ask_line.specs.Asking.{Asks}
use Rattle.ask_line.proofs.Deciding.{asks_or_not}
use Rattle.ask_line.proofs.Words.{same_ask}
use Rattle.script_line.specs.Says.{BesideBy, HasBeside}

-- there is such a thing, or there is none
abbrev pub SomeOrNone : {X : Type 0} → (X → Type 0) → Type 0
SomeOrNone {X} P = ((x : X) × P x) ⊎ ((x : X) → P x → ⊥)

-- ---- values, one after the other

same_each : (values : List Data) (a b : List the_ask.Ask) → AllZip Asks values a → AllZip Asks values b → a ≡ b
same_each [] [] [] is also = refl
same_each [] [] (y ∷ b) is also = absurd also
same_each [] (x ∷ a) b is also = absurd is
same_each (v ∷ values) [] b is also = absurd is
same_each (v ∷ values) (x ∷ a) [] is also = absurd also
same_each (v ∷ values) (x ∷ a) (y ∷ b) is also = λ i. same_ask v x y is.0 also.0 i ∷ same_each values a b is.1 also.1 i

-- where one value asks nothing, they ask no list of questions
none_first : (v : Data) (values : List Data) → ((a : the_ask.Ask) → Asks v a → ⊥) → (l : List the_ask.Ask) → AllZip Asks (v ∷ values) l → ⊥
none_first v values never [] is = is
none_first v values never (x ∷ l) is = never x is.0

none_later : (v : Data) (values : List Data) → ((l : List the_ask.Ask) → AllZip Asks values l → ⊥) → (l : List the_ask.Ask) → AllZip Asks (v ∷ values) l → ⊥
none_later v values never [] is = is
none_later v values never (x ∷ l) is = never l is.1

none_at : (values : List Data) (i : ℕ) (v : Data) → i < length values → ((a : the_ask.Ask) → Asks (get_or values i v) a → ⊥) → (l : List the_ask.Ask) → AllZip Asks values l → ⊥
none_at [] i v within never = absurd (omega (arith, within))
none_at (d ∷ values) zero v within never = none_first d values never
none_at (d ∷ values) (suc i) v within never = none_later d values (none_at values i v (omega (arith, within)) never)

each_or_none : (values : List Data) → SomeOrNone (AllZip Asks values)
each_or_none [] = inl ([], tt)
each_or_none (v ∷ values) = of_both (asks_or_not v) (each_or_none values) where
  of_both : SomeOrNone (Asks v) → SomeOrNone (AllZip Asks values) → SomeOrNone (AllZip Asks (v ∷ values))
  of_both (inl first) (inl rest) = inl (first.0 ∷ rest.0, (first.1, rest.1))
  of_both (inl first) (inr never) = inr (none_later v values never)
  of_both (inr never) rest = inr (none_first v values never)

-- ---- as far as a loop over them has come

pub asks_more : (values : List Value) (i : ℕ) (v : Value) (asks more : List the_ask.Ask) (a : the_ask.Ask) → i < length values → v ≡ get_or values i v → AllZip Asks (map view (take i values)) asks → Asks (view v) a
    → more ≡ asks ++ a ∷ [] → AllZip Asks (map view (take (i + 1) values)) more
asks_more values i v asks more a within is each asked on =
    let values_on : map view (take (i + 1) values) ≡ map view (take i values) ++ view v ∷ [] = map_more view values i v within ∙ ap (λ x. map view (take i values) ++ view x ∷ []) (sym is) in
    subst (λ l. AllZip Asks (map view (take (i + 1) values)) l) (sym on) (subst (λ vs. AllZip Asks vs (asks ++ a ∷ [])) (sym values_on) (all_zipped_more Asks (map view (take i values)) asks (view v) a each asked))

pub asks_none : (values : List Value) (i : ℕ) (v : Value) → i < length values → v ≡ get_or values i v → ((a : the_ask.Ask) → Asks (view v) a → ⊥) → (l : List the_ask.Ask) → AllZip Asks (map view values) l → ⊥
asks_none values i v within is never =
    none_at (map view values) i (view v) (omega (arith, within, length-map values view)) (λ a asks. never a (subst (λ d. Asks d a) (get_or-map view values i v (view v) within ∙ ap view (sym is)) asks))

-- ---- arrays

abbrev listed : Items → List Data
listed no_items = []
listed (item d ds) = d ∷ listed ds

listed_back : (ds : List Data) → listed (items_of ds) ≡ ds
listed_back [] = refl
listed_back (d ∷ ds) = ap (λ l. d ∷ l) (listed_back ds)

items_back : (items : Items) → items_of (listed items) ≡ items
items_back no_items = refl
items_back (item d ds) = ap (item d) (items_back ds)

-- the values of an array are one list
values_are : (values : List Data) (items : Items) → array (items_of values) ≡ array items → values ≡ listed items
values_are values items is = sym (listed_back values) ∙ ap listed (same_Some (items_of values) items (ap as_array is))

is_array : (value : Data) (items : Items) → as_array value ≡ Some items → value ≡ array items
is_array null items is = absurd (none-some items is)
is_array (boolean b) items is = absurd (none-some items is)
is_array (number n) items is = absurd (none-some items is)
is_array (string s) items is = absurd (none-some items is)
is_array (array ds) items is = ap array (same_Some ds items is)
is_array (object ms) items is = absurd (none-some items is)

-- ---- beside a recheck

same_beside_by : (o : Option Data) (a b : List the_ask.Ask) → BesideBy o a → BesideBy o b → a ≡ b
same_beside_by None a b is also = is ∙ sym also
same_beside_by (Some value) a b is also =
    let values : also.0 ≡ is.0 = values_are also.0 (items_of is.0) (sym also.1 ∙ is.1) ∙ listed_back is.0 in
    same_each is.0 a b is.2 (subst (λ vs. AllZip Asks vs b) values also.2)

pub same_beside : (value : Data) (a b : List the_ask.Ask) → HasBeside a value → HasBeside b value → a ≡ b
same_beside value = same_beside_by (get (codes "asks") value)

beside_or_none_by : (o : Option Data) → SomeOrNone (BesideBy o)
beside_or_none_by None = inl ([], refl)
beside_or_none_by (Some value) = by (as_array value) refl where
  of_items : (items : Items) → value ≡ array items → SomeOrNone (AllZip Asks (listed items)) → SomeOrNone (BesideBy (Some value))
  of_items items is (inl asks) = inl (asks.0, (listed items, is ∙ ap array (sym (items_back items)), asks.1))
  of_items items is (inr never) = inr (λ l has. never l (subst (λ vs. AllZip Asks vs l) (values_are has.0 items (sym has.1 ∙ is)) has.2))

  by : (o : Option Items) → as_array value ≡ o → SomeOrNone (BesideBy (Some value))
  by None none = inr (λ l has. none-some (items_of has.0) (sym none ∙ ap as_array has.1))
  by (Some items) some = of_items items (is_array value items some) (each_or_none (listed items))

pub beside_or_none : (value : Data) → SomeOrNone (λ l. HasBeside l value)
beside_or_none value = beside_or_none_by (get (codes "asks") value)

-- ---- as the code finds it

pub array_asks_none : {E : Type 0} (value inner : Data) (values : List Data) (result : Result (Option (List the_ask.Ask)) E) → get (codes "asks") value ≡ Some inner → as_array inner ≡ Some (items_of values)
    → IfOk result (λ asks. IfNone asks ((l : List the_ask.Ask) → AllZip Asks values l → ⊥)) → IfOk result (λ asks. IfNone asks ((l : List the_ask.Ask) → HasBeside l value → ⊥))
array_asks_none value inner values (Ok (Some l)) at is none = tt
array_asks_none value inner values (Err e) at is none = tt
array_asks_none value inner values (Ok None) at is none = λ l has.
    let beside : BesideBy (Some inner) l = subst (λ o. BesideBy o l) at has in
    none l (subst (λ vs. AllZip Asks vs l) (values_are beside.0 (items_of values) (sym beside.1 ∙ is_array inner (items_of values) is) ∙ listed_back values) beside.2)
