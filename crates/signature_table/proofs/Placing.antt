-- Maps of places, row by row from the last one on, and what stands at places.
use Rattle.std.proofs.Common.{◌≡◌, ℕ, zero, suc, ◌+◌, ◌-◌, ◌<◌, ◌≤◌, ◌==◌, Bool, true, false, not, List, [], ◌∷◌, ◌++◌, length, map, take, drop, get_or, slice_get, if◌then◌else◌, Option, Some, None, cond, option_map, bytes_eq, refl, sym, ap, ◌∙◌, subst, arith, unwrap_or, drop_of_length-le, drop-cons, add-one}
use Rattle.std.specs.Option.{option_and_then, is_some}
use Rattle.std.specs.Ordering.{nat_cmp}
use Rattle.std.specs.Cmp.Lexicographic.{slice_cmp, bytes_decides}
use Rattle.std.specs.BTreeMap.{BTreeMap, get, is_at, Updates}
use Rattle.std.specs.Map.{lookup}
use Rattle.std.proofs.lemmas.Bool.Decides.{nat_tests}
use Rattle.std.proofs.lemmas.Option.{slice_get-map}
use Rattle.std.proofs.lemmas.Map.Text.{is_eq-slice_cmp}
use Rattle.check_values.specs.Rows.{Bytes, Rows, row_at}
use Rattle.signature_table.specs.Places.{place_of, ArePlaces, value_at, is_place}

same_bytes : (a : Bytes) → bytes_eq a a ≡ true
same_bytes a = (bytes_decides a a).1 refl

-- the places of those rows that stand from one on
abbrev pub ArePlacesFrom : {X : Type 0} → Rows X → ℕ → BTreeMap Bytes ℕ → Type 0
ArePlacesFrom rows i places = (name : Bytes) → get (slice_cmp nat_cmp) places name ≡ option_map (λ k. i + k) (place_of (drop i rows) name)

pub none_placed : {X : Type 0} (rows : Rows X) (places : BTreeMap Bytes ℕ) (n : ℕ) → places.entries ≡ [] → length rows ≤ n → ArePlacesFrom rows n places
none_placed {X} rows places n none past name =
    ap (λ (l : List (Bytes × ℕ)). lookup (is_at (slice_cmp nat_cmp name)) l) none ∙ sym (ap (λ (l : Rows X). option_map (λ k. n + k) (place_of l name)) (drop_of_length-le rows past))

further : (i n : ℕ) (o : Option ℕ) → n ≡ i + 1 → option_map (λ k. n + k) o ≡ option_map (λ k. i + k) (option_map suc o)
further i n None step = refl
further i n (Some k) step = let same : n + k ≡ i + suc k = omega (arith, step) in ap (λ (m : ℕ). Some m) same

pub one_placed : {X : Type 0} (rows : Rows X) (i n : ℕ) (row : Bytes × X) (key : Bytes) (before after : BTreeMap Bytes ℕ) → n ≡ i + 1 → i < length rows → row ≡ get_or rows i row → key ≡ row.0 → ArePlacesFrom rows n before
    → Updates (slice_cmp nat_cmp) before after key (Some i) → ArePlacesFrom rows i after
one_placed {X} rows i n row key before after step within is same later updates name =
    updates.0 name ∙ ap (λ (b : Bool). cond b (Some i) (get (slice_cmp nat_cmp) before name)) (is_eq-slice_cmp key name ∙ ap (λ (k : Bytes). bytes_eq k name) same)
    ∙ ap (cond (bytes_eq row.0 name) (Some i)) (later name)
    ∙ go (bytes_eq row.0 name)
    ∙ sym (ap (λ (l : Rows X). option_map (λ k. i + k) (place_of l name)) (drop-cons rows i row within ∙ ap (λ (r : Bytes × X). r ∷ drop (suc i) rows) (sym is) ∙ ap (λ (k : ℕ). row ∷ drop k rows) (sym (add-one i) ∙ sym step)))
  where
    go : (b : Bool) → cond b (Some i) (option_map (λ k. n + k) (place_of (drop n rows) name)) ≡ option_map (λ k. i + k) (cond b (Some 0) (option_map suc (place_of (drop n rows) name)))
    go true = let same : i ≡ i + 0 = omega arith in ap (λ (m : ℕ). Some m) same
    go false = further i n (place_of (drop n rows) name) step

pub all_placed : {X : Type 0} (rows : Rows X) (places : BTreeMap Bytes ℕ) (n : ℕ) → n ≤ 0 → ArePlacesFrom rows n places → ArePlaces rows places
all_placed rows places n low all name =
    let first : n ≡ 0 = omega (arith, low) in
    all name ∙ ap (λ (k : ℕ). option_map (λ m. k + m) (place_of (drop k rows) name)) first ∙ go (place_of rows name)
  where
    go : (o : Option ℕ) → option_map (λ m. 0 + m) o ≡ o
    go None = refl
    go (Some m) = let same : 0 + m ≡ m = omega arith in ap (λ (k : ℕ). Some k) same

-- what stands at the place of a name
pub at_place : {X : Type 0} (rows : Rows X) (name : Bytes) → option_and_then (value_at rows) (place_of rows name) ≡ row_at rows name
at_place [] name = refl
at_place {X} (row ∷ rows) name = go (bytes_eq row.0 name) (at_place rows name)
  where
    past : (o : Option ℕ) → option_and_then (value_at (row ∷ rows)) (option_map suc o) ≡ option_and_then (value_at rows) o
    past None = refl
    past (Some n) = refl

    go : (b : Bool) → option_and_then (value_at rows) (place_of rows name) ≡ row_at rows name → option_and_then (value_at (row ∷ rows)) (cond b (Some 0) (option_map suc (place_of rows name))) ≡ cond b (Some row.1) (row_at rows name)
    go true rest = refl
    go false rest = past (place_of rows name) ∙ rest

pub placed_value : {X : Type 0} (rows : Rows X) (places : BTreeMap Bytes ℕ) (name : Bytes) (place : ℕ) (value : Option X) → ArePlaces rows places → Some place ≡ get (slice_cmp nat_cmp) places name → value ≡ value_at rows place → value ≡ row_at rows name
placed_value rows places name place value are is told = told ∙ ap (option_and_then (value_at rows)) (is ∙ are name) ∙ at_place rows name

pub no_value : {X : Type 0} (rows : Rows X) (places : BTreeMap Bytes ℕ) (name : Bytes) → ArePlaces rows places → None ≡ get (slice_cmp nat_cmp) places name → None ≡ row_at rows name
no_value rows places name are is = ap (option_and_then (value_at rows)) (is ∙ are name) ∙ at_place rows name

later_place : (o : Option ℕ) (i : ℕ) → is_place (option_map suc o) (suc i) ≡ is_place o i
later_place None i = refl
later_place (Some n) i = grind (arith, nat_tests)

not_there : (i : ℕ) → 0 == suc i ≡ false
not_there i = grind (arith, nat_tests)

-- a row is the first of its name where no row before it has the name
pub first_there : {X : Type 0} (rows : Rows X) (i : ℕ) (row : Bytes × X) → i < length rows → row ≡ get_or rows i row → is_place (place_of rows row.0) i ≡ not (is_some (row_at (take i rows) row.0))
first_there [] i row within is = absurd (omega arith)
first_there {X} (first ∷ rows) zero row within is = ap (λ (b : Bool). is_place (cond b (Some 0) (option_map suc (place_of rows row.0))) 0) (ap (λ (r : Bytes × X). bytes_eq r.0 row.0) (sym is) ∙ same_bytes row.0)
first_there {X} (first ∷ rows) (suc i) row within is = go (bytes_eq first.0 row.0) (first_there rows i row (omega (arith, within)) is)
  where
    go : (b : Bool) → is_place (place_of rows row.0) i ≡ not (is_some (row_at (take i rows) row.0)) → is_place (cond b (Some 0) (option_map suc (place_of rows row.0))) (suc i) ≡ not (is_some (cond b (Some first.1) (row_at (take i rows) row.0)))
    go true rest = not_there i
    go false rest = later_place (place_of rows row.0) i ∙ rest

-- what stands beside rows in another list, in their order, stands at their places
pub beside_place : {X Y : Type 0} (f : Y → X) (others : List Y) (rows : Rows X) (places : BTreeMap Bytes ℕ) (name : Bytes) (place : ℕ) → map f others ≡ map (λ row. row.1) rows → ArePlaces rows places → get (slice_cmp nat_cmp) places name ≡ Some place → option_map f (slice_get others place) ≡ row_at rows name
beside_place f others rows places name place same are is =
    sym (slice_get-map f others place) ∙ ap (λ l. slice_get l place) same ∙ slice_get-map (λ row. row.1) rows place ∙ ap (option_and_then (value_at rows)) (sym is ∙ are name) ∙ at_place rows name
