-- Whether each of some names has a place.
use Rattle.std.proofs.Common.{◌≡◌, ◌&&◌, ℕ, zero, suc, ◌+◌, ◌<◌, ◌≤◌, Bool, true, false, List, [], ◌∷◌, ◌++◌, length, get_or, map, take, take_all, Option, Some, None, if◌then◌else◌, refl, sym, ap, ◌∙◌, arith}
use Rattle.std.specs.Prelude.{Contains, IsTrue}
use Rattle.std.specs.List.{flat_map}
use Rattle.std.specs.Option.{option_map, is_some}
use Rattle.std.proofs.lemmas.List.{take_more, append-nil}
use Rattle.std.proofs.lemmas.List.Concat.{flat_map-append}
use Rattle.type_values.specs.declared.types.FlowType.{FlowType}
use Rattle.alias_table.specs.Aliases.{Row, Key, is_row_of, row_type, alias_type, names_of, StaysWithin}
use Rattle.alias_table.specs.Indexing.{place_of, places_of, are_placed}
use Rattle.alias_table.proofs.Graph.{none_some, split_and}

module _ (place : Key → Option ℕ) where
  both_placed : (a b : List Key) → are_placed place (a ++ b) ≡ (are_placed place a && are_placed place b)
  both_placed [] b = refl
  both_placed (k ∷ a) b = go (is_some (place k)) (both_placed a b)
    where
      go : (h : Bool) → are_placed place (a ++ b) ≡ (are_placed place a && are_placed place b) → (h && are_placed place (a ++ b)) ≡ ((h && are_placed place a) && are_placed place b)
      go true rest = rest
      go false rest = refl

  and_true : (a b : Bool) → a ≡ true → b ≡ true → (a && b) ≡ true
  and_true true b on more = more
  and_true false b on more = cc

  and_false : (a b : Bool) → b ≡ false → (a && b) ≡ false
  and_false true b off = off
  and_false false b off = refl

  pub placed_there : (names : List Key) (b : Key) → are_placed place names ≡ true → Contains names b → is_some (place b) ≡ true
  placed_there [] b all (k, few, at) = absurd (omega (arith, few))
  placed_there (n ∷ names) b all (zero, few, at) = ap (λ (k : Key). is_some (place k)) (sym at) ∙ (split_and (is_some (place n)) (are_placed place names) all).0
  placed_there (n ∷ names) b all (suc k, few, at) = placed_there names b (split_and (is_some (place n)) (are_placed place names) all).1 (k, omega (arith, few), at)

  module _ {X : Type 0} (names : X → List Key) where
    pub placed_more : (all : List X) (i : ℕ) (x : X) → i < length all → x ≡ get_or all i x → are_placed place (flat_map names (take i all)) ≡ true → are_placed place (names x) ≡ true
        → are_placed place (flat_map names (take (i + 1) all)) ≡ true
    placed_more all i x within is so_far here =
        ap (λ (l : List X). are_placed place (flat_map names l)) (take_more all i x within ∙ ap (λ (u : X). take i all ++ u ∷ []) (sym is))
        ∙ ap (are_placed place) (flat_map-append names (take i all) (x ∷ []) ∙ ap (λ l. flat_map names (take i all) ++ l) (append-nil (names x)))
        ∙ both_placed (flat_map names (take i all)) (names x) ∙ and_true _ _ so_far here

    pub placed_all : (all : List X) (i : ℕ) → length all ≤ i → are_placed place (flat_map names (take i all)) ≡ true → true ≡ are_placed place (flat_map names all)
    placed_all all i past so_far = sym (ap (λ (l : List X). are_placed place (flat_map names l)) (sym (take_all i all past)) ∙ so_far)

    pub one_lacks : (all : List X) (i : ℕ) (x : X) → i < length all → x ≡ get_or all i x → are_placed place (names x) ≡ false → false ≡ are_placed place (flat_map names all)
    one_lacks [] i x within is off = absurd (omega arith)
    one_lacks (y ∷ all) zero x within is off =
        sym (both_placed (names y) (flat_map names all) ∙ ap (λ (u : X). are_placed place (names u) && are_placed place (flat_map names all)) (sym is) ∙ ap (λ (b : Bool). b && are_placed place (flat_map names all)) off)
    one_lacks (y ∷ all) (suc i) x within is off =
        sym (both_placed (names y) (flat_map names all) ∙ and_false _ _ (sym (one_lacks all i x (omega (arith, within)) is off)))

-- an alias has a type where it has a place
pub some_place : (rows : List Row) (key : Key) → is_some (place_of rows key) ≡ is_some (alias_type rows key)
some_place [] key = refl
some_place (row ∷ rows) key = go (is_row_of key row) (some_place rows key)
  where
    past : (o : Option ℕ) → is_some (option_map (λ at. at + 1) o) ≡ is_some o
    past None = refl
    past (Some at) = refl

    go : (b : Bool) → is_some (place_of rows key) ≡ is_some (alias_type rows key) → is_some (if b then Some 0 else option_map (λ at. at + 1) (place_of rows key)) ≡ is_some (if b then Some row.2 else alias_type rows key)
    go true rest = refl
    go false rest = past (place_of rows key) ∙ rest

module _ (rows : List Row) (place : Key → Option ℕ) (same : (key : Key) → place key ≡ place_of rows key) where
  names_placed : (some : List Row) (key : Key) (t : FlowType) → are_placed place (flat_map (λ row. names_of row.2) some) ≡ true → alias_type some key ≡ Some t → are_placed place (names_of t) ≡ true
  names_placed [] key t all is = none_some t is
  names_placed (row ∷ some) key t all is = go (is_row_of key row) is (names_placed some key t (split_and _ _ halves).1)
    where
      halves : (are_placed place (names_of row.2) && are_placed place (flat_map (λ r. names_of r.2) some)) ≡ true
      halves = sym (both_placed place (names_of row.2) (flat_map (λ r. names_of r.2) some)) ∙ all

      go : (b : Bool) → (if b then Some row.2 else alias_type some key) ≡ Some t → (alias_type some key ≡ Some t → are_placed place (names_of t) ≡ true) → are_placed place (names_of t) ≡ true
      go true first rest = let one : row.2 ≡ t = cc in ap (λ (u : FlowType). are_placed place (names_of u)) (sym one) ∙ (split_and _ _ halves).0
      go false first rest = rest first

  pub stays_told : (within : Bool) → within ≡ are_placed place (flat_map (λ row. names_of row.2) rows) → IsTrue within → StaysWithin (alias_type rows)
  stays_told within told on a b (t, is, has) =
      sym (some_place rows b) ∙ ap is_some (sym (same b)) ∙ placed_there place (names_of t) b (names_placed rows a t (sym told ∙ on) is) has

-- the edges of rows, by their types
pub edges_by_rows : (rows given : List Row) (edges : List (List ℕ)) (place : Key → Option ℕ) → edges ≡ map (λ row. places_of place (names_of row.2)) given → given ≡ rows → edges ≡ map (λ t. places_of place (names_of t)) (map row_type rows)
edges_by_rows rows given edges place is same = is ∙ ap (map (λ row. places_of place (names_of row.2))) same ∙ by_types rows
  where
    by_types : (all : List Row) → map (λ row. places_of place (names_of row.2)) all ≡ map (λ t. places_of place (names_of t)) (map row_type all)
    by_types [] = refl
    by_types (row ∷ all) = ap (λ (l : List (List ℕ)). places_of place (names_of row.2) ∷ l) (by_types all)
