-- Rows of a name and what stands beside it, and lists in order.
use Rattle.std.specs.Prelude.{ℕ, Bool, not, List, [], ◌∷◌, filter, Option, Some, None, if◌then◌else◌}
use Rattle.std.specs.List.{list_any}
use Rattle.std.specs.Str.{bytes_eq}
use Rattle.std.specs.Ordering.{nat_cmp}
use Rattle.std.specs.Cmp.Lexicographic.{slice_cmp}
use Rattle.std.specs.declared.cmp.Ordering.{Ordering}
use Rattle.std.specs.declared.cmp.Ordering.TheVariants.{Less, Equal, Greater}

-- texts, names and paths are lists of bytes
abbrev pub Bytes : Type 0
Bytes = List ℕ

abbrev pub Rows : Type 0 → Type 0
Rows X = List (Bytes × X)

-- what stands in the first row of a name
abbrev pub row_at : {X : Type 0} → Rows X → Bytes → Option X
row_at [] word = None
row_at (row ∷ rows) word = if bytes_eq row.0 word then Some row.1 else row_at rows word

-- the first row of each name, in the order in which they stand
abbrev pub first_of_each : {X : Type 0} → Rows X → Rows X
first_of_each [] = []
first_of_each (row ∷ rows) = row ∷ filter (λ later. not (bytes_eq later.0 row.0)) (first_of_each rows)

-- the texts, each at its first place alone
abbrev pub distinct : List Bytes → List Bytes
distinct [] = []
distinct (word ∷ words) = word ∷ filter (λ later. not (bytes_eq later word)) (distinct words)

abbrev pub is_among : List Bytes → Bytes → Bool
is_among words word = list_any (bytes_eq word) words

-- a list in order with one more in its place; of two that are alike the new one stays
abbrev pub put : {X : Type 0} → (X → X → Ordering) → X → List X → List X
put cmp x [] = x ∷ []
put cmp x (y ∷ more) = elim (cmp x y) [ Less ↦ x ∷ y ∷ more | Equal ↦ x ∷ more | Greater ↦ y ∷ put cmp x more ]

-- the elements in order, of those that are alike the first one
abbrev pub ordered : {X : Type 0} → (X → X → Ordering) → List X → List X
ordered cmp [] = []
ordered cmp (x ∷ more) = put cmp x (ordered cmp more)

-- rows in order of the bytes of their names, of those of one name the first one
abbrev pub by_name : {X : Type 0} → Rows X → Rows X
by_name rows = ordered (λ a b. slice_cmp nat_cmp a.0 b.0) rows
