-- A dependency list again.
use Rattle.std.proofs.Common.{◌≡◌, Bool, true, false, cond, List, [], ◌∷◌, map, find, suc, Some, None, refl, sym, ap, ◌∙◌}
use Rattle.std.specs.Prelude.{◌||◌}
use Rattle.std.specs.Str.{bytes_eq}
use Rattle.std.specs.Cmp.Lexicographic.{bytes_decides}
use Rattle.flow_base.specs.Program.{Bytes, paths_of}
use Rattle.check_values.specs.Rows.{is_among}
use Rattle.check_values.specs.declared.signatures.DepRow.{DepRow}
use Rattle.module_resolution.specs.Resolution.{candidates, resolved}
use Rattle.module_resolution.specs.Dependencies.{specifiers}
use Rattle.affected_law.specs.program_check.specs.Full.{module_in}
use Rattle.affected_law.specs.Kept.{DepsServe}
use Rattle.recheck_law.specs.Lists.{row_again, again, ListsAgain, DepsServeAgain, FoundStays, RowsStay, KeepsAllCandidates, ListsStay}

-- the row of a specifier
abbrev found_among : List Bytes → Bytes → Bytes → DepRow
found_among paths from spec = record { spec = spec; found = resolved paths from spec }

rows_again : (old new : List Bytes) (from : Bytes) (specs : List Bytes)
    → map (row_again new from) (map (λ spec. record { spec = spec; found = resolved old from spec }) specs) ≡ map (λ spec. record { spec = spec; found = resolved new from spec }) specs
rows_again old new from [] = refl
rows_again old new from (s ∷ specs) = let rest = rows_again old new from specs in λ j. record { spec = s; found = resolved new from s } ∷ rest j

pub lists_again : ListsAgain
lists_again old new from None = refl
lists_again old new from (Some m) = let all = rows_again old new from (specifiers m) in λ j. record { rows = all j }

pub deps_serve_again : DepsServe → DepsServeAgain
deps_serve_again deps_serve program results path text r m paths parse is =
    ap (again paths path) (deps_serve program results path text r m parse is) ∙ lists_again (paths_of program) paths path (module_in parse.tree)

among_here : (x : Bytes) (xs : List Bytes) → is_among (x ∷ xs) x ≡ true
among_here x xs = ap (λ (b : Bool). b || is_among xs x) ((bytes_decides x x).1 refl)

among_later : (x : Bytes) (xs : List Bytes) (y : Bytes) → is_among xs y ≡ true → is_among (x ∷ xs) y ≡ true
among_later x xs y has = go (bytes_eq y x)
  where
    go : (b : Bool) → (b || is_among xs y) ≡ true
    go true = refl
    go false = has

same_find : (p q : Bytes → Bool) (xs : List Bytes) → ((x : Bytes) → is_among xs x ≡ true → p x ≡ q x) → find p xs ≡ find q xs
same_find p q [] same = refl
same_find p q (x ∷ xs) same =
    let here = same x (among_here x xs) in
    let rest = same_find p q xs (λ y has. same y (among_later x xs y has)) in
    λ j. cond (here j) (Some x) (rest j)

pub found_stays : FoundStays
found_stays old new from spec keeps = same_find (is_among new) (is_among old) (candidates from spec) keeps

pub rows_stay : RowsStay
rows_stay old new from row stays = let same = found_stays old new from row.spec stays.1 ∙ sym stays.0 in λ j. record { spec = row.spec; found = same j }

specs_stay : (old new : List Bytes) (from : Bytes) (specs : List Bytes)
    → KeepsAllCandidates old new from (record { rows = map (found_among old from) specs })
    → map (found_among new from) specs ≡ map (found_among old from) specs
specs_stay old new from [] keeps = refl
specs_stay old new from (s ∷ specs) keeps =
    let here = found_stays old new from s (keeps 0 (found_among old from s) refl) in
    let rest = specs_stay old new from specs (λ i row at. keeps (suc i) row at) in
    λ j. record { spec = s; found = here j } ∷ rest j

pub lists_stay : ListsStay
lists_stay old new from None keeps = refl
lists_stay old new from (Some m) keeps = let all = specs_stay old new from (specifiers m) keeps in λ j. record { rows = all j }
