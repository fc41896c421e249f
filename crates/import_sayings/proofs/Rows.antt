-- Rows of the code by their names, seen as rows of the definitions.
use Rattle.std.proofs.Common.{◌≡◌, Bool, true, false, cond, List, [], ◌∷◌, Option, Some, None, option_map, bytes_eq, refl, ap, ◌∙◌}
use Rattle.std.specs.Borrow.{Bor}
use Rattle.std.specs.Option.{option_copied, option_and_then}
use Rattle.std.specs.Ordering.{nat_cmp}
use Rattle.std.specs.Cmp.Lexicographic.{slice_cmp}
use Rattle.std.specs.BTreeMap.{BTreeMap, get}
use Rattle.check_values.specs.Rows.{Bytes, Rows, row_at, by_name}
use Rattle.check_values.specs.declared.signatures.DepRow.{DepRow}
use Rattle.check_values.specs.declared.signatures.Deps.{Deps}
use Rattle.merged_signatures.specs.Chains.{found_in, found}
use Rattle.named_rows.specs.Seen.{seen, found_by_spec}
use Rattle.named_rows.proofs.FirstRows.{named}
use Rattle.import_sayings.specs.View.{Found, found_by_row}

found_row : (rows : List DepRow) (word : Bytes) → option_and_then (λ (o : Option Bytes). o) (row_at (found_by_spec rows) word) ≡ found_in rows word
found_row [] word = refl
found_row (row ∷ rows) word = go (bytes_eq row.spec word) (found_row rows word)
  where
    go : (b : Bool) → option_and_then (λ (o : Option Bytes). o) (row_at (found_by_spec rows) word) ≡ found_in rows word → option_and_then (λ (o : Option Bytes). o) (cond b (Some row.found) (row_at (found_by_spec rows) word)) ≡ cond b row.found (found_in rows word)
    go true rest = refl
    go false rest = rest

by_row : (o : Option (Option (Bor Bytes))) → elim o as (λ _. Option Bytes) [ None ↦ None | Some path ↦ option_copied path ] ≡ option_and_then (λ (x : Option Bytes). x) (option_map option_copied o)
by_row None = refl
by_row (Some path) = refl

pub founds_named : (names : Found) (rows : Rows (Option (Bor Bytes))) (all : List DepRow) (deps : Deps) → names.entries ≡ by_name rows → seen option_copied rows ≡ found_by_spec all → all ≡ deps.rows →
    (word : Bytes) → found_by_row names word ≡ found deps word
founds_named names rows all deps is shown same word =
    by_row (get (slice_cmp nat_cmp) names word)
    ∙ ap (option_and_then (λ (o : Option Bytes). o)) (named option_copied names rows is word ∙ ap (λ (l : Rows (Option Bytes)). row_at l word) shown) ∙ found_row all word ∙ ap (λ (l : List DepRow). found_in l word) same
