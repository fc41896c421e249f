-- Rows by what each stands for.
use Rattle.std.specs.Prelude.{List, Option, map}
use Rattle.check_values.specs.Rows.{Bytes, Rows}
use Rattle.check_values.specs.declared.signatures.DepRow.{DepRow}

-- rows with what stands beside each name seen by a function
abbrev pub seen : {A B : Type 0} → (A → B) → List (Bytes × A) → Rows B
seen f rows = map (λ row. (row.0, f row.1)) rows

-- what specifiers find
abbrev pub found_by_spec : List DepRow → Rows (Option Bytes)
found_by_spec rows = map (λ row. (row.spec, row.found)) rows
