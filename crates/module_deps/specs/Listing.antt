-- The rows of specifiers.
use Rattle.std.specs.Prelude.{List, map}
use Rattle.check_values.specs.Rows.{Bytes}
use Rattle.check_values.specs.declared.signatures.DepRow.{DepRow}
use Rattle.module_resolution.specs.Resolution.{resolved}

-- each specifier with the module that it finds
abbrev pub rows_for : List Bytes → Bytes → List Bytes → List DepRow
rows_for paths from specs = map (λ spec. record { spec = spec; found = resolved paths from spec }) specs
