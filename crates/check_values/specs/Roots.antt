-- The modules of a version.
use Rattle.std.specs.Prelude.{List, map}
use Rattle.check_values.specs.Rows.{Bytes}
use Rattle.check_values.specs.declared.root.RootRow.{RootRow}
use Rattle.check_values.specs.declared.root.Root.{Root}

abbrev pub paths_of_rows : List RootRow → List Bytes
paths_of_rows rows = map (λ row. row.path) rows

abbrev pub paths_of : Root → List Bytes
paths_of root = paths_of_rows root.modules
