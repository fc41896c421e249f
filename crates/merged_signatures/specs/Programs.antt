-- Programs as rows of modules, and what holds of them where they are small enough.
use Rattle.std.specs.Prelude.{◌<◌, List, map, length}
use Rattle.std.specs.List.{flat_map}
use Rattle.check_values.specs.Rows.{Rows, row_at}
use Rattle.type_names.specs.Names.{Name}
use Rattle.merged_signatures.specs.Chains.{Known, View, most}
use Rattle.merged_signatures.specs.Repeats.{IsSmall}

abbrev pub view_of : Rows Known → View
view_of program path = row_at program path

-- each export of each module
abbrev pub names_of : Rows Known → List Name
names_of program = flat_map (λ row. map (λ e. (row.0, e.0)) row.1.sig.exports) program

-- what holds of small views holds of each program that has fewer exports than the bound
abbrev pub IsSmallWithFewExports : Type 0
IsSmallWithFewExports = (program : Rows Known) → length (names_of program) < most → IsSmall (view_of program)
