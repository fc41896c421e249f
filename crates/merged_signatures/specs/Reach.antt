-- The modules whose merged signatures the check of a module may read.
use Rattle.std.specs.Prelude.{◌≡◌, true, List, [], ◌∷◌, ◌++◌, map, Option, Some}
use Rattle.std.specs.List.{flat_map}
use Rattle.check_values.specs.Rows.{Bytes, is_among}
use Rattle.check_values.specs.declared.signatures.Deps.{Deps}
use Rattle.check_values.specs.declared.signatures.Export.{Export}
use Rattle.check_values.specs.declared.signatures.Export.TheVariants as export
use Rattle.check_values.specs.declared.signatures.Sig.{Sig}
use Rattle.type_values.specs.declared.types.FlowType.{FlowType}
use Rattle.type_names.specs.Names.{names_in}
use Rattle.merged_signatures.specs.Chains.{found}

-- the modules of the names in a type
abbrev pub paths_in : FlowType → List Bytes
paths_in t = map (λ n. n.0) (names_in t)

-- the modules that an export names
abbrev pub paths_of_export : Export → List Bytes
paths_of_export (export.Value t) = paths_in t
paths_of_export (export.Alias path name) = path ∷ []
paths_of_export end = []

-- the modules that a merged signature names
abbrev pub paths_named : Sig → List Bytes
paths_named s = flat_map (λ row. paths_of_export row.1) s.exports ++ flat_map (λ row. paths_in row.1) s.aliases

-- each module that a specifier finds, and with each module those that its merged signature names
pub data Reach (sigs : Bytes → Option Sig) (deps : Deps) : Bytes → Type 0 where
  by_specifier : (spec path : Bytes) → found deps spec ≡ Some path → Reach sigs deps path
  by_signature : (path other : Bytes) (s : Sig) → Reach sigs deps path → sigs path ≡ Some s → is_among (paths_named s) other ≡ true → Reach sigs deps other
