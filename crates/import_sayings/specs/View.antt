-- What a module sees of others, as the code has it.
use Rattle.std.specs.Prelude.{Option, Some, None}
use Rattle.std.specs.BTreeMap.{BTreeMap, get}
use Rattle.std.specs.Cmp.Lexicographic.{slice_cmp}
use Rattle.std.specs.Ordering.{nat_cmp}
use Rattle.std.specs.Borrow.{Bor}
use Rattle.std.specs.Option.{option_copied}
use Rattle.check_values.specs.Rows.{Bytes, Rows, row_at}
use Rattle.check_values.specs.declared.signatures.Sig.{Sig}
use Rattle.errors_by_reach.specs.module_errors.specs.Program.{Saying, says_nothing, lacks_it, says_it, said_by}
use Rattle.errors_by_reach.specs.Seen.{Sigs}
use Rattle.import_sayings.specs.declared.saying.Saying as own
use Rattle.import_sayings.specs.declared.saying.Saying.TheVariants as own_saying
use Rattle.import_sayings.specs.declared.imports.Imports.{Imports}

-- the merged signatures of modules, of which the first one of a path counts
abbrev pub sigs_of : Rows Sig → Sigs
sigs_of rows path = row_at rows path

-- what a module says of one of its exports
abbrev pub saying_view : own.Saying → Saying
saying_view own_saying.Nothing = says_nothing
saying_view own_saying.Lacks = lacks_it
saying_view (own_saying.Says export) = says_it export.now

-- the modules that specifiers find, by their rows in a map
abbrev pub Found : Type 0
Found = BTreeMap Bytes (Option (Bor Bytes))

-- the module that a specifier finds
abbrev pub found_by_row : Found → Bytes → Option Bytes
found_by_row found spec = elim (get (slice_cmp nat_cmp) found spec) [ None ↦ None | Some path ↦ option_copied path ]

abbrev pub found_of : Imports → Bytes → Option Bytes
found_of imports spec = found_by_row imports.found spec

-- what the module that a specifier finds says of a name
abbrev pub said_of : Imports → Bytes → Bytes → Saying
said_of imports spec name = said_by (sigs_of imports.table.now.rows) name (found_of imports spec)
