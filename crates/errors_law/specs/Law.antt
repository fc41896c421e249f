-- Each module has errors.
use Rattle.std.specs.Prelude.{List}
use Rattle.js_grammar.specs.Items.{Module}
use Rattle.check_values.specs.Rows.{Bytes, Rows, row_at}
use Rattle.check_values.specs.declared.faults.Fault.{Fault}
use Rattle.check_values.specs.declared.signatures.Deps.{Deps}
use Rattle.check_values.specs.declared.signatures.Sig.{Sig}
use Rattle.errors_by_reach.specs.module_errors.specs.Program.{Program}
use Rattle.errors_by_reach.specs.Seen.{Sigs, IsTable, IsSeen}
use Rattle.errors_by_reach.specs.Law.{Source, HasErrors}

-- by the merged signatures of the modules that there are
abbrev pub EachHasErrors : Type 0
EachHasErrors = (path : Bytes) (deps : Deps) (source : Source) (sigs : Rows Sig) → (errors : List Fault) × HasErrors path deps source (row_at sigs) errors

-- Each module sees something by all of them,
abbrev pub EachSees : Type 0
EachSees = (path : Bytes) (deps : Deps) (m : Module) (sigs : Rows Sig) → (p : Program) × IsSeen path deps m (row_at sigs) p

-- and by those that it reaches.
abbrev pub EachSeesReached : Type 0
EachSeesReached = (path : Bytes) (deps : Deps) (m : Module) (sigs : Rows Sig) → (table : Sigs) × IsTable (row_at sigs) deps table × (p : Program) × IsSeen path deps m table p
