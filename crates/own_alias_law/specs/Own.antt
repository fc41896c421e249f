-- What a full check says of a module's own aliases.
use Rattle.std.specs.Prelude.{◌≡◌, List, Option, Some, if◌then◌else◌}
use Rattle.std.specs.Str.{bytes_eq}
use Rattle.flow_base.specs.Program.{Bytes, Program}
use Rattle.check_values.specs.Rows.{row_at}
use Rattle.check_values.specs.declared.signatures.Deps.{Deps}
use Rattle.js_grammar.specs.Items.{Module}
use Rattle.type_values.specs.declared.types.FlowType.{FlowType}
use Rattle.alias_table.specs.Aliases.{Key}
use Rattle.program_check.specs.check_job.specs.errors_by_reach.specs.local_signatures.specs.Scope.{scope_of}
use Rattle.program_check.specs.check_job.specs.errors_by_reach.specs.Seen.{Sigs, IsTable, meaning_in, own_alias, own_type, alias_told, alias_type}
use Rattle.program_check.specs.Full.{Results, beside, sigs_in, module_in, IsFull}

-- These are the results of the module at a path in a full check, and this is its tree.
pub record IsTreeAt (program : Program) (results : List Results) (path : Bytes) (r : Results) (m : Module) : Type 0 where
  pub full : IsFull program results
  pub has_results : row_at (beside program results) path ≡ Some r
  pub has_tree : module_in r.parse.tree ≡ Some m

-- What its merged signature says of an alias, its tree says.
abbrev pub SignatureSaysTheSame : Type 0
SignatureSaysTheSame =
    (program : Program) (results : List Results) (path : Bytes) (r : Results) (m : Module) → IsTreeAt program results path r m
    → (name : Bytes) (t : FlowType) → row_at r.sig.aliases name ≡ Some t → own_type path r.deps m (sigs_in program results) (path, name) ≡ Some t

-- The type of an alias, where the module's own path has just the aliases of its tree, and each other path those of the signature there.
abbrev pub plain_type : Bytes → Deps → Module → Sigs → Key → Option FlowType
plain_type path deps m table key =
    if bytes_eq key.0 path then own_alias (meaning_in path deps table m) (row_at (scope_of m) key.1) else alias_told key.1 (table key.0)

-- So are the aliases that the module sees,
abbrev pub OwnAliasesAreTheTrees : Type 0
OwnAliasesAreTheTrees =
    (program : Program) (results : List Results) (path : Bytes) (r : Results) (m : Module) → IsTreeAt program results path r m
    → alias_type path r.deps m (sigs_in program results) ≡ plain_type path r.deps m (sigs_in program results)

-- and those that it sees by the signatures that it reaches.
abbrev pub SoByReach : Type 0
SoByReach =
    (program : Program) (results : List Results) (path : Bytes) (r : Results) (m : Module) → IsTreeAt program results path r m
    → (table : Sigs) → IsTable (sigs_in program results) r.deps table → alias_type path r.deps m table ≡ plain_type path r.deps m table
