-- What a module sees of the program, by the merged signatures that it reaches.
use Rattle.std.specs.Prelude.{◌≡◌, ◌↔◌, Bool, IsTrue, [], ◌∷◌, Option, Some, None, unwrap_or, if◌then◌else◌}
use Rattle.std.specs.Option.{option_or}
use Rattle.std.specs.Str.{bytes_eq}
use Rattle.js_grammar.specs.Items.{Module}
use Rattle.check_values.specs.Rows.{Bytes, row_at}
use Rattle.check_values.specs.declared.signatures.Deps.{Deps}
use Rattle.check_values.specs.declared.signatures.Sig.{Sig}
use Rattle.type_values.specs.declared.types.FlowType.{FlowType}
use Rattle.type_values.specs.declared.types.FlowType as made
use Rattle.alias_table.specs.Aliases.{Key, IsCyclic}
use Rattle.alias_table.specs.Members.{AreMembers}
use Rattle.subtyping.specs.Closed.{IsBelow}
use Rattle.module_errors.specs.local_signatures.specs.Scope as home
use Rattle.module_errors.specs.local_signatures.specs.Scope.{bound_alias, scope_of}
use Rattle.module_errors.specs.merged_signatures.specs.Reach.{Reach}
use Rattle.module_errors.specs.typing.specs.States.{TypeMeaning}
use Rattle.module_errors.specs.typing.specs.TypeFaults.{written_by}
use Rattle.module_errors.specs.Program.{Program, type_bound}

-- the merged signatures of modules
abbrev pub Sigs : Type 0
Sigs = Bytes → Option Sig

-- The table has the signatures that the module reaches, and no others.
pub record IsTable (sigs : Sigs) (deps : Deps) (table : Sigs) : Type 0 where
  pub has : (path : Bytes) → Reach sigs deps path → table path ≡ sigs path
  pub only : (path : Bytes) (s : Sig) → table path ≡ Some s → Reach sigs deps path

-- ---- the types of aliases: the module's own by its tree, and then those by the table

-- what a name of the module means as a type
abbrev pub meaning_in : Bytes → Deps → Sigs → Module → Bytes → TypeMeaning
meaning_in path deps table m name = type_bound path deps table name (row_at (scope_of m) name)

-- the type of an alias of the module's own
abbrev pub own_alias : (Bytes → TypeMeaning) → Option home.Binding → Option FlowType
own_alias meaning (Some (bound_alias t)) = Some (written_by meaning t)
own_alias meaning other = None

-- the type of an alias in the signature of a module
abbrev pub alias_told : Bytes → Option Sig → Option FlowType
alias_told name None = None
alias_told name (Some s) = row_at s.aliases name

-- the type of an alias that the module's tree has, by its module and its name
abbrev pub own_type : Bytes → Deps → Module → Sigs → Key → Option FlowType
own_type path deps m table key = if bytes_eq key.0 path then own_alias (meaning_in path deps table m) (row_at (scope_of m) key.1) else None

-- The type of an alias: that of the module's own tree comes first. The signature at its path tells the others, as it does those of other
-- modules: it may have more where it is that of another text.
abbrev pub alias_type : Bytes → Deps → Module → Sigs → Key → Option FlowType
alias_type path deps m table key = option_or (own_type path deps m table key) (alias_told key.1 (table key.0))

-- what a name unfolds to: its type, and `any` where it lies on a cycle or is missing
abbrev pub unfolded : (Key → Bool) → (Key → Option FlowType) → Key → FlowType
unfolded is_cyclic types name = if is_cyclic name then made.Any else unwrap_or (types name) made.Any

-- what names unfold to for the module
abbrev pub names_unfolded : Bytes → Deps → Module → Sigs → Program → Key → FlowType
names_unfolded path deps m table p = unfolded p.is_cyclic (alias_type path deps m table)

-- This is what the module sees by a table.
pub record IsSeen (path : Bytes) (deps : Deps) (m : Module) (table : Sigs) (p : Program) : Type 0 where
  pub at_path : p.path ≡ path
  pub by_list : p.deps ≡ deps
  pub by_table : p.sigs ≡ table
  pub cyclic : (name : Key) → IsTrue (p.is_cyclic name) ↔ IsCyclic (alias_type path deps m table) name
  pub members : (t : FlowType) → AreMembers (names_unfolded path deps m table p) (t ∷ []) (p.members t)
  pub below : (a b : FlowType) → IsTrue (p.below a b) ↔ IsBelow (names_unfolded path deps m table p) a b
