-- What a module sees of the program.
use Rattle.std.specs.Prelude.{ℕ, Bool, true, false, List, Option, Some, None, if◌then◌else◌}
use Rattle.flow_values.specs.declared.span.Span.{Span}
use Rattle.js_grammar.specs.Items.{Module}
use Rattle.check_values.specs.Rows.{Bytes, row_at}
use Rattle.check_values.specs.declared.codes.Code.{Code}
use Rattle.check_values.specs.declared.codes.Code.TheVariants.{CannotResolveName, MissingExport, RecursiveDefinition, TypeAsValue, ValueAsType}
use Rattle.check_values.specs.declared.signatures.Deps.{Deps}
use Rattle.check_values.specs.declared.signatures.Sig.{Sig}
use Rattle.check_values.specs.declared.signatures.Export.{Export}
use Rattle.check_values.specs.declared.signatures.Export.TheVariants as says
use Rattle.type_values.specs.declared.types.FlowType.{FlowType}
use Rattle.type_values.specs.declared.types.FlowType as made
use Rattle.type_names.specs.Names.{Name}
use Rattle.local_signatures.specs.Scope as home
use Rattle.local_signatures.specs.Scope.{bound_import, bound_alias, scope_of}
use Rattle.merged_signatures.specs.Chains.{found}
use Rattle.typing.specs.States.{TypeMeaning, a_type, no_type_of, World}

-- What a module sees of the program: its path, its dependency list, the merged signatures of other modules, which aliases lie on a
-- cycle, and members and subtyping by the alias table.
pub record Program : Type 0 where
  pub path : Bytes
  pub deps : Deps
  pub sigs : Bytes → Option Sig
  pub is_cyclic : Name → Bool
  pub members : FlowType → List FlowType
  pub below : FlowType → FlowType → Bool

-- ---- other modules

-- what a module says of one of its exports: nothing, where there is no such module or it is broken
pub data Saying : Type 0 where
  says_nothing : Saying
  lacks_it : Saying
  says_it : Export → Saying

-- by the name's row in a signature, if it has one
abbrev pub said_by_rows : Option Export → Saying
said_by_rows None = lacks_it
said_by_rows (Some export) = says_it export

-- by the merged signature of a module, if there is one
abbrev pub said_by_sig : Bytes → Option Sig → Saying
said_by_sig name None = says_nothing
said_by_sig name (Some s) = if s.broken then says_nothing else said_by_rows (row_at s.exports name)

-- by the module that was found, if one was
abbrev pub said_by : (Bytes → Option Sig) → Bytes → Option Bytes → Saying
said_by sigs name None = says_nothing
said_by sigs name (Some path) = said_by_sig name (sigs path)

-- what the module that a specifier finds says of a name
abbrev pub said_in : Deps → (Bytes → Option Sig) → Bytes → Bytes → Saying
said_in deps sigs spec name = said_by sigs name (found deps spec)

-- the same, in a program
abbrev pub said : Program → Bytes → Bytes → Saying
said p spec name = said_in p.deps p.sigs spec name

-- the type of an imported value
abbrev pub value_said : Saying → FlowType
value_said (says_it (says.Value t)) = t
value_said saying = made.Any

-- the type that an imported type's name stands for
abbrev pub type_said : Saying → FlowType
type_said (says_it (says.Alias home name)) = made.Ref home name
type_said saying = made.Any

-- what is wrong with asking for a type (true) or a value
abbrev pub wrong_import : Bool → Saying → Option Code
wrong_import is_type lacks_it = Some MissingExport
wrong_import is_type (says_it says.Cyclic) = Some RecursiveDefinition
wrong_import true (says_it (says.Value t)) = Some ValueAsType
wrong_import false (says_it (says.Alias home name)) = Some TypeAsValue
wrong_import is_type saying = None

-- ---- names as types

-- what a name of the module at a path means as a type, by its binding
abbrev pub type_bound : Bytes → Deps → (Bytes → Option Sig) → Bytes → Option home.Binding → TypeMeaning
type_bound path deps sigs name None = no_type_of CannotResolveName
type_bound path deps sigs name (Some (bound_alias t)) = a_type (made.Ref path name)
type_bound path deps sigs name (Some (bound_import spec outer true)) = a_type (type_said (said_in deps sigs spec outer))
type_bound path deps sigs name (Some other) = no_type_of ValueAsType

-- what stands around a module's code in a program
abbrev pub world_of : Program → Module → List Span → Option ℕ → World
world_of p m spans watch = record {
  members = p.members;
  below = p.below;
  type_meaning = λ name. type_bound p.path p.deps p.sigs name (row_at (scope_of m) name);
  spans = spans;
  watch = watch;
}
