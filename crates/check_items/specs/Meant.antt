-- What the names of a module are, as types.
use Rattle.std.specs.Prelude.{◌≡◌, List, true, Option, Some, None}
use Rattle.std.specs.List.{filter_map}
use Rattle.std.specs.Option.{option_map}
use Rattle.alias_table.specs.Aliases.{Row}
use Rattle.check_values.specs.Rows.{Bytes, Rows, row_at}
use Rattle.check_values.specs.declared.codes.Code.TheVariants.{ValueAsType}
use Rattle.check_world.specs.View.{meaning_view, row_of}
use Rattle.check_world.specs.declared.names.TypeScope.{TypeScope}
use Rattle.type_values.specs.declared.types.FlowType as made
use Rattle.js_grammar.specs.Types.{Ty}
use Rattle.type_tree.specs.View.{type_view}
use Rattle.local_signatures.specs.Scope.{Binding, bound_import, bound_alias}
use Rattle.typing.specs.States.{TypeMeaning, a_type, no_type_of}
use Rattle.typing.specs.TypeFaults.{written_by}
use Rattle.module_errors.specs.Program.{type_said}
use Rattle.import_sayings.specs.View.{said_of}
use Rattle.import_sayings.specs.declared.imports.Imports.{Imports}
use Rattle.check_items.specs.declared.naming.Meant as own
use Rattle.check_items.specs.declared.naming.Meant.TheVariants as own_meant

-- a name of the top level is one of a value, one of another module, with its specifier and the name there, or one of a type's tree
pub data Meant : Type 0 where
  a_value : Meant
  of_module : Bytes → Bytes → Meant
  of_tree : Ty → Meant

-- by its binding
abbrev pub meant : Binding → Meant
meant (bound_alias t) = of_tree t
meant (bound_import spec outer true) = of_module spec outer
meant other = a_value

abbrev pub meant_view : own.Meant → Meant
meant_view own_meant.Value = a_value
meant_view (own_meant.Imported spec outer) = of_module spec.now outer.now
meant_view (own_meant.Alias t) = of_tree (type_view t.now)

-- what a name of the module at a path means as a type, by what other modules say
abbrev pub meaning_of : Imports → Bytes → Bytes → Meant → TypeMeaning
meaning_of imports path name a_value = no_type_of ValueAsType
meaning_of imports path name (of_module spec outer) = a_type (type_said (said_of imports spec outer))
meaning_of imports path name (of_tree t) = a_type (made.Ref path name)

-- each name means what its first row says, and no other name means anything
abbrev pub AreNamed : Imports → Bytes → Rows Meant → TypeScope → Type 0
AreNamed imports path rows names = (name : Bytes) → option_map meaning_view (row_of names name) ≡ option_map (meaning_of imports path name) (row_at rows name)

-- the alias that a name is, by what names mean
abbrev pub own_row : Bytes → (Bytes → TypeMeaning) → Bytes × Meant → Option Row
own_row path meaning (name, of_tree t) = Some (path, name, written_by meaning t)
own_row path meaning row = None

-- the aliases of the module at a path
abbrev pub own_rows : Bytes → (Bytes → TypeMeaning) → Rows Meant → List Row
own_rows path meaning rows = filter_map (own_row path meaning) rows
