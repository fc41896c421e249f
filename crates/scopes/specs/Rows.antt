-- The names of a stack, which grows at its end, and how those of one text, and of one number, are found in it.
use Rattle.std.specs.Prelude.{ℕ, ◌==◌, Bool, List, [], ◌∷◌, Option}
use Rattle.std.specs.Str.{bytes_eq}
use Rattle.check_values.specs.Rows.{Bytes}
use Rattle.type_values.specs.declared.types.FlowType.{FlowType}
use Rattle.typing.specs.Names as typing
use Rattle.scopes.specs.Stack.{at_place}
use Rattle.scopes.specs.declared.binding.Kind.{Kind}
use Rattle.scopes.specs.declared.binding.Kind.TheVariants as kind
use Rattle.scopes.specs.declared.binding.Binding.{Binding}
use Rattle.scopes.specs.declared.row.Row.{Row}
use Rattle.scopes.specs.declared.row.Earlier.{Earlier}

-- what a name is
abbrev pub kind_view : Kind → typing.Kind
kind_view kind.Constant = typing.constant
kind_view kind.Changing = typing.changing
kind_view kind.Shared = typing.shared
kind_view kind.TypeName = typing.type_name

abbrev pub binding_view : Binding → typing.Binding
binding_view b = record {
  name = b.name;
  number = b.number;
  kind = kind_view b.kind;
  depth = b.depth;
  is_read = b.is_read;
  declared = b.declared;
}

-- the names of a stack before others, the last one first
abbrev pub names_onto : List typing.Binding → List Row → List typing.Binding
names_onto names [] = names
names_onto names (row ∷ rows) = names_onto (binding_view row.binding ∷ names) rows

-- the names of a stack, the innermost first
unfoldable pub names_view : List Row → List typing.Binding
names_view rows = names_onto [] rows

-- ---- finding

abbrev pub has_name : Bytes → Row → Bool
has_name name row = bytes_eq row.binding.name name

abbrev pub has_number : ℕ → Row → Bool
has_number number row = row.binding.number == number

abbrev pub is_named_like : Row → Row → Bool
is_named_like row = has_name row.binding.name

abbrev pub is_numbered_like : Row → Row → Bool
is_numbered_like row = has_number row.binding.number

-- ---- changing

-- a name whose declaration was read or not, with its type, if that is known
abbrev pub declared_row : Bool → Option FlowType → Row → Row
declared_row is_read declared row = record row { binding = record row.binding { is_read = is_read; declared = declared } }

-- rows as they were before changes, of which the last one is taken back first
abbrev pub rows_before : List Earlier → List Row → List Row
rows_before [] rows = rows
rows_before (e ∷ changes) rows = at_place e.at (declared_row e.is_read e.declared) (rows_before changes rows)
