-- What the scopes of the code stand for.
use Rattle.std.specs.Prelude.{◌≡◌, ◌≤◌, List, [], ◌∷◌, ◌++◌, length, take, drop}
use Rattle.typing.specs.Names as typing
use Rattle.scopes.specs.Rows.{kind_view, names_view, declared_row, rows_before}
use Rattle.scopes.specs.Stack.{at_place}
use Rattle.scopes.specs.declared.binding.Meaning.{Meaning}
use Rattle.scopes.specs.declared.binding.Meaning.TheVariants as meaning
use Rattle.scopes.specs.declared.row.Row.{Row}
use Rattle.scopes.specs.declared.row.Earlier.{Earlier}
use Rattle.scopes.specs.declared.row.Height.{Height}
use Rattle.scopes.specs.declared.scope.Scope.{Scope}

-- what a name means in the code tells what it means
abbrev pub Tells : Meaning → typing.Meaning → Type 0
Tells (meaning.Variable v t) (typing.variable_of b u) = (v.number ≡ b.number) × (kind_view v.kind ≡ b.kind) × (t ≡ u)
Tells (meaning.NoVariable own) (typing.no_variable code) = own ≡ code
Tells own other = ⊥

abbrev pub names_in : Scope → List typing.Binding
names_in s = names_view s.rows.items

abbrev pub scope_view : Scope → typing.Scope
scope_view s = record { names = names_view s.rows.items; depth = s.depth; result = s.result }

-- the rows that were there at a height
abbrev pub rows_at : Height → Scope → List Row
rows_at height s = rows_before (drop height.changes s.changes.items) (take height.rows s.rows.items)

-- the names of a height, and those that were bound since
abbrev pub names_at : Height → Scope → List typing.Binding
names_at height s = names_view (rows_at height s)

abbrev pub names_since : Height → Scope → List typing.Binding
names_since height s = names_view (drop height.rows s.rows.items)

-- the scope is above a height
abbrev pub IsHeight : Height → Scope → Type 0
IsHeight height s = (height.rows ≤ length s.rows.items) × (height.changes ≤ length s.changes.items)

-- the height is that of the scope
abbrev pub IsTop : Height → Scope → Type 0
IsTop height s = (height.rows ≡ length s.rows.items) × (height.changes ≡ length s.changes.items)

-- each height of the scope before is one of the scope after, with the same names
abbrev pub KeepsHeights : Scope → Scope → Type 0
KeepsHeights before after = (height : Height) → IsHeight height before → IsHeight height after × (names_at height after ≡ names_at height before)

-- the last name was taken away, and nothing else
abbrev pub DropsLast : Scope → Scope → Type 0
DropsLast before after =
    ((row : Row) × (before.rows.items ≡ after.rows.items ++ row ∷ []))
    × (after.changes.items ≡ before.changes.items) × (after.depth ≡ before.depth) × (after.result ≡ before.result)

-- the last change was taken back, and nothing else
abbrev pub TakesBack : Scope → Scope → Type 0
TakesBack before after =
    ((e : Earlier) × (before.changes.items ≡ after.changes.items ++ e ∷ []) × (after.rows.items ≡ at_place e.at (declared_row e.is_read e.declared) before.rows.items))
    × (after.depth ≡ before.depth) × (after.result ≡ before.result)

-- names and changes since a height are gone, or some of them, and nothing else
abbrev pub GoesBack : Height → Scope → Scope → Type 0
GoesBack height before after =
    ((rows_at height after ≡ rows_at height before) × (take height.changes after.changes.items ≡ take height.changes before.changes.items))
    × (after.depth ≡ before.depth) × (after.result ≡ before.result)
