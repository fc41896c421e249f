-- What stands around the items of a module.
use Rattle.std.specs.Prelude.{ℕ, suc, ◌≡◌, ◌++◌, ◌&&◌, Bool, true, false, Option, Some, None, if◌then◌else◌}
use Rattle.js_grammar.specs.Items as g
use Rattle.alias_table.specs.Aliases.{Key}
use Rattle.alias_table.specs.Table.{is_marked}
use Rattle.check_values.specs.Rows.{Bytes, row_at}
use Rattle.check_values.specs.declared.codes.Code.{Code}
use Rattle.check_values.specs.declared.codes.Code.TheVariants.{RecursiveAlias, TypeAsValue, ValueAsType}
use Rattle.check_values.specs.declared.signatures.Deps.{Deps}
use Rattle.check_values.specs.declared.signatures.Sig.{Sig}
use Rattle.check_world.specs.View.{world_view, notes_view}
use Rattle.check_world.specs.declared.notes.Notes as own
use Rattle.local_signatures.specs.Scope as home
use Rattle.local_signatures.specs.Scope.{scope_of}
use Rattle.merged_signatures.specs.Chains.{found}
use Rattle.typing.specs.Names.{Scope, binding_of}
use Rattle.typing.specs.States.{World, Notes, fault_at, name_fault}
use Rattle.typing.specs.TypeFaults.{type_meant}
use Rattle.typing.specs.Functions.{Bound}
use Rattle.module_errors.specs.Program.{Program, said_in, type_bound}
use Rattle.module_errors.specs.Items.{is_bound_at, is_on_cycle}
use Rattle.import_sayings.specs.View.{found_of, said_of}
use Rattle.import_sayings.specs.declared.imports.Imports.{Imports}
use Rattle.check_items.specs.declared.items.Module.{Module}

-- this is what is seen of other modules, by a dependency list and merged signatures
pub record SaysOf (imports : Imports) (deps : Deps) (sigs : Bytes → Option Sig) : Type 0 where
  pub finds : (spec : Bytes) → found_of imports spec ≡ found deps spec
  pub says : (spec name : Bytes) → said_of imports spec name ≡ said_in deps sigs spec name

-- the same, in a program
abbrev pub Says : Imports → Program → Type 0
Says imports p = SaysOf imports p.deps p.sigs

-- a name is a type where a scope says so: no name of the scope is bound nowhere, and no value of it is a type
pub record NamesTypes (w : World) (top : home.Scope) : Type 0 where
  pub path : Bytes
  pub deps : Deps
  pub sigs : Bytes → Option Sig
  pub means : (name : Bytes) → w.type_meaning name ≡ type_bound path deps sigs name (row_at top name)

-- what is wrong with an export as a type (true) or as a value, by the fault of its name as a type
abbrev pub wrong_by : Bool → Option Code → Option Code
wrong_by true fault = fault
wrong_by false None = Some TypeAsValue
wrong_by false (Some ValueAsType) = None
wrong_by false (Some code) = Some code

-- a module is read by what it sees of a program
pub record Sees (around : Module) (p : Program) (m : g.Module) : Type 0 where
  pub imports : Says around.imports.now p
  pub cyclic : (key : Key) → is_marked around.world.now.table.now key ≡ p.is_cyclic key
  pub meaning : (name : Bytes) → (world_view around.world.now).type_meaning name ≡ type_bound p.path p.deps p.sigs name (row_at (scope_of m) name)

-- names were bound over those of a scope, with these notes
abbrev pub bound_over : Scope → Scope → own.Notes → Bound → Type 0
bound_over old new n bound = (new ≡ record old { names = bound.names ++ old.names }) × (notes_view n ≡ bound.notes)

-- an alias of this name, at a token, counts, and the name lies on a cycle
abbrev pub is_recursive : World → Program → Scope → ℕ → Bytes → Bool
is_recursive w p scope token name = is_bound_at token (binding_of scope.names name) && is_on_cycle p.is_cyclic (type_meant (w.type_meaning name))

-- which is a fault
abbrev pub recursive_noted : World → Program → Scope → g.AliasOf → Notes → Notes
recursive_noted w p scope (g.alias f t name v) notes =
    if is_recursive w p scope (suc f) name then name_fault (fault_at w (suc f) (suc (suc f)) RecursiveAlias name) notes else notes
