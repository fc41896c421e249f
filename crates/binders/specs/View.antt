-- What is bound since a height.
use Rattle.std.specs.Prelude.{◌≡◌, ◌++◌, List}
use Rattle.std.specs.BTreeSet.{BTreeSet, contains}
use Rattle.std.specs.Cmp.Lexicographic.{slice_cmp}
use Rattle.std.specs.Ordering.{nat_cmp}
use Rattle.check_values.specs.Rows.{Bytes}
use Rattle.typing.specs.Changes.{Change, is_set_inside}
use Rattle.typing.specs.Names.{Binding}
use Rattle.typing.specs.Functions.{Bound}
use Rattle.check_world.specs.View.{notes_view}
use Rattle.check_world.specs.declared.notes.Notes.{Notes}
use Rattle.scopes.specs.View.{names_in, names_since, KeepsHeights}
use Rattle.scopes.specs.declared.row.Height.{Height}
use Rattle.scopes.specs.declared.scope.Scope.{Scope}

-- the names that were bound since a height, and the notes
abbrev pub bound_since : Height → Scope → Notes → Bound
bound_since height s n = record { names = names_since height s; notes = notes_view n }

-- names were bound since a height, and nothing else was changed
pub record Binds (height : Height) (old new : Scope) : Type 0 where
  pub names : (outer : List Binding) → names_in old ≡ names_since height old ++ outer → names_in new ≡ names_since height new ++ outer
  pub heights : KeepsHeights old new
  pub depth : new.depth ≡ old.depth
  pub result : new.result ≡ old.result

-- the names that are assigned in a function inside, where code changes in these ways
abbrev pub TellsInner : BTreeSet Bytes → List Change → Type 0
TellsInner names changes = (name : Bytes) → contains (slice_cmp nat_cmp) names name ≡ is_set_inside changes name
