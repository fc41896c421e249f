-- What changes of the code stand for.
use Rattle.std.specs.Prelude.{List, map}
use Rattle.typing.specs.Changes as typing
use Rattle.code_changes.specs.declared.change.Change.{Change}
use Rattle.code_changes.specs.declared.change.Change.TheVariants as change

-- one thing that code may change
abbrev pub change_view : Change → typing.Change
change_view (change.SetsVariable inner name) = typing.sets_variable inner name
change_view (change.SetsProperty name) = typing.sets_property name
change_view change.MaySetAll = typing.may_set_all

unfoldable pub changes_view : List Change → List typing.Change
changes_view changes = map change_view changes
