-- Which aliases are marked.
use Rattle.std.specs.Prelude.{Bool, if◌then◌else◌}
use Rattle.std.specs.Option.{is_some}
use Rattle.alias_table.specs.declared.aliases.Aliases.{Aliases}
use Rattle.alias_table.specs.Aliases.{Key, alias_type}
use Rattle.alias_table.specs.Indexing.{mark_in}

-- whether one of some aliases is marked
abbrev pub marked_in : Aliases → Key → Bool
marked_in aliases = mark_in aliases.modules aliases.marks.items

-- an alias that is among the first is marked by these, and each other one by the others
abbrev pub marked_by : Aliases → Aliases → Key → Bool
marked_by own others key = if is_some (alias_type own.rows key) then marked_in own key else marked_in others key
