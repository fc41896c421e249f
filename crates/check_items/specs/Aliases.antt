-- The aliases of a module itself.
use Rattle.std.specs.Prelude.{List}
use Rattle.alias_table.specs.Aliases.{Row}
use Rattle.check_values.specs.Rows.{Bytes}
use Rattle.check_world.specs.View.{meaning_in}
use Rattle.named_rows.specs.Seen.{seen}
use Rattle.check_items.specs.Meant.{meant_view, own_rows}
use Rattle.check_items.specs.declared.types.Types.{Types}

-- those of the module at a path, by what its names mean
abbrev pub own_aliases : Bytes → Types → List Row
own_aliases path types = own_rows path (meaning_in types.names) (seen meant_view types.rows.items)
