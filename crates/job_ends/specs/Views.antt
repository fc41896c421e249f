-- What the nodes of the code stand for.
use Rattle.std.specs.Prelude.{List}
use Rattle.std.specs.Borrow.{Bor}
use Rattle.check_values.specs.Rows.{Bytes, Rows}
use Rattle.type_names.specs.Names.{Name}
use Rattle.named_rows.specs.Seen.{seen}
use Rattle.job_ends.specs.declared.nodes.Node as code
use Rattle.job_ends.specs.declared.nodes.Node.TheVariants.{Outer, Inner}
use Rattle.job_ends.specs.Jobs.{known_of}
use Rattle.job_ends.specs.Nodes.{Node, outer, inner}

abbrev pub node_view : code.Node → Node
node_view (Outer export) = outer export.now
node_view (Inner own origin) = inner own.now.member.now.path (known_of own.now.member.now) origin.now

-- the rows of a module
abbrev pub rows_view : List (Bytes × code.Node) → Rows Node
rows_view rows = seen node_view rows

-- a path and a name
abbrev pub name_view : Bor Bytes × Bor Bytes → Name
name_view name = (name.0.now, name.1.now)
