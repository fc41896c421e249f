-- The names of a job as nodes.
use Rattle.std.specs.Prelude.{List, ◌++◌, map, slice_get, Option, Some, None}
use Rattle.check_values.specs.Rows.{Bytes, Rows}
use Rattle.check_values.specs.declared.signatures.Export.{Export}
use Rattle.check_values.specs.declared.signatures.Export.TheVariants as export
use Rattle.check_values.specs.declared.signatures.Origin.{Origin}
use Rattle.check_values.specs.declared.signatures.Origin.TheVariants as origin
use Rattle.check_values.specs.declared.signatures.Sig.{Sig}
use Rattle.type_names.specs.Names.{Name}
use Rattle.type_values.specs.declared.types.FlowType.{FlowType}
use Rattle.chain_ends.specs.declared.links.End.{End}
use Rattle.chain_ends.specs.declared.links.End.TheVariants.{Value, Alias, Unknown, Cyclic}
use Rattle.merged_signatures.specs.Chains.{Known}
use Rattle.merged_signatures.specs.Job.{Job}

-- what a job knows of a name: what a signature outside tells, or what a member says of an export
pub data Node : Type 0 where
  outer : Export → Node
  inner : Bytes → Known → Origin → Node

-- the exports of a signature outside
abbrev pub outer_rows : Sig → Rows Node
outer_rows s = map (λ row. (row.0, outer row.1)) s.exports

-- the exports of a member
abbrev pub inner_rows : Bytes → Known → Rows Node
inner_rows path m = map (λ row. (row.0, inner path m row.1)) m.sig.exports

-- the exports of modules outside
abbrev pub outer_modules : Rows Sig → Rows (Rows Node)
outer_modules outside = map (λ row. (row.0, outer_rows row.1)) outside

abbrev pub inner_module : Bytes × Known → Bytes × Rows Node
inner_module row = (row.0, inner_rows row.0 row.1)

-- the exports of each module of a job; those outside come before the members
abbrev pub nodes_by_module : Job → Rows (Rows Node)
nodes_by_module job = outer_modules job.outside ++ map inner_module job.members

-- what is exported under a name whose chain ends at a node; types tells a member's type with its names replaced
abbrev pub node_export : (Bytes → Known → FlowType → FlowType) → Option Node → Export
node_export types None = export.Unknown
node_export types (Some (outer e)) = e
node_export types (Some (inner path m (origin.Value t))) = export.Value (types path m t)
node_export types (Some (inner path m (origin.Alias name))) = export.Alias path name
node_export types (Some (inner path m (origin.Import spec name is_type))) = export.Unknown
node_export types (Some (inner path m origin.Unknown)) = export.Unknown

-- a value as it is, and all else as unknown
abbrev pub only_value : Export → Export
only_value (export.Value t) = export.Value t
only_value e = export.Unknown

-- an alias as it is, and all else as unknown
abbrev pub only_alias : Export → Export
only_alias (export.Alias path name) = export.Alias path name
only_alias e = export.Unknown

-- what is exported under a name whose chain ends so
abbrev pub end_export : (Bytes → Known → FlowType → FlowType) → List Node → End → Export
end_export types nodes (Value n) = only_value (node_export types (slice_get nodes n))
end_export types nodes (Alias n) = only_alias (node_export types (slice_get nodes n))
end_export types nodes Unknown = export.Unknown
end_export types nodes Cyclic = export.Cyclic

-- the alias that a node is, if it is one
abbrev pub node_alias : Option Node → Option Name
node_alias None = None
node_alias (Some (outer (export.Alias path name))) = Some (path, name)
node_alias (Some (outer e)) = None
node_alias (Some (inner path m (origin.Alias name))) = Some (path, name)
node_alias (Some (inner path m o)) = None

-- the alias at which a chain ends, if it ends at one
abbrev pub end_alias : List Node → End → Option Name
end_alias nodes (Alias n) = node_alias (slice_get nodes n)
end_alias nodes end = None
