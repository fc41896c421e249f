-- The merged signature of a module: its local signature in the whole program.
use Rattle.std.specs.Prelude.{Bool, List, [], ◌∷◌, map, Option, Some, None, option_map, if◌then◌else◌, is_some}
use Rattle.std.specs.Str.{bytes_eq}
use Rattle.check_values.specs.Rows.{Bytes, row_at}
use Rattle.check_values.specs.declared.signatures.ImportRow.{ImportRow}
use Rattle.check_values.specs.declared.signatures.Deps.{Deps}
use Rattle.check_values.specs.declared.signatures.Export.{Export}
use Rattle.check_values.specs.declared.signatures.Export.TheVariants as export
use Rattle.check_values.specs.declared.signatures.Sig.{Sig}
use Rattle.type_values.specs.declared.types.FlowType.{FlowType}
use Rattle.type_values.specs.declared.types.FlowType as made
use Rattle.type_names.specs.Names.{Name, replaced}
use Rattle.merged_signatures.specs.Chains.{Known, View, found, End, at_value, at_alias, unknown, cyclic, of_kind, denotes}

-- the first import under a local name
abbrev pub import_at : List ImportRow → Bytes → Option ImportRow
import_at [] local = None
import_at (row ∷ rows) local = if bytes_eq row.local local then Some row else import_at rows local

-- the alias at which a chain ends, if it ends at one
abbrev pub as_alias : End → Option Name
as_alias (at_alias path name) = Some (path, name)
as_alias end = None

-- the alias that a name of a module denotes, asked for as a type or as a value
abbrev pub alias_at : View → Bool → Bytes → Bytes → Option Name
alias_at v is_type path name = as_alias (of_kind is_type (denotes v path name))

-- the alias that an import stands for; aliases tells the alias that a name of another module denotes
abbrev pub alias_through : (Bool → Bytes → Bytes → Option Name) → ImportRow → Option Bytes → Option Name
alias_through aliases row None = None
alias_through aliases row (Some path) = aliases row.is_type path row.name

-- the alias that a name stands for by its import, if it has one
abbrev pub alias_imported : (Bool → Bytes → Bytes → Option Name) → Deps → Option ImportRow → Option Name
alias_imported aliases deps None = None
alias_imported aliases deps (Some row) = alias_through aliases row (found deps row.spec)

-- the alias that a local name of a module stands for: one of its own, or one that it imports
abbrev pub alias_named : (Bool → Bytes → Bytes → Option Name) → Bytes → Known → Bytes → Option Name
alias_named aliases path m local =
    if is_some (row_at m.sig.aliases local) then Some (path, local) else alias_imported aliases m.deps (import_at m.sig.imports local)

-- a name in a type, replaced by the alias that it stands for, or else by `any`
abbrev pub name_type : Option Name → FlowType
name_type None = made.Any
name_type (Some name) = made.Ref name.0 name.1

-- a type of a module's own signature, with its names replaced
abbrev pub type_with : (Bool → Bytes → Bytes → Option Name) → Bytes → Known → FlowType → FlowType
type_with aliases path m t = replaced (λ n. name_type (alias_named aliases path m n.1)) t

-- a type of a module's own signature, with its names replaced; `any` where nothing is known of the module
abbrev pub type_at : (Bool → Bytes → Bytes → Option Name) → Bytes → Option Known → FlowType → FlowType
type_at aliases path None t = made.Any
type_at aliases path (Some m) t = type_with aliases path m t

-- what is exported under a name whose chain ends so
abbrev pub export_of : View → End → Export
export_of v (at_value path t) = export.Value (type_at (alias_at v) path (v path) t)
export_of v (at_alias path name) = export.Alias path name
export_of v unknown = export.Unknown
export_of v cyclic = export.Cyclic

-- the signature of a module whose exports and whose aliases are told
abbrev pub signature_with : (Bytes → Export) → (FlowType → FlowType) → Known → Sig
signature_with exports types m =
    record {
      broken = m.sig.broken;
      exports = map (λ row. (row.0, exports row.0)) m.sig.exports;
      aliases = map (λ row. (row.0, types row.1)) m.sig.aliases;
    }

-- each export is what its name denotes, and each alias has its names replaced
abbrev pub merged_known : View → Bytes → Known → Sig
merged_known v path m = signature_with (λ name. export_of v (denotes v path name)) (type_with (alias_at v) path m) m

-- the merged signature of a module of a program
abbrev pub merged : View → Bytes → Option Sig
merged v path = option_map (merged_known v path) (v path)
