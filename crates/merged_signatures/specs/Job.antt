-- Merging some modules of a program, where others outside are merged already.
use Rattle.std.specs.Prelude.{ℕ, zero, suc, Bool, true, false, List, map, Option, Some, None, unwrap_or}
use Rattle.check_values.specs.Rows.{Bytes, Rows, row_at}
use Rattle.check_values.specs.declared.signatures.Export.{Export}
use Rattle.check_values.specs.declared.signatures.Export.TheVariants as export
use Rattle.check_values.specs.declared.signatures.Sig.{Sig}
use Rattle.type_names.specs.Names.{Name}
use Rattle.merged_signatures.specs.Chains.{Known, View, End, at_value, at_alias, unknown, cyclic, of_kind, Step, ends, goes, step_in, most}
use Rattle.merged_signatures.specs.Merged.{as_alias, type_at, type_with, signature_with}

-- the members with what is known of them, and the merged signatures of modules outside
pub record Job : Type 0 where
  pub members : Rows Known
  pub outside : Rows Sig

-- the members as a program of their own
abbrev pub members_view : Job → View
members_view job path = row_at job.members path

-- a chain ends at a member, or with what the signature of a module outside tells
pub data JobEnd : Type 0 where
  inside : End → JobEnd
  told : Export → JobEnd

-- what is told is unknown where it is of the other kind than what was asked for
abbrev pub told_of_kind : Bool → Export → Export
told_of_kind true (export.Value t) = export.Unknown
told_of_kind false (export.Alias path name) = export.Unknown
told_of_kind is_type e = e

-- and so is the end of a chain
abbrev pub job_of_kind : Bool → JobEnd → JobEnd
job_of_kind is_type (inside end) = inside (of_kind is_type end)
job_of_kind is_type (told e) = told (told_of_kind is_type e)

-- the end of a step, where rest tells the end from the next name
abbrev pub job_end_of : (Bytes → Bytes → JobEnd) → Step → JobEnd
job_end_of rest (ends end) = inside end
job_end_of rest (goes is_type path name) = job_of_kind is_type (rest path name)

-- what a signature tells of a name; a name that it lacks is unknown
abbrev pub told_by : Sig → Bytes → Export
told_by s name = unwrap_or (row_at s.exports name) export.Unknown

-- the end of the chain from a name, where it comes within some steps
abbrev pub job_end_within : Job → ℕ → Bytes → Bytes → JobEnd
job_end_within job zero path name = inside cyclic
job_end_within job (suc steps) path name =
    elim (row_at job.outside path) [
      | Some s ↦ told (told_by s name)
      | None ↦ job_end_of (job_end_within job steps) (step_in path (members_view job path) name)
    ]

-- where the chain from a name ends, as the job tells it
abbrev pub job_denotes : Job → Bytes → Bytes → JobEnd
job_denotes job path name = job_end_within job most path name

-- the alias that is told, if one is
abbrev pub alias_told : Export → Option Name
alias_told (export.Alias path name) = Some (path, name)
alias_told e = None

-- the alias at which a chain ends, if it ends at one
abbrev pub job_as_alias : JobEnd → Option Name
job_as_alias (inside end) = as_alias end
job_as_alias (told e) = alias_told e

-- the alias that a name denotes, asked for as a type or as a value
abbrev pub job_alias_at : Job → Bool → Bytes → Bytes → Option Name
job_alias_at job is_type path name = job_as_alias (job_of_kind is_type (job_denotes job path name))

-- what is exported under a name whose chain ends so
abbrev pub job_export_of : Job → JobEnd → Export
job_export_of job (inside (at_value path t)) = export.Value (type_at (job_alias_at job) path (members_view job path) t)
job_export_of job (inside (at_alias path name)) = export.Alias path name
job_export_of job (inside unknown) = export.Unknown
job_export_of job (inside cyclic) = export.Cyclic
job_export_of job (told e) = e

-- the merged signature of a member
abbrev pub job_merged : Job → Bytes × Known → Sig
job_merged job (path, m) =
    signature_with (λ name. job_export_of job (job_denotes job path name)) (type_with (job_alias_at job) path m) m

-- the merged signatures of the members, in order
abbrev pub job_signatures : Job → List Sig
job_signatures job = map (job_merged job) job.members
