-- Signatures by where the names of a job end.
use Rattle.std.specs.Prelude.{List, slice_get, unwrap_or}
use Rattle.check_values.specs.Rows.{Bytes}
use Rattle.check_values.specs.declared.signatures.Export.{Export}
use Rattle.check_values.specs.declared.signatures.Export.TheVariants as export
use Rattle.check_values.specs.declared.signatures.Sig.{Sig}
use Rattle.type_values.specs.declared.types.FlowType.{FlowType}
use Rattle.chain_ends.specs.declared.links.End.{End}
use Rattle.chain_ends.specs.declared.links.End.TheVariants.{Value, Alias, Unknown, Cyclic}
use Rattle.merged_signatures.specs.Chains.{Known}
use Rattle.merged_signatures.specs.Merged.{type_with, signature_with}
use Rattle.job_ends.specs.declared.job.MergeMember.{MergeMember}
use Rattle.job_ends.specs.declared.ends.JobEnds.{JobEnds}
use Rattle.job_ends.specs.Jobs.{known_of}
use Rattle.job_ends.specs.Nodes.{only_value, only_alias}
use Rattle.job_ends.specs.Telling.{end_in, alias_in}

-- a type of a module, with its names replaced
abbrev pub types_in : JobEnds → Bytes → Known → FlowType → FlowType
types_in ends path m t = type_with (alias_in ends) path m t

-- a type of a member, with its names replaced
abbrev pub type_in : JobEnds → MergeMember → FlowType → FlowType
type_in ends m t = types_in ends m.path (known_of m) t

-- what is exported under a name whose chain ends so, by what each node exports
abbrev pub export_in : List Export → End → Export
export_in exports (Value n) = only_value (unwrap_or (slice_get exports n) export.Unknown)
export_in exports (Alias n) = only_alias (unwrap_or (slice_get exports n) export.Unknown)
export_in exports Unknown = export.Unknown
export_in exports Cyclic = export.Cyclic

-- the signature of a member
abbrev pub signature_by : JobEnds → List Export → MergeMember → Sig
signature_by ends exports m = signature_with (λ name. export_in exports (end_in ends m.path name)) (type_in ends m) (known_of m)
