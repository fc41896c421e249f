-- What the ends of a job tell.
use Rattle.std.specs.Prelude.{◌≡◌, Bool, List, map, slice_get, unwrap_or, Option}
use Rattle.check_values.specs.Rows.{Bytes}
use Rattle.type_names.specs.Names.{Name}
use Rattle.type_values.specs.declared.types.FlowType.{FlowType}
use Rattle.chain_ends.specs.Following.{of_kind}
use Rattle.chain_ends.specs.declared.links.End.{End}
use Rattle.chain_ends.specs.declared.links.End.TheVariants.{Unknown}
use Rattle.merged_signatures.specs.Chains.{Known}
use Rattle.merged_signatures.specs.Merged.{type_with}
use Rattle.merged_signatures.specs.Job.{Job, job_alias_at, job_export_of, job_denotes}
use Rattle.name_numbers.specs.Numbering.{number_in, nodes_of}
use Rattle.job_ends.specs.declared.nodes.Node as code
use Rattle.job_ends.specs.declared.ends.JobEnds.{JobEnds}
use Rattle.job_ends.specs.Nodes.{Node, end_export, end_alias}
use Rattle.job_ends.specs.Views.{node_view}

abbrev pub code_nodes : JobEnds → List code.Node
code_nodes ends = nodes_of ends.numbered

-- what is known of the names, by their numbers
abbrev pub nodes_in : JobEnds → List Node
nodes_in ends = map node_view (code_nodes ends)

-- where the chain of a name ends
abbrev pub end_in : JobEnds → Bytes → Bytes → End
end_in ends path name = unwrap_or (slice_get ends.ends.items (number_in ends.numbered path name)) Unknown

-- the alias that a name denotes, asked for as a type or as a value
abbrev pub alias_in : JobEnds → Bool → Bytes → Bytes → Option Name
alias_in ends is_type path name = end_alias (nodes_in ends) (of_kind is_type (end_in ends path name))

-- a member's type, with its names replaced by what they denote in the job
abbrev pub job_type : Job → Bytes → Known → FlowType → FlowType
job_type job path m t = type_with (job_alias_at job) path m t

-- the end of each name tells what the name denotes in the job
abbrev pub TellsJob : Job → JobEnds → Type 0
TellsJob job ends = (path name : Bytes) → end_export (job_type job) (nodes_in ends) (end_in ends path name) ≡ job_export_of job (job_denotes job path name)
