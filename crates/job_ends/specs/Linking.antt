-- The steps of the chains of a job, between the numbers of its names.
use Rattle.std.specs.Prelude.{ℕ, suc, Bool, List, [], ◌∷◌, Option, Some, None, if◌then◌else◌}
use Rattle.check_values.specs.Rows.{Bytes}
use Rattle.check_values.specs.declared.signatures.Export.{Export}
use Rattle.check_values.specs.declared.signatures.Export.TheVariants as export
use Rattle.check_values.specs.declared.signatures.Origin.{Origin}
use Rattle.check_values.specs.declared.signatures.Origin.TheVariants as origin
use Rattle.check_values.specs.declared.signatures.Deps.{Deps}
use Rattle.chain_ends.specs.declared.links.End.{End}
use Rattle.chain_ends.specs.declared.links.End.TheVariants.{Value, Alias, Unknown, Cyclic}
use Rattle.chain_ends.specs.declared.links.Link.{Link}
use Rattle.chain_ends.specs.declared.links.Link.TheVariants.{Ends, Goes}
use Rattle.merged_signatures.specs.Chains.{found}
use Rattle.job_ends.specs.Nodes.{Node, outer, inner}

-- what a signature outside tells ends a chain
abbrev pub outer_end : ℕ → Export → End
outer_end n (export.Value t) = Value n
outer_end n (export.Alias path name) = Alias n
outer_end n export.Unknown = Unknown
outer_end n export.Cyclic = Cyclic

-- a chain goes on at a name of the module that was found, if one was
abbrev pub link_to : (Bytes → Bytes → ℕ) → Bool → Bytes → Option Bytes → Link
link_to number is_type name None = Ends Unknown
link_to number is_type name (Some path) = Goes is_type (number path name)

-- the step from an export of a member that isn't broken
abbrev pub origin_link : (Bytes → Bytes → ℕ) → ℕ → Deps → Origin → Link
origin_link number n deps (origin.Value t) = Ends (Value n)
origin_link number n deps (origin.Alias name) = Ends (Alias n)
origin_link number n deps (origin.Import spec name is_type) = link_to number is_type name (found deps spec)
origin_link number n deps origin.Unknown = Ends Unknown

-- the step from the node of a number; a broken member's exports are unknown
abbrev pub link_of : (Bytes → Bytes → ℕ) → ℕ → Node → Link
link_of number n (outer e) = Ends (outer_end n e)
link_of number n (inner path m o) = if m.sig.broken then Ends Unknown else origin_link number n m.deps o

-- the steps from nodes, which are numbered from n on
abbrev pub links_from : (Bytes → Bytes → ℕ) → ℕ → List Node → List Link
links_from number n [] = []
links_from number n (node ∷ nodes) = link_of number n node ∷ links_from number (suc n) nodes
