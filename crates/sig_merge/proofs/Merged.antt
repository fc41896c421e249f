-- The signatures of a job are those of the definitions.
use Rattle.std.proofs.Common.{◌≡◌, ℕ, Bool, List, [], ◌∷◌, map, slice_get, Option, Some, None, option_map, unwrap_or, refl, sym, ap, ◌∙◌}
use Rattle.std.proofs.lemmas.Option.{slice_get-map}
use Rattle.check_values.specs.Rows.{Bytes}
use Rattle.check_values.specs.declared.signatures.Export.{Export}
use Rattle.check_values.specs.declared.signatures.Export.TheVariants as export
use Rattle.check_values.specs.declared.signatures.Sig.{Sig}
use Rattle.type_names.specs.Names.{Name}
use Rattle.chain_ends.specs.declared.links.End.{End}
use Rattle.chain_ends.specs.declared.links.End.TheVariants.{Value, Alias, Unknown, Cyclic}
use Rattle.merged_signatures.specs.Merged.{type_with, signature_with}
use Rattle.merged_signatures.specs.Job.{Job, job_alias_at, job_denotes, job_export_of, job_merged, job_signatures}
use Rattle.job_ends.specs.declared.job.MergeMember.{MergeMember}
use Rattle.job_ends.specs.declared.job.MergeJob.{MergeJob}
use Rattle.job_ends.specs.declared.member.Member.{Member}
use Rattle.job_ends.specs.declared.nodes.Node as code
use Rattle.job_ends.specs.declared.ends.JobEnds.{JobEnds}
use Rattle.job_ends.specs.Jobs.{known_of, member_view, job_view}
use Rattle.job_ends.specs.Nodes.{node_export, only_value, only_alias, end_export}
use Rattle.job_ends.specs.Views.{node_view}
use Rattle.job_ends.specs.Telling.{code_nodes, nodes_in, end_in, alias_in, TellsJob}
use Rattle.sig_merge.specs.Merging.{types_in, export_in, signature_by}

-- what each node of the code exports
abbrev pub exports_in : JobEnds → List Export
exports_in ends = map (λ node. node_export (types_in ends) (Some (node_view node))) (code_nodes ends)

module _ (ends : JobEnds) where
  one_node : (o : Option code.Node) → unwrap_or (option_map (λ node. node_export (types_in ends) (Some (node_view node))) o) export.Unknown ≡ node_export (types_in ends) (option_map node_view o)
  one_node None = refl
  one_node (Some node) = refl

  at_node : (n : ℕ) → unwrap_or (slice_get (exports_in ends) n) export.Unknown ≡ node_export (types_in ends) (slice_get (nodes_in ends) n)
  at_node n =
      ap (λ (o : Option Export). unwrap_or o export.Unknown) (slice_get-map (λ node. node_export (types_in ends) (Some (node_view node))) (code_nodes ends) n)
      ∙ one_node (slice_get (code_nodes ends) n) ∙ ap (node_export (types_in ends)) (sym (slice_get-map node_view (code_nodes ends) n))

  by_end : (end : End) → export_in (exports_in ends) end ≡ end_export (types_in ends) (nodes_in ends) end
  by_end (Value n) = ap only_value (at_node n)
  by_end (Alias n) = ap only_alias (at_node n)
  by_end Unknown = refl
  by_end Cyclic = refl

  module _ (job : Job) (tells : TellsJob job ends) (aliases : (is_type : Bool) (path name : Bytes) → alias_in ends is_type path name ≡ job_alias_at job is_type path name) where
    same_aliases : alias_in ends ≡ job_alias_at job
    same_aliases = λ i. λ is_type path name. aliases is_type path name i

    exported : (path name : Bytes) → export_in (exports_in ends) (end_in ends path name) ≡ job_export_of job (job_denotes job path name)
    exported path name =
        by_end (end_in ends path name)
        ∙ ap (λ (a : Bool → Bytes → Bytes → Option Name). end_export (λ p m t. type_with a p m t) (nodes_in ends) (end_in ends path name)) same_aliases
        ∙ tells path name

    one_signature : (m : MergeMember) → signature_by ends (exports_in ends) m ≡ job_merged job (member_view m)
    one_signature m = λ i. signature_with (λ name. exported m.path name i) (type_with (same_aliases i) m.path (known_of m)) (known_of m)

    all_signatures : (all : List MergeMember) → map (signature_by ends (exports_in ends)) all ≡ map (job_merged job) (map member_view all)
    all_signatures [] = refl
    all_signatures (m ∷ all) = ap (λ (s : Sig). s ∷ map (signature_by ends (exports_in ends)) all) (one_signature m) ∙ ap (λ (l : List Sig). job_merged job (member_view m) ∷ l) (all_signatures all)

by_members : (f : MergeMember → Sig) (members : List Member) → map (λ own. f own.member.now) members ≡ map f (map (λ own. own.member.now) members)
by_members f [] = refl
by_members f (own ∷ members) = ap (λ (l : List Sig). f own.member.now ∷ l) (by_members f members)

pub job_merges : (job : MergeJob) (ends : JobEnds) (exports seen_exports : List Export) (members : List Member) → TellsJob (job_view job) ends →
    ((is_type : Bool) (path name : Bytes) → alias_in ends is_type path name ≡ job_alias_at (job_view job) is_type path name) →
    exports ≡ exports_in ends → seen_exports ≡ exports → map (λ own. own.member.now) members ≡ job.members →
    map (λ own. signature_by ends seen_exports own.member.now) members ≡ job_signatures (job_view job)
job_merges job ends exports seen_exports members tells aliases made shown all =
    ap (λ (l : List Export). map (λ own. signature_by ends l own.member.now) members) (shown ∙ made)
    ∙ by_members (signature_by ends (exports_in ends)) members ∙ ap (map (signature_by ends (exports_in ends))) all ∙ all_signatures ends (job_view job) tells aliases job.members
