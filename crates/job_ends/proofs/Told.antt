-- The end of a chain between numbers tells what the job's chain does.
use Rattle.std.proofs.Common.{◌≡◌, ℕ, zero, suc, ◌+◌, Bool, true, false, cond, List, [], ◌∷◌, slice_get, Option, Some, None, option_map, unwrap_or, refl, sym, ap, ◌∙◌, arith}
use Rattle.check_values.specs.Rows.{Bytes, row_at}
use Rattle.check_values.specs.declared.signatures.Export.{Export}
use Rattle.check_values.specs.declared.signatures.Export.TheVariants as export
use Rattle.check_values.specs.declared.signatures.Origin.{Origin}
use Rattle.check_values.specs.declared.signatures.Origin.TheVariants as origin
use Rattle.check_values.specs.declared.signatures.Sig.{Sig}
use Rattle.type_values.specs.declared.types.FlowType.{FlowType}
use Rattle.chain_ends.specs.declared.links.End.{End}
use Rattle.chain_ends.specs.declared.links.End.TheVariants.{Value, Alias, Unknown, Cyclic}
use Rattle.chain_ends.specs.declared.links.Link.{Link}
use Rattle.chain_ends.specs.declared.links.Link.TheVariants.{Ends}
use Rattle.chain_ends.specs.Following as follow
use Rattle.chain_ends.specs.Following.{chain_end, end_within}
use Rattle.merged_signatures.specs.Chains as chain
use Rattle.merged_signatures.specs.Chains.{Known, found, at_value, at_alias, unknown, cyclic, ends, goes_to, step_in, step_of}
use Rattle.merged_signatures.specs.Merged.{type_with, type_at}
use Rattle.merged_signatures.specs.Job.{Job, JobEnd, inside, told, told_of_kind, job_of_kind, job_end_of, told_by, job_end_within, job_denotes, alias_told, job_as_alias, job_alias_at, job_export_of, members_view}
use Rattle.name_numbers.specs.Looking.{looked}
use Rattle.job_ends.specs.Nodes.{Node, outer, inner, nodes_by_module, node_export, only_value, only_alias, end_export, node_alias, end_alias}
use Rattle.job_ends.specs.Linking.{link_to, origin_link, link_of, links_from}
use Rattle.job_ends.proofs.Looked.{member_node, job_node, job_looked}

-- ---- kinds

value_kind : (k : Bool) (e : Export) → told_of_kind k (only_value e) ≡ cond k export.Unknown (only_value e)
value_kind true (export.Value t) = refl
value_kind true (export.Alias path name) = refl
value_kind true export.Unknown = refl
value_kind true export.Cyclic = refl
value_kind false (export.Value t) = refl
value_kind false (export.Alias path name) = refl
value_kind false export.Unknown = refl
value_kind false export.Cyclic = refl

alias_kind : (k : Bool) (e : Export) → told_of_kind k (only_alias e) ≡ cond k (only_alias e) export.Unknown
alias_kind true (export.Value t) = refl
alias_kind true (export.Alias path name) = refl
alias_kind true export.Unknown = refl
alias_kind true export.Cyclic = refl
alias_kind false (export.Value t) = refl
alias_kind false (export.Alias path name) = refl
alias_kind false export.Unknown = refl
alias_kind false export.Cyclic = refl

module _ (types : Bytes → Known → FlowType → FlowType) (nodes : List Node) where
  pub end_kind : (k : Bool) (end : End) → end_export types nodes (follow.of_kind k end) ≡ told_of_kind k (end_export types nodes end)
  end_kind true (Value n) = sym (value_kind true (node_export types (slice_get nodes n)))
  end_kind true (Alias n) = sym (alias_kind true (node_export types (slice_get nodes n)))
  end_kind true Unknown = refl
  end_kind true Cyclic = refl
  end_kind false (Value n) = sym (value_kind false (node_export types (slice_get nodes n)))
  end_kind false (Alias n) = sym (alias_kind false (node_export types (slice_get nodes n)))
  end_kind false Unknown = refl
  end_kind false Cyclic = refl

  no_alias : (e : Export) → alias_told (only_value e) ≡ None
  no_alias (export.Value t) = refl
  no_alias (export.Alias path name) = refl
  no_alias export.Unknown = refl
  no_alias export.Cyclic = refl

  of_node : (node : Option Node) → alias_told (only_alias (node_export types node)) ≡ node_alias node
  of_node None = refl
  of_node (Some (outer (export.Value t))) = refl
  of_node (Some (outer (export.Alias path name))) = refl
  of_node (Some (outer export.Unknown)) = refl
  of_node (Some (outer export.Cyclic)) = refl
  of_node (Some (inner path m (origin.Value t))) = refl
  of_node (Some (inner path m (origin.Alias name))) = refl
  of_node (Some (inner path m (origin.Import spec name k))) = refl
  of_node (Some (inner path m origin.Unknown)) = refl

  -- the alias of an end is the one that it exports
  pub alias_of_end : (end : End) → alias_told (end_export types nodes end) ≡ end_alias nodes end
  alias_of_end (Value n) = no_alias (node_export types (slice_get nodes n))
  alias_of_end (Alias n) = of_node (slice_get nodes n)
  alias_of_end Unknown = refl
  alias_of_end Cyclic = refl

module _ (job : Job) where
  pub job_kind : (k : Bool) (j : JobEnd) → job_export_of job (job_of_kind k j) ≡ told_of_kind k (job_export_of job j)
  job_kind true (inside (at_value path t)) = refl
  job_kind true (inside (at_alias path name)) = refl
  job_kind true (inside unknown) = refl
  job_kind true (inside cyclic) = refl
  job_kind true (told e) = refl
  job_kind false (inside (at_value path t)) = refl
  job_kind false (inside (at_alias path name)) = refl
  job_kind false (inside unknown) = refl
  job_kind false (inside cyclic) = refl
  job_kind false (told e) = refl

  pub job_alias : (j : JobEnd) → alias_told (job_export_of job j) ≡ job_as_alias j
  job_alias (inside (at_value path t)) = refl
  job_alias (inside (at_alias path name)) = refl
  job_alias (inside unknown) = refl
  job_alias (inside cyclic) = refl
  job_alias (told e) = refl

-- ---- the links

link_at : (number : Bytes → Bytes → ℕ) (from : ℕ) (nodes : List Node) (n : ℕ) → slice_get (links_from number from nodes) n ≡ option_map (link_of number (from + n)) (slice_get nodes n)
link_at number from [] n = refl
link_at number from (node ∷ nodes) zero = ap (λ (k : ℕ). Some (link_of number k node)) (let e : from ≡ from + 0 = omega arith in e)
link_at number from (node ∷ nodes) (suc n) = link_at number (suc from) nodes n ∙ ap (λ (k : ℕ). option_map (link_of number k) (slice_get nodes n)) (let e : suc from + n ≡ from + suc n = omega arith in e)

-- ---- the chains

module _ (job : Job) (nodes : List Node) (number : Bytes → Bytes → ℕ) (numbered : (path name : Bytes) → slice_get nodes (number path name) ≡ looked (nodes_by_module job) path name) where
  abbrev types : Bytes → Known → FlowType → FlowType
  types path m t = type_with (job_alias_at job) path m t

  abbrev links : List Link
  links = links_from number 0 nodes

  -- what so many steps between the numbers tell is what they tell in the job
  abbrev Tells : ℕ → Type 0
  Tells steps = (path name : Bytes) → end_export types nodes (end_within links steps (number path name)) ≡ job_export_of job (job_end_within job steps path name)

  module _ (steps : ℕ) (rest : Tells steps) (path name : Bytes) where
    abbrev at : ℕ
    at = number path name

    -- the export at the end of the step from a node
    abbrev told_from : Option Node → Export
    told_from node = end_export types nodes (follow.end_of (end_within links steps) (option_map (link_of number at) node))

    outer_told : (e : Export) → slice_get nodes at ≡ Some (outer e) → told_from (Some (outer e)) ≡ e
    outer_told (export.Value t) is = ap (λ (o : Option Node). only_value (node_export types o)) is
    outer_told (export.Alias home word) is = ap (λ (o : Option Node). only_alias (node_export types o)) is
    outer_told export.Unknown is = refl
    outer_told export.Cyclic is = refl

    from_outside : (s : Sig) (o : Option Export) → row_at s.exports name ≡ o → slice_get nodes at ≡ option_map outer o → told_from (option_map outer o) ≡ unwrap_or o export.Unknown
    from_outside s None row is = refl
    from_outside s (Some e) row is = outer_told e is

    found_told : (k : Bool) (word : Bytes) (o : Option Bytes) →
        end_export types nodes (follow.end_of (end_within links steps) (Some (link_to number k word o))) ≡ job_export_of job (job_end_of (job_end_within job steps) (goes_to k word o))
    found_told k word None = refl
    found_told k word (Some home) = end_kind types nodes k (end_within links steps (number home word)) ∙ ap (told_of_kind k) (rest home word) ∙ sym (job_kind job k (job_end_within job steps home word))

    inner_told : (m : Known) → row_at job.members path ≡ Some m → (o : Origin) → slice_get nodes at ≡ Some (inner path m o) →
        end_export types nodes (follow.end_of (end_within links steps) (Some (origin_link number at m.deps o))) ≡ job_export_of job (job_end_of (job_end_within job steps) (step_of path m.deps (Some o)))
    inner_told m here (origin.Value t) is = ap (λ (n : Option Node). only_value (node_export types n)) is ∙ sym (ap (λ (k : Option Known). job_value k t) here)
      where
        job_value : Option Known → FlowType → Export
        job_value k u = export.Value (type_at (job_alias_at job) path k u)
    inner_told m here (origin.Alias word) is = ap (λ (n : Option Node). only_alias (node_export types n)) is
    inner_told m here (origin.Import spec word k) is = found_told k word (found m.deps spec)
    inner_told m here origin.Unknown is = refl

    from_member : (m : Known) → row_at job.members path ≡ Some m → (b : Bool) (o : Option Origin) → slice_get nodes at ≡ option_map (inner path m) o →
        end_export types nodes (follow.end_of (end_within links steps) (option_map (λ (x : Origin). cond b (Ends Unknown) (origin_link number at m.deps x)) o)) ≡ job_export_of job (job_end_of (job_end_within job steps) (cond b (ends unknown) (step_of path m.deps o)))
    from_member m here true None is = refl
    from_member m here true (Some o) is = refl
    from_member m here false None is = refl
    from_member m here false (Some o) is = inner_told m here o is

    as_inner : (m : Known) (o : Option Origin) → option_map (link_of number at) (option_map (inner path m) o) ≡ option_map (λ (x : Origin). cond m.sig.broken (Ends Unknown) (origin_link number at m.deps x)) o
    as_inner m None = refl
    as_inner m (Some o) = refl

    in_members : (k : Option Known) → row_at job.members path ≡ k → slice_get nodes at ≡ member_node path name k → told_from (member_node path name k) ≡ job_export_of job (job_end_of (job_end_within job steps) (step_in path k name))
    in_members None here is = refl
    in_members (Some m) here is =
        ap (λ (l : Option Link). end_export types nodes (follow.end_of (end_within links steps) l)) (as_inner m (row_at m.sig.exports name)) ∙ from_member m here m.sig.broken (row_at m.sig.exports name) is

    in_job : (o : Option Sig) → row_at job.outside path ≡ o → slice_get nodes at ≡ job_node job path name o →
        told_from (job_node job path name o) ≡ job_export_of job (elim o as (λ _. JobEnd) [ Some s ↦ told (told_by s name) | None ↦ job_end_of (job_end_within job steps) (step_in path (members_view job path) name) ])
    in_job (Some s) there is = from_outside s (row_at s.exports name) refl is
    in_job None there is = in_members (row_at job.members path) refl is

    next : end_export types nodes (end_within links (suc steps) at) ≡ job_export_of job (job_end_within job (suc steps) path name)
    next =
        let looks = numbered path name ∙ job_looked path name job in
        ap (λ (l : Option Link). end_export types nodes (follow.end_of (end_within links steps) l)) (link_at number 0 nodes at ∙ ap (λ (k : ℕ). option_map (link_of number k) (slice_get nodes at)) (let e : 0 + at ≡ at = omega arith in e))
        ∙ ap told_from looks ∙ in_job (row_at job.outside path) refl looks

  tells : (steps : ℕ) → Tells steps
  tells zero path name = refl
  tells (suc steps) path name = next steps (tells steps) path name

  same_most : follow.most ≡ chain.most
  unfolding follow.most chain.most
  same_most = refl

  pub chain_tells : (path name : Bytes) → end_export types nodes (chain_end links (number path name)) ≡ job_export_of job (job_denotes job path name)
  chain_tells path name = ap (λ (steps : ℕ). end_export types nodes (end_within links steps (number path name))) same_most ∙ tells chain.most path name
