-- What the ends of a job tell of it.
use Rattle.std.proofs.Common.{◌≡◌, ℕ, zero, suc, ◌<◌, ◌≤◌, Bool, true, false, cond, List, [], ◌∷◌, map, length, slice_get, Option, Some, None, option_map, unwrap_or, bytes_eq, ◌⊎◌, inl, inr, get_or, refl, sym, ap, ◌∙◌, arith}
use Rattle.std.proofs.lemmas.Option.{slice_get-map, slice_get_past, slice_get_cases}
use Rattle.check_values.specs.Rows.{Bytes, Rows, row_at}
use Rattle.named_rows.specs.Seen.{seen}
use Rattle.named_rows.proofs.FirstRows.{row_seen}
use Rattle.name_numbers.specs.Looking.{looked}
use Rattle.name_numbers.specs.Numbering.{number_in, nodes_of}
use Rattle.chain_ends.specs.declared.links.End.{End}
use Rattle.chain_ends.specs.declared.links.End.TheVariants.{Unknown}
use Rattle.chain_ends.specs.declared.links.Link.{Link}
use Rattle.chain_ends.specs.Following as follow
use Rattle.chain_ends.specs.Following.{AreEnds, chain_end, end_within}
use Rattle.chain_ends.proofs.Walks.{fits_most}
use Rattle.merged_signatures.specs.Job.{Job, alias_told, told_of_kind, job_of_kind, job_denotes, job_alias_at}
use Rattle.job_ends.specs.declared.job.MergeJob.{MergeJob}
use Rattle.job_ends.specs.declared.nodes.Node as code
use Rattle.job_ends.specs.declared.ends.JobEnds.{JobEnds}
use Rattle.job_ends.specs.Jobs.{job_view}
use Rattle.job_ends.specs.Nodes.{Node, nodes_by_module, end_export, node_alias}
use Rattle.job_ends.specs.Linking.{links_from}
use Rattle.job_ends.specs.Views.{node_view, rows_view}
use Rattle.job_ends.specs.Telling.{nodes_in, end_in, alias_in, job_type, TellsJob}
use Rattle.job_ends.proofs.Told.{end_kind, alias_of_end, job_kind, job_alias, chain_tells}

-- ---- numbers that no link has

nothing_there : (links : List Link) (n : ℕ) → slice_get links n ≡ None → (steps : ℕ) → 0 < steps → end_within links steps n ≡ Unknown
nothing_there links n none zero some = absurd (omega arith)
nothing_there links n none (suc steps) some = ap (follow.end_of (end_within links steps)) none

end_is : (links : List Link) (ends : List End) → AreEnds links ends → (n : ℕ) → unwrap_or (slice_get ends n) Unknown ≡ chain_end links n
end_is links ends (same, all) n = go (slice_get_cases links n).1
  where
    go : ((l : Link) × (n < length links) × (slice_get links n ≡ Some l) × (get_or links n l ≡ l)) ⊎ ((length links ≤ n) × (slice_get links n ≡ None)) → unwrap_or (slice_get ends n) Unknown ≡ chain_end links n
    go (inl there) = ap (λ (o : Option End). unwrap_or o Unknown) (all n there.1)
    go (inr past) = ap (λ (o : Option End). unwrap_or o Unknown) (slice_get_past ends n (let h = past.0 in omega arith)) ∙ sym (nothing_there links n past.1 follow.most (fits_most 0 (omega arith)))

-- ---- rows of the code

looked_seen : {A B : Type 0} (f : A → B) (modules : Rows (Rows A)) (path name : Bytes) → option_map f (looked modules path name) ≡ looked (seen (λ rows. seen f rows) modules) path name
looked_seen f [] path name = refl
looked_seen f (m ∷ modules) path name = go (bytes_eq m.0 path) (looked_seen f modules path name)
  where
    go : (b : Bool) → option_map f (looked modules path name) ≡ looked (seen (λ rows. seen f rows) modules) path name → option_map f (cond b (row_at m.1 name) (looked modules path name)) ≡ cond b (row_at (seen f m.1) name) (looked (seen (λ rows. seen f rows) modules) path name)
    go true rest = row_seen f m.1 name
    go false rest = rest

pub alias_node : (nodes : List code.Node) (n : ℕ) (o : Option code.Node) → o ≡ slice_get nodes n → node_alias (option_map node_view o) ≡ node_alias (slice_get (map node_view nodes) n)
alias_node nodes n o is = ap node_alias (ap (option_map node_view) is ∙ sym (slice_get-map node_view nodes n))

-- ---- the ends

pub job_told : (job : MergeJob) (ends : JobEnds) (modules : Rows (Rows code.Node)) → seen rows_view modules ≡ nodes_by_module (job_view job) →
    ((path name : Bytes) → slice_get (nodes_of ends.numbered) (number_in ends.numbered path name) ≡ looked modules path name) → AreEnds (links_from (number_in ends.numbered) 0 (nodes_in ends)) ends.ends.items → TellsJob (job_view job) ends
job_told job ends modules rows numbered are path name =
    ap (end_export (job_type (job_view job)) (nodes_in ends)) (end_is (links_from (number_in ends.numbered) 0 (nodes_in ends)) ends.ends.items are (number_in ends.numbered path name))
    ∙ chain_tells (job_view job) (nodes_in ends) (number_in ends.numbered) (λ home word.
    slice_get-map node_view (nodes_of ends.numbered) (number_in ends.numbered home word) ∙ ap (option_map node_view) (numbered home word) ∙ looked_seen node_view modules home word
    ∙ ap (λ (l : Rows (Rows Node)). looked l home word) rows) path name

pub job_aliases : (job : Job) (ends : JobEnds) → TellsJob job ends → (is_type : Bool) (path name : Bytes) → alias_in ends is_type path name ≡ job_alias_at job is_type path name
job_aliases job ends tells is_type path name =
    sym (alias_of_end (job_type job) (nodes_in ends) (follow.of_kind is_type (end_in ends path name)))
    ∙ ap alias_told (end_kind (job_type job) (nodes_in ends) is_type (end_in ends path name) ∙ ap (told_of_kind is_type) (tells path name) ∙ sym (job_kind job is_type (job_denotes job path name)))
    ∙ job_alias job (job_of_kind is_type (job_denotes job path name))
