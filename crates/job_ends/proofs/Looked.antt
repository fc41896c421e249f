-- What stands at a name of a job's modules.
use Rattle.std.proofs.Common.{◌≡◌, Bool, true, false, cond, [], ◌∷◌, ◌++◌, map, Option, Some, None, option_map, bytes_eq, refl, ap, ◌∙◌}
use Rattle.check_values.specs.Rows.{Bytes, Rows, row_at}
use Rattle.check_values.specs.declared.signatures.Sig.{Sig}
use Rattle.merged_signatures.specs.Chains.{Known}
use Rattle.merged_signatures.specs.Job.{Job}
use Rattle.merged_signatures.proofs.Names.{bytes_same}
use Rattle.name_numbers.specs.Looking.{looked_or, looked}
use Rattle.job_ends.specs.Nodes.{Node, outer, inner, outer_rows, inner_rows, nodes_by_module}

mapped_row : {A B : Type 0} (f : A → B) (rows : Rows A) (name : Bytes) → row_at (map (λ row. (row.0, f row.1)) rows) name ≡ option_map f (row_at rows name)
mapped_row f [] name = refl
mapped_row f (row ∷ rows) name = go (bytes_eq row.0 name) (mapped_row f rows name)
  where
    go : (b : Bool) → row_at (map (λ row. (row.0, f row.1)) rows) name ≡ option_map f (row_at rows name) → cond b (Some (f row.1)) (row_at (map (λ row. (row.0, f row.1)) rows) name) ≡ option_map f (cond b (Some row.1) (row_at rows name))
    go true rest = refl
    go false rest = rest

-- what a member says of a name
abbrev pub member_node : Bytes → Bytes → Option Known → Option Node
member_node path name None = None
member_node path name (Some m) = option_map (inner path m) (row_at m.sig.exports name)

-- what a job knows of a name
abbrev pub job_node : Job → Bytes → Bytes → Option Sig → Option Node
job_node job path name None = member_node path name (row_at job.members path)
job_node job path name (Some s) = option_map outer (row_at s.exports name)

module _ (path name : Bytes) where
  append : {X : Type 0} (xs ys : Rows (Rows X)) (rest : Option X) → looked_or (xs ++ ys) path name rest ≡ looked_or xs path name (looked_or ys path name rest)
  append [] ys rest = refl
  append (x ∷ xs) ys rest = ap (cond (bytes_eq x.0 path) (row_at x.1 name)) (append xs ys rest)

  in_members : (members : Rows Known) → looked (map (λ row. (row.0, inner_rows row.0 row.1)) members) path name ≡ member_node path name (row_at members path)
  in_members [] = refl
  in_members (row ∷ members) = go (bytes_eq row.0 path) refl (in_members members)
    where
      go : (b : Bool) → bytes_eq row.0 path ≡ b → looked (map (λ row. (row.0, inner_rows row.0 row.1)) members) path name ≡ member_node path name (row_at members path) →
          cond b (row_at (inner_rows row.0 row.1) name) (looked (map (λ row. (row.0, inner_rows row.0 row.1)) members) path name) ≡ member_node path name (cond b (Some row.1) (row_at members path))
      go true same rest = mapped_row (inner row.0 row.1) row.1.sig.exports name ∙ ap (λ (p : Bytes). option_map (inner p row.1) (row_at row.1.sig.exports name)) (bytes_same row.0 path same)
      go false same rest = rest

  in_outside : (job : Job) (outside : Rows Sig) → looked_or (map (λ row. (row.0, outer_rows row.1)) outside) path name (member_node path name (row_at job.members path)) ≡ job_node job path name (row_at outside path)
  in_outside job [] = refl
  in_outside job (row ∷ outside) = go (bytes_eq row.0 path) (in_outside job outside)
    where
      go : (b : Bool) → looked_or (map (λ row. (row.0, outer_rows row.1)) outside) path name (member_node path name (row_at job.members path)) ≡ job_node job path name (row_at outside path) →
          cond b (row_at (outer_rows row.1) name) (looked_or (map (λ row. (row.0, outer_rows row.1)) outside) path name (member_node path name (row_at job.members path))) ≡ job_node job path name (cond b (Some row.1) (row_at outside path))
      go true rest = mapped_row outer row.1.exports name
      go false rest = rest

  pub job_looked : (job : Job) → looked (nodes_by_module job) path name ≡ job_node job path name (row_at job.outside path)
  job_looked job =
      append (map (λ row. (row.0, outer_rows row.1)) job.outside) (map (λ row. (row.0, inner_rows row.0 row.1)) job.members) None
      ∙ ap (looked_or (map (λ row. (row.0, outer_rows row.1)) job.outside) path name) (in_members job.members) ∙ in_outside job job.outside
