-- Numbers lead along edges where their modules lead by imports.
use Rattle.std.proofs.Common.{◌≡◌, ℕ, suc, Bool, true, false, cond, List, [], ◌∷◌, slice_get, Some, None, refl, sym, ap, ◌∙◌, subst, bytes_eq}
use Rattle.std.specs.Cmp.Lexicographic.{bytes_decides}
use Rattle.flow_base.specs.Program.{Bytes}
use Rattle.check_values.specs.Rows.{Rows, row_at}
use Rattle.graph_search.specs.Cycles as graph
use Rattle.graph_search.specs.Cycles.{Has, Leads, here, along}
use Rattle.graph_search.proofs.Searches.{joined}
use Rattle.merged_signatures.specs.Chains.{Known, View}
use Rattle.merged_signatures.specs.Imports.{Imports, itself, further, Edge}
use Rattle.path_numbers.specs.affected_sizes.specs.Polls.{AreImports}
use Rattle.recheck_plan.specs.Affected.{AreExactly, LeadsToTouched}
use Rattle.check_phases.specs.Phases.{knowns}
use Rattle.check_phases.specs.Sourced.{program_in, paths_in, view_in, AreSources}
use Rattle.check_phases.specs.declared.merging.Sources.{Sources}
use Rattle.check_phases.proofs.Edges.{one_place}
use Rattle.check_phases.proofs.Jobs.{beside_path}
use Rattle.check_phases.proofs.Lists.{one_value, same_paths}
use Rattle.recheck_merging.specs.Plans.{IsToMerge}

-- ---- what is known is known of a module

row_place : {X : Type 0} (rows : Rows X) (path : Bytes) (x : X) → row_at rows path ≡ Some x → (i : ℕ) × (slice_get rows i ≡ Some (path, x))
row_place [] path x is = absurd (let z : None ≡ Some x = is in cc)
row_place {X} (row ∷ rows) path x is = go (bytes_eq row.0 path) refl (row_place rows path x) is
  where
    go : (b : Bool) → bytes_eq row.0 path ≡ b → (row_at rows path ≡ Some x → (i : ℕ) × (slice_get rows i ≡ Some (path, x))) → cond b (Some row.1) (row_at rows path) ≡ Some x → (i : ℕ) × (slice_get (row ∷ rows) i ≡ Some (path, x))
    go true e rest h = let a = (bytes_decides row.0 path).0 e in let b = one_value row.1 x h in (0, λ j. Some (a j, b j))
    go false e rest h = let later = rest h in (suc later.0, later.1)

pub seen_place : (s : Sources) (path : Bytes) (m : Known) → view_in s path ≡ Some m → (z : ℕ) × (slice_get (paths_in s) z ≡ Some path)
seen_place s path m is =
    let row = row_place _ path m is in
    (row.0, ap (λ (ps : List Bytes). slice_get ps row.0) (sym (same_paths s.root)) ∙ beside_path (program_in s) (knowns s.parses.items s.lists.items) row.0 (path, m) row.1)

-- ---- ways

module _ (view : View) where
  before : (p q r : Bytes) → Edge view p q → Imports view q r → Imports view p r
  before p q _ step itself = further p q itself step
  before p q _ step (further r other leads next) = further r other (before p q r step leads) next

module _ (view : View) (paths : List Bytes) (edges : List (List ℕ)) (are : AreImports view paths edges) where
  -- what leads to a path has one
  has_start : {x y : ℕ} → Leads (graph.Edge edges) x y → (q : Bytes) → slice_get paths y ≡ Some q → (p : Bytes) × (slice_get paths x ≡ Some p)
  has_start here q at = (q, at)
  has_start (along {p = x} {q = z} edge rest) q at = let i = are.sound x z edge in (i.path, i.at_path)

  leads_there : {x y : ℕ} → Leads (graph.Edge edges) x y → (p q : Bytes) → slice_get paths x ≡ Some p → slice_get paths y ≡ Some q → Imports view p q
  leads_there (here {p = x}) p q at_x at_y = subst (Imports view p) (one_value p q (sym at_x ∙ at_y)) itself
  leads_there (along {p = x} {q = z} edge rest) p q at_x at_y =
      let i = are.sound x z edge in
      before view p i.other q (subst (λ (t : Bytes). Edge view t i.other) (one_value i.path p (sym i.at_path ∙ at_x)) i.edge) (leads_there rest i.other q i.at_other at_y)

module _ (s : Sources) (sources : AreSources s) (edges : List (List ℕ)) (are : AreImports (view_in s) (paths_in s) edges) where
  leads_back : (p q : Bytes) → Imports (view_in s) p q → (x y : ℕ) → slice_get (paths_in s) x ≡ Some p → slice_get (paths_in s) y ≡ Some q → Leads (graph.Edge edges) x y
  leads_back p _ itself x y at_x at_y = subst (Leads (graph.Edge edges) x) (one_place (paths_in s) x y p sources.rising at_x at_y) here
  leads_back p _ (further r other leads step) x y at_x at_y =
      let z = seen_place s r step.0 step.2 in
      joined (graph.Edge edges) (leads_back p r leads x z.0 at_x z.1) (along (are.complete z.0 y (record { path = r; other = other; at_path = z.1; at_other = at_y; edge = step })) here)

-- what leads to touched numbers is to merge
pub to_merge : (s : Sources) (edges : List (List ℕ)) (touched all : List ℕ) → AreSources s → AreImports (view_in s) (paths_in s) edges → ((t : ℕ) → Has touched t → (q : Bytes) × (slice_get (paths_in s) t ≡ Some q))
    → AreExactly (LeadsToTouched edges touched) all → AreExactly (IsToMerge s touched) all
to_merge s edges touched all sources are low exactly = record {
  rising = exactly.rising;
  sound = λ x has.
      let leads = exactly.sound x has in
      let q = low leads.0 leads.1 in
      let p = has_start (view_in s) (paths_in s) edges are leads.2 q.0 q.1 in
      record {
        number = leads.0;
        path = p.0;
        other = q.0;
        is_touched = leads.1;
        at_path = p.1;
        at_other = q.1;
        leads = leads_there (view_in s) (paths_in s) edges are leads.2 p.0 q.0 p.1 q.1;
      };
  complete = λ x is. exactly.complete x (is.number, is.is_touched, leads_back s sources edges are is.path is.other is.leads x is.number is.at_path is.at_other);
}

-- a touched number is to merge, and what imports one that is
pub touched_merges : (s : Sources) (touched : List ℕ) (t : ℕ) (path : Bytes) → Has touched t → slice_get (paths_in s) t ≡ Some path → IsToMerge s touched t
touched_merges s touched t path has at = record { number = t; path = path; other = path; is_touched = has; at_path = at; at_other = at; leads = itself }
