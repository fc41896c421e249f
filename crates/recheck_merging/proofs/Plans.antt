-- Plans.
use Rattle.std.proofs.Common.{◌≡◌, ℕ, ◌<◌, List, [], All, length, refl, sym, ap, ◌∙◌, subst, arith}
use Rattle.flow_base.specs.Program.{Bytes}
use Rattle.graph_search.specs.Cycles.{Has}
use Rattle.graph_search.specs.Reach.{IsRising}
use Rattle.graph_search.specs.Components.{AreComponents}
use Rattle.graph_search.specs.Waves.{AreWaves}
use Rattle.graph_search.proofs.Lists.{has_none, none_some}
use Rattle.graph_search.proofs.Rising.{rising_none}
use Rattle.merged_signatures.specs.Chains.{View}
use Rattle.path_numbers.specs.affected_sizes.specs.Polls.{AreImports}
use Rattle.path_numbers.specs.Sets.{paths_at}
use Rattle.recheck_plan.specs.Affected.{AreExactly, LeadsToTouched}
use Rattle.check_phases.specs.Sourced.{paths_in, view_in, AreSources}
use Rattle.check_phases.specs.declared.merging.Sources.{Sources}
use Rattle.check_phases.proofs.Lists.{place_at}
use Rattle.recheck_merging.specs.Inner.{lists_of}
use Rattle.recheck_merging.specs.Plans.{IsToMerge, AreEdgesOf, IsPlan, IsPlanOf, IsPlanOfNothing}
use Rattle.recheck_merging.specs.declared.planning.MergePlan.{MergePlan}
use Rattle.recheck_merging.proofs.Among.{many_imports, edges_of_numbers}
use Rattle.recheck_merging.proofs.Imported.{as_many, low_path}
use Rattle.recheck_merging.proofs.Mapped.{all_has, has_all}
use Rattle.recheck_merging.proofs.Leads.{to_merge}

pub is_plan : (s : Sources) (p : MergePlan) (inner : List (List ℕ)) → IsRising p.merged → All (λ x. x < length s.root.modules) p.merged → AreEdgesOf s p.merged p.edges.items
    → AreImports (view_in s) (paths_at (paths_in s) p.merged) inner → AreComponents inner p.components → AreWaves inner p.components p.waves → IsPlan s p
is_plan s p inner rising low edges are components waves = record {
  rising = rising;
  within = low;
  edges = edges;
  waves = record { edges = inner; components = p.components; are_imports = are; are_components = components; are_waves = waves };
  components = refl;
}

-- what is to be merged are modules
pub merged_low : (s : Sources) (touched all : List ℕ) → AreExactly (IsToMerge s touched) all → All (λ x. x < length s.root.modules) all
merged_low s touched all exactly = has_all (λ (x : ℕ). x < length s.root.modules) all (λ x has. let is = exactly.sound x has in low_path s x is.path is.at_path)

-- where touched numbers are those of modules
pub are_to_merge : (s : Sources) (edges : List (List ℕ)) (touched all : List ℕ) → AreSources s → AreImports (view_in s) (paths_in s) edges → All (λ t. t < length s.root.modules) touched
    → AreExactly (LeadsToTouched edges touched) all → AreExactly (IsToMerge s touched) all
are_to_merge s edges touched all sources are low exactly =
    to_merge s edges touched all sources are
    (λ t has. let small = all_has (λ (x : ℕ). x < length s.root.modules) touched low t has in (_, place_at (paths_in s) t [] (let many = as_many s in omega arith))) exactly

-- ---- as the code has them

pub touched_low : (s : Sources) (edges : List (List ℕ)) (touched : List ℕ) → AreImports (view_in s) (paths_in s) edges → All (λ t. t < length s.root.modules) touched → All (λ t. t < length edges) touched
touched_low s edges touched are low = subst (λ (n : ℕ). All (λ t. t < n) touched) (sym (many_imports (view_in s) s edges are)) low

pub merge_rising : (edges : List (List ℕ)) (touched all : List ℕ) → AreExactly (LeadsToTouched edges touched) all → IsRising all
merge_rising edges touched all exactly = exactly.rising

pub merge_low : (s : Sources) (edges : List (List ℕ)) (touched all : List ℕ) → AreSources s → AreImports (view_in s) (paths_in s) edges → All (λ t. t < length s.root.modules) touched → AreExactly (LeadsToTouched edges touched) all
    → All (λ x. x < length s.root.modules) all
merge_low s edges touched all sources are low exactly = merged_low s touched all (are_to_merge s edges touched all sources are low exactly)

pub plan_of_touched : (s : Sources) (edges : List (List ℕ)) (touched all : List ℕ) (p : MergePlan) → AreSources s → AreImports (view_in s) (paths_in s) edges → All (λ t. t < length s.root.modules) touched
    → AreExactly (LeadsToTouched edges touched) all → IsPlan s p → p.merged ≡ all → IsPlanOf s touched p
plan_of_touched s edges touched all p sources are low exactly plan is = record {
  merged = subst (AreExactly (IsToMerge s touched)) (sym is) (are_to_merge s edges touched all sources are low exactly);
  plan = plan;
}

pub plan_by : (s : Sources) (all : List (List ℕ)) (numbers : List ℕ) (p : MergePlan) (inner among : List (List ℕ)) → AreImports (view_in s) (paths_in s) all → IsRising p.merged → All (λ x. x < length s.root.modules) p.merged
    → numbers ≡ p.merged → p.edges.items ≡ lists_of all numbers → AreImports (view_in s) (paths_at (paths_in s) numbers) inner → among ≡ inner → AreComponents among p.components → AreWaves among p.components p.waves → IsPlan s p
plan_by s all numbers p inner among are rising low same own imports is components waves =
    is_plan s p inner rising low (edges_of_numbers s all p.merged p.edges.items are low (own ∙ ap (lists_of all) same)) (subst (λ (l : List ℕ). AreImports (view_in s) (paths_at (paths_in s) l) inner) same imports)
    (subst (λ (es : List (List ℕ)). AreComponents es p.components) is components) (subst (λ (es : List (List ℕ)). AreWaves es p.components p.waves) is waves)

-- ---- nothing

nothing_among : (view : View) (paths : List Bytes) → AreImports view (paths_at paths []) []
nothing_among view paths = record {
  len = refl;
  sound = λ x y edge. none_some edge.0 edge.1;
  complete = λ x y import. none_some import.path import.at_path;
}

no_components : AreComponents [] []
no_components = record {
  each = λ k members at. none_some members at;
  order = λ k j x y less a b. none_some a.0 a.1;
  whole = λ x low. absurd (omega arith);
  within = λ k x stands. none_some stands.0 stands.1;
  together = λ k x y a b. none_some a.0 a.1;
  apart = λ k j x y a b each. none_some a.0 a.1;
}

no_waves : AreWaves [] [] []
no_waves = record {
  each = λ w ks at. none_some ks at;
  whole = λ k low. absurd (omega arith);
  within = λ w k stands. none_some stands.0 stands.1;
  once = λ w v k a b. none_some a.0 a.1;
  later = λ k j w v depends a b. none_some a.0 a.1;
  tight = λ k w stands. none_some stands.0 stands.1;
}

no_edges : (s : Sources) → AreEdgesOf s [] []
no_edges s = record {
  len = refl;
  sound = λ i x y at edge. none_some x at;
  complete = λ i x y at import. none_some x at;
}

nothing_exactly : (s : Sources) → AreExactly (IsToMerge s []) []
nothing_exactly s = record { rising = rising_none; sound = λ x has. absurd (has_none x has); complete = λ x is. absurd (has_none is.number is.is_touched) }

pub nothing : (p : MergePlan) → p.merged ≡ [] → p.edges.items ≡ [] → p.components ≡ [] → p.waves ≡ [] → IsPlanOfNothing p
nothing p merged edges components waves s =
    let own : AreEdgesOf s p.merged p.edges.items = subst (λ (l : List ℕ). AreEdgesOf s l p.edges.items) (sym merged) (subst (AreEdgesOf s []) (sym edges) (no_edges s)) in
    let among : AreImports (view_in s) (paths_at (paths_in s) p.merged) [] = subst (λ (l : List ℕ). AreImports (view_in s) (paths_at (paths_in s) l) []) (sym merged) (nothing_among (view_in s) (paths_in s)) in
    let grouped : AreComponents [] p.components = subst (AreComponents []) (sym components) no_components in
    let waved : AreWaves [] p.components p.waves = subst (λ (l : List (List ℕ)). AreWaves [] l p.waves) (sym components) (subst (AreWaves [] []) (sym waves) no_waves) in
    let low : All (λ x. x < length s.root.modules) p.merged = has_all (λ (x : ℕ). x < length s.root.modules) p.merged (λ x has. absurd (has_none x (subst (λ (l : List ℕ). Has l x) merged has))) in
    record {
      merged = subst (AreExactly (IsToMerge s [])) (sym merged) (nothing_exactly s);
      plan = is_plan s p [] (subst IsRising (sym merged) rising_none) low own among grouped waved;
    }
