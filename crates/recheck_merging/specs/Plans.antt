-- Which modules are merged anew, and in which order.
use Rattle.std.specs.Prelude.{◌≡◌, ◌<◌, ℕ, List, [], All, map, length, get_or, slice_get, sum_by, Some}
use Rattle.flow_base.specs.Program.{Bytes}
use Rattle.graph_search.specs.Cycles.{Has, Edge}
use Rattle.graph_search.specs.Reach.{IsRising}
use Rattle.merged_signatures.specs.Imports.{Imports}
use Rattle.path_numbers.specs.affected_sizes.specs.Polls.{IsImport, AreWavesAmong}
use Rattle.path_numbers.specs.Sets.{paths_at}
use Rattle.recheck_plan.specs.Affected.{AreExactly}
use Rattle.check_phases.specs.Sourced.{paths_in, view_in}
use Rattle.check_phases.specs.declared.merging.Sources.{Sources}
use Rattle.recheck_merging.specs.declared.planning.MergePlan.{MergePlan}

-- the module of a number leads by imports to that of one of these numbers
pub record IsToMerge (s : Sources) (touched : List ℕ) (x : ℕ) : Type 0 where
  pub number : ℕ
  pub path : Bytes
  pub other : Bytes
  pub is_touched : Has touched number
  pub at_path : slice_get (paths_in s) x ≡ Some path
  pub at_other : slice_get (paths_in s) number ≡ Some other
  pub leads : Imports (view_in s) path other

-- these are the import edges of the modules of these numbers, in order
pub record AreEdgesOf (s : Sources) (numbers : List ℕ) (edges : List (List ℕ)) : Type 0 where
  pub len : length edges ≡ length numbers
  pub sound : (i x y : ℕ) → slice_get numbers i ≡ Some x → Edge edges i y → IsImport (view_in s) (paths_in s) x y
  pub complete : (i x y : ℕ) → slice_get numbers i ≡ Some x → IsImport (view_in s) (paths_in s) x y → Edge edges i y

-- A plan has some modules by their numbers, rising, with their edges; the components of the edges that stay among them; and the waves of
-- these. The members of a component are places among the modules of the plan.
pub record IsPlan (s : Sources) (p : MergePlan) : Type 0 where
  pub rising : IsRising p.merged
  pub within : All (λ x. x < length s.root.modules) p.merged
  pub edges : AreEdgesOf s p.merged p.edges.items
  pub waves : AreWavesAmong (view_in s) (paths_at (paths_in s) p.merged) p.waves
  pub components : waves.components ≡ p.components

-- it is that of the modules that lead by imports to touched ones
pub record IsPlanOf (s : Sources) (touched : List ℕ) (p : MergePlan) : Type 0 where
  pub merged : AreExactly (IsToMerge s touched) p.merged
  pub plan : IsPlan s p

-- it is that of any sources where nothing is touched
abbrev pub IsPlanOfNothing : MergePlan → Type 0
IsPlanOfNothing p = (s : Sources) → IsPlanOf s [] p

-- the numbers at some places, and the edges there
abbrev pub numbers_at : List ℕ → List ℕ → List ℕ
numbers_at numbers places = map (λ i. get_or numbers i 0) places

abbrev pub edges_at : List (List ℕ) → List ℕ → List (List ℕ)
edges_at edges places = map (λ i. get_or edges i []) places

-- how many modules a component has, some components have, a wave has
abbrev pub size_of : MergePlan → ℕ → ℕ
size_of p k = length (get_or p.components k [])

abbrev pub members_of : MergePlan → List ℕ → ℕ
members_of p components = sum_by (size_of p) components

abbrev pub members_in : MergePlan → ℕ → ℕ
members_in p wave = members_of p (get_or p.waves wave [])

-- the waves have each module of the plan once
abbrev pub MembersAddUp : Type 0
MembersAddUp = (s : Sources) (p : MergePlan) → IsPlan s p → sum_by (members_of p) p.waves ≡ length p.merged
