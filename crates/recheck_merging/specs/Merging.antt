-- How the modules of a plan are merged, wave by wave, beside signatures that are kept.
use Rattle.std.specs.Prelude.{◌≡◌, ◌<◌, ℕ, true, false, List, [], map, length, get_or, slice_get, Option, Some}
use Rattle.std.specs.List.{AllZip, flat_map}
use Rattle.flow_base.specs.Program.{Bytes}
use Rattle.check_values.specs.Rows.{Rows}
use Rattle.check_values.specs.declared.signatures.Sig.{Sig}
use Rattle.heap_core.specs.Meaning.{names}
use Rattle.graph_search.specs.Cycles.{Has}
use Rattle.graph_search.specs.Components.{StandsIn}
use Rattle.merged_signatures.specs.Job.{Job}
use Rattle.merged_signatures.specs.Merged.{merged}
use Rattle.asked_exports.specs.Asked.{asked_job}
use Rattle.path_numbers.specs.affected_sizes.specs.Polls.{IsImport}
use Rattle.check_phases.specs.Phases.{AreMerged}
use Rattle.check_phases.specs.Merging.{IsMade, AreRight, member_at, made_at}
use Rattle.check_phases.specs.Sourced.{program_in, paths_in, view_in, AreSources}
use Rattle.check_phases.specs.declared.merging.Sources.{Sources}
use Rattle.recheck_merging.specs.Plans.{IsPlan, AreEdgesOf, numbers_at, edges_at}
use Rattle.recheck_merging.specs.declared.planning.MergePlan.{MergePlan}

-- the module of a number is a member of a component of the plan
abbrev pub IsMember : MergePlan → ℕ → ℕ → Type 0
IsMember p k x = (i : ℕ) × StandsIn p.components k i × (slice_get p.merged i ≡ Some x)

-- All that is made is right; of the modules outside of the plan, and of the waves before one, it is made.
pub record AreMergedTo (s : Sources) (p : MergePlan) (wave : ℕ) (made : List (Option Sig)) : Type 0 where
  pub right : AreRight s made
  pub kept : (x : ℕ) → x < length s.root.modules → ¬ (Has p.merged x) → IsMade made x
  pub before : (w k x : ℕ) → w < wave → StandsIn p.waves w k → IsMember p k x → IsMade made x

-- and of these components
pub record AreMergedIn (s : Sources) (p : MergePlan) (wave : ℕ) (components : List ℕ) (made : List (Option Sig)) : Type 0 where
  pub to : AreMergedTo s p wave made
  pub so_far : (k x : ℕ) → Has components k → IsMember p k x → IsMade made x

-- ---- a job

-- the signatures of the modules to which these edges lead, where they are made
abbrev pub outside_by : Sources → List (Option Sig) → List (List ℕ) → Rows Sig
outside_by s made edges = flat_map (λ ys. flat_map (made_at s made) ys) edges

-- the job of some modules with these edges
abbrev pub job_by : Sources → List (Option Sig) → List ℕ → List (List ℕ) → Job
job_by s made group edges =
    record {
      members = flat_map (member_at s) group;
      outside = outside_by s made edges;
    }

-- These are the edges of the modules of a group, and whatever they lead to outside of it is made.
pub record IsReady (s : Sources) (group : List ℕ) (edges : List (List ℕ)) (made : List (Option Sig)) : Type 0 where
  pub within : (x : ℕ) → names group x ≡ true → x < length s.root.modules
  pub edges_are : AreEdgesOf s group edges
  pub before : (x y : ℕ) → names group x ≡ true → IsImport (view_in s) (paths_in s) x y → names group y ≡ false → IsMade made y

-- the members of a component of the plan, by their numbers
abbrev pub members_at : MergePlan → ℕ → List ℕ
members_at p k = numbers_at p.merged (get_or p.components k [])

-- the job of a component of the plan, with whole signatures of the modules outside, and with what it asks of them alone
abbrev pub whole_job_in : Sources → MergePlan → List (Option Sig) → ℕ → Job
whole_job_in s p made k = job_by s made (members_at p k) (edges_at p.edges.items (get_or p.components k []))

abbrev pub job_in : Sources → MergePlan → List (Option Sig) → ℕ → Job
job_in s p made k = asked_job (whole_job_in s p made k)

-- this is the signature of the module of a number
abbrev pub IsSigAt : Sources → ℕ → Sig → Type 0
IsSigAt s x sig = (path : Bytes) → slice_get (paths_in s) x ≡ Some path → merged (view_in s) path ≡ Some sig

-- these are those of the members of a component, in order
abbrev pub AreSigsOf : Sources → MergePlan → ℕ → List Sig → Type 0
AreSigsOf s p k sigs = AllZip (IsSigAt s) (members_at p k) sigs

-- ---- all waves

-- something stands in each slot
abbrev pub IsFilled : List (Option Sig) → Type 0
IsFilled made = (x : ℕ) → x < length made → IsMade made x

-- Behind the last wave all signatures are made, and are those of the program.
abbrev pub WavesMakeAll : Type 0
WavesMakeAll =
    (s : Sources) (p : MergePlan) (made : List (Option Sig)) → AreSources s → IsPlan s p → AreMergedTo s p (length p.waves) made
    → IsFilled made × ((sigs : List Sig) → map Some sigs ≡ made → AreMerged (view_in s) (program_in s) sigs)
