-- Steps between paths as edges between their places in a list.
use Rattle.std.specs.Prelude.{◌≡◌, ◌↔◌, ℕ, List, length, slice_get, Some}
use Rattle.flow_base.specs.Program.{Bytes, Program, IsRising, paths_of}
use Rattle.graph_search.specs.Cycles as graph
use Rattle.graph_search.specs.Cycles.{Leads}
use Rattle.merged_signatures.specs.Imports.{Imports}
use Rattle.affected_sizes.specs.program_check.specs.Full.{Results, view_in, sigs_in, IsFull}
use Rattle.affected_sizes.specs.Polls.{AreImports}
use Rattle.recheck_law.specs.Names.{Names, LeadsByNames}

-- a step leads from the path at one place to that at the other
pub record IsStep (Along : Bytes → Bytes → Type 0) (paths : List Bytes) (x y : ℕ) : Type 0 where
  pub path : Bytes
  pub other : Bytes
  pub at_path : slice_get paths x ≡ Some path
  pub at_other : slice_get paths y ≡ Some other
  pub step : Along path other

-- the steps among paths, as edges between their places, in whatever order those of a place stand
pub record AreSteps (Along : Bytes → Bytes → Type 0) (paths : List Bytes) (edges : List (List ℕ)) : Type 0 where
  pub len : length edges ≡ length paths
  pub sound : (x y : ℕ) → graph.Edge edges x y → IsStep Along paths x y
  pub complete : (x y : ℕ) → IsStep Along paths x y → graph.Edge edges x y

-- the places of two paths
pub record AreAt (paths : List Bytes) (x y : ℕ) (path other : Bytes) : Type 0 where
  pub at_path : slice_get paths x ≡ Some path
  pub at_other : slice_get paths y ≡ Some other

-- Edges lead from place to place exactly where imports lead from path to path,
abbrev pub ImportsLeadAsEdges : Type 0
ImportsLeadAsEdges =
    (program : Program) (results : List Results) (edges : List (List ℕ)) → IsFull program results → IsRising (paths_of program)
    → AreImports (view_in program results) (paths_of program) edges → (x y : ℕ) (path other : Bytes) → AreAt (paths_of program) x y path other
    → Leads (graph.Edge edges) x y ↔ Imports (view_in program results) path other

-- and exactly where names do.
abbrev pub NamesLeadAsEdges : Type 0
NamesLeadAsEdges =
    (program : Program) (results : List Results) (edges : List (List ℕ)) → IsFull program results → IsRising (paths_of program)
    → AreSteps (Names (sigs_in program results)) (paths_of program) edges → (x y : ℕ) (path other : Bytes) → AreAt (paths_of program) x y path other
    → Leads (graph.Edge edges) x y ↔ LeadsByNames (sigs_in program results) path other
