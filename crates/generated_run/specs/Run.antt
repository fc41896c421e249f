-- What a run on made-up modules prints: the load, ten edits that are put and rechecked one by one, and a last line.
use Rattle.std.specs.Prelude.{◌≡◌, ℕ, List, [], ◌∷◌, ◌++◌, Option, Some, codes}
use Rattle.std.specs.Fmt.{decimal}
use Rattle.std.specs.List.{flat_map}
use Rattle.std.specs.List.Sorted.{IsPermutation}
use Rattle.flow_base.specs.Program.{Bytes, Program, paths_of, IsRising}
use Rattle.flow_base.specs.Outside.{appended, HoldsFront}
use Rattle.script_run.specs.beside.specs.Uses.{LaneUse}
use Rattle.check_values.specs.Rows.{Rows}
use Rattle.pending_edits.specs.declared.edit.Edit.{Edit}
use Rattle.generator.specs.Modules.{modules_of, edits_of}
use Rattle.script_line.specs.declared.line.Line.{Line}
use Rattle.script_line.specs.declared.line.Line.TheVariants as line
use Rattle.script_run.specs.Checked.{HasErrorCount}
use Rattle.script_run.specs.Transcript.{Standing, start, Rechecks, Turns}

-- the made-up modules as a folder holds them, in rising order of their paths
pub record IsFolder (n seed : ℕ) (folder : Program) : Type 0 where
  pub whole : IsPermutation (modules_of n seed) folder
  pub rising : IsRising (paths_of folder)

-- An edit is put, and then all is rechecked.
abbrev pub put_and_check : Bytes × Bytes → List Line
put_and_check edit = line.Edit edit.0 edit.1 ∷ line.Recheck 0 [] ∷ []

-- what is done behind the load
abbrev pub turns_of : ℕ → ℕ → List Line
turns_of n seed = flat_map put_and_check (edits_of n seed)

-- These turns are taken, one after the other: they lead from one standing to another one, and print this. No reading fails.
abbrev pub Goes : ℕ → Program → List Line → Standing → Standing → Bytes → Type 0
Goes most folder [] s t printed = (t ≡ s) × (printed ≡ [])
Goes most folder (line ∷ lines) s t printed =
    (next : Standing) × (first rest : Bytes) × Turns most (Some folder) line s next 0 first × Goes most folder lines next t rest × (printed ≡ first ++ rest)

-- generated N modules
abbrev pub generated_line : ℕ → Bytes
generated_line n = codes "generated " ++ (decimal n ++ codes " modules\n")

-- A run on so many modules by a seed, where there may be `most`, over so many lanes, prints this. The program, the version and the uses of
-- the lanes are those at which it ended.
pub record IsGeneratedRun (most lanes n seed : ℕ) (printed : Bytes) (program : Program) (version : ℕ) (uses : List LaneUse) : Type 0 where
  pub folder : Program
  pub is_folder : IsFolder n seed folder
  pub loaded : Standing
  pub load : Bytes
  pub loads : Rechecks (Some folder) 0 (start (paths_of folder) lanes) loaded 0 load
  pub waiting : Rows Edit
  pub lines : Bytes
  pub goes : Goes most folder (turns_of n seed) loaded (record { program = program; version = version; waiting = waiting; lanes = uses }) lines
  pub prints : printed ≡ load ++ (lines ++ generated_line n)

-- such a run was printed, which ended here, and its program has so many errors
pub record HasGenerated (most lanes n seed errors : ℕ) (program : Program) (version : ℕ) (uses : List LaneUse) (before now : Option Bytes) : Type 0 where
  pub printed : Bytes
  pub run : IsGeneratedRun most lanes n seed printed program version uses
  pub written : now ≡ appended before printed
  pub counts : HasErrorCount program errors

-- a front of such a run was printed
pub record HasGeneratedFront (most lanes n seed : ℕ) (before now : Option Bytes) : Type 0 where
  pub printed : Bytes
  pub program : Program
  pub version : ℕ
  pub uses : List LaneUse
  pub run : IsGeneratedRun most lanes n seed printed program version uses
  pub front : HoldsFront before now printed
