-- How the signatures of modules are merged, wave by wave.
use Rattle.std.specs.Prelude.{◌≡◌, ℕ, true, List, [], ◌∷◌, length, slice_get, slice_set, Option, Some, option_to_list}
use Rattle.flow_base.specs.Program.{Bytes}
use Rattle.check_values.specs.Rows.{Rows}
use Rattle.check_values.specs.declared.signatures.Sig.{Sig}
use Rattle.heap_core.specs.Meaning.{names}
use Rattle.merged_signatures.specs.Chains.{Known}
use Rattle.merged_signatures.specs.Merged.{merged}
use Rattle.payloads.specs.program_check.specs.Full.{beside}
use Rattle.check_phases.specs.Phases.{knowns}
use Rattle.check_phases.specs.Sourced.{program_in, paths_in, view_in}
use Rattle.check_phases.specs.declared.merging.Sources.{Sources}

-- the signature of the module of a number is made
abbrev pub IsMade : List (Option Sig) → ℕ → Type 0
IsMade made x = (sig : Sig) × (slice_get made x ≡ Some (Some sig))

-- there is room for the signature of each module, and those that are made are right
pub record AreRight (s : Sources) (made : List (Option Sig)) : Type 0 where
  pub many : length made ≡ length s.root.modules
  pub each : (x : ℕ) (path : Bytes) (sig : Sig) → slice_get (paths_in s) x ≡ Some path → slice_get made x ≡ Some (Some sig) → merged (view_in s) path ≡ Some sig

-- ---- a job

-- the modules with what is known of each by itself
abbrev pub known_rows : Sources → Rows Known
known_rows s = beside (program_in s) (knowns s.parses.items s.lists.items)

-- what is known of the module of a number
abbrev pub member_at : Sources → ℕ → Rows Known
member_at s x = option_to_list (slice_get (known_rows s) x)

-- the signature of a module, if it is made
abbrev pub made_row : Option Bytes → Option (Option Sig) → Rows Sig
made_row (Some path) (Some (Some sig)) = (path, sig) ∷ []
made_row path sig = []

-- the signature of the module of a number, if it is made
abbrev pub made_at : Sources → List (Option Sig) → ℕ → Rows Sig
made_at s made y = made_row (slice_get (paths_in s) y) (slice_get made y)

-- signatures, with these put at the places of these numbers
abbrev pub put_all : List ℕ → List Sig → List (Option Sig) → List (Option Sig)
put_all (x ∷ group) (sig ∷ sigs) made = put_all group sigs (slice_set made x (Some sig))
put_all group sigs made = made

-- some modules were merged: what was made stays so, all that is made is right, and theirs is made
pub record HasMerged (s : Sources) (group : List ℕ) (old new : List (Option Sig)) : Type 0 where
  pub right : AreRight s new
  pub keeps : (x : ℕ) → IsMade old x → IsMade new x
  pub made : (x : ℕ) → names group x ≡ true → IsMade new x
