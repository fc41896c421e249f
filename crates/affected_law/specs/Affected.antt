-- The paths at which an edit of a program may change its full check.
use Rattle.std.specs.Prelude.{◌≡◌, ◌≢◌, List, Option, Some, IsSome}
use Rattle.flow_base.specs.Program.{Bytes, Program, text_at}
use Rattle.check_values.specs.Rows.{row_at}
use Rattle.merged_signatures.specs.Imports.{Imports}
use Rattle.merged_signatures.specs.Reach.{Reach}
use Rattle.program_check.specs.Full.{Results, beside, view_in, sigs_in}

-- a path of the program
abbrev pub IsPathOf : Program → Bytes → Type 0
IsPathOf program path = IsSome (text_at program path)

-- the results of the module at a path
abbrev pub results_at : Program → List Results → Bytes → Option Results
results_at program results path = row_at (beside program results) path

-- what stands at a path is new or differs
abbrev pub Differs : {X : Type 0} → (Bytes → Option X) → (Bytes → Option X) → Bytes → Type 0
Differs old new path = new path ≢ old path

-- The paths of the new program that are new or have other bytes.
abbrev pub Parsed : Program → Program → Bytes → Type 0
Parsed old new path = IsPathOf new path × Differs (text_at old) (text_at new) path

module _ (old new : Program) (before after : List Results) where
  -- The paths of the new program whose imports lead to one of which the local signature or the dependency list is new or differs.
  abbrev pub Merged : Bytes → Type 0
  Merged path = IsPathOf new path × (other : Bytes) × Imports (view_in new after) path other × Differs (view_in old before) (view_in new after) other

  -- The paths of the new program that are new, or of which the bytes or the dependency list differ, or that reach one of which the
  -- merged signature is new or differs.
  pub data Checked (path : Bytes) : Type 0 where
    by_text : Parsed old new path → Checked path
    by_deps : (r s : Results) → results_at old before path ≡ Some r → results_at new after path ≡ Some s → s.deps ≢ r.deps → Checked path
    by_reach : (s : Results) (other : Bytes) → results_at new after path ≡ Some s → Reach (sigs_in new after) s.deps other → Differs (sigs_in old before) (sigs_in new after) other → Checked path
