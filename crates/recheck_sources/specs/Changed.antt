-- The modules that an edit changes by themselves.
use Rattle.std.specs.Prelude.{◌≡◌, ◌≢◌, ◌⊎◌, Option, Some}
use Rattle.flow_base.specs.Program.{Bytes}
use Rattle.check_values.specs.Rows.{row_at}
use Rattle.check_values.specs.declared.signatures.Deps.{Deps}
use Rattle.check_phases.specs.program_check.specs.Full.{beside}
use Rattle.edited_root.specs.affected_law.specs.Affected.{Parsed}
use Rattle.check_phases.specs.Sourced.{program_in}
use Rattle.check_phases.specs.declared.merging.Sources.{Sources}

-- the dependency list of the module at a path
abbrev pub list_at : Sources → Bytes → Option Deps
list_at s path = row_at (beside (program_in s) s.lists.items) path

-- The path is new, or has another text, or another dependency list.
abbrev pub IsChanged : Sources → Sources → Bytes → Type 0
IsChanged was s path =
    Parsed (program_in was) (program_in s) path
    ⊎ ((d : Deps) × (e : Deps) × (list_at was path ≡ Some d) × (list_at s path ≡ Some e) × (e ≢ d))
