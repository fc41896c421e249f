-- The modules of a program with what is known of each by itself.
use Rattle.std.specs.Prelude.{◌≡◌, List}
use Rattle.flow_base.specs.Program.{Bytes, Program, IsRising}
use Rattle.check_values.specs.Roots.{paths_of}
use Rattle.merged_signatures.specs.Chains.{View}
use Rattle.merged_signatures.specs.Repeats.{IsSmall}
use Rattle.payloads.specs.State.{program_of}
use Rattle.check_phases.specs.Phases.{AreParsed, lists_in, view_by}
use Rattle.check_phases.specs.declared.merging.Sources.{Sources}

abbrev pub program_in : Sources → Program
program_in s = program_of s.root

abbrev pub paths_in : Sources → List Bytes
paths_in s = paths_of s.root

-- the modules as merging sees them
abbrev pub view_in : Sources → View
view_in s = view_by (program_in s) s.parses.items s.lists.items

-- what is known of each module is right, and their names are few
pub record AreSources (s : Sources) : Type 0 where
  pub rising : IsRising (paths_in s)
  pub parsed : AreParsed (program_in s) s.parses.items
  pub listed : s.lists.items ≡ lists_in (paths_in s) (program_in s) s.parses.items
  pub small : IsSmall (view_in s)
