-- How the modules of a version and the texts of paths are walked over together.
use Rattle.std.specs.Prelude.{Bool, List, [], ◌∷◌, ◌++◌, Option, Some, None, if◌then◌else◌}
use Rattle.std.specs.Str.{bytes_eq}
use Rattle.std.specs.Ordering.{nat_cmp, is_lt}
use Rattle.std.specs.Cmp.Lexicographic.{slice_cmp}
use Rattle.flow_base.specs.Program.{Bytes}
use Rattle.check_values.specs.declared.root.RootRow.{RootRow}
use Rattle.recheck_plan.specs.declared.changing.Changes.{Changes}
use Rattle.recheck_plan.specs.Differing.{is_added, is_differing, is_removed}

-- the modules from the first one on whose path is not below this one
abbrev pub from_path : Bytes → List RootRow → List RootRow
from_path path [] = []
from_path path (m ∷ modules) = if is_lt (slice_cmp nat_cmp m.path path) then from_path path modules else m ∷ modules

-- the text of the first module, if its path is this one
abbrev pub text_of_first : Bytes → List RootRow → Option Bytes
text_of_first path [] = None
text_of_first path (m ∷ modules) = if bytes_eq m.path path then Some m.text else None

-- a path where a test passes, else none
abbrev pub path_if : Bool → Bytes → List Bytes
path_if passes path = if passes then path ∷ [] else []

-- the changes with that of one path behind them
abbrev pub with_path : Changes → Bytes → Option Bytes → Option Bytes → Changes
with_path changes path before now = record {
  added = changes.added ++ path_if (is_added before now) path;
  differing = changes.differing ++ path_if (is_differing before now) path;
  removed = changes.removed ++ path_if (is_removed before now) path;
}
