-- What the texts that paths have now change of a version.
use Rattle.std.specs.Prelude.{Bool, true, false, not, List, map, filter, Option, Some, None}
use Rattle.std.specs.Str.{bytes_eq}
use Rattle.flow_values.specs.Path.{IsRising}
use Rattle.flow_base.specs.Program.{Bytes, Program, text_at}
use Rattle.check_values.specs.Rows.{Rows}
use Rattle.check_values.specs.declared.root.RootRow.{RootRow}
use Rattle.check_values.specs.declared.root.Root.{Root}
use Rattle.recheck_plan.specs.declared.changing.Changes.{Changes}

-- modules with their texts
abbrev pub texts_in : List RootRow → Program
texts_in modules = map (λ m. (m.path, m.text)) modules

-- a path has a text that it had not
abbrev pub is_added : Option Bytes → Option Bytes → Bool
is_added None (Some now) = true
is_added before now = false

-- it has another text
abbrev pub is_differing : Option Bytes → Option Bytes → Bool
is_differing (Some before) (Some now) = not (bytes_eq before now)
is_differing before now = false

-- it has no text any more
abbrev pub is_removed : Option Bytes → Option Bytes → Bool
is_removed (Some before) None = true
is_removed before now = false

-- of the paths that have these texts now those whose text before and text now pass a test, in order
abbrev pub paths_where : (Option Bytes → Option Bytes → Bool) → Program → Rows (Option Bytes) → List Bytes
paths_where test before texts = map (λ t. t.0) (filter (λ t. test (text_at before t.0) t.1) texts)

-- what these texts change of a version
abbrev pub changes_of : Root → Rows (Option Bytes) → Changes
changes_of root texts = record {
  added = paths_where is_added (texts_in root.modules) texts;
  differing = paths_where is_differing (texts_in root.modules) texts;
  removed = paths_where is_removed (texts_in root.modules) texts;
}

-- each of the three lists rises
abbrev pub AreRising : Changes → Type 0
AreRising changes = IsRising changes.added × IsRising changes.differing × IsRising changes.removed
