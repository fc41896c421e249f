-- How many modules are counted, while edits wait.
use Rattle.std.specs.Prelude.{◌≡◌, ℕ, ◌+◌, ◌-◌, ◌<◌, ◌≤◌, Bool, true, false, List, length, count_by, Option, Some, None, Result, Ok, Err, if◌then◌else◌}
use Rattle.std.specs.Map.{keys_of, values_of, lookup}
use Rattle.std.specs.BTreeMap.{is_at}
use Rattle.std.specs.Ordering.{nat_cmp}
use Rattle.std.specs.Cmp.Lexicographic.{slice_cmp}
use Rattle.flow_values.specs.Path.{Bytes}
use Rattle.check_values.specs.Rows.{Rows, is_among}
use Rattle.pending_edits.specs.Pending.{Pending}
use Rattle.pending_edits.specs.declared.edit.Edit.{Edit}
use Rattle.pending_edits.specs.declared.edit.Edit.TheVariants.{Put, Touch, Delete}
use Rattle.pending_edits.specs.declared.edit.EditFault.{EditFault}
use Rattle.pending_edits.specs.declared.edit.EditFault.TheVariants.{TooManyModules, NoMemory}

-- a path may be a module after an edit
abbrev pub keeps : Edit → Bool
keeps (Put text) = true
keeps Touch = true
keeps Delete = false

-- the number of paths that may be modules by their edits
abbrev pub kept_in : Rows Edit → ℕ
kept_in edits = count_by keeps (values_of edits)

-- 1 where there is an edit by which its path may be a module, else 0
abbrev pub kept_of : Option Edit → ℕ
kept_of None = 0
kept_of (Some edit) = if keeps edit then 1 else 0

-- the edit of a path, if it has one
abbrev pub edit_at : Rows Edit → Bytes → Option Edit
edit_at edits path = lookup (is_at (slice_cmp nat_cmp path)) edits

-- 1 where a path has no edit yet and passes a test, else 0
abbrev pub newly : Option Edit → Bool → ℕ
newly None b = if b then 1 else 0
newly (Some edit) b = 0

-- the number of edits of these paths
abbrev pub edits_of : List Bytes → Rows Edit → ℕ
edits_of paths edits = count_by (is_among paths) (keys_of edits)

-- Counted are the paths that may be modules by their edits, and those of the program that have no edit.
abbrev pub counted : List Bytes → Rows Edit → ℕ
counted paths edits = kept_in edits + (length paths - edits_of paths edits)

-- an edit after which so many modules would be counted is refused for their number exactly where they are too many
abbrev pub LimitsModules : {T : Type 0} → ℕ → ℕ → Result T EditFault → Type 0
LimitsModules capacity modules (Ok _) = modules ≤ capacity
LimitsModules capacity modules (Err (TooManyModules count)) = (capacity < modules) × (count ≡ modules)
LimitsModules capacity modules (Err NoMemory) = modules ≤ capacity

-- The edits stand on a program of these paths: what the code keeps to count its modules is right.
abbrev pub StandsOn : List Bytes → Pending → Type 0
StandsOn paths p = p.found + count_by (is_among paths) p.unseen ≡ edits_of paths p.edits
