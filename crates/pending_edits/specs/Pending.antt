-- The edits that wait, and what becomes of a program by them.
use Rattle.std.specs.Prelude.{◌≡◌, ◌⊎◌, ℕ, List, [], ◌∷◌, Option, Some, None}
use Rattle.std.specs.Map.{remove_entry}
use Rattle.std.specs.BTreeMap.{insert_entry, is_at}
use Rattle.std.specs.Ordering.{nat_cmp}
use Rattle.std.specs.Cmp.Lexicographic.{slice_cmp}
use Rattle.flow_base.specs.Program.{Bytes, Program, text_at}
use Rattle.flow_base.specs.Outside.{WhereTold}
use Rattle.check_values.specs.Rows.{Rows}
use Rattle.pending_edits.specs.declared.edit.Edit.{Edit}
use Rattle.pending_edits.specs.declared.edit.Edit.TheVariants.{Put, Touch, Delete}

-- One edit for each path, in rising order of the paths; how many modules may be counted; and what the code keeps to count them: how
-- many edits are of modules of the committed root, but for the deleted paths that were not looked up in it yet.
pub record Pending : Type 0 where
  pub edits : Rows Edit
  pub capacity : ℕ
  pub found : ℕ
  pub unseen : List Bytes

-- the edits with this one, in the stead of one of the same path
abbrev pub with_edit : Rows Edit → Bytes → Edit → Rows Edit
with_edit edits path edit = insert_entry (slice_cmp nat_cmp) edits path edit

-- the text that an edit gives a path, if the path is then a module; the folder holds this program
abbrev pub text_by : Program → Bytes → Edit → Option Bytes
text_by folder path (Put text) = Some text
text_by folder path Touch = text_at folder path
text_by folder path Delete = None

-- the program in which a path has this text, or is no module
abbrev pub with_text : Program → Bytes → Option Bytes → Program
with_text program path (Some text) = insert_entry (slice_cmp nat_cmp) program path text
with_text program path None = remove_entry (is_at (slice_cmp nat_cmp path)) program

-- The edited program, where the folder holds this one.
abbrev pub edited : Program → Program → Rows Edit → Program
edited folder program [] = program
edited folder program (e ∷ edits) = edited folder (with_text program e.0 (text_by folder e.0 e.1)) edits

-- a program that the edits may come to: with some program of the folder, which is its own where it tells it
abbrev pub MayBecome : Option Program → Program → Rows Edit → Program → Type 0
MayBecome told before edits after = (folder : Program) × WhereTold told (λ its. folder ≡ its) × (after ≡ edited folder before edits)

-- the folder is to be read for this path
abbrev pub IsTouched : Rows Edit → Bytes → Type 0
IsTouched [] path = ⊥
IsTouched (e ∷ edits) path = ((e.0 ≡ path) × (e.1 ≡ Touch)) ⊎ IsTouched edits path
