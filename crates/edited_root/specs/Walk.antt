-- How the old modules and the edits are walked together.
use Rattle.std.specs.Prelude.{◌≡◌, ℕ, ◌+◌, ◌≤◌, Bool, true, false, not, List, [], ◌∷◌, ◌++◌, map, length, take, drop, slice_get, Option, Some, None, if◌then◌else◌}
use Rattle.std.specs.List.{AllByRecursion}
use Rattle.std.specs.Str.{bytes_eq}
use Rattle.std.specs.Ordering.{nat_cmp, is_lt}
use Rattle.std.specs.Cmp.Lexicographic.{slice_cmp}
use Rattle.std.specs.declared.cmp.Ordering.TheVariants.{Less}
use Rattle.flow_values.specs.Path.{IsRising}
use Rattle.flow_base.specs.Program.{Bytes, Program, text_at}
use Rattle.check_values.specs.declared.root.RootRow.{RootRow}
use Rattle.pending_edits.specs.Pending.{with_text}
use Rattle.edited_root.specs.From.{texts_in, number_in, has_text}
use Rattle.edited_root.specs.declared.walking.Draft.{Draft}

-- a module is right where it tells what it was among these
abbrev pub IsDraftOf : List RootRow → Draft → Type 0
IsDraftOf ms d = (d.from ≡ number_in ms d.path) × (d.fresh ≡ not (has_text (text_at (texts_in ms) d.path) d.text))

abbrev pub drafted : List Draft → Program
drafted ds = map (λ d. (d.path, d.text)) ds

-- a module is there, and is below a path, or has it
abbrev pub is_below : Option RootRow → Bytes → Bool
is_below None path = false
is_below (Some m) path = is_lt (slice_cmp nat_cmp m.path path)

abbrev pub is_here : Option RootRow → Bytes → Bool
is_here None path = false
is_here (Some m) path = bytes_eq m.path path

-- a module as it was, a new one, and one that has a text by an edit
abbrev pub kept_draft : ℕ → RootRow → Draft
kept_draft at m = record { path = m.path; text = m.text; from = Some at; fresh = false }

abbrev pub new_draft : Bytes → Bytes → Draft
new_draft path text = record { path = path; text = text; from = None; fresh = true }

abbrev pub edited_draft : RootRow → ℕ → Bytes → Bytes → Draft
edited_draft m at path text = record { path = path; text = text; from = Some at; fresh = not (bytes_eq m.text text) }

-- a path with a text, beside the old module of this number
abbrev pub draft_beside : Option RootRow → ℕ → Bytes → Bytes → Draft
draft_beside None at path text = new_draft path text
draft_beside (Some m) at path text = if bytes_eq m.path path then edited_draft m at path text else new_draft path text

abbrev pub drafts_beside : Option RootRow → ℕ → Bytes → Option Bytes → List Draft
drafts_beside m at path None = []
drafts_beside m at path (Some text) = draft_beside m at path text ∷ []

-- the module of a number was taken over
pub record KeepsOne (ms : List RootRow) (at : ℕ) (old new : List Draft) : Type 0 where
  pub module_there : RootRow
  pub is_there : slice_get ms at ≡ Some module_there
  pub kept : new ≡ old ++ kept_draft at module_there ∷ []

-- this path is below all of these
abbrev pub IsUnder : List Bytes → Bytes → Type 0
IsUnder paths path = AllByRecursion (λ other. slice_cmp nat_cmp path other ≡ Less) paths

-- The walk stands before these paths: a program is what was taken over so far, with the modules from a number on.
pub record StandsBefore (ms : List RootRow) (program : Program) (paths : List Bytes) (at : ℕ) (drafts : List Draft) : Type 0 where
  pub is : program ≡ drafted drafts ++ texts_in (drop at ms)
  pub within : at ≤ length ms
  pub right : AllByRecursion (IsDraftOf ms) drafts
  pub taken : AllByRecursion (λ d. IsUnder paths d.path) drafts
  pub passed : AllByRecursion (λ m. IsUnder paths m.path) (take at ms)

-- it goes on to a path
abbrev pub Walks : List RootRow → Bytes → ℕ → ℕ → List Draft → List Draft → Type 0
Walks ms path at next old new = (program : Program) (paths : List Bytes) → IsRising (path ∷ paths) → StandsBefore ms program (path ∷ paths) at old → StandsBefore ms program (path ∷ paths) next new

-- the number of the first module behind a path
abbrev pub behind : Option RootRow → ℕ → Bytes → ℕ
behind m at path = if is_here m path then at + 1 else at

-- it goes on behind a path, which was given this text, or none
abbrev pub GivesText : List RootRow → Bytes → Option Bytes → ℕ → ℕ → List Draft → List Draft → Type 0
GivesText ms path text at next old new =
    (program : Program) (paths : List Bytes) → IsRising (path ∷ paths) → StandsBefore ms program (path ∷ paths) at old → StandsBefore ms (with_text program path text) paths next new

-- all was taken over
pub record AreDrafts (ms : List RootRow) (program : Program) (drafts : List Draft) : Type 0 where
  pub is : program ≡ drafted drafts
  pub right : AllByRecursion (IsDraftOf ms) drafts
