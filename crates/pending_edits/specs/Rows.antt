-- The root of the edited program: a module of both programs keeps its row, and a new one takes the least row that is free.
use Rattle.std.specs.Prelude.{◌≡◌, ℕ, suc, ◌<◌, ◌≤◌, true, false, List, [], ◌∷◌, Option, Some, None, option_to_list, if◌then◌else◌}
use Rattle.std.specs.List.{flat_map}
use Rattle.std.specs.Str.{bytes_eq}
use Rattle.flow_base.specs.Program.{Bytes, Program}
use Rattle.heap_core.specs.Meaning.{names}
use Rattle.check_values.specs.declared.root.RootRow.{RootRow}
use Rattle.check_values.specs.declared.root.Root.{Root}

-- the row of a path among modules, if it is one of them
abbrev pub row_of : List RootRow → Bytes → Option ℕ
row_of [] path = None
row_of (m ∷ ms) path = if bytes_eq m.path path then Some m.row else row_of ms path

-- the rows that stand already for the modules of a program
abbrev pub kept_rows : List RootRow → Program → List ℕ
kept_rows old program = flat_map (λ m. option_to_list (row_of old m.0)) program

-- the least number from this one on that isn't taken
pub record IsLeastFree (taken : List ℕ) (from row : ℕ) : Type 0 where
  pub behind : from ≤ row
  pub free : names taken row ≡ false
  pub least : (k : ℕ) → from ≤ k → k < row → names taken k ≡ true

-- the row of a module: the one that stands already for it, or else the least free one
abbrev pub IsRowOf : List ℕ → ℕ → Option ℕ → ℕ → Type 0
IsRowOf taken from (Some kept) row = row ≡ kept
IsRowOf taken from None row = IsLeastFree taken from row

-- from where on the next new module looks for its row
abbrev pub next_from : ℕ → Option ℕ → ℕ → ℕ
next_from from (Some kept) row = from
next_from from None row = suc row

-- these are the modules of a program with their rows, where the next new one takes the least free row from a number on
abbrev pub AreNumbered : List RootRow → List ℕ → ℕ → Program → List RootRow → Type 0
AreNumbered old taken from [] [] = Unit {0}
AreNumbered old taken from (m ∷ program) (r ∷ rows) =
    (r.path ≡ m.0) × (r.text ≡ m.1) × IsRowOf taken from (row_of old m.0) r.row × AreNumbered old taken (next_from from (row_of old m.0) r.row) program rows
AreNumbered old taken from program rows = ⊥

-- This root follows another one, and names this program.
abbrev pub Follows : Root → Program → Root → Type 0
Follows old program new = AreNumbered old.modules (kept_rows old.modules program) 0 program new.modules
