-- How rows are given: by marks on those that stand already.
use Rattle.std.specs.Prelude.{◌≡◌, ℕ, suc, ◌+◌, ◌<◌, ◌≤◌, Bool, true, false, List, [], ◌∷◌, ◌++◌, length, slice_get, Option, Some, None, option_to_list, if◌then◌else◌}
use Rattle.std.specs.Option.{option_map}
use Rattle.std.specs.List.{flat_map}
use Rattle.flow_base.specs.Program.{Program}
use Rattle.heap_core.specs.Meaning.{names}
use Rattle.check_values.specs.declared.root.RootRow.{RootRow}
use Rattle.pending_edits.specs.Rows.{next_from}

-- the numbers that there are
abbrev pub somes : List (Option ℕ) → List ℕ
somes kept = flat_map option_to_list kept

-- there are so many marks, and they are on at these numbers
pub record AreMarks (numbers : List ℕ) (many : ℕ) (marks : List Bool) : Type 0 where
  pub size : length marks ≡ many
  pub each : (k : ℕ) → k < many → slice_get marks k ≡ Some (names numbers k)

-- one more number was marked, if there was one
abbrev pub Marks : Option ℕ → List Bool → List Bool → Type 0
Marks row old new = (numbers : List ℕ) (many : ℕ) → AreMarks numbers many old → AreMarks (numbers ++ option_to_list row) many new

-- the least place from this one on whose mark is off
pub record FindsFree (marks : List Bool) (from place : ℕ) : Type 0 where
  pub behind : from ≤ place
  pub free : slice_get marks place ≡ Some false
  pub least : (k : ℕ) → from ≤ k → k < place → slice_get marks k ≡ Some true

-- the row of a module, by the one that it has already, or else by the marks
abbrev pub IsGivenRow : List Bool → ℕ → Option ℕ → ℕ → Type 0
IsGivenRow marks from (Some kept) row = row ≡ kept
IsGivenRow marks from None row = FindsFree marks from row

-- these are the modules of a program with their rows, where the next new one looks for its row from a number on
abbrev pub AreGiven : List (Option ℕ) → List Bool → ℕ → Program → List RootRow → Type 0
AreGiven [] marks from [] [] = Unit {0}
AreGiven (k ∷ kept) marks from (m ∷ program) (r ∷ rows) =
    (r.path ≡ m.0) × (r.text ≡ m.1) × IsGivenRow marks from k r.row × AreGiven kept marks (next_from from k r.row) program rows
AreGiven kept marks from program rows = ⊥

-- ---- free rows are enough

-- the row of the old module of a number, if there is one
abbrev pub row_by : List RootRow → Option ℕ → Option ℕ
row_by ms None = None
row_by ms (Some at) = option_map (λ m. m.row) (slice_get ms at)

-- how many marks are on, and how many are off
abbrev pub ons : List Bool → ℕ
ons [] = 0
ons (b ∷ marks) = if b then suc (ons marks) else ons marks

abbrev pub offs : List Bool → ℕ
offs [] = 0
offs (b ∷ marks) = if b then offs marks else suc (offs marks)

-- how many modules are new
abbrev pub new_one : Option ℕ → ℕ
new_one None = 1
new_one (Some row) = 0

abbrev pub news : List (Option ℕ) → ℕ
news [] = 0
news (k ∷ kept) = new_one k + news kept
