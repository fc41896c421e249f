-- What the modules of the edited program were in the old one.
use Rattle.std.specs.Prelude.{◌≡◌, ℕ, suc, Bool, false, not, List, [], ◌∷◌, map, filter, Option, Some, None, if◌then◌else◌}
use Rattle.std.specs.Option.{option_map}
use Rattle.std.specs.Str.{bytes_eq}
use Rattle.flow_base.specs.Program.{Bytes, Program, text_at}
use Rattle.heap_core.specs.Meaning.{names}
use Rattle.check_values.specs.declared.root.RootRow.{RootRow}
use Rattle.check_values.specs.declared.root.Root.{Root}
use Rattle.payloads.specs.State.{program_of}

-- modules with their texts
abbrev pub texts_in : List RootRow → Program
texts_in ms = map (λ m. (m.path, m.text)) ms

-- the number of the module of a path, if it is one of them
abbrev pub number_in : List RootRow → Bytes → Option ℕ
number_in [] path = None
number_in (m ∷ ms) path = if bytes_eq m.path path then Some 0 else option_map suc (number_in ms path)

-- the number that each module had, if it was one
abbrev pub numbers_from : Root → Root → List (Option ℕ)
numbers_from old new = map (λ m. number_in old.modules m.path) new.modules

-- there is a text, and it is this one
abbrev pub has_text : Option Bytes → Bytes → Bool
has_text None text = false
has_text (Some other) text = bytes_eq other text

-- whether each module is new or has another text than before
abbrev pub fresh_from : Root → Root → List Bool
fresh_from old new = map (λ m. not (has_text (text_at (program_of old) m.path) m.text)) new.modules

abbrev pub rows_in : Root → List ℕ
rows_in root = map (λ m. m.row) root.modules

-- the rows of the old root that the new one doesn't use
abbrev pub freed_from : Root → Root → List ℕ
freed_from old new = filter (λ row. not (names (rows_in new) row)) (rows_in old)
