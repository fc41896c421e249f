-- A dependency list that is made again by its own specifiers, among other paths.
use Rattle.std.specs.Prelude.{◌≡◌, ℕ, true, List, map, slice_get, Option, Some}
use Rattle.flow_base.specs.Program.{Bytes, Program}
use Rattle.check_values.specs.Rows.{is_among}
use Rattle.check_values.specs.declared.signatures.DepRow.{DepRow}
use Rattle.check_values.specs.declared.signatures.Deps.{Deps}
use Rattle.js_grammar.specs.Items.{Module}
use Rattle.affected_law.specs.source_front.specs.declared.parse.Parse.{Parse}
use Rattle.affected_law.specs.source_front.specs.Front.{IsParse}
use Rattle.module_resolution.specs.Resolution.{candidates, resolved}
use Rattle.module_resolution.specs.Dependencies.{dependencies_of}
use Rattle.affected_law.specs.program_check.specs.Full.{Results, deps_in}
use Rattle.affected_law.specs.Kept.{IsModuleOf}

-- a row, by its own specifier, with what it finds among these paths
abbrev pub row_again : List Bytes → Bytes → DepRow → DepRow
row_again paths from row = record { spec = row.spec; found = resolved paths from row.spec }

-- the list of the module at a path, with what each of its specifiers finds among these paths
abbrev pub again : List Bytes → Bytes → Deps → Deps
again paths from deps = record { rows = map (row_again paths from) deps.rows }

-- A list made again is the list of the module among the new paths, so no tree need be walked where only paths came or went.
abbrev pub ListsAgain : Type 0
ListsAgain = (old new : List Bytes) (from : Bytes) (m : Option Module) → again new from (dependencies_of old from m) ≡ dependencies_of new from m

-- so is that of a module of a full check, whatever parse of its text is taken
abbrev pub DepsServeAgain : Type 0
DepsServeAgain =
    (program : Program) (results : List Results) (path text : Bytes) (r : Results) → IsModuleOf program results path text r
    → (paths : List Bytes) (parse : Parse) → IsParse text parse → again paths path r.deps ≡ deps_in paths path parse

-- none of the paths that a specifier may find came or went
abbrev pub KeepsCandidates : List Bytes → List Bytes → Bytes → Bytes → Type 0
KeepsCandidates old new from spec = (path : Bytes) → is_among (candidates from spec) path ≡ true → is_among new path ≡ is_among old path

-- Then it finds what it found.
abbrev pub FoundStays : Type 0
FoundStays = (old new : List Bytes) (from spec : Bytes) → KeepsCandidates old new from spec → resolved new from spec ≡ resolved old from spec

-- a row that has what its specifier finds among the old paths, of whose candidates none came or went
abbrev pub RowStays : List Bytes → List Bytes → Bytes → DepRow → Type 0
RowStays old new from row = (row.found ≡ resolved old from row.spec) × KeepsCandidates old new from row.spec

-- Then it is itself the row made again.
abbrev pub RowsStay : Type 0
RowsStay = (old new : List Bytes) (from : Bytes) (row : DepRow) → RowStays old new from row → row_again new from row ≡ row

-- none of the candidates of any row came or went
abbrev pub KeepsAllCandidates : List Bytes → List Bytes → Bytes → Deps → Type 0
KeepsAllCandidates old new from deps = (i : ℕ) (row : DepRow) → slice_get deps.rows i ≡ Some row → KeepsCandidates old new from row.spec

-- Then the list is what it was.
abbrev pub ListsStay : Type 0
ListsStay =
    (old new : List Bytes) (from : Bytes) (m : Option Module) → KeepsAllCandidates old new from (dependencies_of old from m)
    → dependencies_of new from m ≡ dependencies_of old from m
