-- The parts of a full check that serve on in the full check of another program.
use Rattle.std.specs.Prelude.{◌≡◌, ◌↔◌, Bool, true, List, Some}
use Rattle.flow_base.specs.Program.{Bytes, Program, paths_of, text_at}
use Rattle.check_values.specs.Rows.{Rows, row_at}
use Rattle.check_values.specs.declared.faults.Fault.{Fault}
use Rattle.check_values.specs.declared.signatures.Sig.{Sig}
use Rattle.program_check.specs.source_front.specs.declared.parse.Parse.{Parse}
use Rattle.program_check.specs.source_front.specs.Front.{IsParse}
use Rattle.merged_signatures.specs.Chains.{View}
use Rattle.merged_signatures.specs.Imports.{Imports, Edge}
use Rattle.merged_signatures.specs.Merged.{merged}
use Rattle.reach_law.specs.errors_by_reach.specs.Law.{HasErrors, AreErrors, Agree}
use Rattle.program_check.specs.check_job.specs.Jobs.{source_in}
use Rattle.program_check.specs.Full.{Results, view_in, sigs_in, deps_in, IsFull}
use Rattle.affected_law.specs.Affected.{results_at}

-- what merging sees of each module to which the imports of a path lead is what it saw
abbrev pub KeepsImports : View → View → Bytes → Type 0
KeepsImports old new path = (other : Bytes) → Imports new path other → new other ≡ old other

-- Marks that no import leaves keep the imports, where what merging sees of each that is marked is what it saw.
abbrev pub MarksKeepImports : Type 0
MarksKeepImports =
    (old new : View) (marked : Bytes → Bool) → ((path other : Bytes) → marked path ≡ true → Edge new path other → marked other ≡ true)
    → ((path : Bytes) → marked path ≡ true → new path ≡ old path) → (path : Bytes) → marked path ≡ true → KeepsImports old new path

-- a module of a program, with its results in the full check
pub record IsModuleOf (program : Program) (results : List Results) (path text : Bytes) (r : Results) : Type 0 where
  pub full : IsFull program results
  pub has_text : text_at program path ≡ Some text
  pub has_results : results_at program results path ≡ Some r

-- what a source says by itself serves as long as its text stays
abbrev pub ParseServes : Type 0
ParseServes = (program : Program) (results : List Results) (path text : Bytes) (r : Results) → IsModuleOf program results path text r → IsParse text r.parse

-- A dependency list serves as long as the text and the paths of the program stay, whatever parse of the text is taken.
abbrev pub DepsServe : Type 0
DepsServe =
    (program : Program) (results : List Results) (path text : Bytes) (r : Results) → IsModuleOf program results path text r
    → (parse : Parse) → IsParse text parse → r.deps ≡ deps_in (paths_of program) path parse

-- a merged signature serves in each program that keeps the imports
abbrev pub SigServes : Type 0
SigServes =
    (program : Program) (results : List Results) (path text : Bytes) (r : Results) → IsModuleOf program results path text r
    → (view : View) → KeepsImports (view_in program results) view path → merged view path ≡ Some r.sig

-- Errors serve as long as the text and the dependency list stay, among all signatures with which the old ones agree where the module
-- reaches.
abbrev pub ErrorsServe : Type 0
ErrorsServe =
    (program : Program) (results : List Results) (path text : Bytes) (r : Results) → IsModuleOf program results path text r
    → (parse : Parse) (sigs : Rows Sig) → IsParse text parse → Agree (row_at sigs) r.deps (sigs_in program results) → HasErrors path r.deps (source_in parse.tree) (row_at sigs) r.errors

-- A job that is told some signatures, which say where its module reaches what those of the full check do, is to find the errors of the
-- full check and no others.
abbrev pub JobsFindErrors : Type 0
JobsFindErrors =
    (program : Program) (results : List Results) (path text : Bytes) (r : Results) → IsModuleOf program results path text r
    → (told : Rows Sig) (errors : List Fault) → Agree (sigs_in program results) r.deps (row_at told) → AreErrors path r.deps (source_in r.parse.tree) (row_at told) errors ↔ (errors ≡ r.errors)
