-- By its imports and by what it reaches, a module leads to modules of its program alone.
use Rattle.std.specs.Prelude.{◌≡◌, true, List, Option, Some, IsSome}
use Rattle.flow_base.specs.Program.{Bytes, Program}
use Rattle.check_values.specs.Rows.{is_among}
use Rattle.check_values.specs.declared.signatures.Sig.{Sig}
use Rattle.js_grammar.specs.Items.{Module}
use Rattle.module_resolution.specs.Dependencies.{dependencies_of}
use Rattle.merged_signatures.specs.Chains.{View, found}
use Rattle.merged_signatures.specs.Imports.{Imports}
use Rattle.merged_signatures.specs.Merged.{merged}
use Rattle.merged_signatures.specs.Reach.{Reach, paths_named}
use Rattle.program_check.specs.Full.{Results, view_in, sigs_in, IsFull}
use Rattle.affected_law.specs.Affected.{IsPathOf, results_at}

-- what a specifier finds is among the paths of the program
abbrev pub FoundIsAmong : Type 0
FoundIsAmong =
    (paths : List Bytes) (from : Bytes) (m : Option Module) (spec path : Bytes) → found (dependencies_of paths from m) spec ≡ Some path → is_among paths path ≡ true

-- a merged signature names only modules of which something is known
abbrev pub NamedIsKnown : Type 0
NamedIsKnown = (v : View) (path other : Bytes) (s : Sig) → merged v path ≡ Some s → is_among (paths_named s) other ≡ true → IsSome (v other)

-- so imports lead from paths of a program to paths of it
abbrev pub ImportsStayInside : Type 0
ImportsStayInside =
    (program : Program) (results : List Results) → IsFull program results
    → (path other : Bytes) → IsPathOf program path → Imports (view_in program results) path other → IsPathOf program other

-- and a module reaches paths of its program alone
abbrev pub ReachStaysInside : Type 0
ReachStaysInside =
    (program : Program) (results : List Results) → IsFull program results
    → (path other : Bytes) (r : Results) → results_at program results path ≡ Some r → Reach (sigs_in program results) r.deps other → IsPathOf program other
