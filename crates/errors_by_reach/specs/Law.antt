-- The errors of a module in a program, and what they depend on.
use Rattle.std.specs.Prelude.{◌≡◌, ℕ, List, Option}
use Rattle.flow_values.specs.declared.span.Span.{Span}
use Rattle.js_grammar.specs.Items.{Module}
use Rattle.check_values.specs.Rows.{Bytes}
use Rattle.check_values.specs.declared.codes.Code.{Code}
use Rattle.check_values.specs.declared.faults.Fault.{Fault}
use Rattle.check_values.specs.declared.signatures.Deps.{Deps}
use Rattle.type_values.specs.declared.types.FlowType.{FlowType}
use Rattle.module_errors.specs.merged_signatures.specs.Reach.{Reach}
use Rattle.module_errors.specs.Program.{Program}
use Rattle.module_errors.specs.Errors.{module_errors, broken_errors, type_at_place}
use Rattle.errors_by_reach.specs.Seen.{Sigs, IsTable, IsSeen}

-- A source: its tree and the span of each token, or its fault and the byte place of it.
pub data Source : Type 0 where
  whole : Module → List Span → Source
  broken : Code → ℕ → Source

-- These are the errors of the module at a path, with these dependencies, by these merged signatures: it sees all of them.
abbrev pub HasErrors : Bytes → Deps → Source → Sigs → List Fault → Type 0
HasErrors path deps (whole m spans) sigs errors = (p : Program) × IsSeen path deps m sigs p × (errors ≡ module_errors p m spans)
HasErrors path deps (broken code place) sigs errors = errors ≡ broken_errors code place

-- These are the errors by those signatures alone that the module reaches: what a job is to find, whatever else it is told.
abbrev pub AreErrors : Bytes → Deps → Source → Sigs → List Fault → Type 0
AreErrors path deps source sigs errors = (table : Sigs) × IsTable sigs deps table × HasErrors path deps source table errors

-- This is the type at a byte place of a module, where an expression that is read covers it.
abbrev pub HasType : Bytes → Deps → Module → List Span → Sigs → ℕ → Option FlowType → Type 0
HasType path deps m spans sigs place answer = (p : Program) × IsSeen path deps m sigs p × (answer ≡ type_at_place p m spans place)

-- And so by those signatures alone that it reaches.
abbrev pub IsTypeAt : Bytes → Deps → Module → List Span → Sigs → ℕ → Option FlowType → Type 0
IsTypeAt path deps m spans sigs place answer = (table : Sigs) × IsTable sigs deps table × HasType path deps m spans table place answer

-- where the module reaches, others say the same
abbrev pub Agree : Sigs → Deps → Sigs → Type 0
Agree sigs deps others = (path : Bytes) → Reach sigs deps path → others path ≡ sigs path

-- There is one list of errors by all signatures,
abbrev pub OneAnswer : Type 0
OneAnswer =
    (path : Bytes) (deps : Deps) (source : Source) (sigs : Sigs) (a b : List Fault)
    → HasErrors path deps source sigs a → HasErrors path deps source sigs b → a ≡ b

-- and one by those that are reached.
abbrev pub OneByReach : Type 0
OneByReach =
    (path : Bytes) (deps : Deps) (source : Source) (sigs : Sigs) (a b : List Fault)
    → AreErrors path deps source sigs a → AreErrors path deps source sigs b → a ≡ b

-- What is cut to the reach first is the same by others that agree there.
abbrev pub CutAgrees : Type 0
CutAgrees =
    (path : Bytes) (deps : Deps) (source : Source) (sigs others : Sigs) (errors : List Fault) → Agree sigs deps others
    → AreErrors path deps source sigs errors → AreErrors path deps source others errors
