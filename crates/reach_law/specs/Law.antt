-- The law of what a module's errors depend on: it sees all signatures that there are, and those where it reaches make them alone.
use Rattle.std.specs.Prelude.{◌≡◌, ◌↔◌, ℕ, List, Option}
use Rattle.flow_values.specs.declared.span.Span.{Span}
use Rattle.js_grammar.specs.Items.{Module}
use Rattle.check_values.specs.Rows.{Bytes, Rows, row_at}
use Rattle.check_values.specs.declared.faults.Fault.{Fault}
use Rattle.check_values.specs.declared.signatures.Deps.{Deps}
use Rattle.check_values.specs.declared.signatures.Sig.{Sig}
use Rattle.type_values.specs.declared.types.FlowType.{FlowType}
use Rattle.errors_law.specs.module_errors.specs.Program.{Program}
use Rattle.errors_law.specs.module_errors.specs.Errors.{module_errors, type_at_place}
use Rattle.errors_law.specs.errors_by_reach.specs.Seen.{Sigs, IsTable, IsSeen}
use Rattle.errors_law.specs.errors_by_reach.specs.Law.{Source, HasErrors, AreErrors, HasType, IsTypeAt, Agree}

-- This holds of what a module sees by some signatures, and by others that say the same where it reaches. Neither are cut: the table is
-- there alone to tell where it reaches.
abbrev pub OfBoth : (Module → Program → Program → Type 0) → Type 0
OfBoth Holds =
    (path : Bytes) (deps : Deps) (m : Module) (sigs others table : Sigs) (p q : Program) → IsTable sigs deps table → Agree sigs deps others
    → IsSeen path deps m sigs p → IsSeen path deps m others q → Holds m p q

-- The errors are the same,
abbrev pub ErrorsByReach : Type 0
ErrorsByReach = OfBoth (λ m p q. (spans : List Span) → module_errors p m spans ≡ module_errors q m spans)

-- and the types at places are.
abbrev pub TypesByReach : Type 0
TypesByReach = OfBoth (λ m p q. (spans : List Span) (place : ℕ) → type_at_place p m spans place ≡ type_at_place q m spans place)

-- ---- of the signatures of the modules that there are

-- The key law: by all signatures that say the same where a module reaches it has the same errors.
abbrev pub KeyLaw : Type 0
KeyLaw =
    (path : Bytes) (deps : Deps) (source : Source) (sigs others : Rows Sig) (errors : List Fault) → Agree (row_at sigs) deps (row_at others)
    → HasErrors path deps source (row_at sigs) errors ↔ HasErrors path deps source (row_at others) errors

-- And so the types at its places.
abbrev pub TypeKeyLaw : Type 0
TypeKeyLaw =
    (path : Bytes) (deps : Deps) (m : Module) (spans : List Span) (sigs others : Rows Sig) (place : ℕ) (answer : Option FlowType)
    → Agree (row_at sigs) deps (row_at others) → HasType path deps m spans (row_at sigs) place answer ↔ HasType path deps m spans (row_at others) place answer

-- ---- of those that a module reaches

-- The errors by those alone are the errors by all.
abbrev pub CutIsRight : Type 0
CutIsRight =
    (path : Bytes) (deps : Deps) (source : Source) (sigs : Rows Sig) (errors : List Fault)
    → AreErrors path deps source (row_at sigs) errors ↔ HasErrors path deps source (row_at sigs) errors

-- And so the types at places.
abbrev pub TypeCutIsRight : Type 0
TypeCutIsRight =
    (path : Bytes) (deps : Deps) (m : Module) (spans : List Span) (sigs : Rows Sig) (place : ℕ) (answer : Option FlowType)
    → IsTypeAt path deps m spans (row_at sigs) place answer ↔ HasType path deps m spans (row_at sigs) place answer

-- So a job that is told some signatures, which say where its module reaches what all do, finds the errors by all.
abbrev pub JobsAreRight : Type 0
JobsAreRight =
    (path : Bytes) (deps : Deps) (source : Source) (sigs told : Rows Sig) (errors : List Fault) → Agree (row_at sigs) deps (row_at told)
    → AreErrors path deps source (row_at told) errors → HasErrors path deps source (row_at sigs) errors
