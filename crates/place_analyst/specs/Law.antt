-- What the type at a place depends on.
use Rattle.std.specs.Prelude.{ℕ, Option}
use Rattle.check_values.specs.Rows.{Bytes}
use Rattle.check_values.specs.declared.signatures.Deps.{Deps}
use Rattle.type_values.specs.declared.types.FlowType.{FlowType}
use Rattle.errors_by_reach.specs.Law.{Source, Agree}
use Rattle.errors_by_reach.specs.Seen.{Sigs}
use Rattle.shown_types.specs.Shown.{IsTypeIn}

-- A job that is told some signatures, which say where its module reaches what all do, finds the type by all.
abbrev pub TypesAreRight : Type 0
TypesAreRight =
    (path : Bytes) (deps : Deps) (source : Source) (sigs told : Sigs) (at : ℕ) (answer : Option FlowType) → Agree sigs deps told
    → IsTypeIn path deps source told at answer → IsTypeIn path deps source sigs at answer
