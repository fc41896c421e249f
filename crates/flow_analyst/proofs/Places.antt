-- The type at a place of a source that has a tree, or none.
use Rattle.std.proofs.Common.{◌≡◌, ℕ, List, Option, None, refl}
use Rattle.flow_values.specs.declared.span.Span.{Span}
use Rattle.js_grammar.specs.Items.{Module}
use Rattle.check_values.specs.Rows.{Bytes}
use Rattle.check_values.specs.declared.codes.Code.{Code}
use Rattle.check_values.specs.declared.signatures.Deps.{Deps}
use Rattle.type_values.specs.declared.types.FlowType.{FlowType}
use Rattle.errors_by_reach.specs.Law.{Source, whole, broken, IsTypeAt}
use Rattle.errors_by_reach.specs.Seen.{Sigs}
use Rattle.shown_types.specs.Shown.{IsTypeIn}

pub in_source : (path : Bytes) (deps : Deps) (source : Source) (sigs : Sigs) (at : ℕ) (answer : Option FlowType)
    → ((m : Module) (spans : List Span) → source ≡ whole m spans → IsTypeAt path deps m spans sigs at answer)
    → ((code : Code) (place : ℕ) → source ≡ broken code place → answer ≡ None) → IsTypeIn path deps source sigs at answer
in_source path deps (whole m spans) sigs at answer is none = is m spans refl
in_source path deps (broken code place) sigs at answer is none = none code place refl
