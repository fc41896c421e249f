-- The type at a line and a column of a module's text.
use Rattle.std.specs.Prelude.{◌≡◌, ℕ, List, Option, None}
use Rattle.flow_values.specs.declared.span.Span.{Span}
use Rattle.js_grammar.specs.Items.{Module}
use Rattle.check_values.specs.Rows.{Bytes}
use Rattle.check_values.specs.declared.signatures.Deps.{Deps}
use Rattle.type_values.specs.declared.types.FlowType.{FlowType}
use Rattle.errors_by_reach.specs.Law.{IsTypeAt}
use Rattle.errors_by_reach.specs.Seen.{Sigs}
use Rattle.byte_places.specs.Places.{StandsAt}

-- It is the type at the byte where the character that stands there begins; where no character stands there is no type.
pub record IsTypeAtPos (path : Bytes) (deps : Deps) (m : Module) (spans : List Span) (sigs : Sigs) (text : Bytes) (line column : ℕ) (answer : Option FlowType) : Type 0 where
  pub at_character : (at : ℕ) → StandsAt text line column at → IsTypeAt path deps m spans sigs at answer
  pub at_none : ((at : ℕ) → StandsAt text line column at → ⊥) → answer ≡ None
