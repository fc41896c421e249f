-- The type at a place of a source.
use Rattle.std.specs.Prelude.{◌≡◌, ℕ, Option, None}
use Rattle.check_values.specs.Rows.{Bytes}
use Rattle.check_values.specs.declared.signatures.Deps.{Deps}
use Rattle.type_values.specs.declared.types.FlowType.{FlowType}
use Rattle.errors_by_reach.specs.Law.{Source, whole, broken, IsTypeAt}
use Rattle.errors_by_reach.specs.Seen.{Sigs}
use Rattle.byte_places.specs.Places.{StandsAt}

-- at a byte, where an expression that is read covers it; a source without a tree has none
abbrev pub IsTypeIn : Bytes → Deps → Source → Sigs → ℕ → Option FlowType → Type 0
IsTypeIn path deps (whole m spans) sigs at answer = IsTypeAt path deps m spans sigs at answer
IsTypeIn path deps (broken code place) sigs at answer = answer ≡ None

-- It is the type at the byte where the character at a line and a column begins; where no character stands there is none.
pub record IsShown (path : Bytes) (deps : Deps) (source : Source) (sigs : Sigs) (text : Bytes) (line column : ℕ) (answer : Option FlowType) : Type 0 where
  pub at_character : (at : ℕ) → StandsAt text line column at → IsTypeIn path deps source sigs at answer
  pub at_none : ((at : ℕ) → StandsAt text line column at → ⊥) → answer ≡ None
