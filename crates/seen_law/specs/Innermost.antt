-- The innermost of the expressions that are read.
use Rattle.std.specs.Prelude.{◌≡◌, ◌≤◌, ◌<◌, ◌-◌, ◌++◌, ℕ, true, false, List, ◌∷◌, Option, Some, None}
use Rattle.std.specs.List.{AllByRecursion}
use Rattle.flow_values.specs.declared.span.Span.{Span}
use Rattle.js_grammar.specs.Items.{Module}
use Rattle.type_values.specs.declared.types.FlowType.{FlowType}
use Rattle.typing.specs.States.{Seen, covers}
use Rattle.module_errors.specs.Program.{Program}
use Rattle.module_errors.specs.Errors.{type_at_place}
use Rattle.seen_law.specs.Reads.{expressions_read}

-- how many bytes an expression has
abbrev pub size : Seen → ℕ
size seen = seen.span.end - seen.span.start

-- it does not cover the place, or it is longer
abbrev pub IsOutside : ℕ → Seen → Seen → Type 0
IsOutside place inner other = covers other.span place ≡ true → size inner < size other

-- it does not cover the place, or it is no shorter
abbrev pub IsAround : ℕ → Seen → Seen → Type 0
IsAround place inner other = covers other.span place ≡ true → size inner ≤ size other

-- One of these expressions covers the place. Of those that were read before it each is longer that covers the place, and of those that
-- were read after it none is shorter.
pub record IsInnermost (place : ℕ) (all : List Seen) (inner : Seen) : Type 0 where
  pub before : List Seen
  pub after : List Seen
  pub among : all ≡ before ++ inner ∷ after
  pub covers_it : covers inner.span place ≡ true
  pub first : AllByRecursion (IsOutside place inner) before
  pub least : AllByRecursion (IsAround place inner) after

-- none of these expressions covers the place
abbrev pub NoneCovers : ℕ → List Seen → Type 0
NoneCovers place all = AllByRecursion (λ seen. covers seen.span place ≡ false) all

-- the type is that of the innermost expression, if there is one
abbrev pub IsTypeAmong : ℕ → List Seen → Option FlowType → Type 0
IsTypeAmong place all None = NoneCovers place all
IsTypeAmong place all (Some t) = (inner : Seen) × IsInnermost place all inner × (t ≡ inner.ty)

-- the type at a place is that of the innermost of the expressions that are read
abbrev pub TellsInnermost : Type 0
TellsInnermost = (p : Program) (m : Module) (spans : List Span) (place : ℕ) → IsTypeAmong place (expressions_read p m spans place) (type_at_place p m spans place)
