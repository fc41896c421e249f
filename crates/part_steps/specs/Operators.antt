-- The types of operators, and what they ask.
use Rattle.std.specs.Prelude.{ℕ, suc, Option, Some, None}
use Rattle.js_grammar.specs.Code.{Operator, less, greater, less_or_equal, greater_or_equal, add, subtract, multiply, divide, remainder}
use Rattle.check_values.specs.declared.codes.Code.TheVariants.{UnsafeArithmetic}
use Rattle.type_values.specs.declared.types.FlowType.{FlowType}
use Rattle.type_values.specs.declared.types.FlowType as made
use Rattle.typing.specs.States.{World, Notes, fault_at, add_fault, two_types}
use Rattle.typing.specs.Forms.{number_asked, compare_asked, sum_type}

-- the type of a sum, and `any` where it has none
abbrev pub type_of_sum : Option FlowType → FlowType
type_of_sum None = made.Any
type_of_sum (Some t) = t

-- a sum at these tokens is asked to have a type
abbrev pub asked_by_sum : World → ℕ → ℕ → FlowType → FlowType → Option FlowType → Notes → Notes
asked_by_sum w f t a b (Some sum) notes = notes
asked_by_sum w f t a b None notes = add_fault (fault_at w f t UnsafeArithmetic (two_types a b)) notes

-- the type of an operator that is none of `&&`, `||` and `??`
abbrev pub type_of_operator : World → Operator → FlowType → FlowType → FlowType
type_of_operator w add a b = type_of_sum (sum_type w a b)
type_of_operator w subtract a b = made.Number
type_of_operator w multiply a b = made.Number
type_of_operator w divide a b = made.Number
type_of_operator w remainder a b = made.Number
type_of_operator w op a b = made.Boolean

-- both sides of arithmetic are asked to be numbers
abbrev pub numbers_asked : World → ℕ → ℕ → ℕ → FlowType → FlowType → Notes → Notes
numbers_asked w f at t a b notes = number_asked w (suc at) t b (number_asked w f at a notes)

-- what an operator asks of its sides
abbrev pub asked_by_operator : World → ℕ → ℕ → ℕ → Operator → FlowType → FlowType → Notes → Notes
asked_by_operator w f at t less a b notes = compare_asked w f t a b notes
asked_by_operator w f at t greater a b notes = compare_asked w f t a b notes
asked_by_operator w f at t less_or_equal a b notes = compare_asked w f t a b notes
asked_by_operator w f at t greater_or_equal a b notes = compare_asked w f t a b notes
asked_by_operator w f at t add a b notes = asked_by_sum w f t a b (sum_type w a b) notes
asked_by_operator w f at t subtract a b notes = numbers_asked w f at t a b notes
asked_by_operator w f at t multiply a b notes = numbers_asked w f at t a b notes
asked_by_operator w f at t divide a b notes = numbers_asked w f at t a b notes
asked_by_operator w f at t remainder a b notes = numbers_asked w f at t a b notes
asked_by_operator w f at t op a b notes = notes
