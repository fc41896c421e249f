-- Chains of `&&` and of `||`, whose ways meet once the last operand was read.
use Rattle.std.proofs.Common.{◌≡◌, ℕ, Bool, true, false, List, [], ◌∷◌, Option, Some, refl}
use Rattle.js_grammar.specs.Code.{Operator, or, and}
use Rattle.type_values.specs.declared.types.FlowType.{FlowType}
use Rattle.flow_facts.specs.declared.place.Place.{Place}
use Rattle.flow_facts.specs.Known.{Known, joined}
use Rattle.typing.specs.States.{World, Out, no_of, noted_out}
use Rattle.typing.specs.Forms.{right_now, and_out, or_out}
use Rattle.fact_ways.specs.Ways.{all_joined}
use Rattle.fact_ways.proofs.Joins.{all_joined_last}
use Rattle.expression_moves.specs.Moves.{goes_on, leaving, met}
use Rattle.check_expr.specs.Runs.{either_type}

-- what a chain gives so far, where it is left on some ways
abbrev pub met_ways : Bool → List Known → Out → Out
met_ways is_and [] o = o
met_ways is_and (way ∷ ways) o = met is_and (way ∷ ways) o

-- the operator of a chain
abbrev pub run_operator : Bool → Operator
run_operator true = and
run_operator false = or

-- an operand is read from where the chain goes on
pub goes_on_in_run : (w : World) (is_and : Bool) (place : Option Place) (ways : List Known) (o : Out) → right_now w (run_operator is_and) place (met_ways is_and ways o) ≡ goes_on is_and o
goes_on_in_run w true place [] o = refl
goes_on_in_run w true place (way ∷ ways) o = refl
goes_on_in_run w false place [] o = refl
goes_on_in_run w false place (way ∷ ways) o = refl

left_and : (ways : List Known) (o b : Out) → joined (no_of (met_ways true ways o)) (no_of b) ≡ all_joined ways (joined (no_of o) (no_of b))
left_and [] o b = refl
left_and (way ∷ ways) o b = all_joined_last (way ∷ ways) (no_of o) (no_of b)

left_or : (ways : List Known) (o b : Out) → joined (met_ways false ways o).yes b.yes ≡ all_joined ways (joined o.yes b.yes)
left_or [] o b = refl
left_or (way ∷ ways) o b = all_joined_last (way ∷ ways) o.yes b.yes

same_type : (is_and : Bool) (ways : List Known) (o : Out) → (met_ways is_and ways o).ty ≡ o.ty
same_type true [] o = refl
same_type true (way ∷ ways) o = refl
same_type false [] o = refl
same_type false (way ∷ ways) o = refl

-- the right side, with the type of the whole
abbrev pub with_type : FlowType → Out → Out
with_type t b = record b { ty = t }

-- one more operand was read: another way left the chain
pub and_in_run : (w : World) (ways : List Known) (o b : Out) → and_out w (met_ways true ways o) b ≡ met true (leaving true o ∷ ways) (with_type (either_type w true o.ty b.ty) b)
and_in_run w ways o b = λ i. record { ty = either_type w true (same_type true ways o i) b.ty; yes = b.yes; no = Some (left_and ways o b i); notes = b.notes }

pub or_in_run : (w : World) (ways : List Known) (o b : Out) → or_out w (met_ways false ways o) b ≡ met false (leaving false o ∷ ways) (with_type (either_type w false o.ty b.ty) b)
or_in_run w ways o b = λ i. record { ty = either_type w false (same_type false ways o i) b.ty; yes = left_or ways o b i; no = Some (no_of b); notes = b.notes }

-- and it is noted
pub noted_in_run : (w : World) (f t : ℕ) (is_and : Bool) (ways : List Known) (o : Out) → noted_out w f t (met is_and ways o) ≡ met is_and ways (noted_out w f t o)
noted_in_run w f t true ways o = refl
noted_in_run w f t false ways o = refl
