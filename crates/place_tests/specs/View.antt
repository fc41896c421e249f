-- What comparisons of the code stand for.
use Rattle.std.specs.Prelude.{Bool, true, Option, Some, None, if◌then◌else◌}
use Rattle.std.specs.Option.{option_or}
use Rattle.js_grammar.specs.Code.{Operator, OperandForm, right_side, as_type, Ex}
use Rattle.flow_facts.specs.declared.place.Place.{Place}
use Rattle.flow_facts.specs.declared.test.Test as test
use Rattle.typing.specs.Names.{Scope}
use Rattle.typing.specs.Tests as typing
use Rattle.typing.specs.Forms.{is_equality}
use Rattle.place_tests.specs.declared.comparison.Tested.{Tested}
use Rattle.place_tests.specs.declared.comparison.Tested.TheVariants as tested
use Rattle.place_tests.specs.declared.comparison.Against.{Against}
use Rattle.place_tests.specs.declared.comparison.Against.TheVariants as against
use Rattle.place_tests.specs.declared.comparison.Comparison.{Comparison}
use Rattle.place_tests.specs.declared.comparison.Equality.{Equality}

abbrev pub tested_view : Tested → typing.Tested
tested_view (tested.Place p) = typing.tests_place p
tested_view (tested.Kind p) = typing.tests_kind p

abbrev pub against_view : Against → typing.Against
against_view against.Null = typing.with_null
against_view against.Void = typing.with_void
against_view (against.Lit l) = typing.with_lit l

-- a comparison, and whether its being true says that the sides differ
abbrev pub comparison_view : Comparison → typing.Comparison × Bool
comparison_view c = (record { place = c.place; equal = c.equal; differ = c.differ; is_literal = c.is_literal }, c.negated)

-- what a place that is compared is compared by
abbrev pub place_compared : Bool → Place → typing.Against → typing.Comparison
place_compared strict p typing.with_null = typing.null_comparison strict p
place_compared strict p typing.with_void = typing.void_comparison strict p
place_compared strict p (typing.with_lit l) = record { place = p; equal = test.IsLit l; differ = test.NotLit l; is_literal = true }

-- beside a comparison, if there is one, whether its being true says that the sides differ
abbrev pub with_negated : Bool → Option typing.Comparison → Option (typing.Comparison × Bool)
with_negated negated None = None
with_negated negated (Some c) = Some (c, negated)

-- how an operator of equality compares, if it is one
abbrev pub equality_of : Operator → Option Equality
equality_of op = if is_equality op then Some (record { strict = typing.is_strict op; negated = typing.is_negated op }) else None

-- what sides compare, the left one tried as the place first
abbrev pub either_side : Scope → Equality → Ex → Ex → Option (typing.Comparison × Bool)
either_side scope equality a b =
    option_or (with_negated equality.negated (typing.comparison_with equality.strict (typing.tested_in scope a) (typing.compared_with scope b)))
    (with_negated equality.negated (typing.comparison_with equality.strict (typing.tested_in scope b) (typing.compared_with scope a)))

-- what an operator compares, and whether its being true says that the sides differ
abbrev pub operator_compared : Scope → Ex → Operator → Ex → Option (typing.Comparison × Bool)
operator_compared scope e op b = if is_equality op then with_negated (typing.is_negated op) (typing.comparison_of scope op e b) else None

-- what an operand compares
abbrev pub form_compared : Scope → Ex → OperandForm → Option (typing.Comparison × Bool)
form_compared scope e (right_side op b) = operator_compared scope e op b
form_compared scope e (as_type v) = None
