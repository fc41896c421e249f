-- Literals, and the tests that a comparison makes of a place.
use Rattle.std.specs.Prelude.{ℕ, Bool, true, false, ◌==◌, Option, Some, None, if◌then◌else◌}
use Rattle.std.specs.Option.{option_or}
use Rattle.js_grammar.specs.Words.{is_type_number}
use Rattle.js_grammar.specs.Code.{kind_of, no_prefix, more_prefix, Operator, strict_equal, strict_not_equal, loose_not_equal, Ex, ex, ExForm, variable, number, text, truth_value, null_value, parens, postfixed, prefixed, link, member, Links, no_link, more_link}
use Rattle.check_values.specs.Rows.{Bytes}
use Rattle.type_values.specs.declared.types.FlowType.{FlowType}
use Rattle.type_values.specs.declared.types.FlowType as made
use Rattle.flow_facts.specs.declared.place.Place.{Place}
use Rattle.flow_facts.specs.declared.test.Test.{Test}
use Rattle.flow_facts.specs.declared.test.Test as test
use Rattle.flow_facts.specs.declared.test.Lit.{Lit}
use Rattle.flow_facts.specs.declared.test.Lit.TheVariants as lit
use Rattle.flow_facts.specs.Known.{Known, variable_place, property_place}
use Rattle.typing.specs.Names.{Scope, Meaning, variable_of, no_variable, meaning_of, has_facts, undefined_number}
use Rattle.typing.specs.States.{World, assume}

-- a whole number of at most 15 digits is a type of its own
abbrev pub number_type : Bytes → FlowType
number_type digits = if is_type_number digits then made.NumLit digits else made.Number

-- the type of a literal or `null`, parentheses round it left out
abbrev mutual
  pub literal_type : Ex → Option FlowType
  literal_type (ex f t form) = literal_form_type form

  pub literal_form_type : ExForm → Option FlowType
  literal_form_type (number digits) = Some (number_type digits)
  literal_form_type (text s) = Some (made.StrLit s)
  literal_form_type (truth_value b) = Some (made.BoolLit b)
  literal_form_type null_value = Some made.Null
  literal_form_type (parens e) = literal_type e
  literal_form_type form = None

-- ---- places

-- the number of a variable that has facts, by what its name means
abbrev pub place_of_meaning : Meaning → Option ℕ
place_of_meaning (no_variable code) = None
place_of_meaning (variable_of b t) = if has_facts b then Some b.number else None

-- the number of a variable that has facts
abbrev pub variable_number : Scope → Bytes → Option ℕ
variable_number scope name = place_of_meaning (meaning_of scope name)

-- the variable that an expression is, parentheses round it left out
abbrev mutual
  pub variable_in : Scope → Ex → Option ℕ
  variable_in scope (ex f t form) = variable_in_form scope form

  pub variable_in_form : Scope → ExForm → Option ℕ
  variable_in_form scope (variable name) = variable_number scope name
  variable_in_form scope (parens e) = variable_in scope e
  variable_in_form scope form = None

-- a property of a variable as a place
abbrev pub property_of : Option ℕ → Bytes → Option Place
property_of None key = None
property_of (Some variable_at) key = Some (property_place variable_at key)

-- one property step from a variable
abbrev pub step_place : Option ℕ → Links → Option Place
step_place from (more_link no_link (link f t (member key))) = property_of from key
step_place from ls = None

-- the place that an expression is, parentheses round it left out
abbrev mutual
  pub place_in : Scope → Ex → Option Place
  place_in scope (ex f t form) = place_in_form scope form

  pub place_in_form : Scope → ExForm → Option Place
  place_in_form scope (variable name) = elim (variable_number scope name) [ None ↦ None | Some n ↦ Some (variable_place n) ]
  place_in_form scope (parens e) = place_in scope e
  place_in_form scope (postfixed e ls) = step_place (variable_in scope e) ls
  place_in_form scope form = None

-- ---- the sides of a comparison

-- a place, or `typeof` and a place
pub data Tested : Type 0 where
  tests_place : Place → Tested
  tests_kind : Place → Tested

-- a place, if it is one
abbrev pub tested_place : Option Place → Option Tested
tested_place None = None
tested_place (Some p) = Some (tests_place p)

-- `typeof` and a place, if it is one
abbrev pub tested_kind : Option Place → Option Tested
tested_kind None = None
tested_kind (Some p) = Some (tests_kind p)

-- the place that a side of a comparison tests, parentheses round it left out
abbrev mutual
  pub tested_in : Scope → Ex → Option Tested
  tested_in scope (ex f t form) = tested_in_form scope form

  pub tested_in_form : Scope → ExForm → Option Tested
  tested_in_form scope (parens e) = tested_in scope e
  tested_in_form scope (prefixed (more_prefix no_prefix at kind_of) e) = tested_kind (place_in scope e)
  tested_in_form scope form = tested_place (place_in_form scope form)

-- what a place is compared with
pub data Against : Type 0 where
  with_null : Against
  with_void : Against
  with_lit : Lit → Against

-- a number that is a type of its own
abbrev pub with_number : Bytes → Option Against
with_number digits = if is_type_number digits then Some (with_lit (lit.Num digits)) else None

-- the `undefined` of the prelude
abbrev pub with_undefined : Option ℕ → Option Against
with_undefined None = None
with_undefined (Some variable_at) = if variable_at == undefined_number then Some with_void else None

-- what a side of a comparison is compared with, parentheses round it left out
abbrev mutual
  pub compared_with : Scope → Ex → Option Against
  compared_with scope (ex f t form) = compared_with_form scope form

  pub compared_with_form : Scope → ExForm → Option Against
  compared_with_form scope null_value = Some with_null
  compared_with_form scope (variable name) = with_undefined (variable_number scope name)
  compared_with_form scope (number digits) = with_number digits
  compared_with_form scope (text s) = Some (with_lit (lit.Str s))
  compared_with_form scope (truth_value b) = Some (with_lit (lit.Bool b))
  compared_with_form scope (parens e) = compared_with scope e
  compared_with_form scope form = None

-- ---- tests

-- Where two sides are equal the first test holds of the place, where they differ the second one; and whether the place is compared
-- with a literal.
pub record Comparison : Type 0 where
  pub place : Place
  pub equal : Test
  pub differ : Test
  pub is_literal : Bool

abbrev pub is_strict : Operator → Bool
is_strict strict_equal = true
is_strict strict_not_equal = true
is_strict op = false

-- it holds where the sides differ
abbrev pub is_negated : Operator → Bool
is_negated strict_not_equal = true
is_negated loose_not_equal = true
is_negated op = false

-- a loose comparison with null or void is one with both
abbrev pub nullish_comparison : Place → Comparison
nullish_comparison p = record { place = p; equal = test.Nullish; differ = test.NotNullish; is_literal = false }

-- with null, strictly or loosely
abbrev pub null_comparison : Bool → Place → Comparison
null_comparison true p = record { place = p; equal = test.IsNull; differ = test.NotNull; is_literal = false }
null_comparison false p = nullish_comparison p

-- with void, strictly or loosely
abbrev pub void_comparison : Bool → Place → Comparison
void_comparison true p = record { place = p; equal = test.IsVoid; differ = test.NotVoid; is_literal = false }
void_comparison false p = nullish_comparison p

-- a place on one side, and what the other side compares it with
abbrev pub comparison_with : Bool → Option Tested → Option Against → Option Comparison
comparison_with strict (Some (tests_place p)) (Some with_null) = Some (null_comparison strict p)
comparison_with strict (Some (tests_place p)) (Some with_void) = Some (void_comparison strict p)
comparison_with strict (Some (tests_place p)) (Some (with_lit l)) =
    Some (record { place = p; equal = test.IsLit l; differ = test.NotLit l; is_literal = true })
comparison_with strict (Some (tests_kind p)) (Some (with_lit (lit.Str kind))) =
    Some (record { place = p; equal = test.Typeof kind; differ = test.NotTypeof kind; is_literal = true })
comparison_with strict tested other = None

-- the left side is tried as the place first
abbrev pub comparison_of : Scope → Operator → Ex → Ex → Option Comparison
comparison_of scope op a b =
    option_or (comparison_with (is_strict op) (tested_in scope a) (compared_with scope b))
    (comparison_with (is_strict op) (tested_in scope b) (compared_with scope a))

-- a test of a property narrows its variable by the test on the property
abbrev pub assume_on_property : World → Test → ℕ → Option Bytes → Known → Known
assume_on_property w t at None facts = facts
assume_on_property w t at (Some key) facts = assume w (test.OnProp key t) (variable_place at) made.Any facts

-- The facts where a test of a comparison holds. One of a property with a literal narrows the variable too. Places that were read
-- have facts already.
abbrev pub assume_compared : World → Comparison → Test → Known → Known
assume_compared w c t facts =
    let narrowed = assume w t c.place made.Any facts in
    if c.is_literal then assume_on_property w t c.place.binding c.place.prop narrowed else narrowed

-- the facts where the sides are equal, or where they differ
abbrev pub assume_equal : World → Bool → Comparison → Known → Known
assume_equal w equal c facts = assume_compared w c (if equal then c.equal else c.differ) facts
