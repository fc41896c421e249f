-- The rule of each form of an expression, on parts that were read.
use Rattle.std.specs.Prelude.{ℕ, suc, ◌-◌, ◌++◌, not, ◌&&◌, ◌||◌, Bool, true, false, List, [], ◌∷◌, map, Option, Some, None, if◌then◌else◌}
use Rattle.js_grammar.specs.Code.{Prefix, negation, minus_sign, plus_sign, kind_of, Prefixes, no_prefix, more_prefix, Operator, nullish, or, and, strict_equal, strict_not_equal, loose_equal, loose_not_equal, less, greater, less_or_equal, greater_or_equal, add, subtract, multiply, divide, remainder, Ex, operand, OperandForm, right_side, as_type, Operands, no_operand, more_operand}
use Rattle.check_values.specs.Rows.{Bytes}
use Rattle.check_values.specs.declared.faults.Fault.{Fault}
use Rattle.check_values.specs.declared.codes.Code.TheVariants.{InvalidCompare, UnsafeArithmetic}
use Rattle.type_values.specs.declared.types.FlowType.{FlowType}
use Rattle.type_values.specs.declared.types.FlowType as made
use Rattle.type_terms.specs.Join.{join_of, is_any}
use Rattle.type_terms.specs.Show.{brief}
use Rattle.flow_facts.specs.declared.place.Place.{Place}
use Rattle.flow_facts.specs.declared.test.Test as test
use Rattle.flow_facts.specs.Narrowing.{narrowed}
use Rattle.flow_facts.specs.Known.{Known, joined, live, type_at, variable_place, without_properties}
use Rattle.typing.specs.Names.{Binding, Scope, Meaning, variable_of, no_variable, meaning_of, has_facts}
use Rattle.typing.specs.Tests.{Comparison, comparison_of, assume_equal, is_negated}
use Rattle.typing.specs.States.{World, Want, Notes, Now, Out, no_of, after, on_yes, on_no, plainly, change_facts, change_notes, assume, fault_at, name_fault, add_fault, add_faults, two_types, against, asked, noted_out}
use Rattle.typing.specs.Members.{levels, Step, steps_type, steps_faults, Part, property_read, index_read, Arg, Call, member_called, args_faults}
use Rattle.typing.specs.TypeFaults.{written}

-- ---- variables and places

-- A place of this type, where it has no fact: it is narrowed by truthy and falsy.
abbrev pub place_out : World → Place → FlowType → Now → Out
place_out w p declared now = record {
  ty = type_at now.facts p declared;
  yes = assume w test.Truthy p declared now.facts;
  no = Some (assume w test.Falsy p declared now.facts);
  notes = now.notes;
}

-- a type that may be that of a place
abbrev pub maybe_place_out : World → Option Place → FlowType → Now → Out
maybe_place_out w None t now = plainly t now
maybe_place_out w (Some p) t now = place_out w p t now

-- the place of a name, where it has facts
abbrev pub variable_place_of : Binding → Option Place
variable_place_of b = if has_facts b then Some (variable_place b.number) else None

-- a variable by what its name means, or a fault and `any`
abbrev pub variable_meant : World → ℕ → ℕ → Bytes → Now → Meaning → Out
variable_meant w f t name now (variable_of b declared) = maybe_place_out w (variable_place_of b) declared now
variable_meant w f t name now (no_variable code) = plainly made.Any (change_notes (name_fault (fault_at w f t code name)) now)

-- a variable of a scope, at these tokens
abbrev pub variable_out : World → ℕ → ℕ → Bytes → Scope → Now → Out
variable_out w f t name scope now = variable_meant w f t name now (meaning_of scope name)

-- ---- marks before an expression

-- below `number`
abbrev pub is_number : World → FlowType → Bool
is_number w t = w.below t made.Number

-- arithmetic asks a number of what stands at these tokens
abbrev pub number_asked : World → ℕ → ℕ → FlowType → Notes → Notes
number_asked w f t ty notes = if is_number w ty then notes else add_fault (fault_at w f t UnsafeArithmetic (brief ty)) notes

-- yes and no change places
abbrev pub swapped : Out → Out
swapped o = elim o.no [ None ↦ record o { ty = made.Boolean } | Some falsy ↦ record o { ty = made.Boolean; yes = falsy; no = Some o.yes } ]

-- `-` or `+` before what stands at these tokens
abbrev pub signed_out : World → ℕ → ℕ → Out → Out
signed_out w f t o = plainly made.Number (change_notes (number_asked w f t o.ty) (after o))

-- a mark before what stands at these tokens
abbrev pub prefix_out : World → Prefix → ℕ → ℕ → Out → Out
prefix_out w negation f t o = swapped o
prefix_out w kind_of f t o = plainly made.Str (after o)
prefix_out w minus_sign f t o = signed_out w f t o
prefix_out w plus_sign f t o = signed_out w f t o

-- the last mark first
abbrev pub prefixes_out : World → Prefixes → ℕ → ℕ → Out → Out
prefixes_out w no_prefix f t o = o
prefixes_out w (more_prefix ps at p) f t o = prefixes_out w ps at t (noted_out w at t (prefix_out w p f t o))

-- ---- `&&`, `||`, `??`

-- the place that a chain is before an operand: only its first part may be one
abbrev pub place_before : Bool → Option Place → Option Place
place_before goes_on place = if goes_on then None else place

-- on the right of `??` a place on the left is null or void
abbrev pub nullish_now : World → Option Place → Out → Now
nullish_now w None a = after a
nullish_now w (Some p) a = change_facts (assume w test.Nullish p a.ty) (after a)

-- what the right side of an operator is read from
abbrev pub right_now : World → Operator → Option Place → Out → Now
right_now w and place a = on_yes a
right_now w or place a = on_no a
right_now w nullish place a = nullish_now w place a
right_now w op place a = after a

-- `a && b`: a's type where it is falsy, and b's
abbrev pub and_out : World → Out → Out → Out
and_out w a b = record {
  ty = join_of (narrowed w.members test.Falsy a.ty ∷ b.ty ∷ []);
  yes = b.yes;
  no = Some (joined (no_of a) (no_of b));
  notes = b.notes;
}

-- `a || b`: a's type where it is truthy, and b's
abbrev pub or_out : World → Out → Out → Out
or_out w a b = record {
  ty = join_of (narrowed w.members test.Truthy a.ty ∷ b.ty ∷ []);
  yes = joined a.yes b.yes;
  no = Some (no_of b);
  notes = b.notes;
}

-- `a ?? b`: a's type where it is neither null nor void, and b's
abbrev pub nullish_out : World → Out → Out → Out
nullish_out w a b = record {
  ty = join_of (narrowed w.members test.NotNullish a.ty ∷ b.ty ∷ []);
  yes = joined (after a).facts (after b).facts;
  no = None;
  notes = b.notes;
}

-- ---- conditionals

-- a branch behind the test that begins at a token: its type, and the facts after it
pub record Chosen : Type 0 where
  pub first : ℕ
  pub ty : FlowType
  pub facts : Known

-- the branches that were read, in order, and what the next test is read from
pub record Choices : Type 0 where
  pub chosen : List Chosen
  pub now : Now

-- a branch, and all that follows it
abbrev pub choice_out : Chosen → Out → Out
choice_out c rest =
    record { ty = join_of (c.ty ∷ rest.ty ∷ []); yes = joined c.facts (after rest).facts; no = None; notes = rest.notes }

-- a conditional that ends at a token: each branch and all that follows it
abbrev pub choices_out : World → ℕ → List Chosen → Out → Out
choices_out w t [] last = last
choices_out w t (c ∷ chosen) last = noted_out w c.first t (choice_out c (choices_out w t chosen last))

-- ---- comparisons of a place

abbrev pub is_equality : Operator → Bool
is_equality strict_equal = true
is_equality strict_not_equal = true
is_equality loose_equal = true
is_equality loose_not_equal = true
is_equality op = false

-- what a chain with one operator compares, and whether its being true says that the sides differ
abbrev pub compared : Scope → Ex → Operands → Option (Comparison × Bool)
compared scope e (more_operand no_operand (operand f t (right_side op b))) =
    if is_equality op then elim (comparison_of scope op e b) [ None ↦ None | Some c ↦ Some (c, is_negated op) ] else None
compared scope e os = None

-- a chain that compares a place tells of it where it is true and where it is false
abbrev pub compared_out : World → Option (Comparison × Bool) → Out → Out
compared_out w None o = o
compared_out w (Some (c, negated)) o =
    record o { yes = assume_equal w (not negated) c o.yes; no = Some (assume_equal w negated c o.yes) }

-- ---- `<` and its like

-- both types are below a third one
abbrev pub both_below : World → FlowType → FlowType → FlowType → Bool
both_below w a b t = w.below a t && w.below b t

-- both sides are numbers, or both are strings
abbrev pub may_compare : World → FlowType → FlowType → Bool
may_compare w a b = both_below w a b made.Number || both_below w a b made.Str

-- a comparison at these tokens is asked to be one of numbers or of strings
abbrev pub compare_asked : World → ℕ → ℕ → FlowType → FlowType → Notes → Notes
compare_asked w f t a b notes =
    if may_compare w a b then notes else add_fault (fault_at w f t InvalidCompare (two_types a b)) notes

-- `a < b` and its like
abbrev pub compare_out : World → ℕ → ℕ → Out → Out → Out
compare_out w f t a b = plainly made.Boolean (change_notes (compare_asked w f t a.ty b.ty) (after b))

-- ---- arithmetic

-- the type of a sum, if there is one
abbrev pub sum_type : World → FlowType → FlowType → Option FlowType
sum_type w a b =
    if is_any a || is_any b then Some made.Any
    else (if both_below w a b made.Number then Some made.Number
    else (if both_below w a b (made.Union (made.Number ∷ made.Str ∷ [])) then Some made.Str
    else None))

-- a sum at these tokens; one of other types is a fault and `any`
abbrev pub sum_found : World → ℕ → ℕ → FlowType → FlowType → Now → Option FlowType → Out
sum_found w f t a b now (Some sum) = plainly sum now
sum_found w f t a b now None = plainly made.Any (change_notes (add_fault (fault_at w f t UnsafeArithmetic (two_types a b))) now)

-- `a + b`
abbrev pub sum_out : World → ℕ → ℕ → Out → Out → Out
sum_out w f t a b = sum_found w f t a.ty b.ty (after b) (sum_type w a.ty b.ty)

-- the left side ends at the operator, and the right side begins behind it
abbrev pub product_out : World → ℕ → ℕ → ℕ → Out → Out → Out
product_out w f at t a b =
    plainly made.Number (change_notes (λ notes. number_asked w (suc at) t b.ty (number_asked w f at a.ty notes)) (after b))

-- ---- each operator

-- A chain begins at a token, has an operator at a second one, and its right side ends at a third one.
abbrev pub operator_out : World → ℕ → ℕ → ℕ → Operator → Out → Out → Out
operator_out w f at t nullish a b = nullish_out w a b
operator_out w f at t or a b = or_out w a b
operator_out w f at t and a b = and_out w a b
operator_out w f at t strict_equal a b = plainly made.Boolean (after b)
operator_out w f at t strict_not_equal a b = plainly made.Boolean (after b)
operator_out w f at t loose_equal a b = plainly made.Boolean (after b)
operator_out w f at t loose_not_equal a b = plainly made.Boolean (after b)
operator_out w f at t less a b = compare_out w f t a b
operator_out w f at t greater a b = compare_out w f t a b
operator_out w f at t less_or_equal a b = compare_out w f t a b
operator_out w f at t greater_or_equal a b = compare_out w f t a b
operator_out w f at t add a b = sum_out w f t a b
operator_out w f at t subtract a b = product_out w f at t a b
operator_out w f at t multiply a b = product_out w f at t a b
operator_out w f at t divide a b = product_out w f at t a b
operator_out w f at t remainder a b = product_out w f at t a b

-- ---- `as`

-- the type behind `as`
abbrev pub cast_want : World → OperandForm → Want
cast_want w (right_side op e) = None
cast_want w (as_type v) = Some (written w v)

-- a chain's first part is read against the type behind it
abbrev pub first_want : World → Operands → Want
first_want w no_operand = None
first_want w (more_operand no_operand (operand f t form)) = cast_want w form
first_want w (more_operand os o) = first_want w os

-- a later part, at these tokens, is asked to be below its type
abbrev pub cast_asked : World → ℕ → ℕ → Bool → FlowType → FlowType → Notes → Notes
cast_asked w f t goes_on want ty notes = if goes_on then asked w f t want ty notes else notes

-- ---- properties, indices, calls

-- what each member of an object's type gives, at a place or at none
abbrev pub stepped : World → Option Place → List Step → Now → Out
stepped w place steps now = maybe_place_out w place (steps_type steps) (change_notes (add_faults (steps_faults steps)) now)

-- the property `.key` of an object that was read
abbrev pub property_out : World → ℕ → ℕ → ℕ → Bytes → Option Place → Out → Out
property_out w f at t key place o =
    let part : Part = record { object_first = f; object_end = at; object_type = o.ty; first = suc at; end = t; details = key } in
    stepped w place (map (property_read w part key) (levels w o.ty)) (after o)

-- the element `[i]` of an object that was read, once the index is
abbrev pub index_out : World → ℕ → ℕ → ℕ → Out → Out → Out
index_out w f at t o i =
    let part : Part = record { object_first = f; object_end = at; object_type = o.ty; first = suc at; end = t - 1; details = brief i.ty } in
    stepped w None (map (index_read w part i.ty) (levels w o.ty)) (after i)

-- the arguments that were read, in order
pub record Args : Type 0 where
  pub args : List Arg
  pub now : Now

-- a call of what was read, once the arguments are
abbrev pub call_out : World → ℕ → ℕ → ℕ → Out → Args → Out
call_out w f at t o given =
    let c : Call = record { first = f; callee_end = at; end = t; callee_type = o.ty; args = given.args } in
    let steps : List Step = map (member_called w c) (levels w o.ty) in
    let faults : List Fault = steps_faults steps ++ args_faults w (levels w o.ty) given.args in
    plainly (steps_type steps) (change_facts (live without_properties) (change_notes (add_faults faults) given.now))

-- ---- literals

-- an object or array literal at these tokens is asked as a whole, unless its parts were
abbrev pub unless_matched : {X : Type 0} → World → ℕ → ℕ → Want → Option X → Out → Out
unless_matched w f t want None o = against w f t want o
unless_matched w f t want (Some matched) o = o
