-- What each test makes of one member: the table of narrowing, a row at a time.
use Rattle.std.specs.Prelude.{ℕ, ◌==◌, Bool, true, false, not, ◌||◌, List, [], ◌∷◌, codes, if◌then◌else◌}
use Rattle.std.specs.Cmp.Lexicographic.{pointwise}
use Rattle.type_values.specs.Order.{is_same}
use Rattle.type_values.specs.declared.types.FlowType.{FlowType, out-FlowType}
use Rattle.type_values.specs.declared.types.FlowType as made
use Rattle.type_values.specs.declared.types.FlowProp.{FlowProp}
use Rattle.type_values.specs.declared.types.Param.{Param}
use Rattle.type_values.specs.declared.types.FlowType.TheOpen.{FlowType-F, Any, Mixed, Number, Str, Boolean, Null, Void, StrLit, NumLit, BoolLit, Object, Tuple, Array, ReadArray, Function}
use Rattle.flow_facts.specs.declared.test.Cell.{Cell}
use Rattle.flow_facts.specs.declared.test.Cell.TheVariants.{Stays, Gone, Becomes}
use Rattle.flow_facts.specs.declared.test.Lit.{Lit}
use Rattle.flow_facts.specs.Literals.{lit_type, lit_base}

-- one level of a type
abbrev pub Level : Type 0
Level = FlowType-F FlowType FlowProp Param

-- the same bytes
abbrev pub is_text : List ℕ → List ℕ → Bool
is_text = pointwise ◌==◌

-- kept where the test holds
abbrev pub keep_if : Bool → Cell
keep_if b = if b then Stays else Gone

-- what is left of a member where the value is truthy
abbrev pub truthy_cell : Level → Cell
truthy_cell Null = Gone
truthy_cell Void = Gone
truthy_cell Boolean = Becomes (made.BoolLit true)
truthy_cell (BoolLit b) = keep_if b
truthy_cell (NumLit spelling) = keep_if (not (is_text spelling (codes "0")))
truthy_cell (StrLit text) = keep_if (not (is_text text []))
truthy_cell level = Stays

-- where it is falsy
abbrev pub falsy_cell : Level → Cell
falsy_cell Boolean = Becomes (made.BoolLit false)
falsy_cell (BoolLit b) = keep_if (not b)
falsy_cell (NumLit spelling) = keep_if (is_text spelling (codes "0"))
falsy_cell (StrLit text) = keep_if (is_text text [])
falsy_cell (Object exact props) = Gone
falsy_cell (Tuple all) = Gone
falsy_cell (Array element) = Gone
falsy_cell (ReadArray element) = Gone
falsy_cell (Function params result) = Gone
falsy_cell level = Stays

-- where it is null
abbrev pub is_null_cell : Level → Cell
is_null_cell Any = Stays
is_null_cell Null = Stays
is_null_cell Mixed = Becomes made.Null
is_null_cell level = Gone

-- where it is void
abbrev pub is_void_cell : Level → Cell
is_void_cell Any = Stays
is_void_cell Void = Stays
is_void_cell Mixed = Becomes made.Void
is_void_cell level = Gone

-- where it is null or void
abbrev pub nullish_cell : Level → Cell
nullish_cell Any = Stays
nullish_cell Null = Stays
nullish_cell Void = Stays
nullish_cell Mixed = Becomes (made.Union (made.Null ∷ made.Void ∷ []))
nullish_cell level = Gone

-- where it is not null
abbrev pub not_null_cell : Level → Cell
not_null_cell Null = Gone
not_null_cell level = Stays

-- where it is not void
abbrev pub not_void_cell : Level → Cell
not_void_cell Void = Gone
not_void_cell level = Stays

-- where it is neither
abbrev pub not_nullish_cell : Level → Cell
not_nullish_cell Null = Gone
not_nullish_cell Void = Gone
not_nullish_cell level = Stays

-- the same literal stays, its base and `mixed` become it, and `any` stays
abbrev pub is_lit_cell : Lit → FlowType → Cell
is_lit_cell lit t =
    if is_same t made.Any || is_same t (lit_type lit) then Stays
    else (if is_same t made.Mixed || is_same t (lit_base lit) then Becomes (lit_type lit)
    else Gone)

-- `boolean` becomes the other truth value
abbrev pub other_truth : FlowType → Cell
other_truth own = if is_same own (made.BoolLit true) then Becomes (made.BoolLit false) else (if is_same own (made.BoolLit false) then Becomes (made.BoolLit true) else Stays)

-- the same literal goes
abbrev pub not_lit_cell : Lit → FlowType → Cell
not_lit_cell lit t =
    if is_same t (lit_type lit) then Gone
    else (if is_same t made.Boolean then other_truth (lit_type lit)
    else Stays)

-- what `typeof` gives for the values of a member that is not `any` or `mixed`
abbrev pub typeof_word : Level → List ℕ
typeof_word Number = codes "number"
typeof_word (NumLit spelling) = codes "number"
typeof_word Str = codes "string"
typeof_word (StrLit text) = codes "string"
typeof_word Boolean = codes "boolean"
typeof_word (BoolLit b) = codes "boolean"
typeof_word Void = codes "undefined"
typeof_word Null = codes "object"
typeof_word (Object exact props) = codes "object"
typeof_word (Tuple all) = codes "object"
typeof_word (Array element) = codes "object"
typeof_word (ReadArray element) = codes "object"
typeof_word (Function params result) = codes "function"
typeof_word level = []

-- what `mixed` becomes
abbrev pub typeof_mixed : List ℕ → Cell
typeof_mixed kind =
    if is_text kind (codes "number") then Becomes made.Number
    else (if is_text kind (codes "string") then Becomes made.Str
    else (if is_text kind (codes "boolean") then Becomes made.Boolean
    else (if is_text kind (codes "undefined") then Becomes made.Void
    else keep_if (is_text kind (codes "object") || is_text kind (codes "function")))))

-- where `typeof` gives this word
abbrev pub typeof_cell : List ℕ → Level → Cell
typeof_cell kind Any = Stays
typeof_cell kind Mixed = typeof_mixed kind
typeof_cell kind level = keep_if (is_text (typeof_word level) kind)

-- it keeps what the test on the kind drops, and `mixed`
abbrev pub not_typeof_cell : List ℕ → Level → Cell
not_typeof_cell kind Any = Stays
not_typeof_cell kind Mixed = Stays
not_typeof_cell kind level = keep_if (not (is_text (typeof_word level) kind))
