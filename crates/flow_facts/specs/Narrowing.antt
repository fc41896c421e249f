-- Narrowing a type by a test: each member is replaced by its cell, and what is left is joined. The members of a type are given by a
-- function.
use Rattle.std.specs.Prelude.{ℕ, Bool, true, false, List, [], ◌∷◌, Option, Some, None, if◌then◌else◌}
use Rattle.std.specs.List.{flat_map, list_any}
use Rattle.type_values.specs.declared.types.FlowType.{FlowType, out-FlowType}
use Rattle.type_values.specs.declared.types.FlowProp.{FlowProp}
use Rattle.type_values.specs.declared.types.FlowType.TheOpen.{Object}
use Rattle.type_terms.specs.Join.{join_of}
use Rattle.flow_facts.specs.declared.test.Cell.{Cell}
use Rattle.flow_facts.specs.declared.test.Cell.TheVariants.{Stays, Gone, Becomes}
use Rattle.flow_facts.specs.declared.test.Test.{Test}
use Rattle.flow_facts.specs.declared.test.Test.TheOpen.{Test-F, Truthy, Falsy, IsNull, NotNull, IsVoid, NotVoid, Nullish, NotNullish, IsLit, NotLit, Typeof, NotTypeof, OnProp}
use Rattle.flow_facts.specs.declared.test.Test.TheFolds.{fold-Test}
use Rattle.flow_facts.specs.Cells.{Level, truthy_cell, falsy_cell, is_null_cell, not_null_cell, is_void_cell, not_void_cell, nullish_cell, not_nullish_cell, is_lit_cell, not_lit_cell, typeof_cell, not_typeof_cell}
use Rattle.flow_facts.specs.Properties.{prop_of, read_type}

-- what a test makes of each member
abbrev pub Rule : Type 0
Rule = FlowType → Cell

-- what a cell leaves of a member
abbrev pub left_of : Cell → FlowType → List FlowType
left_of Stays t = t ∷ []
left_of Gone t = []
left_of (Becomes u) t = u ∷ []

-- whether a member with this cell is dropped or replaced
abbrev pub is_change : Cell → Bool
is_change Stays = false
is_change cell = true

-- what is left of members
abbrev pub left_by : Rule → List FlowType → List FlowType
left_by rule all = flat_map (λ t. left_of (rule t) t) all

-- whether a member changes
abbrev pub changes : Rule → List FlowType → Bool
changes rule all = list_any (λ t. is_change (rule t)) all

-- where no member changes, the type itself
abbrev pub narrowed_by : (FlowType → List FlowType) → Rule → FlowType → FlowType
narrowed_by members rule t = if changes rule (members t) then join_of (left_by rule (members t)) else t

-- a member stays where something is left of its property
abbrev pub cell_of_left : List FlowType → Cell
cell_of_left [] = Gone
cell_of_left (t ∷ more) = Stays

-- a property that is missing tells nothing, and of one that is there something must be left
abbrev pub prop_cell : (FlowType → List FlowType) → Rule → Option FlowProp → Cell
prop_cell members rule None = Stays
prop_cell members rule (Some p) = cell_of_left (left_by rule (members (read_type p)))

-- an object is tested by its property, and every other member stays
abbrev pub on_prop_cell : (FlowType → List FlowType) → List ℕ → Rule → Level → Cell
on_prop_cell members key rule (Object exact props) = prop_cell members rule (prop_of key props)
on_prop_cell members key rule level = Stays

-- the rule of a test, whose inner test, if it has one, is a rule already
abbrev pub level_rule : (FlowType → List FlowType) → Test-F Rule → Rule
level_rule members Truthy t = truthy_cell (out-FlowType t)
level_rule members Falsy t = falsy_cell (out-FlowType t)
level_rule members IsNull t = is_null_cell (out-FlowType t)
level_rule members NotNull t = not_null_cell (out-FlowType t)
level_rule members IsVoid t = is_void_cell (out-FlowType t)
level_rule members NotVoid t = not_void_cell (out-FlowType t)
level_rule members Nullish t = nullish_cell (out-FlowType t)
level_rule members NotNullish t = not_nullish_cell (out-FlowType t)
level_rule members (IsLit lit) t = is_lit_cell lit t
level_rule members (NotLit lit) t = not_lit_cell lit t
level_rule members (Typeof kind) t = typeof_cell kind (out-FlowType t)
level_rule members (NotTypeof kind) t = not_typeof_cell kind (out-FlowType t)
level_rule members (OnProp key rule) t = on_prop_cell members key rule (out-FlowType t)

-- the cell of each member
abbrev pub rule_of : (FlowType → List FlowType) → Test → Rule
rule_of members = fold-Test Rule (level_rule members)

-- the narrowed type
abbrev pub narrowed : (FlowType → List FlowType) → Test → FlowType → FlowType
narrowed members test t = narrowed_by members (rule_of members test) t
