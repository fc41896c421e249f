-- The names in a type, and types with their names replaced.
use Rattle.std.specs.Prelude.{ℕ, List, [], ◌∷◌, ◌++◌}
use Rattle.std.specs.List.{flat_map}
use Rattle.type_values.specs.declared.types.FlowType.{FlowType}
use Rattle.type_values.specs.declared.types.FlowType as made
use Rattle.type_values.specs.declared.types.FlowProp.{FlowProp}
use Rattle.type_values.specs.declared.types.Param.{Param}
use Rattle.type_values.specs.declared.types.FlowType.TheOpen.{FlowType-F, FlowProp-F, Param-F, Any, Mixed, Empty, Number, Str, Boolean, Null, Void, StrLit, NumLit, BoolLit, Union, Object, Tuple, Array, ReadArray, Function, Ref}
use Rattle.type_values.specs.declared.types.FlowType.TheFolds.{fold-FlowType}

abbrev pub Bytes : Type 0
Bytes = List ℕ

-- an alias's module and its name
abbrev pub Name : Type 0
Name = Bytes × Bytes

abbrev pub all_of : List (List Name) → List Name
all_of = flat_map (λ names. names)

-- one level, with the names in each part in its place
abbrev pub level_names : FlowType-F (List Name) (List Name) (List Name) → List Name
level_names (Union members) = all_of members
level_names (Object exact props) = all_of props
level_names (Tuple elements) = all_of elements
level_names (Array element) = element
level_names (ReadArray element) = element
level_names (Function params result) = all_of params ++ result
level_names (Ref home name) = (home, name) ∷ []
level_names level = []

-- the names in a type, from left to right
abbrev pub names_in : FlowType → List Name
names_in = fold-FlowType (List Name) (List Name) (List Name) level_names (λ prop. prop.ty) (λ param. param.ty)

-- one level, with each part already replaced
abbrev pub level_replaced : (Name → FlowType) → FlowType-F FlowType FlowProp Param → FlowType
level_replaced means Any = made.Any
level_replaced means Mixed = made.Mixed
level_replaced means Empty = made.Empty
level_replaced means Number = made.Number
level_replaced means Str = made.Str
level_replaced means Boolean = made.Boolean
level_replaced means Null = made.Null
level_replaced means Void = made.Void
level_replaced means (StrLit text) = made.StrLit text
level_replaced means (NumLit spelling) = made.NumLit spelling
level_replaced means (BoolLit b) = made.BoolLit b
level_replaced means (Union members) = made.Union members
level_replaced means (Object exact props) = made.Object exact props
level_replaced means (Tuple elements) = made.Tuple elements
level_replaced means (Array element) = made.Array element
level_replaced means (ReadArray element) = made.ReadArray element
level_replaced means (Function params result) = made.Function params result
level_replaced means (Ref home name) = means (home, name)

abbrev pub prop_replaced : FlowProp-F FlowType FlowProp Param → FlowProp
prop_replaced p = record { key = p.key; variance = p.variance; optional = p.optional; ty = p.ty }

abbrev pub param_replaced : Param-F FlowType FlowProp Param → Param
param_replaced p = record { optional = p.optional; ty = p.ty }

-- a type in which each name is replaced by the type that it means
abbrev pub replaced : (Name → FlowType) → FlowType → FlowType
replaced means = fold-FlowType FlowType FlowProp Param (level_replaced means) prop_replaced param_replaced
