-- The types that a module's boundary tells: those of annotations, and those that an initialiser has by its form alone. alias_at
-- says what names stand for as types.
use Rattle.std.specs.Prelude.{List, [], ◌∷◌, ◌++◌, Option, Some, None, option_map}
use Rattle.js_grammar.specs.Types.{Ty}
use Rattle.js_grammar.specs.Code.{relation_level, Ex, ex, ExForm, number, text, truth_value, null_value, parens, function_ex, chain, arrow, operand, as_type, Operands, more_operand, Function, function, Sig, sig, Parameter, parameter, Parameters, no_parameter, more_parameter, Declaration, declaration}
use Rattle.type_values.specs.declared.types.FlowType.{FlowType}
use Rattle.type_values.specs.declared.types.FlowType as made
use Rattle.type_values.specs.declared.types.Param as value
use Rattle.tree_types.specs.TreeTypes.{type_of}
use Rattle.check_values.specs.Rows.{Bytes}

-- a list with an element behind it, where there are both
abbrev pub also : {X : Type 0} → Option (List X) → Option X → Option (List X)
also None last = None
also (Some before) None = None
also (Some before) (Some last) = Some (before ++ (last ∷ []))

-- a parameter and its type, where it has an annotation
abbrev pub boundary_param : (Bytes → FlowType) → Parameter → Option value.Param
boundary_param alias_at (parameter first end word optional None) = None
boundary_param alias_at (parameter first end word optional (Some t)) = Some (record { optional = optional; ty = type_of alias_at t })

-- parameters and their types, where each has an annotation
abbrev pub boundary_params : (Bytes → FlowType) → Parameters → Option (List value.Param)
boundary_params alias_at no_parameter = Some []
boundary_params alias_at (more_parameter before last) = also (boundary_params alias_at before) (boundary_param alias_at last)

-- a function's type, where its parameters and its result are both told
abbrev pub function_type : Option (List value.Param) → Option FlowType → Option FlowType
function_type None result = None
function_type (Some params) None = None
function_type (Some params) (Some result) = Some (made.Function params result)

-- a function's type, where its parameters and its result are all annotated
abbrev pub boundary_sig : (Bytes → FlowType) → Sig → Option FlowType
boundary_sig alias_at (sig first end params trailing result) =
    function_type (boundary_params alias_at params) (option_map (type_of alias_at) result)

-- the type that a function tells by its signature
abbrev pub boundary_function : (Bytes → FlowType) → Function → Option FlowType
boundary_function alias_at (function first end word signature body) = boundary_sig alias_at signature

-- the type of a chain whose last link is `as` and a type
abbrev pub cast_type : (Bytes → FlowType) → Operands → Option FlowType
cast_type alias_at (more_operand before (operand first end (as_type t))) = Some (type_of alias_at t)
cast_type alias_at links = None

-- the type that an expression has by its form, parentheses round it left out
abbrev mutual
  pub boundary_value : (Bytes → FlowType) → Ex → Option FlowType
  boundary_value alias_at (ex first end form) = boundary_form alias_at form

  pub boundary_form : (Bytes → FlowType) → ExForm → Option FlowType
  boundary_form alias_at (number digits) = Some made.Number
  boundary_form alias_at (text s) = Some made.Str
  boundary_form alias_at (truth_value b) = Some made.Boolean
  boundary_form alias_at null_value = Some made.Null
  boundary_form alias_at (parens e) = boundary_value alias_at e
  boundary_form alias_at (chain relation_level e links) = cast_type alias_at links
  boundary_form alias_at (function_ex f) = boundary_function alias_at f
  boundary_form alias_at (arrow signature body) = boundary_sig alias_at signature
  boundary_form alias_at form = None

-- the annotation, or else what the initialiser tells
abbrev pub annotated : (Bytes → FlowType) → Option Ty → Ex → Option FlowType
annotated alias_at (Some t) e = Some (type_of alias_at t)
annotated alias_at None e = boundary_value alias_at e

-- the type that a declaration tells
abbrev pub boundary_declaration : (Bytes → FlowType) → Declaration → Option FlowType
boundary_declaration alias_at (declaration first end binder word annotation e) = annotated alias_at annotation e
