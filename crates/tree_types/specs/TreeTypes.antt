-- The type that a tree of a type stands for.
use Rattle.std.specs.Prelude.{Bool, true, false, List, [], ◌∷◌, ◌++◌, unwrap_or, if◌then◌else◌, codes}
use Rattle.std.specs.List.{list_any}
use Rattle.std.specs.Str.{bytes_eq}
use Rattle.js_grammar.specs.Words.{Bytes}
use Rattle.js_grammar.specs.Types.{Places, no_place, more_place, Sign, unsigned, plus, minus, Key, key, word_key, text_key, Ending, bare, comma, dots, Ty, ty, Pres, no_pre, more_pre, Pre, pre, Core, fun, post, Base, base, Form, name, str, num, null, void, truth, array, paren, tuple, object, Params, no_param, more_param, Param, plain, named, Types, no_type, more_type, Props, no_prop, more_prop, Prop, prop}
use Rattle.check_values.specs.Rows.{Rows, row_at}
use Rattle.type_values.specs.declared.types.FlowType.{FlowType}
use Rattle.type_values.specs.declared.types.FlowType as made
use Rattle.type_values.specs.declared.types.FlowProp.{FlowProp}
use Rattle.type_values.specs.declared.types.Param as value
use Rattle.type_values.specs.declared.types.Variance.{Variance}
use Rattle.type_values.specs.declared.types.Variance.TheVariants as variance

-- the types that have names of their own
abbrev pub named_types : Rows FlowType
named_types =
    (codes "any", made.Any) ∷ (codes "mixed", made.Mixed) ∷ (codes "empty", made.Empty) ∷ (codes "number", made.Number)
    ∷ (codes "string", made.Str) ∷ (codes "boolean", made.Boolean) ∷ []

-- a name that stands as a type; alias_at says what it stands for where it is no type's own name
abbrev pub type_at : (Bytes → FlowType) → Bytes → FlowType
type_at alias_at word = unwrap_or (row_at named_types word) (alias_at word)

-- the union of types; of one type it is that one
abbrev pub union_of : List FlowType → FlowType
union_of (t ∷ []) = t
union_of types = made.Union types

-- a `?` before a type, for each mark
abbrev pub maybe : Places → FlowType → FlowType
maybe no_place t = t
maybe (more_place marks place) t = made.Union (made.Null ∷ made.Void ∷ maybe marks t ∷ [])

-- a pair of brackets behind a type, for each pair
abbrev pub array_of : Places → FlowType → FlowType
array_of no_place t = t
array_of (more_place pairs place) t = made.Array (array_of pairs t)

-- `+` may be read, `-` may be written, and without a sign both
abbrev pub variance_of : Sign → Variance
variance_of unsigned = variance.Both
variance_of plus = variance.Read
variance_of minus = variance.Write

-- the bytes of a key, be it a word or a string
abbrev pub key_text : Key → Bytes
key_text (key first end (word_key word)) = word
key_text (key first end (text_key text)) = text

-- objects whose type ends in `...` may have further properties
abbrev pub is_exact : Ending → Bool
is_exact bare = true
is_exact comma = true
is_exact dots = false

-- of properties of one key the last counts, at its own place
abbrev pub last_of_each : List FlowProp → List FlowProp
last_of_each [] = []
last_of_each (p ∷ ps) = if list_any (λ later. bytes_eq later.key p.key) ps then last_of_each ps else p ∷ last_of_each ps

-- The type of each form, where alias_at says what names stand for.
abbrev mutual
  pub type_of : (Bytes → FlowType) → Ty → FlowType
  type_of alias_at (ty first end lead members) = union_of (types_of_members alias_at members)

  pub types_of_members : (Bytes → FlowType) → Pres → List FlowType
  types_of_members alias_at no_pre = []
  types_of_members alias_at (more_pre before last) = types_of_members alias_at before ++ (type_of_member alias_at last ∷ [])

  pub type_of_member : (Bytes → FlowType) → Pre → FlowType
  type_of_member alias_at (pre first end marks core) = maybe marks (type_of_core alias_at core)

  pub type_of_core : (Bytes → FlowType) → Core → FlowType
  type_of_core alias_at (fun first end params trailing result) = made.Function (params_of alias_at params) (type_of alias_at result)
  type_of_core alias_at (post first end b pairs) = array_of pairs (type_of_base alias_at b)

  pub type_of_base : (Bytes → FlowType) → Base → FlowType
  type_of_base alias_at (base first end form) = type_of_form alias_at form

  pub type_of_form : (Bytes → FlowType) → Form → FlowType
  type_of_form alias_at (name word) = type_at alias_at word
  type_of_form alias_at (str text) = made.StrLit text
  type_of_form alias_at (num digits) = made.NumLit digits
  type_of_form alias_at null = made.Null
  type_of_form alias_at void = made.Void
  type_of_form alias_at (truth b) = made.BoolLit b
  type_of_form alias_at (array false element) = made.Array (type_of alias_at element)
  type_of_form alias_at (array true element) = made.ReadArray (type_of alias_at element)
  type_of_form alias_at (paren inner) = type_of alias_at inner
  type_of_form alias_at (tuple elements trailing) = made.Tuple (types_of alias_at elements)
  type_of_form alias_at (object props ending) = made.Object (is_exact ending) (last_of_each (props_of alias_at props))

  pub types_of : (Bytes → FlowType) → Types → List FlowType
  types_of alias_at no_type = []
  types_of alias_at (more_type before last) = types_of alias_at before ++ (type_of alias_at last ∷ [])

  pub params_of : (Bytes → FlowType) → Params → List value.Param
  params_of alias_at no_param = []
  params_of alias_at (more_param before last) = params_of alias_at before ++ (param_of alias_at last ∷ [])

  pub param_of : (Bytes → FlowType) → Param → value.Param
  param_of alias_at (plain t) = record { optional = false; ty = type_of alias_at t }
  param_of alias_at (named first end word optional t) = record { optional = optional; ty = type_of alias_at t }

  pub props_of : (Bytes → FlowType) → Props → List FlowProp
  props_of alias_at no_prop = []
  props_of alias_at (more_prop before last) = props_of alias_at before ++ (prop_of alias_at last ∷ [])

  pub prop_of : (Bytes → FlowType) → Prop → FlowProp
  prop_of alias_at (prop first end sign k optional t) =
      record { key = key_text k; variance = variance_of sign; optional = optional; ty = type_of alias_at t }
