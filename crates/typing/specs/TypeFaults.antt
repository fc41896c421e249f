-- The names in the trees of types, and their faults.
use Rattle.std.specs.Prelude.{ℕ, List, [], ◌∷◌, ◌++◌, Option, Some, None, if◌then◌else◌}
use Rattle.std.specs.Option.{is_some}
use Rattle.js_grammar.specs.Types.{Key, key, Ty, ty, Pres, no_pre, more_pre, Pre, pre, Core, fun, post, Base, base, Form, array, paren, tuple, object, Params, no_param, more_param, Param, plain, named, Types, no_type, more_type, Props, no_prop, more_prop, Prop, prop}
use Rattle.js_grammar.specs.Types as g
use Rattle.check_values.specs.Rows.{Bytes, row_at, is_among}
use Rattle.check_values.specs.declared.codes.Code.TheVariants.{NameAlreadyBound}
use Rattle.type_values.specs.declared.types.FlowType.{FlowType}
use Rattle.type_values.specs.declared.types.FlowType as made
use Rattle.type_terms.specs.Show.{shown_key}
use Rattle.tree_types.specs.TreeTypes.{named_types, type_of, key_text}
use Rattle.typing.specs.States.{World, TypeMeaning, a_type, no_type_of, Notes, fault_at, name_fault}

-- what a name stands for: a name with a fault is `any`
abbrev pub type_meant : TypeMeaning → FlowType
type_meant (a_type t) = t
type_meant (no_type_of code) = made.Any

-- the type of a tree, by what names mean
abbrev pub written_by : (Bytes → TypeMeaning) → Ty → FlowType
written_by meaning t = type_of (λ name. type_meant (meaning name)) t

-- the type of a tree, by what the module's names mean
abbrev pub written : World → Ty → FlowType
written w t = written_by w.type_meaning t

-- a name, at these tokens, that means no type is a fault
abbrev pub meaning_fault : World → ℕ → ℕ → Bytes → TypeMeaning → Notes → Notes
meaning_fault w f t name (a_type meant) notes = notes
meaning_fault w f t name (no_type_of code) notes = name_fault (fault_at w f t code name) notes

-- a name at these tokens, be it a type's own or one of the module's
abbrev pub name_read : World → ℕ → ℕ → Bytes → Notes → Notes
name_read w f t name notes =
    if is_some (row_at named_types name) then notes else meaning_fault w f t name (w.type_meaning name) notes

-- a key that stands before already
abbrev pub key_read : World → List Bytes → Key → Notes → Notes
key_read w before (key f t form) notes =
    if is_among before (key_text (key f t form))
    then name_fault (fault_at w f t NameAlreadyBound (shown_key (key_text (key f t form)))) notes
    else notes

abbrev pub key_of_prop : Prop → Bytes
key_of_prop (prop f t sign k optional v) = key_text k

abbrev pub keys_of_props : Props → List Bytes
keys_of_props no_prop = []
keys_of_props (more_prop ps p) = keys_of_props ps ++ key_of_prop p ∷ []

-- The faults of each form, from left to right.
abbrev mutual
  pub type_read : World → Ty → Notes → Notes
  type_read w (ty f t lead members) notes = members_read w members notes

  pub members_read : World → Pres → Notes → Notes
  members_read w no_pre notes = notes
  members_read w (more_pre ps p) notes = member_read w p (members_read w ps notes)

  pub member_read : World → Pre → Notes → Notes
  member_read w (pre f t marks core) notes = core_read w core notes

  pub core_read : World → Core → Notes → Notes
  core_read w (fun f t ps comma result) notes = type_read w result (params_read w ps notes)
  core_read w (post f t b pairs) notes = base_read w b notes

  pub base_read : World → Base → Notes → Notes
  base_read w (base f t form) notes = form_read w f t form notes

  pub form_read : World → ℕ → ℕ → Form → Notes → Notes
  form_read w f t (g.name word) notes = name_read w f t word notes
  form_read w f t (array read_only element) notes = type_read w element notes
  form_read w f t (paren inner) notes = type_read w inner notes
  form_read w f t (tuple elements comma) notes = types_read w elements notes
  form_read w f t (object props ending) notes = props_read w props notes
  form_read w f t form notes = notes

  pub types_read : World → Types → Notes → Notes
  types_read w no_type notes = notes
  types_read w (more_type ts t) notes = type_read w t (types_read w ts notes)

  pub params_read : World → Params → Notes → Notes
  params_read w no_param notes = notes
  params_read w (more_param ps p) notes = param_read w p (params_read w ps notes)

  pub param_read : World → Param → Notes → Notes
  param_read w (plain t) notes = type_read w t notes
  param_read w (named f to name optional t) notes = type_read w t notes

  pub props_read : World → Props → Notes → Notes
  props_read w no_prop notes = notes
  props_read w (more_prop ps p) notes = prop_read w (keys_of_props ps) p (props_read w ps notes)

  pub prop_read : World → List Bytes → Prop → Notes → Notes
  prop_read w before (prop f t sign k optional v) notes = type_read w v (key_read w before k notes)

-- an annotation, if there is one
abbrev pub annotation_read : World → Option Ty → Notes → Notes
annotation_read w None notes = notes
annotation_read w (Some t) notes = type_read w t notes

-- the type of an annotation, if there is one
abbrev pub annotated : World → Option Ty → Option FlowType
annotated w None = None
annotated w (Some t) = Some (written w t)
