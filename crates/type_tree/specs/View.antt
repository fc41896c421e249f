-- The tree of a type that a value of the code stands for.
use Rattle.std.specs.Prelude.{ℕ, List, [], ◌∷◌, map}
use Rattle.js_grammar.specs.Types as g
use Rattle.js_grammar.specs.Types.{Places, no_place, more_place, Ty, Pres, no_pre, more_pre, Pre, Core, Base, Form, Params, no_param, more_param, Param, Types, no_type, more_type, Props, no_prop, more_prop, Prop}
use Rattle.type_tree.specs.declared.types.Sign.{Sign}
use Rattle.type_tree.specs.declared.types.Sign.TheVariants.{Unsigned, Plus, Minus}
use Rattle.type_tree.specs.declared.types.Ending.{Ending}
use Rattle.type_tree.specs.declared.types.Ending.TheVariants.{Bare, Comma, Dots}
use Rattle.type_tree.specs.declared.types.Key.{Key}
use Rattle.type_tree.specs.declared.types.KeyForm.{KeyForm}
use Rattle.type_tree.specs.declared.types.KeyForm.TheVariants as key
use Rattle.type_tree.specs.declared.types.TypeTree.{TypeTree, fold-TypeTree}
use Rattle.type_tree.specs.declared.types.PreTree.{PreTree, fold-PreTree}
use Rattle.type_tree.specs.declared.types.CoreTree.{CoreTree, fold-CoreTree}
use Rattle.type_tree.specs.declared.types.BaseTree.{BaseTree, fold-BaseTree}
use Rattle.type_tree.specs.declared.types.BaseForm.{BaseForm, fold-BaseForm}
use Rattle.type_tree.specs.declared.types.ParamTree.{ParamTree, fold-ParamTree}
use Rattle.type_tree.specs.declared.types.PropTree.{PropTree, fold-PropTree}
use Rattle.type_tree.specs.declared.types.BaseForm.TheOpen.{BaseForm-F, CoreTree-F, ParamTree-F, BaseTree-F, FunctionType-F, NamedParam-F, PostType-F, PreTree-F, PropTree-F, TypeTree-F}

-- each part of a tree that holds no type, as the grammar has it
abbrev pub sign_view : Sign → g.Sign
sign_view Unsigned = g.unsigned
sign_view Plus = g.plus
sign_view Minus = g.minus

abbrev pub ending_view : Ending → g.Ending
ending_view Bare = g.bare
ending_view Comma = g.comma
ending_view Dots = g.dots

abbrev pub key_form_view : KeyForm → g.KeyForm
key_form_view (key.Word w) = g.word_key w
key_form_view (key.Str s) = g.text_key s

abbrev pub key_view : Key → g.Key
key_view k = g.key k.first k.end (key_form_view k.form)

-- places in order, behind those before
abbrev pub places_from : Places → List ℕ → Places
places_from acc [] = acc
places_from acc (p ∷ ps) = places_from (more_place acc p) ps

-- members of a union in order, behind those before
abbrev pub pres_from : Pres → List Pre → Pres
pres_from acc [] = acc
pres_from acc (p ∷ ps) = pres_from (more_pre acc p) ps

-- parameters in order, behind those before
abbrev pub params_from : Params → List Param → Params
params_from acc [] = acc
params_from acc (p ∷ ps) = params_from (more_param acc p) ps

-- elements of a tuple in order, behind those before
abbrev pub types_from : Types → List Ty → Types
types_from acc [] = acc
types_from acc (t ∷ ts) = types_from (more_type acc t) ts

-- properties in order, behind those before
abbrev pub props_from : Props → List Prop → Props
props_from acc [] = acc
props_from acc (p ∷ ps) = props_from (more_prop acc p) ps

-- one level of each, with what is inside already seen
abbrev pub form_step : BaseForm-F Form Core Param Base Core Param Core Pre Prop Ty → Form
form_step (BaseForm-F.Name n) = g.name n
form_step (BaseForm-F.Str s) = g.str s
form_step (BaseForm-F.Number n) = g.num n
form_step BaseForm-F.Null = g.null
form_step BaseForm-F.Void = g.void
form_step (BaseForm-F.Truth b) = g.truth b
form_step (BaseForm-F.Array o t) = g.array o t
form_step (BaseForm-F.Paren t) = g.paren t
form_step (BaseForm-F.Tuple ts c) = g.tuple (types_from no_type ts) c
form_step (BaseForm-F.Object ps e) = g.object (props_from no_prop ps) (ending_view e)

-- each form, once its parts stand for trees
abbrev pub core_step : CoreTree-F Form Core Param Base Core Param Core Pre Prop Ty → Core
core_step (CoreTree-F.Function f) = f
core_step (CoreTree-F.Post p) = p

abbrev pub param_step : ParamTree-F Form Core Param Base Core Param Core Pre Prop Ty → Param
param_step (ParamTree-F.Plain t) = g.plain t
param_step (ParamTree-F.Named p) = p

abbrev pub base_step : BaseTree-F Form Core Param Base Core Param Core Pre Prop Ty → Base
base_step b = g.base b.first b.end b.form

abbrev pub function_step : FunctionType-F Form Core Param Base Core Param Core Pre Prop Ty → Core
function_step f = g.fun f.first f.end (params_from no_param f.params) f.comma f.result

abbrev pub named_step : NamedParam-F Form Core Param Base Core Param Core Pre Prop Ty → Param
named_step p = g.named p.first p.end p.name p.optional p.ty

abbrev pub post_step : PostType-F Form Core Param Base Core Param Core Pre Prop Ty → Core
post_step p = g.post p.first p.end p.base (places_from no_place p.brackets)

abbrev pub pre_step : PreTree-F Form Core Param Base Core Param Core Pre Prop Ty → Pre
pre_step p = g.pre p.first p.end (places_from no_place p.marks) p.core

abbrev pub prop_step : PropTree-F Form Core Param Base Core Param Core Pre Prop Ty → Prop
prop_step p = g.prop p.first p.end (sign_view p.sign) (key_view p.key) p.optional p.ty

abbrev pub type_step : TypeTree-F Form Core Param Base Core Param Core Pre Prop Ty → Ty
type_step t = g.ty t.first t.end t.lead (pres_from no_pre t.members)

-- the tree of the grammar for which each value stands
unfoldable pub type_view : TypeTree → Ty
type_view = fold-TypeTree Form Core Param Base Core Param Core Pre Prop Ty form_step core_step param_step base_step function_step named_step post_step pre_step prop_step type_step

unfoldable pub pre_view : PreTree → Pre
pre_view = fold-PreTree Form Core Param Base Core Param Core Pre Prop Ty form_step core_step param_step base_step function_step named_step post_step pre_step prop_step type_step

unfoldable pub core_view : CoreTree → Core
core_view = fold-CoreTree Form Core Param Base Core Param Core Pre Prop Ty form_step core_step param_step base_step function_step named_step post_step pre_step prop_step type_step

unfoldable pub base_view : BaseTree → Base
base_view = fold-BaseTree Form Core Param Base Core Param Core Pre Prop Ty form_step core_step param_step base_step function_step named_step post_step pre_step prop_step type_step

unfoldable pub form_view : BaseForm → Form
form_view = fold-BaseForm Form Core Param Base Core Param Core Pre Prop Ty form_step core_step param_step base_step function_step named_step post_step pre_step prop_step type_step

unfoldable pub param_view : ParamTree → Param
param_view = fold-ParamTree Form Core Param Base Core Param Core Pre Prop Ty form_step core_step param_step base_step function_step named_step post_step pre_step prop_step type_step

unfoldable pub prop_view : PropTree → Prop
prop_view = fold-PropTree Form Core Param Base Core Param Core Pre Prop Ty form_step core_step param_step base_step function_step named_step post_step pre_step prop_step type_step

-- and each list of such values
unfoldable pub places_view : List ℕ → Places
places_view ps = places_from no_place ps

unfoldable pub pres_view : List PreTree → Pres
pres_view ps = pres_from no_pre (map pre_view ps)

unfoldable pub params_view : List ParamTree → Params
params_view ps = params_from no_param (map param_view ps)

unfoldable pub types_view : List TypeTree → Types
types_view ts = types_from no_type (map type_view ts)

unfoldable pub props_view : List PropTree → Props
props_view ps = props_from no_prop (map prop_view ps)
