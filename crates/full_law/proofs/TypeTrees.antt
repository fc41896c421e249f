-- Each tree of a type is what some value of the code stands for.
use Rattle.std.proofs.Common.{◌≡◌, ℕ, Bool, List, [], ◌∷◌, ◌++◌, refl, ap, ◌∙◌, Option, Some, None}
use Rattle.std.specs.Option.{option_map}
use Rattle.js_grammar.specs.Types as g
use Rattle.js_grammar.specs.Types.{Places, no_place, more_place, Ty, Pres, Pre, Core, Base, Form, Params, Param, Types, Props, Prop}
use Rattle.type_tree.specs.declared.types.Sign.TheVariants.{Unsigned, Plus, Minus}
use Rattle.type_tree.specs.declared.types.Ending.TheVariants.{Bare, Comma, Dots}
use Rattle.type_tree.specs.declared.types.KeyForm.TheVariants as key_form
use Rattle.type_tree.specs.declared.types.TypeTree.{TypeTree, roll-TypeTree, fold-roll-TypeTree}
use Rattle.type_tree.specs.declared.types.PreTree.{PreTree, roll-PreTree, fold-roll-PreTree}
use Rattle.type_tree.specs.declared.types.CoreTree.{CoreTree, roll-CoreTree, fold-roll-CoreTree}
use Rattle.type_tree.specs.declared.types.BaseTree.{BaseTree, roll-BaseTree, fold-roll-BaseTree}
use Rattle.type_tree.specs.declared.types.BaseForm.{BaseForm, roll-BaseForm, fold-roll-BaseForm}
use Rattle.type_tree.specs.declared.types.FunctionType.{FunctionType, roll-FunctionType, fold-roll-FunctionType}
use Rattle.type_tree.specs.declared.types.PostType.{PostType, roll-PostType, fold-roll-PostType}
use Rattle.type_tree.specs.declared.types.NamedParam.{NamedParam, roll-NamedParam, fold-roll-NamedParam}
use Rattle.type_tree.specs.declared.types.ParamTree.{ParamTree, roll-ParamTree, fold-roll-ParamTree}
use Rattle.type_tree.specs.declared.types.PropTree.{PropTree, roll-PropTree, fold-roll-PropTree}
use Rattle.type_tree.specs.declared.types.BaseForm.TheOpen.{BaseForm-F, CoreTree-F, ParamTree-F, BaseTree-F, FunctionType-F, NamedParam-F, PostType-F, PreTree-F, PropTree-F, TypeTree-F}
use Rattle.type_tree.specs.View.{sign_view, ending_view, key_form_view, key_view, places_from, pres_from, params_from, types_from, props_from, places_view, pres_view, params_view, types_view, props_view, type_view, pre_view, core_view, base_view, form_view, param_view, prop_view, form_step, core_step, param_step, base_step, function_step, named_step, post_step, pre_step, prop_step, type_step}
use Rattle.full_law.proofs.Lists.{Seen, one_more}

-- ---- parts that hold no type

sign_tree : (s : g.Sign) → Seen sign_view s
sign_tree g.unsigned = (Unsigned, refl)
sign_tree g.plus = (Plus, refl)
sign_tree g.minus = (Minus, refl)

ending_tree : (e : g.Ending) → Seen ending_view e
ending_tree g.bare = (Bare, refl)
ending_tree g.comma = (Comma, refl)
ending_tree g.dots = (Dots, refl)

key_form_tree : (k : g.KeyForm) → Seen key_form_view k
key_form_tree (g.word_key w) = (key_form.Word w, refl)
key_form_tree (g.text_key s) = (key_form.Str s, refl)

pub key_tree : (k : g.Key) → Seen key_view k
key_tree (g.key f e k) = let form = key_form_tree k in (record { first = f; end = e; form = form.0 }, ap (g.key f e) form.1)

places_tree : (ps : Places) → Seen places_view ps
unfolding places_view
places_tree no_place = ([], refl)
places_tree (more_place ps p) =
    let rest = places_tree ps in
    (rest.0 ++ p ∷ [], pushed no_place rest.0 ∙ ap (λ l. more_place l p) rest.1)
  where
    pushed : (acc : Places) (xs : List ℕ) → places_from acc (xs ++ p ∷ []) ≡ more_place (places_from acc xs) p
    pushed acc [] = refl
    pushed acc (x ∷ xs) = pushed (more_place acc x) xs

-- ---- one level, made of what stands for its parts

abbrev Level : (Type 0 → Type 0 → Type 0 → Type 0 → Type 0 → Type 0 → Type 0 → Type 0 → Type 0 → Type 0 → Type 0) → Type 0
Level F = F BaseForm CoreTree ParamTree BaseTree FunctionType NamedParam PostType PreTree PropTree TypeTree

abbrev Layer : (Type 0 → Type 0 → Type 0 → Type 0 → Type 0 → Type 0 → Type 0 → Type 0 → Type 0 → Type 0 → Type 0) → Type 0
Layer F = F Form Core Param Base Core Param Core Pre Prop Ty

-- a law of each fold, at trees of the grammar
abbrev at_trees : {R : Type 0 → Type 0 → Type 0 → Type 0 → Type 0 → Type 0 → Type 0 → Type 0 → Type 0 → Type 0 → Type 0} → ((A1 A2 A3 A4 A5 A6 A7 A8 A9 A10 : Type 0) → R A1 A2 A3 A4 A5 A6 A7 A8 A9 A10) → Layer R
at_trees law = law Form Core Param Base Core Param Core Pre Prop Ty

-- and at the fold that is the view
abbrev seen :
    {R :
    (Layer BaseForm-F → Form)
    → (Layer CoreTree-F → Core)
    → (Layer ParamTree-F → Param)
    → (Layer BaseTree-F → Base)
    → (Layer FunctionType-F → Core)
    → (Layer NamedParam-F → Param)
    → (Layer PostType-F → Core)
    → (Layer PreTree-F → Pre)
    → (Layer PropTree-F → Prop)
    → (Layer TypeTree-F → Ty)
    → Type 0}
    → ((form : Layer BaseForm-F → Form) (core : Layer CoreTree-F → Core) (param : Layer ParamTree-F → Param) (base : Layer BaseTree-F → Base) (function : Layer FunctionType-F → Core) (name : Layer NamedParam-F → Param) (post : Layer PostType-F → Core) (pre : Layer PreTree-F → Pre) (prop : Layer PropTree-F → Prop) (type : Layer TypeTree-F → Ty) → R form core param base function name post pre prop type)
    → R form_step core_step param_step base_step function_step named_step post_step pre_step prop_step type_step
seen law = law form_step core_step param_step base_step function_step named_step post_step pre_step prop_step type_step

type_of : (f e : ℕ) (lead : Bool) (l : Pres) → Seen pres_view l → Seen type_view (g.ty f e lead l)
unfolding type_view pres_view pre_view
type_of f e lead l members =
    let level : Level TypeTree-F = record { first = f; end = e; lead = lead; members = members.0 } in
    (roll-TypeTree level, seen (at_trees fold-roll-TypeTree) level ∙ (λ i. g.ty f e lead (members.1 i)))

pre_of : (f e : ℕ) (m : Places) (x : Core) → Seen places_view m → Seen core_view x → Seen pre_view (g.pre f e m x)
unfolding pre_view core_view places_view
pre_of f e m x marks core =
    let level : Level PreTree-F = record { first = f; end = e; marks = marks.0; core = core.0 } in
    (roll-PreTree level, seen (at_trees fold-roll-PreTree) level ∙ (λ i. g.pre f e (marks.1 i) (core.1 i)))

fun_of : (f e : ℕ) (l : Params) (c : Bool) (t : Ty) → Seen params_view l → Seen type_view t → Seen core_view (g.fun f e l c t)
unfolding core_view params_view param_view type_view
fun_of f e l c t params result =
    let inner : Level FunctionType-F = record { first = f; end = e; params = params.0; comma = c; result = result.0 } in
    let level : Level CoreTree-F = CoreTree-F.Function (roll-FunctionType inner) in
    (roll-CoreTree level, seen (at_trees fold-roll-CoreTree) level ∙ (seen (at_trees fold-roll-FunctionType) inner ∙ (λ i. g.fun f e (params.1 i) c (result.1 i))))

post_of : (f e : ℕ) (b : Base) (l : Places) → Seen base_view b → Seen places_view l → Seen core_view (g.post f e b l)
unfolding core_view base_view places_view
post_of f e b l base brackets =
    let inner : Level PostType-F = record { first = f; end = e; base = base.0; brackets = brackets.0 } in
    let level : Level CoreTree-F = CoreTree-F.Post (roll-PostType inner) in
    (roll-CoreTree level, seen (at_trees fold-roll-CoreTree) level ∙ (seen (at_trees fold-roll-PostType) inner ∙ (λ i. g.post f e (base.1 i) (brackets.1 i))))

base_of : (f e : ℕ) (x : Form) → Seen form_view x → Seen base_view (g.base f e x)
unfolding base_view form_view
base_of f e x form =
    let level : Level BaseTree-F = record { first = f; end = e; form = form.0 } in
    (roll-BaseTree level, seen (at_trees fold-roll-BaseTree) level ∙ (λ i. g.base f e (form.1 i)))

plain_of : (t : Ty) → Seen type_view t → Seen param_view (g.plain t)
unfolding param_view type_view
plain_of t inner =
    let level : Level ParamTree-F = ParamTree-F.Plain inner.0 in
    (roll-ParamTree level, seen (at_trees fold-roll-ParamTree) level ∙ (λ i. g.plain (inner.1 i)))

named_of : (f e : ℕ) (n : List ℕ) (o : Bool) (t : Ty) → Seen type_view t → Seen param_view (g.named f e n o t)
unfolding param_view type_view
named_of f e n o t type =
    let inner : Level NamedParam-F = record { first = f; end = e; name = n; optional = o; ty = type.0 } in
    let level : Level ParamTree-F = ParamTree-F.Named (roll-NamedParam inner) in
    (roll-ParamTree level, seen (at_trees fold-roll-ParamTree) level ∙ (seen (at_trees fold-roll-NamedParam) inner ∙ (λ i. g.named f e n o (type.1 i))))

prop_of : (f e : ℕ) (s : g.Sign) (k : g.Key) (o : Bool) (t : Ty) → Seen sign_view s → Seen key_view k → Seen type_view t → Seen prop_view (g.prop f e s k o t)
unfolding prop_view type_view
prop_of f e s k o t sign key type =
    let level : Level PropTree-F = record { first = f; end = e; sign = sign.0; key = key.0; optional = o; ty = type.0 } in
    (roll-PropTree level, seen (at_trees fold-roll-PropTree) level ∙ (λ i. g.prop f e (sign.1 i) (key.1 i) o (type.1 i)))

name_of : (n : List ℕ) → Seen form_view (g.name n)
unfolding form_view
name_of n =
    let level : Level BaseForm-F = BaseForm-F.Name n in
    (roll-BaseForm level, seen (at_trees fold-roll-BaseForm) level)

str_of : (n : List ℕ) → Seen form_view (g.str n)
unfolding form_view
str_of n =
    let level : Level BaseForm-F = BaseForm-F.Str n in
    (roll-BaseForm level, seen (at_trees fold-roll-BaseForm) level)

num_of : (n : List ℕ) → Seen form_view (g.num n)
unfolding form_view
num_of n =
    let level : Level BaseForm-F = BaseForm-F.Number n in
    (roll-BaseForm level, seen (at_trees fold-roll-BaseForm) level)

null_of : Seen form_view g.null
unfolding form_view
null_of =
    let level : Level BaseForm-F = BaseForm-F.Null in
    (roll-BaseForm level, seen (at_trees fold-roll-BaseForm) level)

void_of : Seen form_view g.void
unfolding form_view
void_of =
    let level : Level BaseForm-F = BaseForm-F.Void in
    (roll-BaseForm level, seen (at_trees fold-roll-BaseForm) level)

truth_of : (b : Bool) → Seen form_view (g.truth b)
unfolding form_view
truth_of b =
    let level : Level BaseForm-F = BaseForm-F.Truth b in
    (roll-BaseForm level, seen (at_trees fold-roll-BaseForm) level)

array_of : (o : Bool) (t : Ty) → Seen type_view t → Seen form_view (g.array o t)
unfolding form_view type_view
array_of o t inner =
    let level : Level BaseForm-F = BaseForm-F.Array o inner.0 in
    (roll-BaseForm level, seen (at_trees fold-roll-BaseForm) level ∙ (λ i. g.array o (inner.1 i)))

paren_of : (t : Ty) → Seen type_view t → Seen form_view (g.paren t)
unfolding form_view type_view
paren_of t inner =
    let level : Level BaseForm-F = BaseForm-F.Paren inner.0 in
    (roll-BaseForm level, seen (at_trees fold-roll-BaseForm) level ∙ (λ i. g.paren (inner.1 i)))

tuple_of : (c : Bool) (l : Types) → Seen types_view l → Seen form_view (g.tuple l c)
unfolding form_view types_view type_view
tuple_of c l types =
    let level : Level BaseForm-F = BaseForm-F.Tuple types.0 c in
    (roll-BaseForm level, seen (at_trees fold-roll-BaseForm) level ∙ (λ i. g.tuple (types.1 i) c))

object_of : (l : Props) (e : g.Ending) → Seen props_view l → Seen ending_view e → Seen form_view (g.object l e)
unfolding form_view props_view prop_view
object_of l e props ending =
    let level : Level BaseForm-F = BaseForm-F.Object props.0 ending.0 in
    (roll-BaseForm level, seen (at_trees fold-roll-BaseForm) level ∙ (λ i. g.object (props.1 i) (ending.1 i)))

no_pres : Seen pres_view g.no_pre
unfolding pres_view
no_pres = ([], refl)

more_pres : (l : Pres) (x : Pre) → Seen pres_view l → Seen pre_view x → Seen pres_view (g.more_pre l x)
unfolding pres_view
more_pres = one_more g.more_pre pres_from (λ acc. refl) (λ acc a rest. refl) pre_view g.no_pre

no_params : Seen params_view g.no_param
unfolding params_view
no_params = ([], refl)

more_params : (l : Params) (x : Param) → Seen params_view l → Seen param_view x → Seen params_view (g.more_param l x)
unfolding params_view
more_params = one_more g.more_param params_from (λ acc. refl) (λ acc a rest. refl) param_view g.no_param

no_types : Seen types_view g.no_type
unfolding types_view
no_types = ([], refl)

more_types : (l : Types) (x : Ty) → Seen types_view l → Seen type_view x → Seen types_view (g.more_type l x)
unfolding types_view
more_types = one_more g.more_type types_from (λ acc. refl) (λ acc a rest. refl) type_view g.no_type

no_props : Seen props_view g.no_prop
unfolding props_view
no_props = ([], refl)

more_props : (l : Props) (x : Prop) → Seen props_view l → Seen prop_view x → Seen props_view (g.more_prop l x)
unfolding props_view
more_props = one_more g.more_prop props_from (λ acc. refl) (λ acc a rest. refl) prop_view g.no_prop

-- ---- types

mutual
  pub type_tree : (t : Ty) → Seen type_view t
  type_tree (g.ty f e lead l) = type_of f e lead l (pres_tree l)

  pres_tree : (l : Pres) → Seen pres_view l
  pres_tree g.no_pre = no_pres
  pres_tree (g.more_pre l x) = more_pres l x (pres_tree l) (pre_tree x)

  pre_tree : (p : Pre) → Seen pre_view p
  pre_tree (g.pre f e m x) = pre_of f e m x (places_tree m) (core_tree x)

  core_tree : (c : Core) → Seen core_view c
  core_tree (g.fun f e l c t) = fun_of f e l c t (params_tree l) (type_tree t)
  core_tree (g.post f e b l) = post_of f e b l (base_tree b) (places_tree l)

  base_tree : (b : Base) → Seen base_view b
  base_tree (g.base f e x) = base_of f e x (form_tree x)

  form_tree : (x : Form) → Seen form_view x
  form_tree (g.name n) = name_of n
  form_tree (g.str n) = str_of n
  form_tree (g.num n) = num_of n
  form_tree g.null = null_of
  form_tree g.void = void_of
  form_tree (g.truth b) = truth_of b
  form_tree (g.array o t) = array_of o t (type_tree t)
  form_tree (g.paren t) = paren_of t (type_tree t)
  form_tree (g.tuple l c) = tuple_of c l (types_tree l)
  form_tree (g.object l e) = object_of l e (props_tree l) (ending_tree e)

  params_tree : (l : Params) → Seen params_view l
  params_tree g.no_param = no_params
  params_tree (g.more_param l x) = more_params l x (params_tree l) (param_tree x)

  param_tree : (p : Param) → Seen param_view p
  param_tree (g.plain t) = plain_of t (type_tree t)
  param_tree (g.named f e n o t) = named_of f e n o t (type_tree t)

  types_tree : (l : Types) → Seen types_view l
  types_tree g.no_type = no_types
  types_tree (g.more_type l x) = more_types l x (types_tree l) (type_tree x)

  props_tree : (l : Props) → Seen props_view l
  props_tree g.no_prop = no_props
  props_tree (g.more_prop l x) = more_props l x (props_tree l) (prop_tree x)

  prop_tree : (p : Prop) → Seen prop_view p
  prop_tree (g.prop f e s k o t) = prop_of f e s k o t (sign_tree s) (key_tree k) (type_tree t)

-- a type, where there is one
pub some_type_tree : (o : Option Ty) → Seen (option_map type_view) o
some_type_tree None = (None, refl)
some_type_tree (Some t) = let inner = type_tree t in (Some inner.0, ap Some inner.1)
