-- The lists of a tree, and the stack, grow at their end.
use Rattle.std.proofs.Common.{◌≡◌, refl, cond, sym, ◌∙◌, ap, ℕ, suc, ◌+◌, arith, add-one, List, [], ◌∷◌, ◌++◌, Bool, true, false, not, length}
use Rattle.std.specs.Prelude.{map, ◌==◌}
use Rattle.std.proofs.lemmas.Bool.Decides.{nat_tests}
use Rattle.js_grammar.specs.Types.{Places, no_place, more_place, Pres, no_pre, more_pre, Params, no_param, more_param, Types, no_type, more_type, Props, no_prop, more_prop}
use Rattle.type_tree.specs.View.{type_view, pre_view, param_view, prop_view, places_view, pres_view, params_view, types_view, props_view, places_from, pres_from, params_from, types_from, props_from}
use Rattle.type_tree.specs.declared.types.TypeTree.{TypeTree}
use Rattle.type_tree.specs.declared.types.PreTree.{PreTree}
use Rattle.type_tree.specs.declared.types.ParamTree.{ParamTree}
use Rattle.type_tree.specs.declared.types.PropTree.{PropTree}
use Rattle.js_grammar.specs.Machine.{Stack, can_fun, Frame as Form}
use Rattle.type_parser.specs.State.{frame_view, stacked, stack_view}
use Rattle.type_parser.specs.declared.state.Frame.{Frame}

places-push : (acc : Places) (ps : List ℕ) (p : ℕ) → places_from acc (ps ++ p ∷ []) ≡ more_place (places_from acc ps) p
places-push acc [] p = refl
places-push acc (q ∷ ps) p = places-push (more_place acc q) ps p

pub places_view-push : (ps : List ℕ) (p : ℕ) → places_view (ps ++ p ∷ []) ≡ more_place (places_view ps) p
unfolding places_view
places_view-push ps p = places-push no_place ps p

pres-push : (acc : Pres) (ps : List PreTree) (p : PreTree) → pres_from acc (map pre_view (ps ++ p ∷ [])) ≡ more_pre (pres_from acc (map pre_view ps)) (pre_view p)
pres-push acc [] p = refl
pres-push acc (q ∷ ps) p = pres-push (more_pre acc (pre_view q)) ps p

pub pres_view-push : (ps : List PreTree) (p : PreTree) → pres_view (ps ++ p ∷ []) ≡ more_pre (pres_view ps) (pre_view p)
unfolding pres_view
pres_view-push ps p = pres-push no_pre ps p

params-push : (acc : Params) (ps : List ParamTree) (p : ParamTree) → params_from acc (map param_view (ps ++ p ∷ [])) ≡ more_param (params_from acc (map param_view ps)) (param_view p)
params-push acc [] p = refl
params-push acc (q ∷ ps) p = params-push (more_param acc (param_view q)) ps p

pub params_view-push : (ps : List ParamTree) (p : ParamTree) → params_view (ps ++ p ∷ []) ≡ more_param (params_view ps) (param_view p)
unfolding params_view
params_view-push ps p = params-push no_param ps p

types-push : (acc : Types) (ts : List TypeTree) (t : TypeTree) → types_from acc (map type_view (ts ++ t ∷ [])) ≡ more_type (types_from acc (map type_view ts)) (type_view t)
types-push acc [] t = refl
types-push acc (q ∷ ts) t = types-push (more_type acc (type_view q)) ts t

pub types_view-push : (ts : List TypeTree) (t : TypeTree) → types_view (ts ++ t ∷ []) ≡ more_type (types_view ts) (type_view t)
unfolding types_view
types_view-push ts t = types-push no_type ts t

props-push : (acc : Props) (ps : List PropTree) (p : PropTree) → props_from acc (map prop_view (ps ++ p ∷ [])) ≡ more_prop (props_from acc (map prop_view ps)) (prop_view p)
props-push acc [] p = refl
props-push acc (q ∷ ps) p = props-push (more_prop acc (prop_view q)) ps p

pub props_view-push : (ps : List PropTree) (p : PropTree) → props_view (ps ++ p ∷ []) ≡ more_prop (props_view ps) (prop_view p)
unfolding props_view
props_view-push ps p = props-push no_prop ps p

stacked-push : (k : Stack) (fs : List Frame) (f : Frame) → stacked k (fs ++ f ∷ []) ≡ frame_view f ∷ stacked k fs
stacked-push k [] f = refl
stacked-push k (g ∷ fs) f = stacked-push (frame_view g ∷ k) fs f

pub stack_view-push : (fs : List Frame) (f : Frame) → stack_view (fs ++ f ∷ []) ≡ frame_view f ∷ stack_view fs
unfolding stack_view
stack_view-push fs f = stacked-push [] fs f

pub stack_view-empty : stack_view [] ≡ []
unfolding stack_view
stack_view-empty = refl

pub places_view-none : places_view [] ≡ no_place
unfolding places_view
places_view-none = refl

pub pres_view-none : pres_view [] ≡ no_pre
unfolding pres_view
pres_view-none = refl

pub params_view-none : params_view [] ≡ no_param
unfolding params_view
params_view-none = refl

pub types_view-none : types_view [] ≡ no_type
unfolding types_view
types_view-none = refl

pub props_view-none : props_view [] ≡ no_prop
unfolding props_view
props_view-none = refl

pub suc_is : (i : ℕ) → suc i ≡ i + 1
suc_is i = sym (add-one i)

pub ruleset nothings = (places_view-none, pres_view-none, params_view-none, types_view-none, props_view-none, add-one)

pub ruleset pushes = (places_view-push, pres_view-push, params_view-push, types_view-push, props_view-push, stack_view-push, stack_view-empty, places_view-none, add-one)

stacked-some : (k : Stack) (f : Form) (fs : List Frame) → can_fun false (stacked (f ∷ k) fs) ≡ true
stacked-some k f [] = refl
stacked-some k f (g ∷ fs) = stacked-some (f ∷ k) (frame_view g) fs

pub may_stand_all : (k : Stack) → can_fun true k ≡ true
may_stand_all [] = refl
may_stand_all (g ∷ k) = refl

some_length : (n : ℕ) → (suc n == 0) ≡ false
some_length n = grind (arith, nat_tests)

pub may_stand_view : (fs : List Frame) → can_fun false (stack_view fs) ≡ not (length fs == 0)
unfolding stack_view
may_stand_view [] = refl
may_stand_view (f ∷ fs) = stacked-some [] (frame_view f) fs ∙ ap not (sym (some_length (length fs)))

pub ruleset may_stand = (may_stand_all, may_stand_view)
