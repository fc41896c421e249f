-- Whether a list of a tree is empty.
use Rattle.std.proofs.Common.{◌≡◌, refl, cond, sym, ◌∙◌, ap, ℕ, suc, arith, List, [], ◌∷◌, Bool, true, false, not, length}
use Rattle.std.specs.Prelude.{map, ◌==◌}
use Rattle.std.proofs.lemmas.Bool.Decides.{nat_tests}
use Rattle.js_grammar.specs.Types.{Ty, Params, no_param, more_param, Param, Types, no_type, more_type, has_types, Props, no_prop, more_prop, Prop, bare, comma}
use Rattle.js_grammar.specs.Machine.{Stack, Open, go, fault, closed, close_at, ending_of}
use Rattle.type_tree.specs.View.{type_view, param_view, prop_view, params_view, types_view, props_view, params_from, types_from, props_from}
use Rattle.type_tree.specs.declared.types.TypeTree.{TypeTree}
use Rattle.type_tree.specs.declared.types.ParamTree.{ParamTree}
use Rattle.type_tree.specs.declared.types.PropTree.{PropTree}

some_length : (n : ℕ) → (suc n == 0) ≡ false
some_length n = grind (arith, nat_tests)

params-from-more : (acc : Params) (p : Param) (ps : List Param) → (j : Params) × (k : Param) × (params_from acc (p ∷ ps) ≡ more_param j k)
params-from-more acc p [] = (acc, p, refl)
params-from-more acc p (q ∷ ps) = params-from-more (more_param acc p) q ps

pub params_view-more : (p : ParamTree) (ps : List ParamTree) → (j : Params) × (k : Param) × (params_view (p ∷ ps) ≡ more_param j k)
unfolding params_view
params_view-more p ps = params-from-more no_param (param_view p) (map param_view ps)

-- the group is empty exactly where its list is
pub close_group_view : (can : Bool) (k : Stack) (u : Open) (s : ℕ) (ps : List ParamTree) →
    close_at can k u s (params_view ps) ≡ cond (length ps == 0) (cond can (go k (closed u s (params_view ps) false)) fault) (go k (closed u s (params_view ps) true))
unfolding params_view
close_group_view can k u s [] = refl
close_group_view can k u s (p ∷ ps) =
    let m = params-from-more no_param (param_view p) (map param_view ps) in
    let none : (length (p ∷ ps) == 0) ≡ false = some_length (length ps) in
    rw (none) (rw (m.2) refl)

types-from-more : (acc : Types) (t : Ty) (ts : List Ty) → has_types (types_from acc (t ∷ ts)) ≡ true
types-from-more acc t [] = refl
types-from-more acc t (q ∷ ts) = types-from-more (more_type acc t) q ts

pub has_types_view : (ts : List TypeTree) → has_types (types_view ts) ≡ not (length ts == 0)
unfolding types_view
has_types_view [] = refl
has_types_view (t ∷ ts) = types-from-more no_type (type_view t) (map type_view ts) ∙ ap not (sym (some_length (length ts)))

props-from-more : (acc : Props) (p : Prop) (ps : List Prop) → ending_of (props_from acc (p ∷ ps)) ≡ comma
props-from-more acc p [] = refl
props-from-more acc p (q ∷ ps) = props-from-more (more_prop acc p) q ps

pub ending_view_of : (ps : List PropTree) → ending_of (props_view ps) ≡ cond (length ps == 0) bare comma
unfolding props_view
ending_view_of [] = refl
ending_view_of (p ∷ ps) = props-from-more no_prop (prop_view p) (map prop_view ps) ∙ (let none : (length (p ∷ ps) == 0) ≡ false = some_length (length ps) in rw (none) refl)

pub ruleset empties = (close_group_view, has_types_view, ending_view_of)
