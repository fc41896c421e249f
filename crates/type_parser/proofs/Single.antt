-- Whether a group is one type.
use Rattle.std.proofs.Common.{◌≡◌, refl, sym, ◌∙◌, ap, subst, List, [], ◌∷◌, ◌++◌, Bool, true, false, length, Some, None, rules}
use Rattle.std.specs.Prelude.{◌==◌}
use Rattle.std.proofs.lemmas.Bool.{true≢false}
use Rattle.js_grammar.specs.Types.{Params, no_param, more_param, Param, plain, named}
use Rattle.type_tree.specs.View.{type_view, param_view, params_view}
use Rattle.type_tree.specs.declared.types.TypeTree.{TypeTree}
use Rattle.type_tree.specs.declared.types.NamedParam.{NamedParam, out-NamedParam}
use Rattle.type_tree.specs.declared.types.ParamTree.{ParamTree}
use Rattle.type_tree.specs.declared.types.ParamTree.TheVariants.{Plain, Named}
use Rattle.type_tree.specs.declared.types.BaseForm.{the_lemmas}
use Rattle.type_parser.specs.State.{IsSingle}
use Rattle.type_parser.proofs.Pushes.{params_view-push, params_view-none}
use Rattle.type_parser.proofs.Empties.{params_view-more}

pub view-Plain : (t : TypeTree) → param_view (Plain t) ≡ plain (type_view t)
unfolding param_view type_view
view-Plain t = search (rules, the_lemmas)

pub view-Named : (p : NamedParam) → param_view (Named p) ≡ named (out-NamedParam p).first (out-NamedParam p).end (out-NamedParam p).name (out-NamedParam p).optional (type_view (out-NamedParam p).ty)
unfolding param_view type_view
view-Named p = search (rules, the_lemmas)

pub single_comma : (ps : Params) → IsSingle ps true None
single_comma no_param = refl
single_comma (more_param no_param (plain t)) = refl
single_comma (more_param no_param (named f e n o t)) = refl
single_comma (more_param (more_param ps q) p) = refl

long : (comma : Bool) (ps : Params) (j : Params) (k p : Param) → ps ≡ more_param j k → IsSingle (more_param ps p) comma None
long comma ps j k p e = subst (λ ps. IsSingle (more_param ps p) comma None) (sym e) refl

pub single_long : (comma : Bool) (rest : List ParamTree) (p : ParamTree) → (length rest == 0) ≡ false → IsSingle (params_view (rest ++ p ∷ [])) comma None
single_long comma [] p e = absurd (true≢false e)
single_long comma (r ∷ rest) p e =
    let m = params_view-more r rest in subst (λ ps. IsSingle ps comma None) (sym (params_view-push (r ∷ rest) p)) (long comma (params_view (r ∷ rest)) (m.0) (m.1) (param_view p) (m.2))

pub single_plain : (t : TypeTree) → IsSingle (params_view ([] ++ Plain t ∷ [])) false (Some t)
single_plain t = subst (λ ps. IsSingle ps false (Some t)) (sym (params_view-push [] (Plain t) ∙ ap (λ ps. more_param ps (param_view (Plain t))) params_view-none ∙ ap (more_param no_param) (view-Plain t))) refl

pub single_named : (p : NamedParam) → IsSingle (params_view ([] ++ Named p ∷ [])) false None
single_named p = subst (λ ps. IsSingle ps false None) (sym (params_view-push [] (Named p) ∙ ap (λ ps. more_param ps (param_view (Named p))) params_view-none ∙ ap (more_param no_param) (view-Named p))) refl

pub single_none : IsSingle (params_view []) false None
single_none = subst (λ ps. IsSingle ps false None) (sym params_view-none) refl

pub ruleset singles = (single_comma, single_long, single_plain, single_named, single_none)
