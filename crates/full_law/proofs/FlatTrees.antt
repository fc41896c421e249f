-- Marks, levels, operators, parameters and signatures: each is what some value of the code stands for.
use Rattle.std.proofs.Common.{◌≡◌, List, [], ◌∷◌, ◌++◌, map, refl, ap, ◌∙◌}
use Rattle.js_grammar.specs.Code as g
use Rattle.js_grammar.specs.Code.{Prefixes, no_prefix, more_prefix, Parameters, no_parameter, more_parameter}
use Rattle.code_tree.specs.declared.types.Prefix.TheVariants as prefix
use Rattle.code_tree.specs.declared.types.PrefixMark.{PrefixMark}
use Rattle.code_tree.specs.declared.types.Level.TheVariants as level
use Rattle.code_tree.specs.declared.types.Operator.TheVariants as operator
use Rattle.code_tree.specs.declared.types.Binder.TheVariants as binder
use Rattle.code_tree.specs.Flat.{prefix_view, prefixes_from, prefixes_view, level_view, operator_view, binder_view, parameter_view, parameters_from, parameters_view, signature_view}
use Rattle.full_law.proofs.Lists.{Seen, one_more}
use Rattle.full_law.proofs.TypeTrees.{some_type_tree}

prefix_tree : (p : g.Prefix) → Seen prefix_view p
prefix_tree g.negation = (prefix.Not, refl)
prefix_tree g.minus_sign = (prefix.Minus, refl)
prefix_tree g.plus_sign = (prefix.Plus, refl)
prefix_tree g.kind_of = (prefix.TypeOf, refl)

marks_tree : (ps : Prefixes) → Seen (prefixes_from no_prefix) ps
marks_tree no_prefix = ([], refl)
marks_tree (more_prefix ps at p) =
    let rest = marks_tree ps in
    let last = prefix_tree p in
    let mark : PrefixMark = record { at = at; prefix = last.0 } in
    (rest.0 ++ mark ∷ [], pushed mark no_prefix rest.0 ∙ (λ i. more_prefix (rest.1 i) at (last.1 i)))
  where
    pushed : (m : PrefixMark) (acc : Prefixes) (xs : List PrefixMark) → prefixes_from acc (xs ++ m ∷ []) ≡ more_prefix (prefixes_from acc xs) m.at (prefix_view m.prefix)
    pushed m acc [] = refl
    pushed m acc (x ∷ xs) = pushed m (more_prefix acc x.at (prefix_view x.prefix)) xs

pub prefixes_tree : (ps : Prefixes) → Seen prefixes_view ps
unfolding prefixes_view
prefixes_tree ps = marks_tree ps

pub level_tree : (l : g.Level) → Seen level_view l
level_tree g.nullish_level = (level.Nullish, refl)
level_tree g.or_level = (level.Or, refl)
level_tree g.and_level = (level.And, refl)
level_tree g.equal_level = (level.Equality, refl)
level_tree g.relation_level = (level.Relation, refl)
level_tree g.sum_level = (level.Sum, refl)
level_tree g.product_level = (level.Product, refl)

pub operator_tree : (o : g.Operator) → Seen operator_view o
operator_tree g.nullish = (operator.Nullish, refl)
operator_tree g.or = (operator.Or, refl)
operator_tree g.and = (operator.And, refl)
operator_tree g.strict_equal = (operator.StrictEqual, refl)
operator_tree g.strict_not_equal = (operator.StrictNotEqual, refl)
operator_tree g.loose_equal = (operator.LooseEqual, refl)
operator_tree g.loose_not_equal = (operator.LooseNotEqual, refl)
operator_tree g.less = (operator.Less, refl)
operator_tree g.greater = (operator.Greater, refl)
operator_tree g.less_or_equal = (operator.LessOrEqual, refl)
operator_tree g.greater_or_equal = (operator.GreaterOrEqual, refl)
operator_tree g.add = (operator.Add, refl)
operator_tree g.subtract = (operator.Subtract, refl)
operator_tree g.multiply = (operator.Multiply, refl)
operator_tree g.divide = (operator.Divide, refl)
operator_tree g.remainder = (operator.Remainder, refl)

pub binder_tree : (b : g.Binder) → Seen binder_view b
binder_tree g.const = (binder.Const, refl)
binder_tree g.let_word = (binder.Let, refl)

parameter_tree : (p : g.Parameter) → Seen parameter_view p
unfolding parameter_view
parameter_tree (g.parameter f e n o t) =
    let inner = some_type_tree t in
    (record { first = f; end = e; name = n; optional = o; annotation = inner.0 }, ap (g.parameter f e n o) inner.1)

parameters_tree : (ps : Parameters) → Seen (λ xs. parameters_from no_parameter (map parameter_view xs)) ps
parameters_tree no_parameter = ([], refl)
parameters_tree (more_parameter ps p) = one_more more_parameter parameters_from (λ acc. refl) (λ acc a rest. refl) parameter_view no_parameter ps p (parameters_tree ps) (parameter_tree p)

pub signature_tree : (s : g.Sig) → Seen signature_view s
unfolding signature_view parameters_view
signature_tree (g.sig f e ps c r) =
    let parameters = parameters_tree ps in
    let output = some_type_tree r in
    (record { first = f; end = e; parameters = parameters.0; comma = c; output = output.0 }, (λ i. g.sig f e (parameters.1 i) c (output.1 i)))
