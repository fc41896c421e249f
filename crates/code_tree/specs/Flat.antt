-- Marks, levels, operators, parameters and signatures, as the grammar has them: what a tree of the code holds that holds none of
-- its kind.
use Rattle.std.specs.Prelude.{List, [], ◌∷◌, map}
use Rattle.std.specs.Option.{option_map}
use Rattle.js_grammar.specs.Code as g
use Rattle.js_grammar.specs.Code.{Prefixes, no_prefix, more_prefix, Parameters, no_parameter, more_parameter}
use Rattle.type_tree.specs.View.{type_view}
use Rattle.code_tree.specs.declared.types.Prefix.{Prefix}
use Rattle.code_tree.specs.declared.types.Prefix.TheVariants as prefix
use Rattle.code_tree.specs.declared.types.PrefixMark.{PrefixMark}
use Rattle.code_tree.specs.declared.types.Level.{Level}
use Rattle.code_tree.specs.declared.types.Level.TheVariants as level
use Rattle.code_tree.specs.declared.types.Operator.{Operator}
use Rattle.code_tree.specs.declared.types.Operator.TheVariants as operator
use Rattle.code_tree.specs.declared.types.Binder.{Binder}
use Rattle.code_tree.specs.declared.types.Binder.TheVariants as binder
use Rattle.code_tree.specs.declared.types.Parameter.{Parameter}
use Rattle.code_tree.specs.declared.types.Signature.{Signature}

-- each mark, level, operator and binder, as the grammar has it
abbrev pub prefix_view : Prefix → g.Prefix
prefix_view prefix.Not = g.negation
prefix_view prefix.Minus = g.minus_sign
prefix_view prefix.Plus = g.plus_sign
prefix_view prefix.TypeOf = g.kind_of

-- marks in a row, from a list in order
abbrev pub prefixes_from : Prefixes → List PrefixMark → Prefixes
prefixes_from acc [] = acc
prefixes_from acc (m ∷ ms) = prefixes_from (more_prefix acc m.at (prefix_view m.prefix)) ms

-- marks in a row, as the grammar has them
unfoldable pub prefixes_view : List PrefixMark → Prefixes
prefixes_view ms = prefixes_from no_prefix ms

abbrev pub level_view : Level → g.Level
level_view level.Nullish = g.nullish_level
level_view level.Or = g.or_level
level_view level.And = g.and_level
level_view level.Equality = g.equal_level
level_view level.Relation = g.relation_level
level_view level.Sum = g.sum_level
level_view level.Product = g.product_level

abbrev pub operator_view : Operator → g.Operator
operator_view operator.Nullish = g.nullish
operator_view operator.Or = g.or
operator_view operator.And = g.and
operator_view operator.StrictEqual = g.strict_equal
operator_view operator.StrictNotEqual = g.strict_not_equal
operator_view operator.LooseEqual = g.loose_equal
operator_view operator.LooseNotEqual = g.loose_not_equal
operator_view operator.Less = g.less
operator_view operator.Greater = g.greater
operator_view operator.LessOrEqual = g.less_or_equal
operator_view operator.GreaterOrEqual = g.greater_or_equal
operator_view operator.Add = g.add
operator_view operator.Subtract = g.subtract
operator_view operator.Multiply = g.multiply
operator_view operator.Divide = g.divide
operator_view operator.Remainder = g.remainder

abbrev pub binder_view : Binder → g.Binder
binder_view binder.Const = g.const
binder_view binder.Let = g.let_word

-- a parameter, and then lists of them and a signature, as the grammar has them
unfoldable pub parameter_view : Parameter → g.Parameter
parameter_view p = g.parameter p.first p.end p.name p.optional (option_map type_view p.annotation)

-- parameters in order, behind those before
abbrev pub parameters_from : Parameters → List g.Parameter → Parameters
parameters_from acc [] = acc
parameters_from acc (p ∷ ps) = parameters_from (more_parameter acc p) ps

unfoldable pub parameters_view : List Parameter → Parameters
parameters_view ps = parameters_from no_parameter (map parameter_view ps)

unfoldable pub signature_view : Signature → g.Sig
signature_view s = g.sig s.first s.end (parameters_view s.parameters) s.comma (option_map type_view s.output)
