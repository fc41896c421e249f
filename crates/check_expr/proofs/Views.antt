-- What the values of the code's trees stand for, a step at a time.
use Rattle.std.proofs.Common.{◌≡◌, Bool, List, ap, ◌∙◌, rules}
use Rattle.std.specs.Option.{option_map}
use Rattle.check_values.specs.Rows.{Bytes}
use Rattle.js_grammar.specs.Code.{ex, variable, number, text, truth_value, null_value, parens, elements, fields, prefixed, member, index, operand, field, right_side, as_type, shorthand, valued, declaration, simple, return_bare, return_value, throw_value, break_loop, continue_loop, evaluate, arrow_block, arrow_value}
use Rattle.type_tree.specs.View.{type_view, key_view}
use Rattle.type_tree.specs.declared.types.TypeTree.{TypeTree}
use Rattle.type_tree.specs.declared.types.Key.{Key}
use Rattle.code_tree.specs.Flat.{prefixes_view, operator_view, binder_view}
use Rattle.code_tree.specs.View.{expr_view, expr_form_view, postfix_expr_view, chain_expr_view, conditional_expr_view, arrow_expr_view, arrow_body_view, link_form_view, operand_view, operand_form_view, field_view, field_form_view, block_view, declaration_view, simple_view, simple_form_view, assignment_view, exprs_view, fields_view}
use Rattle.code_tree.specs.declared.types.Operator.{Operator}
use Rattle.code_tree.specs.declared.types.PrefixMark.{PrefixMark}
use Rattle.code_tree.specs.declared.types.ExprForm.{the_lemmas}
use Rattle.code_tree.specs.declared.types.Block.{Block}
use Rattle.code_tree.specs.declared.types.Assignment.{Assignment}
use Rattle.code_tree.specs.declared.types.Expr.{Expr, out-Expr}
use Rattle.code_tree.specs.declared.types.PostfixExpr.{PostfixExpr}
use Rattle.code_tree.specs.declared.types.ChainExpr.{ChainExpr}
use Rattle.code_tree.specs.declared.types.ConditionalExpr.{ConditionalExpr}
use Rattle.code_tree.specs.declared.types.ArrowExpr.{ArrowExpr}
use Rattle.code_tree.specs.declared.types.Declaration.{Declaration, out-Declaration}
use Rattle.code_tree.specs.declared.types.Operand.{Operand, out-Operand}
use Rattle.code_tree.specs.declared.types.Field.{Field, out-Field}
use Rattle.code_tree.specs.declared.types.Simple.{Simple, out-Simple}
use Rattle.code_tree.specs.declared.types.ExprForm.{ExprForm}
use Rattle.code_tree.specs.declared.types.ExprForm as expr_form
use Rattle.code_tree.specs.declared.types.LinkForm.{LinkForm}
use Rattle.code_tree.specs.declared.types.LinkForm as link_form
use Rattle.code_tree.specs.declared.types.OperandForm.{OperandForm}
use Rattle.code_tree.specs.declared.types.OperandForm as operand_form
use Rattle.code_tree.specs.declared.types.FieldForm.{FieldForm}
use Rattle.code_tree.specs.declared.types.FieldForm as field_form
use Rattle.code_tree.specs.declared.types.ArrowBody.{ArrowBody}
use Rattle.code_tree.specs.declared.types.ArrowBody as arrow_body
use Rattle.code_tree.specs.declared.types.SimpleForm.{SimpleForm}
use Rattle.code_tree.specs.declared.types.SimpleForm as simple_form
pub use Rattle.code_changes.proofs.Views.{function_is, block_is, branch_is, arm_is, assignment_is, postfix_expr_is, chain_expr_is, conditional_expr_is, arrow_expr_is, if_statement_is, while_statement_is, statement_is, link_is, link_form_call, statement_form_function, expr_form_function}

-- ---- structs

pub expr_is : (x : Expr) → expr_view x ≡ ex (out-Expr x).first (out-Expr x).end (expr_form_view (out-Expr x).form)
unfolding expr_view expr_form_view
expr_is x = search (rules, the_lemmas)

pub declaration_is : (x : Declaration) → declaration_view x ≡ declaration (out-Declaration x).first (out-Declaration x).end (binder_view (out-Declaration x).binder) (out-Declaration x).name (option_map type_view (out-Declaration x).annotation) (expr_view (out-Declaration x).value)
unfolding declaration_view expr_view
declaration_is x = search (rules, the_lemmas)

pub operand_is : (x : Operand) → operand_view x ≡ operand (out-Operand x).first (out-Operand x).end (operand_form_view (out-Operand x).form)
unfolding operand_view operand_form_view
operand_is x = search (rules, the_lemmas)

pub field_is : (x : Field) → field_view x ≡ field (out-Field x).first (out-Field x).end (field_form_view (out-Field x).form)
unfolding field_view field_form_view
field_is x = search (rules, the_lemmas)

pub simple_is : (x : Simple) → simple_view x ≡ simple (out-Simple x).first (out-Simple x).end (simple_form_view (out-Simple x).form)
unfolding simple_view simple_form_view
simple_is x = search (rules, the_lemmas)

-- ---- variants

pub expr_form_variable : (x : ExprForm) (name : Bytes) → x ≡ expr_form.Variable name → expr_form_view x ≡ variable name
unfolding expr_form_view
expr_form_variable x name is = ap expr_form_view is ∙ search (rules, the_lemmas)

pub expr_form_number : (x : ExprForm) (digits : Bytes) → x ≡ expr_form.Number digits → expr_form_view x ≡ number digits
unfolding expr_form_view
expr_form_number x digits is = ap expr_form_view is ∙ search (rules, the_lemmas)

pub expr_form_str : (x : ExprForm) (s : Bytes) → x ≡ expr_form.Str s → expr_form_view x ≡ text s
unfolding expr_form_view
expr_form_str x s is = ap expr_form_view is ∙ search (rules, the_lemmas)

pub expr_form_truth : (x : ExprForm) (b : Bool) → x ≡ expr_form.Truth b → expr_form_view x ≡ truth_value b
unfolding expr_form_view
expr_form_truth x b is = ap expr_form_view is ∙ search (rules, the_lemmas)

pub expr_form_null : (x : ExprForm) → x ≡ expr_form.Null → expr_form_view x ≡ null_value
unfolding expr_form_view
expr_form_null x is = ap expr_form_view is ∙ search (rules, the_lemmas)

pub expr_form_paren : (x : ExprForm) (e : Expr) → x ≡ expr_form.Paren e → expr_form_view x ≡ parens (expr_view e)
unfolding expr_form_view expr_view
expr_form_paren x e is = ap expr_form_view is ∙ search (rules, the_lemmas)

pub expr_form_array : (x : ExprForm) (es : List Expr) (comma : Bool) → x ≡ expr_form.Array es comma → expr_form_view x ≡ elements (exprs_view es) comma
unfolding expr_form_view exprs_view expr_view
expr_form_array x es comma is = ap expr_form_view is ∙ search (rules, the_lemmas)

pub expr_form_object : (x : ExprForm) (fs : List Field) (comma : Bool) → x ≡ expr_form.Object fs comma → expr_form_view x ≡ fields (fields_view fs) comma
unfolding expr_form_view fields_view field_view
expr_form_object x fs comma is = ap expr_form_view is ∙ search (rules, the_lemmas)

pub expr_form_postfix : (x : ExprForm) (e : PostfixExpr) → x ≡ expr_form.Postfix e → expr_form_view x ≡ postfix_expr_view e
unfolding expr_form_view postfix_expr_view
expr_form_postfix x e is = ap expr_form_view is ∙ search (rules, the_lemmas)

pub expr_form_prefix : (x : ExprForm) (marks : List PrefixMark) (e : Expr) → x ≡ expr_form.Prefix marks e → expr_form_view x ≡ prefixed (prefixes_view marks) (expr_view e)
unfolding expr_form_view expr_view
expr_form_prefix x marks e is = ap expr_form_view is ∙ search (rules, the_lemmas)

pub expr_form_chain : (x : ExprForm) (e : ChainExpr) → x ≡ expr_form.Chain e → expr_form_view x ≡ chain_expr_view e
unfolding expr_form_view chain_expr_view
expr_form_chain x e is = ap expr_form_view is ∙ search (rules, the_lemmas)

pub expr_form_conditional : (x : ExprForm) (e : ConditionalExpr) → x ≡ expr_form.Conditional e → expr_form_view x ≡ conditional_expr_view e
unfolding expr_form_view conditional_expr_view
expr_form_conditional x e is = ap expr_form_view is ∙ search (rules, the_lemmas)

pub expr_form_arrow : (x : ExprForm) (e : ArrowExpr) → x ≡ expr_form.Arrow e → expr_form_view x ≡ arrow_expr_view e
unfolding expr_form_view arrow_expr_view
expr_form_arrow x e is = ap expr_form_view is ∙ search (rules, the_lemmas)

pub link_form_member : (x : LinkForm) (key : Bytes) → x ≡ link_form.Member key → link_form_view x ≡ member key
unfolding link_form_view
link_form_member x key is = ap link_form_view is ∙ search (rules, the_lemmas)

pub link_form_index : (x : LinkForm) (e : Expr) → x ≡ link_form.Index e → link_form_view x ≡ index (expr_view e)
unfolding link_form_view expr_view
link_form_index x e is = ap link_form_view is ∙ search (rules, the_lemmas)

pub operand_form_right : (x : OperandForm) (op : Operator) (e : Expr) → x ≡ operand_form.Right op e → operand_form_view x ≡ right_side (operator_view op) (expr_view e)
unfolding operand_form_view expr_view
operand_form_right x op e is = ap operand_form_view is ∙ search (rules, the_lemmas)

pub operand_form_as : (x : OperandForm) (t : TypeTree) → x ≡ operand_form.As t → operand_form_view x ≡ as_type (type_view t)
unfolding operand_form_view
operand_form_as x t is = ap operand_form_view is ∙ search (rules, the_lemmas)

pub field_form_shorthand : (x : FieldForm) (name : Bytes) → x ≡ field_form.Shorthand name → field_form_view x ≡ shorthand name
unfolding field_form_view
field_form_shorthand x name is = ap field_form_view is ∙ search (rules, the_lemmas)

pub field_form_valued : (x : FieldForm) (key : Key) (e : Expr) → x ≡ field_form.Valued key e → field_form_view x ≡ valued (key_view key) (expr_view e)
unfolding field_form_view expr_view
field_form_valued x key e is = ap field_form_view is ∙ search (rules, the_lemmas)

pub arrow_body_block : (x : ArrowBody) (b : Block) → x ≡ arrow_body.Block b → arrow_body_view x ≡ arrow_block (block_view b)
unfolding arrow_body_view block_view
arrow_body_block x b is = ap arrow_body_view is ∙ search (rules, the_lemmas)

pub arrow_body_value : (x : ArrowBody) (e : Expr) → x ≡ arrow_body.Value e → arrow_body_view x ≡ arrow_value (expr_view e)
unfolding arrow_body_view expr_view
arrow_body_value x e is = ap arrow_body_view is ∙ search (rules, the_lemmas)

pub simple_form_return : (x : SimpleForm) → x ≡ simple_form.Return → simple_form_view x ≡ return_bare
unfolding simple_form_view
simple_form_return x is = ap simple_form_view is ∙ search (rules, the_lemmas)

pub simple_form_return_value : (x : SimpleForm) (e : Expr) → x ≡ simple_form.ReturnValue e → simple_form_view x ≡ return_value (expr_view e)
unfolding simple_form_view expr_view
simple_form_return_value x e is = ap simple_form_view is ∙ search (rules, the_lemmas)

pub simple_form_throw : (x : SimpleForm) (e : Expr) → x ≡ simple_form.Throw e → simple_form_view x ≡ throw_value (expr_view e)
unfolding simple_form_view expr_view
simple_form_throw x e is = ap simple_form_view is ∙ search (rules, the_lemmas)

pub simple_form_break : (x : SimpleForm) → x ≡ simple_form.Break → simple_form_view x ≡ break_loop
unfolding simple_form_view
simple_form_break x is = ap simple_form_view is ∙ search (rules, the_lemmas)

pub simple_form_continue : (x : SimpleForm) → x ≡ simple_form.Continue → simple_form_view x ≡ continue_loop
unfolding simple_form_view
simple_form_continue x is = ap simple_form_view is ∙ search (rules, the_lemmas)

pub simple_form_assign : (x : SimpleForm) (a : Assignment) → x ≡ simple_form.Assign a → simple_form_view x ≡ assignment_view a
unfolding simple_form_view assignment_view
simple_form_assign x a is = ap simple_form_view is ∙ search (rules, the_lemmas)

pub simple_form_evaluate : (x : SimpleForm) (e : Expr) → x ≡ simple_form.Evaluate e → simple_form_view x ≡ evaluate (expr_view e)
unfolding simple_form_view expr_view
simple_form_evaluate x e is = ap simple_form_view is ∙ search (rules, the_lemmas)
