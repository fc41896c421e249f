-- What the values of the code's trees stand for, a step at a time.
use Rattle.std.proofs.Common.{◌≡◌, Bool, List, ap, ◌∙◌, rules}
use Rattle.js_grammar.specs.Code.{postfixed, chain, cond as conditional, arrow, link, call, stmt, function, function_ex, block, branch, arm, assign, function_stmt, branches, loop}
use Rattle.code_tree.specs.Flat.{level_view, signature_view}
use Rattle.code_tree.specs.View.{expr_view, expr_form_view, postfix_expr_view, chain_expr_view, conditional_expr_view, arrow_expr_view, arrow_body_view, link_view, link_form_view, operand_view, arm_view, function_view, block_view, statement_view, statement_form_view, assignment_view, if_statement_view, else_view, while_statement_view, body_view, branch_view, exprs_view, links_view, operands_view, arms_view, statements_view, branches_view}
use Rattle.code_tree.specs.declared.types.ExprForm.{ExprForm, the_lemmas}
use Rattle.code_tree.specs.declared.types.ExprForm as expr_form
use Rattle.code_tree.specs.declared.types.Function.{Function, out-Function}
use Rattle.code_tree.specs.declared.types.Block.{Block, out-Block}
use Rattle.code_tree.specs.declared.types.Branch.{Branch, out-Branch}
use Rattle.code_tree.specs.declared.types.Arm.{Arm, out-Arm}
use Rattle.code_tree.specs.declared.types.Assignment.{Assignment, out-Assignment}
use Rattle.code_tree.specs.declared.types.Expr.{Expr}
use Rattle.code_tree.specs.declared.types.PostfixExpr.{PostfixExpr, out-PostfixExpr}
use Rattle.code_tree.specs.declared.types.ChainExpr.{ChainExpr, out-ChainExpr}
use Rattle.code_tree.specs.declared.types.ConditionalExpr.{ConditionalExpr, out-ConditionalExpr}
use Rattle.code_tree.specs.declared.types.ArrowExpr.{ArrowExpr, out-ArrowExpr}
use Rattle.code_tree.specs.declared.types.IfStatement.{IfStatement, out-IfStatement}
use Rattle.code_tree.specs.declared.types.WhileStatement.{WhileStatement, out-WhileStatement}
use Rattle.code_tree.specs.declared.types.Statement.{Statement, out-Statement}
use Rattle.code_tree.specs.declared.types.Link.{Link, out-Link}
use Rattle.code_tree.specs.declared.types.LinkForm.{LinkForm}
use Rattle.code_tree.specs.declared.types.LinkForm as link_form
use Rattle.code_tree.specs.declared.types.StatementForm.{StatementForm}
use Rattle.code_tree.specs.declared.types.StatementForm as statement_form

pub function_is : (x : Function) → function_view x ≡ function (out-Function x).first (out-Function x).end (out-Function x).name (signature_view (out-Function x).signature) (block_view (out-Function x).body)
unfolding function_view block_view
function_is x = search (rules, the_lemmas)

pub block_is : (x : Block) → block_view x ≡ block (out-Block x).first (out-Block x).end (statements_view (out-Block x).statements)
unfolding block_view statements_view statement_view
block_is x = search (rules, the_lemmas)

pub branch_is : (x : Branch) → branch_view x ≡ branch (out-Branch x).first (out-Branch x).end (expr_view (out-Branch x).test) (body_view (out-Branch x).body)
unfolding branch_view expr_view body_view
branch_is x = search (rules, the_lemmas)

pub arm_is : (x : Arm) → arm_view x ≡ arm (out-Arm x).first (out-Arm x).end (expr_view (out-Arm x).test) (expr_view (out-Arm x).branch)
unfolding arm_view expr_view
arm_is x = search (rules, the_lemmas)

pub assignment_is : (x : Assignment) → assignment_view x ≡ assign (expr_view (out-Assignment x).target) (expr_view (out-Assignment x).value)
unfolding assignment_view expr_view
assignment_is x = search (rules, the_lemmas)

pub postfix_expr_is : (x : PostfixExpr) → postfix_expr_view x ≡ postfixed (expr_view (out-PostfixExpr x).base) (links_view (out-PostfixExpr x).links)
unfolding postfix_expr_view expr_view links_view link_view
postfix_expr_is x = search (rules, the_lemmas)

pub chain_expr_is : (x : ChainExpr) → chain_expr_view x ≡ chain (level_view (out-ChainExpr x).level) (expr_view (out-ChainExpr x).left) (operands_view (out-ChainExpr x).operands)
unfolding chain_expr_view expr_view operands_view operand_view
chain_expr_is x = search (rules, the_lemmas)

pub conditional_expr_is : (x : ConditionalExpr) → conditional_expr_view x ≡ conditional (arms_view (out-ConditionalExpr x).arms) (expr_view (out-ConditionalExpr x).last)
unfolding conditional_expr_view expr_view arms_view arm_view
conditional_expr_is x = search (rules, the_lemmas)

pub arrow_expr_is : (x : ArrowExpr) → arrow_expr_view x ≡ arrow (signature_view (out-ArrowExpr x).signature) (arrow_body_view (out-ArrowExpr x).body)
unfolding arrow_expr_view arrow_body_view
arrow_expr_is x = search (rules, the_lemmas)

pub if_statement_is : (x : IfStatement) → if_statement_view x ≡ branches (branches_view (out-IfStatement x).branches) (else_view (out-IfStatement x).last)
unfolding if_statement_view branches_view branch_view else_view
if_statement_is x = search (rules, the_lemmas)

pub while_statement_is : (x : WhileStatement) → while_statement_view x ≡ loop (expr_view (out-WhileStatement x).test) (body_view (out-WhileStatement x).body)
unfolding while_statement_view expr_view body_view
while_statement_is x = search (rules, the_lemmas)

pub statement_is : (x : Statement) → statement_view x ≡ stmt (out-Statement x).first (out-Statement x).end (statement_form_view (out-Statement x).form)
unfolding statement_view statement_form_view
statement_is x = search (rules, the_lemmas)

pub link_is : (x : Link) → link_view x ≡ link (out-Link x).first (out-Link x).end (link_form_view (out-Link x).form)
unfolding link_view link_form_view
link_is x = search (rules, the_lemmas)

pub link_form_call : (x : LinkForm) (es : List Expr) (comma : Bool) → x ≡ link_form.Call es comma → link_form_view x ≡ call (exprs_view es) comma
unfolding link_form_view exprs_view expr_view
link_form_call x es comma is = ap link_form_view is ∙ search (rules, the_lemmas)

pub statement_form_function : (x : StatementForm) (made : Function) → x ≡ statement_form.Function made → statement_form_view x ≡ function_stmt (function_view made)
unfolding statement_form_view function_view
statement_form_function x made is = ap statement_form_view is ∙ search (rules, the_lemmas)

pub expr_form_function : (x : ExprForm) (made : Function) → x ≡ expr_form.Function made → expr_form_view x ≡ function_ex (function_view made)
unfolding expr_form_view function_view
expr_form_function x made is = ap expr_form_view is ∙ search (rules, the_lemmas)
