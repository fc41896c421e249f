-- What the forms of code may change, by their parts.
use Rattle.std.proofs.Common.{Result, OnOk, ◌≡◌, Bool, List, [], ◌∷◌, ◌++◌, sym, ap, ap₂, ◌∙◌, subst}
use Rattle.std.specs.List.{filter_map}
use Rattle.std.proofs.lemmas.Result.{on_ok_weaker}
use Rattle.js_grammar.specs.Code as g
use Rattle.typing.specs.Changes as typing
use Rattle.code_tree.specs.Flat.{signature_view}
use Rattle.code_tree.specs.View.{expr_view, expr_form_view, postfix_expr_view, chain_expr_view, conditional_expr_view, arrow_expr_view, arrow_body_view, link_view, function_view, block_view, statement_view, if_statement_view, else_view, exprs_view, links_view, operands_view, arms_view, statements_view, branches_view}
use Rattle.code_tree.specs.declared.types.Function.{Function, out-Function}
use Rattle.code_tree.specs.declared.types.Block.{Block, out-Block}
use Rattle.code_tree.specs.declared.types.Expr.{Expr}
use Rattle.code_tree.specs.declared.types.ExprForm.{ExprForm}
use Rattle.code_tree.specs.declared.types.ExprForm as expr_form
use Rattle.code_tree.specs.declared.types.Arm.{Arm}
use Rattle.code_tree.specs.declared.types.Branch.{Branch}
use Rattle.code_tree.specs.declared.types.Operand.{Operand}
use Rattle.code_tree.specs.declared.types.PostfixExpr.{PostfixExpr, out-PostfixExpr}
use Rattle.code_tree.specs.declared.types.ChainExpr.{ChainExpr, out-ChainExpr}
use Rattle.code_tree.specs.declared.types.ConditionalExpr.{ConditionalExpr, out-ConditionalExpr}
use Rattle.code_tree.specs.declared.types.IfStatement.{IfStatement, out-IfStatement}
use Rattle.code_tree.specs.declared.types.Statement.{Statement, out-Statement}
use Rattle.code_tree.specs.declared.types.StatementForm as statement_form
use Rattle.code_tree.specs.declared.types.Link.{Link, out-Link}
use Rattle.code_tree.specs.declared.types.LinkForm as link_form
use Rattle.code_changes.specs.Walks.{Tells}
use Rattle.code_changes.specs.declared.walk.Walk.{Walk}
use Rattle.code_changes.proofs.Views.{function_is, block_is, postfix_expr_is, chain_expr_is, conditional_expr_is, if_statement_is, statement_is, link_is, link_form_call, statement_form_function, expr_form_function}

pub postfix_changes : (x : PostfixExpr) (base : Expr) (links : List Link) → base ≡ (out-PostfixExpr x).base → links ≡ (out-PostfixExpr x).links →
    typing.changes_of_ex_form (postfix_expr_view x) ≡ typing.changes_of_ex (expr_view base) ++ typing.changes_of_links (links_view links)
postfix_changes x base links first second =
    ap typing.changes_of_ex_form (postfix_expr_is x) ∙ sym (ap₂ (λ (e : Expr) (ls : List Link). typing.changes_of_ex (expr_view e) ++ typing.changes_of_links (links_view ls)) first second)

pub chain_changes : (x : ChainExpr) (left : Expr) (operands : List Operand) → left ≡ (out-ChainExpr x).left → operands ≡ (out-ChainExpr x).operands →
    typing.changes_of_ex_form (chain_expr_view x) ≡ typing.changes_of_ex (expr_view left) ++ typing.changes_of_operands (operands_view operands)
chain_changes x left operands first second =
    ap typing.changes_of_ex_form (chain_expr_is x) ∙ sym (ap₂ (λ (e : Expr) (os : List Operand). typing.changes_of_ex (expr_view e) ++ typing.changes_of_operands (operands_view os)) first second)

pub conditional_changes : (x : ConditionalExpr) (arms : List Arm) (last : Expr) → arms ≡ (out-ConditionalExpr x).arms → last ≡ (out-ConditionalExpr x).last →
    typing.changes_of_ex_form (conditional_expr_view x) ≡ typing.changes_of_arms (arms_view arms) ++ typing.changes_of_ex (expr_view last)
conditional_changes x arms last first second =
    ap typing.changes_of_ex_form (conditional_expr_is x) ∙ sym (ap₂ (λ (xs : List Arm) (e : Expr). typing.changes_of_arms (arms_view xs) ++ typing.changes_of_ex (expr_view e)) first second)

pub if_changes : (x : IfStatement) (branches : List Branch) → branches ≡ (out-IfStatement x).branches →
    typing.changes_of_stmt_form (if_statement_view x) ≡ typing.changes_of_branches (branches_view branches) ++ typing.changes_of_else (else_view (out-IfStatement x).last)
if_changes x branches first =
    ap typing.changes_of_stmt_form (if_statement_is x) ∙ sym (ap (λ (bs : List Branch). typing.changes_of_branches (branches_view bs) ++ typing.changes_of_else (else_view (out-IfStatement x).last)) first)

pub call_changes : (x : Link) (arguments given : List Expr) (comma : Bool) → (out-Link x).form ≡ link_form.Call given comma → arguments ≡ given →
    typing.changes_of_link (link_view x) ≡ typing.changes_of_exs (exprs_view arguments) ++ typing.may_set_all ∷ []
call_changes x arguments given comma is same =
    ap typing.changes_of_link (link_is x) ∙ ap typing.changes_of_link_form (link_form_call (out-Link x).form given comma is)
    ∙ sym (ap (λ (es : List Expr). typing.changes_of_exs (exprs_view es) ++ typing.may_set_all ∷ []) same)

pub block_changes : (x : Block) (statements : List Statement) → statements ≡ (out-Block x).statements →
    typing.changes_of_block (block_view x) ≡ typing.outside (typing.declared_in (statements_view statements)) (typing.changes_of_stmts (statements_view statements))
block_changes x statements is =
    ap typing.changes_of_block (block_is x) ∙ sym (ap (λ (ss : List Statement). typing.outside (typing.declared_in (statements_view ss)) (typing.changes_of_stmts (statements_view ss))) is)

pub function_changes : (x : Function) (statements : List Statement) → statements ≡ (out-Block (out-Function x).body).statements → typing.changes_of_function (function_view x)
    ≡ typing.outside (typing.names_of_sig (signature_view (out-Function x).signature) ++ typing.declared_in (statements_view statements)) (filter_map typing.from_inside (typing.changes_of_stmts (statements_view statements)))
function_changes x statements is =
    ap typing.changes_of_function (function_is x ∙ ap (λ (b : g.Block). g.function (out-Function x).first (out-Function x).end (out-Function x).name (signature_view (out-Function x).signature) b) (block_is (out-Function x).body))
    ∙ sym
    (ap
    (λ (ss : List Statement). typing.outside (typing.names_of_sig (signature_view (out-Function x).signature) ++ typing.declared_in (statements_view ss)) (filter_map typing.from_inside (typing.changes_of_stmts (statements_view ss))))
    is)

-- a function's expression may change what the function may, but its own name
pub named_changes : (x : Function) → typing.changes_of_ex_form (g.function_ex (function_view x)) ≡ typing.outside (typing.name_list (out-Function x).name) (typing.changes_of_function (function_view x))
named_changes x = ap (λ (f : g.Function). typing.outside (typing.name_of_function f) (typing.changes_of_function (function_view x))) (function_is x)

pub named_told : {T E : Type 0} (r : Result T E) (w v : Walk) (x : ExprForm) (made : Function) → x ≡ expr_form.Function made → OnOk r (Tells w v (typing.changes_of_ex_form (g.function_ex (function_view made)))) → OnOk r (Tells w v (typing.changes_of_ex_form (expr_form_view x)))
named_told r w v x made is = on_ok_weaker r (subst (Tells w v) (sym (ap typing.changes_of_ex_form (expr_form_function x made is))))

-- a function's declaration may change what the function may
pub declared_told : {T E : Type 0} (r : Result T E) (w v : Walk) (x : Statement) (made : Function) → (out-Statement x).form ≡ statement_form.Function made → OnOk r (Tells w v (typing.changes_of_function (function_view made))) → OnOk r (Tells w v (typing.changes_of_stmt (statement_view x)))
declared_told r w v x made is =
    on_ok_weaker r (subst (Tells w v) (sym (ap typing.changes_of_stmt (statement_is x) ∙ ap typing.changes_of_stmt_form (statement_form_function (out-Statement x).form made is))))
