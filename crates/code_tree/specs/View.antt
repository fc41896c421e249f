-- The tree of an expression or a statement that a value of the code stands for.
use Rattle.std.specs.Prelude.{List, map}
use Rattle.js_grammar.specs.Code as g
use Rattle.js_grammar.specs.Code.{no_ex, no_link, no_operand, no_field, no_arm, no_stmt, no_branch}
use Rattle.code_tree.specs.Layer.{Layer, at_trees}
use Rattle.code_tree.specs.Steps.{exs_from, links_from, operands_from, fields_from, arms_from, stmts_from, branches_from, arrow_body_step, body_step, else_step, expr_form_step, field_form_step, link_form_step, operand_form_step, simple_form_step, statement_form_step, arm_step, arrow_expr_step, assignment_step, block_step, branch_step, chain_expr_step, conditional_expr_step, declaration_step, expr_step, field_step, function_step, if_statement_step, link_step, operand_step, postfix_expr_step, simple_step, statement_step, while_statement_step}
use Rattle.code_tree.specs.declared.types.ArrowBody.TheOpen.{ArrowBody-F, Body-F, Else-F, ExprForm-F, FieldForm-F, LinkForm-F, OperandForm-F, SimpleForm-F, StatementForm-F, Arm-F, ArrowExpr-F, Assignment-F, Block-F, Branch-F, ChainExpr-F, ConditionalExpr-F, Declaration-F, Expr-F, Field-F, Function-F, IfStatement-F, Link-F, Operand-F, PostfixExpr-F, Simple-F, Statement-F, WhileStatement-F}
use Rattle.code_tree.specs.declared.types.ArrowBody.{ArrowBody, fold-ArrowBody}
use Rattle.code_tree.specs.declared.types.Body.{Body, fold-Body}
use Rattle.code_tree.specs.declared.types.Else.{Else, fold-Else}
use Rattle.code_tree.specs.declared.types.ExprForm.{ExprForm, fold-ExprForm}
use Rattle.code_tree.specs.declared.types.FieldForm.{FieldForm, fold-FieldForm}
use Rattle.code_tree.specs.declared.types.LinkForm.{LinkForm, fold-LinkForm}
use Rattle.code_tree.specs.declared.types.OperandForm.{OperandForm, fold-OperandForm}
use Rattle.code_tree.specs.declared.types.SimpleForm.{SimpleForm, fold-SimpleForm}
use Rattle.code_tree.specs.declared.types.StatementForm.{StatementForm, fold-StatementForm}
use Rattle.code_tree.specs.declared.types.Arm.{Arm, fold-Arm}
use Rattle.code_tree.specs.declared.types.ArrowExpr.{ArrowExpr, fold-ArrowExpr}
use Rattle.code_tree.specs.declared.types.Assignment.{Assignment, fold-Assignment}
use Rattle.code_tree.specs.declared.types.Block.{Block, fold-Block}
use Rattle.code_tree.specs.declared.types.Branch.{Branch, fold-Branch}
use Rattle.code_tree.specs.declared.types.ChainExpr.{ChainExpr, fold-ChainExpr}
use Rattle.code_tree.specs.declared.types.ConditionalExpr.{ConditionalExpr, fold-ConditionalExpr}
use Rattle.code_tree.specs.declared.types.Declaration.{Declaration, fold-Declaration}
use Rattle.code_tree.specs.declared.types.Expr.{Expr, fold-Expr}
use Rattle.code_tree.specs.declared.types.Field.{Field, fold-Field}
use Rattle.code_tree.specs.declared.types.Function.{Function, fold-Function}
use Rattle.code_tree.specs.declared.types.IfStatement.{IfStatement, fold-IfStatement}
use Rattle.code_tree.specs.declared.types.Link.{Link, fold-Link}
use Rattle.code_tree.specs.declared.types.Operand.{Operand, fold-Operand}
use Rattle.code_tree.specs.declared.types.PostfixExpr.{PostfixExpr, fold-PostfixExpr}
use Rattle.code_tree.specs.declared.types.Simple.{Simple, fold-Simple}
use Rattle.code_tree.specs.declared.types.Statement.{Statement, fold-Statement}
use Rattle.code_tree.specs.declared.types.WhileStatement.{WhileStatement, fold-WhileStatement}

-- a fold with the step of each type
abbrev with_steps : {R : Type 0} →
    ((Layer ArrowBody-F → g.ArrowBody)
    → (Layer Body-F → g.Body)
    → (Layer Else-F → g.Else)
    → (Layer ExprForm-F → g.ExForm)
    → (Layer FieldForm-F → g.FieldForm)
    → (Layer LinkForm-F → g.LinkForm)
    → (Layer OperandForm-F → g.OperandForm)
    → (Layer SimpleForm-F → g.SimpleForm)
    → (Layer StatementForm-F → g.StmtForm)
    → (Layer Arm-F → g.Arm)
    → (Layer ArrowExpr-F → g.ExForm)
    → (Layer Assignment-F → g.SimpleForm)
    → (Layer Block-F → g.Block)
    → (Layer Branch-F → g.Branch)
    → (Layer ChainExpr-F → g.ExForm)
    → (Layer ConditionalExpr-F → g.ExForm)
    → (Layer Declaration-F → g.Declaration)
    → (Layer Expr-F → g.Ex)
    → (Layer Field-F → g.Field)
    → (Layer Function-F → g.Function)
    → (Layer IfStatement-F → g.StmtForm)
    → (Layer Link-F → g.Link)
    → (Layer Operand-F → g.Operand)
    → (Layer PostfixExpr-F → g.ExForm)
    → (Layer Simple-F → g.Simple)
    → (Layer Statement-F → g.Stmt)
    → (Layer WhileStatement-F → g.StmtForm)
    → R) → R
with_steps f = f arrow_body_step body_step else_step expr_form_step field_form_step link_form_step operand_form_step simple_form_step statement_form_step arm_step arrow_expr_step assignment_step block_step branch_step chain_expr_step conditional_expr_step declaration_step expr_step field_step function_step if_statement_step link_step operand_step postfix_expr_step simple_step statement_step while_statement_step

-- the tree of the grammar for which each value stands
unfoldable pub expr_view : Expr → g.Ex
expr_view = with_steps (at_trees fold-Expr)

unfoldable pub expr_form_view : ExprForm → g.ExForm
expr_form_view = with_steps (at_trees fold-ExprForm)

unfoldable pub postfix_expr_view : PostfixExpr → g.ExForm
postfix_expr_view = with_steps (at_trees fold-PostfixExpr)

unfoldable pub chain_expr_view : ChainExpr → g.ExForm
chain_expr_view = with_steps (at_trees fold-ChainExpr)

unfoldable pub conditional_expr_view : ConditionalExpr → g.ExForm
conditional_expr_view = with_steps (at_trees fold-ConditionalExpr)

unfoldable pub arrow_expr_view : ArrowExpr → g.ExForm
arrow_expr_view = with_steps (at_trees fold-ArrowExpr)

unfoldable pub arrow_body_view : ArrowBody → g.ArrowBody
arrow_body_view = with_steps (at_trees fold-ArrowBody)

unfoldable pub link_view : Link → g.Link
link_view = with_steps (at_trees fold-Link)

unfoldable pub link_form_view : LinkForm → g.LinkForm
link_form_view = with_steps (at_trees fold-LinkForm)

unfoldable pub operand_view : Operand → g.Operand
operand_view = with_steps (at_trees fold-Operand)

unfoldable pub operand_form_view : OperandForm → g.OperandForm
operand_form_view = with_steps (at_trees fold-OperandForm)

unfoldable pub field_view : Field → g.Field
field_view = with_steps (at_trees fold-Field)

unfoldable pub field_form_view : FieldForm → g.FieldForm
field_form_view = with_steps (at_trees fold-FieldForm)

unfoldable pub arm_view : Arm → g.Arm
arm_view = with_steps (at_trees fold-Arm)

unfoldable pub function_view : Function → g.Function
function_view = with_steps (at_trees fold-Function)

unfoldable pub block_view : Block → g.Block
block_view = with_steps (at_trees fold-Block)

unfoldable pub statement_view : Statement → g.Stmt
statement_view = with_steps (at_trees fold-Statement)

unfoldable pub statement_form_view : StatementForm → g.StmtForm
statement_form_view = with_steps (at_trees fold-StatementForm)

unfoldable pub declaration_view : Declaration → g.Declaration
declaration_view = with_steps (at_trees fold-Declaration)

unfoldable pub simple_view : Simple → g.Simple
simple_view = with_steps (at_trees fold-Simple)

unfoldable pub simple_form_view : SimpleForm → g.SimpleForm
simple_form_view = with_steps (at_trees fold-SimpleForm)

unfoldable pub assignment_view : Assignment → g.SimpleForm
assignment_view = with_steps (at_trees fold-Assignment)

unfoldable pub if_statement_view : IfStatement → g.StmtForm
if_statement_view = with_steps (at_trees fold-IfStatement)

unfoldable pub else_view : Else → g.Else
else_view = with_steps (at_trees fold-Else)

unfoldable pub while_statement_view : WhileStatement → g.StmtForm
while_statement_view = with_steps (at_trees fold-WhileStatement)

unfoldable pub body_view : Body → g.Body
body_view = with_steps (at_trees fold-Body)

unfoldable pub branch_view : Branch → g.Branch
branch_view = with_steps (at_trees fold-Branch)

-- lists
unfoldable pub exprs_view : List Expr → g.Exs
exprs_view xs = exs_from no_ex (map expr_view xs)

unfoldable pub links_view : List Link → g.Links
links_view xs = links_from no_link (map link_view xs)

unfoldable pub operands_view : List Operand → g.Operands
operands_view xs = operands_from no_operand (map operand_view xs)

unfoldable pub fields_view : List Field → g.Fields
fields_view xs = fields_from no_field (map field_view xs)

unfoldable pub arms_view : List Arm → g.Arms
arms_view xs = arms_from no_arm (map arm_view xs)

unfoldable pub statements_view : List Statement → g.Stmts
statements_view xs = stmts_from no_stmt (map statement_view xs)

unfoldable pub branches_view : List Branch → g.Branches
branches_view xs = branches_from no_branch (map branch_view xs)
