-- What tree of the grammar one level of a tree of the code is, where what is inside is already seen.
use Rattle.std.specs.Prelude.{List, [], ◌∷◌}
use Rattle.std.specs.Option.{option_map}
use Rattle.js_grammar.specs.Code as g
use Rattle.js_grammar.specs.Code.{Exs, no_ex, more_ex, Links, no_link, more_link, Operands, no_operand, more_operand, Fields, no_field, more_field, Arms, no_arm, more_arm, Stmts, no_stmt, more_stmt, Branches, no_branch, more_branch}
use Rattle.type_tree.specs.View.{type_view, key_view}
use Rattle.code_tree.specs.Flat.{prefixes_view, level_view, operator_view, binder_view, signature_view}
use Rattle.code_tree.specs.Layer.{Layer}
use Rattle.code_tree.specs.declared.types.ArrowBody.TheOpen.{ArrowBody-F, Body-F, Else-F, ExprForm-F, FieldForm-F, LinkForm-F, OperandForm-F, SimpleForm-F, StatementForm-F, Arm-F, ArrowExpr-F, Assignment-F, Block-F, Branch-F, ChainExpr-F, ConditionalExpr-F, Declaration-F, Expr-F, Field-F, Function-F, IfStatement-F, Link-F, Operand-F, PostfixExpr-F, Simple-F, Statement-F, WhileStatement-F}

-- expressions in order, behind those before
abbrev pub exs_from : Exs → List g.Ex → Exs
exs_from acc [] = acc
exs_from acc (e ∷ es) = exs_from (more_ex acc e) es

-- and so each other kind of list
abbrev pub links_from : Links → List g.Link → Links
links_from acc [] = acc
links_from acc (k ∷ ks) = links_from (more_link acc k) ks

abbrev pub operands_from : Operands → List g.Operand → Operands
operands_from acc [] = acc
operands_from acc (o ∷ os) = operands_from (more_operand acc o) os

abbrev pub fields_from : Fields → List g.Field → Fields
fields_from acc [] = acc
fields_from acc (f ∷ fs) = fields_from (more_field acc f) fs

abbrev pub arms_from : Arms → List g.Arm → Arms
arms_from acc [] = acc
arms_from acc (a ∷ hs) = arms_from (more_arm acc a) hs

abbrev pub stmts_from : Stmts → List g.Stmt → Stmts
stmts_from acc [] = acc
stmts_from acc (s ∷ ss) = stmts_from (more_stmt acc s) ss

abbrev pub branches_from : Branches → List g.Branch → Branches
branches_from acc [] = acc
branches_from acc (b ∷ bs) = branches_from (more_branch acc b) bs

-- expressions
abbrev pub expr_step : Layer Expr-F → g.Ex
expr_step e = g.ex e.first e.end e.form

abbrev pub expr_form_step : Layer ExprForm-F → g.ExForm
expr_form_step (ExprForm-F.Variable n) = g.variable n
expr_form_step (ExprForm-F.Number n) = g.number n
expr_form_step (ExprForm-F.Str s) = g.text s
expr_form_step (ExprForm-F.Truth b) = g.truth_value b
expr_form_step ExprForm-F.Null = g.null_value
expr_form_step (ExprForm-F.Paren e) = g.parens e
expr_form_step (ExprForm-F.Array es c) = g.elements (exs_from no_ex es) c
expr_form_step (ExprForm-F.Object fs c) = g.fields (fields_from no_field fs) c
expr_form_step (ExprForm-F.«ExprForm::Function» f) = g.function_ex f
expr_form_step (ExprForm-F.Postfix e) = e
expr_form_step (ExprForm-F.Prefix ms e) = g.prefixed (prefixes_view ms) e
expr_form_step (ExprForm-F.Chain e) = e
expr_form_step (ExprForm-F.Conditional e) = e
expr_form_step (ExprForm-F.Arrow e) = e

abbrev pub postfix_expr_step : Layer PostfixExpr-F → g.ExForm
postfix_expr_step e = g.postfixed e.base (links_from no_link e.links)

abbrev pub chain_expr_step : Layer ChainExpr-F → g.ExForm
chain_expr_step e = g.chain (level_view e.level) e.left (operands_from no_operand e.operands)

abbrev pub conditional_expr_step : Layer ConditionalExpr-F → g.ExForm
conditional_expr_step e = g.cond (arms_from no_arm e.arms) e.last

abbrev pub arrow_expr_step : Layer ArrowExpr-F → g.ExForm
arrow_expr_step e = g.arrow (signature_view e.signature) e.body

abbrev pub arrow_body_step : Layer ArrowBody-F → g.ArrowBody
arrow_body_step (ArrowBody-F.«ArrowBody::Block» b) = g.arrow_block b
arrow_body_step (ArrowBody-F.Value e) = g.arrow_value e

abbrev pub link_step : Layer Link-F → g.Link
link_step k = g.link k.first k.end k.form

abbrev pub link_form_step : Layer LinkForm-F → g.LinkForm
link_form_step (LinkForm-F.Member n) = g.member n
link_form_step (LinkForm-F.Index e) = g.index e
link_form_step (LinkForm-F.Call es c) = g.call (exs_from no_ex es) c

abbrev pub operand_step : Layer Operand-F → g.Operand
operand_step o = g.operand o.first o.end o.form

abbrev pub operand_form_step : Layer OperandForm-F → g.OperandForm
operand_form_step (OperandForm-F.Right o e) = g.right_side (operator_view o) e
operand_form_step (OperandForm-F.As t) = g.as_type (type_view t)

abbrev pub field_step : Layer Field-F → g.Field
field_step f = g.field f.first f.end f.form

abbrev pub field_form_step : Layer FieldForm-F → g.FieldForm
field_form_step (FieldForm-F.Shorthand n) = g.shorthand n
field_form_step (FieldForm-F.Valued k e) = g.valued (key_view k) e

abbrev pub arm_step : Layer Arm-F → g.Arm
arm_step a = g.arm a.first a.end a.test a.branch

abbrev pub function_step : Layer Function-F → g.Function
function_step f = g.function f.first f.end f.name (signature_view f.signature) f.body

-- statements
abbrev pub block_step : Layer Block-F → g.Block
block_step b = g.block b.first b.end (stmts_from no_stmt b.statements)

abbrev pub statement_step : Layer Statement-F → g.Stmt
statement_step s = g.stmt s.first s.end s.form

abbrev pub statement_form_step : Layer StatementForm-F → g.StmtForm
statement_form_step (StatementForm-F.Declaration d) = g.declares d
statement_form_step (StatementForm-F.«StatementForm::Function» f) = g.function_stmt f
statement_form_step (StatementForm-F.«StatementForm::Simple» s) = g.does s
statement_form_step (StatementForm-F.If s) = s
statement_form_step (StatementForm-F.While s) = s
statement_form_step (StatementForm-F.«StatementForm::Block» b) = g.nested b

abbrev pub declaration_step : Layer Declaration-F → g.Declaration
declaration_step d = g.declaration d.first d.end (binder_view d.binder) d.name (option_map type_view d.annotation) d.value

abbrev pub simple_step : Layer Simple-F → g.Simple
simple_step s = g.simple s.first s.end s.form

abbrev pub simple_form_step : Layer SimpleForm-F → g.SimpleForm
simple_form_step SimpleForm-F.Return = g.return_bare
simple_form_step (SimpleForm-F.ReturnValue e) = g.return_value e
simple_form_step (SimpleForm-F.Throw e) = g.throw_value e
simple_form_step SimpleForm-F.Break = g.break_loop
simple_form_step SimpleForm-F.Continue = g.continue_loop
simple_form_step (SimpleForm-F.Assign a) = a
simple_form_step (SimpleForm-F.Evaluate e) = g.evaluate e

abbrev pub assignment_step : Layer Assignment-F → g.SimpleForm
assignment_step a = g.assign a.target a.value

abbrev pub if_statement_step : Layer IfStatement-F → g.StmtForm
if_statement_step s = g.branches (branches_from no_branch s.branches) s.last

abbrev pub else_step : Layer Else-F → g.Else
else_step Else-F.Nothing = g.no_else
else_step (Else-F.Body b) = g.else_body b

abbrev pub while_statement_step : Layer WhileStatement-F → g.StmtForm
while_statement_step s = g.loop s.test s.body

abbrev pub body_step : Layer Body-F → g.Body
body_step (Body-F.«Body::Block» b) = g.block_body b
body_step (Body-F.«Body::Simple» s) = g.simple_body s

abbrev pub branch_step : Layer Branch-F → g.Branch
branch_step b = g.branch b.first b.end b.test b.body
