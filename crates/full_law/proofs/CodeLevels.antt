-- One level of a tree of the code, for each form of expressions and statements: where some value stands for each part, some value
-- stands for the whole.
use Rattle.std.proofs.Common.{ℕ, Bool, List, [], refl, ◌∙◌, Option}
use Rattle.std.specs.Option.{option_map}
use Rattle.js_grammar.specs.Types.{Ty, Key}
use Rattle.js_grammar.specs.Code as g
use Rattle.type_tree.specs.View.{type_view, key_view}
use Rattle.code_tree.specs.Flat.{prefixes_view, level_view, operator_view, binder_view, signature_view}
use Rattle.code_tree.specs.Layer.{Layer, at_trees}
use Rattle.code_tree.specs.Steps.{exs_from, links_from, operands_from, fields_from, arms_from, stmts_from, branches_from, arrow_body_step, body_step, else_step, expr_form_step, field_form_step, link_form_step, operand_form_step, simple_form_step, statement_form_step, arm_step, arrow_expr_step, assignment_step, block_step, branch_step, chain_expr_step, conditional_expr_step, declaration_step, expr_step, field_step, function_step, if_statement_step, link_step, operand_step, postfix_expr_step, simple_step, statement_step, while_statement_step}
use Rattle.code_tree.specs.View.{arrow_body_view, body_view, else_view, expr_form_view, field_form_view, link_form_view, operand_form_view, simple_form_view, statement_form_view, arm_view, arrow_expr_view, assignment_view, block_view, branch_view, chain_expr_view, conditional_expr_view, declaration_view, expr_view, field_view, function_view, if_statement_view, link_view, operand_view, postfix_expr_view, simple_view, statement_view, while_statement_view, exprs_view, links_view, operands_view, fields_view, arms_view, statements_view, branches_view}
use Rattle.code_tree.specs.declared.types.ArrowBody.TheOpen.{ArrowBody-F, Body-F, Else-F, ExprForm-F, FieldForm-F, LinkForm-F, OperandForm-F, SimpleForm-F, StatementForm-F, Arm-F, ArrowExpr-F, Assignment-F, Block-F, Branch-F, ChainExpr-F, ConditionalExpr-F, Declaration-F, Expr-F, Field-F, Function-F, IfStatement-F, Link-F, Operand-F, PostfixExpr-F, Simple-F, Statement-F, WhileStatement-F}
use Rattle.code_tree.specs.declared.types.ArrowBody.{ArrowBody, roll-ArrowBody, fold-roll-ArrowBody}
use Rattle.code_tree.specs.declared.types.Body.{Body, roll-Body, fold-roll-Body}
use Rattle.code_tree.specs.declared.types.Else.{Else, roll-Else, fold-roll-Else}
use Rattle.code_tree.specs.declared.types.ExprForm.{ExprForm, roll-ExprForm, fold-roll-ExprForm}
use Rattle.code_tree.specs.declared.types.FieldForm.{FieldForm, roll-FieldForm, fold-roll-FieldForm}
use Rattle.code_tree.specs.declared.types.LinkForm.{LinkForm, roll-LinkForm, fold-roll-LinkForm}
use Rattle.code_tree.specs.declared.types.OperandForm.{OperandForm, roll-OperandForm, fold-roll-OperandForm}
use Rattle.code_tree.specs.declared.types.SimpleForm.{SimpleForm, roll-SimpleForm, fold-roll-SimpleForm}
use Rattle.code_tree.specs.declared.types.StatementForm.{StatementForm, roll-StatementForm, fold-roll-StatementForm}
use Rattle.code_tree.specs.declared.types.Arm.{Arm, roll-Arm, fold-roll-Arm}
use Rattle.code_tree.specs.declared.types.ArrowExpr.{ArrowExpr, roll-ArrowExpr, fold-roll-ArrowExpr}
use Rattle.code_tree.specs.declared.types.Assignment.{Assignment, roll-Assignment, fold-roll-Assignment}
use Rattle.code_tree.specs.declared.types.Block.{Block, roll-Block, fold-roll-Block}
use Rattle.code_tree.specs.declared.types.Branch.{Branch, roll-Branch, fold-roll-Branch}
use Rattle.code_tree.specs.declared.types.ChainExpr.{ChainExpr, roll-ChainExpr, fold-roll-ChainExpr}
use Rattle.code_tree.specs.declared.types.ConditionalExpr.{ConditionalExpr, roll-ConditionalExpr, fold-roll-ConditionalExpr}
use Rattle.code_tree.specs.declared.types.Declaration.{Declaration, roll-Declaration, fold-roll-Declaration}
use Rattle.code_tree.specs.declared.types.Expr.{Expr, roll-Expr, fold-roll-Expr}
use Rattle.code_tree.specs.declared.types.Field.{Field, roll-Field, fold-roll-Field}
use Rattle.code_tree.specs.declared.types.Function.{Function, roll-Function, fold-roll-Function}
use Rattle.code_tree.specs.declared.types.IfStatement.{IfStatement, roll-IfStatement, fold-roll-IfStatement}
use Rattle.code_tree.specs.declared.types.Link.{Link, roll-Link, fold-roll-Link}
use Rattle.code_tree.specs.declared.types.Operand.{Operand, roll-Operand, fold-roll-Operand}
use Rattle.code_tree.specs.declared.types.PostfixExpr.{PostfixExpr, roll-PostfixExpr, fold-roll-PostfixExpr}
use Rattle.code_tree.specs.declared.types.Simple.{Simple, roll-Simple, fold-roll-Simple}
use Rattle.code_tree.specs.declared.types.Statement.{Statement, roll-Statement, fold-roll-Statement}
use Rattle.code_tree.specs.declared.types.WhileStatement.{WhileStatement, roll-WhileStatement, fold-roll-WhileStatement}
use Rattle.full_law.proofs.Lists.{Seen, one_more}

-- one level over the trees of the code
abbrev Level : (Type 0 → Type 0 → Type 0 → Type 0 → Type 0 → Type 0 → Type 0 → Type 0 → Type 0 → Type 0 → Type 0 → Type 0 → Type 0 → Type 0 → Type 0 → Type 0 → Type 0 → Type 0 → Type 0 → Type 0 → Type 0 → Type 0 → Type 0 → Type 0 → Type 0 → Type 0 → Type 0 → Type 0) → Type 0
Level F = F ArrowBody Body Else ExprForm FieldForm LinkForm OperandForm SimpleForm StatementForm Arm ArrowExpr Assignment Block Branch ChainExpr ConditionalExpr Declaration Expr Field Function IfStatement Link Operand PostfixExpr Simple Statement WhileStatement

-- a law of each fold, at the fold that is the view
abbrev seen :
    {R :
    (Layer ArrowBody-F → g.ArrowBody)
    → (Layer Body-F → g.Body)
    → (Layer Else-F → g.Else)
    → (Layer ExprForm-F → g.ExForm)
    → (Layer FieldForm-F → g.FieldForm)
    → (Layer LinkForm-F → g.LinkForm)
    → (Layer OperandForm-F → g.OperandForm)
    → (Layer SimpleForm-F → g.SimpleForm)
    → (Layer StatementForm-F → g.StmtForm)
    → (Layer Arm-F → g.Arm)
    → (Layer ArrowExpr-F → g.ExForm)
    → (Layer Assignment-F → g.SimpleForm)
    → (Layer Block-F → g.Block)
    → (Layer Branch-F → g.Branch)
    → (Layer ChainExpr-F → g.ExForm)
    → (Layer ConditionalExpr-F → g.ExForm)
    → (Layer Declaration-F → g.Declaration)
    → (Layer Expr-F → g.Ex)
    → (Layer Field-F → g.Field)
    → (Layer Function-F → g.Function)
    → (Layer IfStatement-F → g.StmtForm)
    → (Layer Link-F → g.Link)
    → (Layer Operand-F → g.Operand)
    → (Layer PostfixExpr-F → g.ExForm)
    → (Layer Simple-F → g.Simple)
    → (Layer Statement-F → g.Stmt)
    → (Layer WhileStatement-F → g.StmtForm)
    → Type 0}
    → ((s1 : Layer ArrowBody-F → g.ArrowBody) (s2 : Layer Body-F → g.Body) (s3 : Layer Else-F → g.Else) (s4 : Layer ExprForm-F → g.ExForm) (s5 : Layer FieldForm-F → g.FieldForm) (s6 : Layer LinkForm-F → g.LinkForm) (s7 : Layer OperandForm-F → g.OperandForm) (s8 : Layer SimpleForm-F → g.SimpleForm) (s9 : Layer StatementForm-F → g.StmtForm) (s10 : Layer Arm-F → g.Arm) (s11 : Layer ArrowExpr-F → g.ExForm) (s12 : Layer Assignment-F → g.SimpleForm) (s13 : Layer Block-F → g.Block) (s14 : Layer Branch-F → g.Branch) (s15 : Layer ChainExpr-F → g.ExForm) (s16 : Layer ConditionalExpr-F → g.ExForm) (s17 : Layer Declaration-F → g.Declaration) (s18 : Layer Expr-F → g.Ex) (s19 : Layer Field-F → g.Field) (s20 : Layer Function-F → g.Function) (s21 : Layer IfStatement-F → g.StmtForm) (s22 : Layer Link-F → g.Link) (s23 : Layer Operand-F → g.Operand) (s24 : Layer PostfixExpr-F → g.ExForm) (s25 : Layer Simple-F → g.Simple) (s26 : Layer Statement-F → g.Stmt) (s27 : Layer WhileStatement-F → g.StmtForm) → R s1 s2 s3 s4 s5 s6 s7 s8 s9 s10 s11 s12 s13 s14 s15 s16 s17 s18 s19 s20 s21 s22 s23 s24 s25 s26 s27)
    → R arrow_body_step body_step else_step expr_form_step field_form_step link_form_step operand_form_step simple_form_step statement_form_step arm_step arrow_expr_step assignment_step block_step branch_step chain_expr_step conditional_expr_step declaration_step expr_step field_step function_step if_statement_step link_step operand_step postfix_expr_step simple_step statement_step while_statement_step
seen law = law arrow_body_step body_step else_step expr_form_step field_form_step link_form_step operand_form_step simple_form_step statement_form_step arm_step arrow_expr_step assignment_step block_step branch_step chain_expr_step conditional_expr_step declaration_step expr_step field_step function_step if_statement_step link_step operand_step postfix_expr_step simple_step statement_step while_statement_step

-- ---- lists

pub no_exprs : Seen exprs_view g.no_ex
unfolding exprs_view
no_exprs = ([], refl)

pub more_exprs : (l : g.Exs) (x : g.Ex) → Seen exprs_view l → Seen expr_view x → Seen exprs_view (g.more_ex l x)
unfolding exprs_view
more_exprs = one_more g.more_ex exs_from (λ acc. refl) (λ acc a rest. refl) expr_view g.no_ex

pub no_links : Seen links_view g.no_link
unfolding links_view
no_links = ([], refl)

pub more_links : (l : g.Links) (x : g.Link) → Seen links_view l → Seen link_view x → Seen links_view (g.more_link l x)
unfolding links_view
more_links = one_more g.more_link links_from (λ acc. refl) (λ acc a rest. refl) link_view g.no_link

pub no_operands : Seen operands_view g.no_operand
unfolding operands_view
no_operands = ([], refl)

pub more_operands : (l : g.Operands) (x : g.Operand) → Seen operands_view l → Seen operand_view x → Seen operands_view (g.more_operand l x)
unfolding operands_view
more_operands = one_more g.more_operand operands_from (λ acc. refl) (λ acc a rest. refl) operand_view g.no_operand

pub no_fields : Seen fields_view g.no_field
unfolding fields_view
no_fields = ([], refl)

pub more_fields : (l : g.Fields) (x : g.Field) → Seen fields_view l → Seen field_view x → Seen fields_view (g.more_field l x)
unfolding fields_view
more_fields = one_more g.more_field fields_from (λ acc. refl) (λ acc a rest. refl) field_view g.no_field

pub no_arms : Seen arms_view g.no_arm
unfolding arms_view
no_arms = ([], refl)

pub more_arms : (l : g.Arms) (x : g.Arm) → Seen arms_view l → Seen arm_view x → Seen arms_view (g.more_arm l x)
unfolding arms_view
more_arms = one_more g.more_arm arms_from (λ acc. refl) (λ acc a rest. refl) arm_view g.no_arm

pub no_statements : Seen statements_view g.no_stmt
unfolding statements_view
no_statements = ([], refl)

pub more_statements : (l : g.Stmts) (x : g.Stmt) → Seen statements_view l → Seen statement_view x → Seen statements_view (g.more_stmt l x)
unfolding statements_view
more_statements = one_more g.more_stmt stmts_from (λ acc. refl) (λ acc a rest. refl) statement_view g.no_stmt

pub no_branches : Seen branches_view g.no_branch
unfolding branches_view
no_branches = ([], refl)

pub more_branches : (l : g.Branches) (x : g.Branch) → Seen branches_view l → Seen branch_view x → Seen branches_view (g.more_branch l x)
unfolding branches_view
more_branches = one_more g.more_branch branches_from (λ acc. refl) (λ acc a rest. refl) branch_view g.no_branch

-- ---- structs

pub expr_of : (f e : ℕ) (x : g.ExForm) → Seen expr_form_view x → Seen expr_view (g.ex f e x)
unfolding expr_view expr_form_view
expr_of f e x form =
    let level : Level Expr-F = record { first = f; end = e; form = form.0 } in
    (roll-Expr level, seen (at_trees fold-roll-Expr) level ∙ (λ i. g.ex f e (form.1 i)))

pub postfix_expr_of : (x : g.Ex) (l : g.Links) → Seen expr_view x → Seen links_view l → Seen postfix_expr_view (g.postfixed x l)
unfolding postfix_expr_view expr_view links_view link_view
postfix_expr_of x l base links =
    let level : Level PostfixExpr-F = record { base = base.0; links = links.0 } in
    (roll-PostfixExpr level, seen (at_trees fold-roll-PostfixExpr) level ∙ (λ i. g.postfixed (base.1 i) (links.1 i)))

pub chain_expr_of : (p : g.Level) (x : g.Ex) (l : g.Operands) → Seen level_view p → Seen expr_view x → Seen operands_view l → Seen chain_expr_view (g.chain p x l)
unfolding chain_expr_view expr_view operands_view operand_view
chain_expr_of p x l mark left operands =
    let level : Level ChainExpr-F = record { level = mark.0; left = left.0; operands = operands.0 } in
    (roll-ChainExpr level, seen (at_trees fold-roll-ChainExpr) level ∙ (λ i. g.chain (mark.1 i) (left.1 i) (operands.1 i)))

pub conditional_expr_of : (l : g.Arms) (x : g.Ex) → Seen arms_view l → Seen expr_view x → Seen conditional_expr_view (g.cond l x)
unfolding conditional_expr_view arms_view arm_view expr_view
conditional_expr_of l x arms last =
    let level : Level ConditionalExpr-F = record { arms = arms.0; last = last.0 } in
    (roll-ConditionalExpr level, seen (at_trees fold-roll-ConditionalExpr) level ∙ (λ i. g.cond (arms.1 i) (last.1 i)))

pub arrow_expr_of : (s : g.Sig) (b : g.ArrowBody) → Seen signature_view s → Seen arrow_body_view b → Seen arrow_expr_view (g.arrow s b)
unfolding arrow_expr_view arrow_body_view
arrow_expr_of s b signature body =
    let level : Level ArrowExpr-F = record { signature = signature.0; body = body.0 } in
    (roll-ArrowExpr level, seen (at_trees fold-roll-ArrowExpr) level ∙ (λ i. g.arrow (signature.1 i) (body.1 i)))

pub link_of : (f e : ℕ) (x : g.LinkForm) → Seen link_form_view x → Seen link_view (g.link f e x)
unfolding link_view link_form_view
link_of f e x form =
    let level : Level Link-F = record { first = f; end = e; form = form.0 } in
    (roll-Link level, seen (at_trees fold-roll-Link) level ∙ (λ i. g.link f e (form.1 i)))

pub operand_of : (f e : ℕ) (x : g.OperandForm) → Seen operand_form_view x → Seen operand_view (g.operand f e x)
unfolding operand_view operand_form_view
operand_of f e x form =
    let level : Level Operand-F = record { first = f; end = e; form = form.0 } in
    (roll-Operand level, seen (at_trees fold-roll-Operand) level ∙ (λ i. g.operand f e (form.1 i)))

pub field_of : (f e : ℕ) (x : g.FieldForm) → Seen field_form_view x → Seen field_view (g.field f e x)
unfolding field_view field_form_view
field_of f e x form =
    let level : Level Field-F = record { first = f; end = e; form = form.0 } in
    (roll-Field level, seen (at_trees fold-roll-Field) level ∙ (λ i. g.field f e (form.1 i)))

pub arm_of : (f e : ℕ) (t b : g.Ex) → Seen expr_view t → Seen expr_view b → Seen arm_view (g.arm f e t b)
unfolding arm_view expr_view
arm_of f e t b test branch =
    let level : Level Arm-F = record { first = f; end = e; test = test.0; branch = branch.0 } in
    (roll-Arm level, seen (at_trees fold-roll-Arm) level ∙ (λ i. g.arm f e (test.1 i) (branch.1 i)))

pub function_of : (f e : ℕ) (n : Option (List ℕ)) (s : g.Sig) (b : g.Block) → Seen signature_view s → Seen block_view b → Seen function_view (g.function f e n s b)
unfolding function_view block_view
function_of f e n s b signature body =
    let level : Level Function-F = record { first = f; end = e; name = n; signature = signature.0; body = body.0 } in
    (roll-Function level, seen (at_trees fold-roll-Function) level ∙ (λ i. g.function f e n (signature.1 i) (body.1 i)))

pub block_of : (f e : ℕ) (l : g.Stmts) → Seen statements_view l → Seen block_view (g.block f e l)
unfolding block_view statements_view statement_view
block_of f e l statements =
    let level : Level Block-F = record { first = f; end = e; statements = statements.0 } in
    (roll-Block level, seen (at_trees fold-roll-Block) level ∙ (λ i. g.block f e (statements.1 i)))

pub statement_of : (f e : ℕ) (x : g.StmtForm) → Seen statement_form_view x → Seen statement_view (g.stmt f e x)
unfolding statement_view statement_form_view
statement_of f e x form =
    let level : Level Statement-F = record { first = f; end = e; form = form.0 } in
    (roll-Statement level, seen (at_trees fold-roll-Statement) level ∙ (λ i. g.stmt f e (form.1 i)))

pub declaration_of : (f e : ℕ) (n : List ℕ) (b : g.Binder) (t : Option Ty) (v : g.Ex) → Seen binder_view b → Seen (option_map type_view) t → Seen expr_view v → Seen declaration_view (g.declaration f e b n t v)
unfolding declaration_view expr_view
declaration_of f e n b t v word annotation value =
    let level : Level Declaration-F = record { first = f; end = e; binder = word.0; name = n; annotation = annotation.0; value = value.0 } in
    (roll-Declaration level, seen (at_trees fold-roll-Declaration) level ∙ (λ i. g.declaration f e (word.1 i) n (annotation.1 i) (value.1 i)))

pub simple_of : (f e : ℕ) (x : g.SimpleForm) → Seen simple_form_view x → Seen simple_view (g.simple f e x)
unfolding simple_view simple_form_view
simple_of f e x form =
    let level : Level Simple-F = record { first = f; end = e; form = form.0 } in
    (roll-Simple level, seen (at_trees fold-roll-Simple) level ∙ (λ i. g.simple f e (form.1 i)))

pub assignment_of : (t v : g.Ex) → Seen expr_view t → Seen expr_view v → Seen assignment_view (g.assign t v)
unfolding assignment_view expr_view
assignment_of t v target value =
    let level : Level Assignment-F = record { target = target.0; value = value.0 } in
    (roll-Assignment level, seen (at_trees fold-roll-Assignment) level ∙ (λ i. g.assign (target.1 i) (value.1 i)))

pub if_statement_of : (l : g.Branches) (x : g.Else) → Seen branches_view l → Seen else_view x → Seen if_statement_view (g.branches l x)
unfolding if_statement_view branches_view branch_view else_view
if_statement_of l x branches last =
    let level : Level IfStatement-F = record { branches = branches.0; last = last.0 } in
    (roll-IfStatement level, seen (at_trees fold-roll-IfStatement) level ∙ (λ i. g.branches (branches.1 i) (last.1 i)))

pub while_statement_of : (t : g.Ex) (b : g.Body) → Seen expr_view t → Seen body_view b → Seen while_statement_view (g.loop t b)
unfolding while_statement_view expr_view body_view
while_statement_of t b test body =
    let level : Level WhileStatement-F = record { test = test.0; body = body.0 } in
    (roll-WhileStatement level, seen (at_trees fold-roll-WhileStatement) level ∙ (λ i. g.loop (test.1 i) (body.1 i)))

pub branch_of : (f e : ℕ) (t : g.Ex) (b : g.Body) → Seen expr_view t → Seen body_view b → Seen branch_view (g.branch f e t b)
unfolding branch_view expr_view body_view
branch_of f e t b test body =
    let level : Level Branch-F = record { first = f; end = e; test = test.0; body = body.0 } in
    (roll-Branch level, seen (at_trees fold-roll-Branch) level ∙ (λ i. g.branch f e (test.1 i) (body.1 i)))

-- ---- variants

pub variable_of : (n : List ℕ) → Seen expr_form_view (g.variable n)
unfolding expr_form_view
variable_of n =
    let level : Level ExprForm-F = ExprForm-F.Variable n in
    (roll-ExprForm level, seen (at_trees fold-roll-ExprForm) level)

pub number_of : (n : List ℕ) → Seen expr_form_view (g.number n)
unfolding expr_form_view
number_of n =
    let level : Level ExprForm-F = ExprForm-F.Number n in
    (roll-ExprForm level, seen (at_trees fold-roll-ExprForm) level)

pub text_of : (n : List ℕ) → Seen expr_form_view (g.text n)
unfolding expr_form_view
text_of n =
    let level : Level ExprForm-F = ExprForm-F.Str n in
    (roll-ExprForm level, seen (at_trees fold-roll-ExprForm) level)

pub truth_of : (b : Bool) → Seen expr_form_view (g.truth_value b)
unfolding expr_form_view
truth_of b =
    let level : Level ExprForm-F = ExprForm-F.Truth b in
    (roll-ExprForm level, seen (at_trees fold-roll-ExprForm) level)

pub null_of : Seen expr_form_view g.null_value
unfolding expr_form_view
null_of =
    let level : Level ExprForm-F = ExprForm-F.Null in
    (roll-ExprForm level, seen (at_trees fold-roll-ExprForm) level)

pub paren_of : (x : g.Ex) → Seen expr_view x → Seen expr_form_view (g.parens x)
unfolding expr_form_view expr_view
paren_of x inner =
    let level : Level ExprForm-F = ExprForm-F.Paren inner.0 in
    (roll-ExprForm level, seen (at_trees fold-roll-ExprForm) level ∙ (λ i. g.parens (inner.1 i)))

pub array_of : (c : Bool) (l : g.Exs) → Seen exprs_view l → Seen expr_form_view (g.elements l c)
unfolding expr_form_view exprs_view expr_view
array_of c l elements =
    let level : Level ExprForm-F = ExprForm-F.Array elements.0 c in
    (roll-ExprForm level, seen (at_trees fold-roll-ExprForm) level ∙ (λ i. g.elements (elements.1 i) c))

pub object_of : (c : Bool) (l : g.Fields) → Seen fields_view l → Seen expr_form_view (g.fields l c)
unfolding expr_form_view fields_view field_view
object_of c l fields =
    let level : Level ExprForm-F = ExprForm-F.Object fields.0 c in
    (roll-ExprForm level, seen (at_trees fold-roll-ExprForm) level ∙ (λ i. g.fields (fields.1 i) c))

pub function_expr_of : (x : g.Function) → Seen function_view x → Seen expr_form_view (g.function_ex x)
unfolding expr_form_view function_view
function_expr_of x inner =
    let level : Level ExprForm-F = ExprForm-F.«ExprForm::Function» inner.0 in
    (roll-ExprForm level, seen (at_trees fold-roll-ExprForm) level ∙ (λ i. g.function_ex (inner.1 i)))

pub postfix_of : (x : g.ExForm) → Seen postfix_expr_view x → Seen expr_form_view x
unfolding expr_form_view postfix_expr_view
postfix_of x inner =
    let level : Level ExprForm-F = ExprForm-F.Postfix inner.0 in
    (roll-ExprForm level, seen (at_trees fold-roll-ExprForm) level ∙ inner.1)

pub prefix_of : (p : g.Prefixes) (x : g.Ex) → Seen prefixes_view p → Seen expr_view x → Seen expr_form_view (g.prefixed p x)
unfolding expr_form_view expr_view
prefix_of p x marks inner =
    let level : Level ExprForm-F = ExprForm-F.Prefix marks.0 inner.0 in
    (roll-ExprForm level, seen (at_trees fold-roll-ExprForm) level ∙ (λ i. g.prefixed (marks.1 i) (inner.1 i)))

pub chain_of : (x : g.ExForm) → Seen chain_expr_view x → Seen expr_form_view x
unfolding expr_form_view chain_expr_view
chain_of x inner =
    let level : Level ExprForm-F = ExprForm-F.Chain inner.0 in
    (roll-ExprForm level, seen (at_trees fold-roll-ExprForm) level ∙ inner.1)

pub conditional_of : (x : g.ExForm) → Seen conditional_expr_view x → Seen expr_form_view x
unfolding expr_form_view conditional_expr_view
conditional_of x inner =
    let level : Level ExprForm-F = ExprForm-F.Conditional inner.0 in
    (roll-ExprForm level, seen (at_trees fold-roll-ExprForm) level ∙ inner.1)

pub arrow_of : (x : g.ExForm) → Seen arrow_expr_view x → Seen expr_form_view x
unfolding expr_form_view arrow_expr_view
arrow_of x inner =
    let level : Level ExprForm-F = ExprForm-F.Arrow inner.0 in
    (roll-ExprForm level, seen (at_trees fold-roll-ExprForm) level ∙ inner.1)

pub arrow_block_of : (b : g.Block) → Seen block_view b → Seen arrow_body_view (g.arrow_block b)
unfolding arrow_body_view block_view
arrow_block_of b inner =
    let level : Level ArrowBody-F = ArrowBody-F.«ArrowBody::Block» inner.0 in
    (roll-ArrowBody level, seen (at_trees fold-roll-ArrowBody) level ∙ (λ i. g.arrow_block (inner.1 i)))

pub arrow_value_of : (x : g.Ex) → Seen expr_view x → Seen arrow_body_view (g.arrow_value x)
unfolding arrow_body_view expr_view
arrow_value_of x inner =
    let level : Level ArrowBody-F = ArrowBody-F.Value inner.0 in
    (roll-ArrowBody level, seen (at_trees fold-roll-ArrowBody) level ∙ (λ i. g.arrow_value (inner.1 i)))

pub member_of : (n : List ℕ) → Seen link_form_view (g.member n)
unfolding link_form_view
member_of n =
    let level : Level LinkForm-F = LinkForm-F.Member n in
    (roll-LinkForm level, seen (at_trees fold-roll-LinkForm) level)

pub index_of : (x : g.Ex) → Seen expr_view x → Seen link_form_view (g.index x)
unfolding link_form_view expr_view
index_of x inner =
    let level : Level LinkForm-F = LinkForm-F.Index inner.0 in
    (roll-LinkForm level, seen (at_trees fold-roll-LinkForm) level ∙ (λ i. g.index (inner.1 i)))

pub call_of : (c : Bool) (l : g.Exs) → Seen exprs_view l → Seen link_form_view (g.call l c)
unfolding link_form_view exprs_view expr_view
call_of c l elements =
    let level : Level LinkForm-F = LinkForm-F.Call elements.0 c in
    (roll-LinkForm level, seen (at_trees fold-roll-LinkForm) level ∙ (λ i. g.call (elements.1 i) c))

pub right_of : (o : g.Operator) (x : g.Ex) → Seen operator_view o → Seen expr_view x → Seen operand_form_view (g.right_side o x)
unfolding operand_form_view expr_view
right_of o x mark inner =
    let level : Level OperandForm-F = OperandForm-F.Right mark.0 inner.0 in
    (roll-OperandForm level, seen (at_trees fold-roll-OperandForm) level ∙ (λ i. g.right_side (mark.1 i) (inner.1 i)))

pub as_of : (t : Ty) → Seen type_view t → Seen operand_form_view (g.as_type t)
unfolding operand_form_view
as_of t inner =
    let level : Level OperandForm-F = OperandForm-F.As inner.0 in
    (roll-OperandForm level, seen (at_trees fold-roll-OperandForm) level ∙ (λ i. g.as_type (inner.1 i)))

pub shorthand_of : (n : List ℕ) → Seen field_form_view (g.shorthand n)
unfolding field_form_view
shorthand_of n =
    let level : Level FieldForm-F = FieldForm-F.Shorthand n in
    (roll-FieldForm level, seen (at_trees fold-roll-FieldForm) level)

pub valued_of : (k : Key) (x : g.Ex) → Seen key_view k → Seen expr_view x → Seen field_form_view (g.valued k x)
unfolding field_form_view expr_view
valued_of k x key inner =
    let level : Level FieldForm-F = FieldForm-F.Valued key.0 inner.0 in
    (roll-FieldForm level, seen (at_trees fold-roll-FieldForm) level ∙ (λ i. g.valued (key.1 i) (inner.1 i)))

pub declares_of : (x : g.Declaration) → Seen declaration_view x → Seen statement_form_view (g.declares x)
unfolding statement_form_view declaration_view
declares_of x inner =
    let level : Level StatementForm-F = StatementForm-F.Declaration inner.0 in
    (roll-StatementForm level, seen (at_trees fold-roll-StatementForm) level ∙ (λ i. g.declares (inner.1 i)))

pub function_statement_of : (x : g.Function) → Seen function_view x → Seen statement_form_view (g.function_stmt x)
unfolding statement_form_view function_view
function_statement_of x inner =
    let level : Level StatementForm-F = StatementForm-F.«StatementForm::Function» inner.0 in
    (roll-StatementForm level, seen (at_trees fold-roll-StatementForm) level ∙ (λ i. g.function_stmt (inner.1 i)))

pub does_of : (x : g.Simple) → Seen simple_view x → Seen statement_form_view (g.does x)
unfolding statement_form_view simple_view
does_of x inner =
    let level : Level StatementForm-F = StatementForm-F.«StatementForm::Simple» inner.0 in
    (roll-StatementForm level, seen (at_trees fold-roll-StatementForm) level ∙ (λ i. g.does (inner.1 i)))

pub if_of : (x : g.StmtForm) → Seen if_statement_view x → Seen statement_form_view x
unfolding statement_form_view if_statement_view
if_of x inner =
    let level : Level StatementForm-F = StatementForm-F.If inner.0 in
    (roll-StatementForm level, seen (at_trees fold-roll-StatementForm) level ∙ inner.1)

pub while_of : (x : g.StmtForm) → Seen while_statement_view x → Seen statement_form_view x
unfolding statement_form_view while_statement_view
while_of x inner =
    let level : Level StatementForm-F = StatementForm-F.While inner.0 in
    (roll-StatementForm level, seen (at_trees fold-roll-StatementForm) level ∙ inner.1)

pub nested_of : (x : g.Block) → Seen block_view x → Seen statement_form_view (g.nested x)
unfolding statement_form_view block_view
nested_of x inner =
    let level : Level StatementForm-F = StatementForm-F.«StatementForm::Block» inner.0 in
    (roll-StatementForm level, seen (at_trees fold-roll-StatementForm) level ∙ (λ i. g.nested (inner.1 i)))

pub return_of : Seen simple_form_view g.return_bare
unfolding simple_form_view
return_of =
    let level : Level SimpleForm-F = SimpleForm-F.Return in
    (roll-SimpleForm level, seen (at_trees fold-roll-SimpleForm) level)

pub return_value_of : (x : g.Ex) → Seen expr_view x → Seen simple_form_view (g.return_value x)
unfolding simple_form_view expr_view
return_value_of x inner =
    let level : Level SimpleForm-F = SimpleForm-F.ReturnValue inner.0 in
    (roll-SimpleForm level, seen (at_trees fold-roll-SimpleForm) level ∙ (λ i. g.return_value (inner.1 i)))

pub throw_of : (x : g.Ex) → Seen expr_view x → Seen simple_form_view (g.throw_value x)
unfolding simple_form_view expr_view
throw_of x inner =
    let level : Level SimpleForm-F = SimpleForm-F.Throw inner.0 in
    (roll-SimpleForm level, seen (at_trees fold-roll-SimpleForm) level ∙ (λ i. g.throw_value (inner.1 i)))

pub break_of : Seen simple_form_view g.break_loop
unfolding simple_form_view
break_of =
    let level : Level SimpleForm-F = SimpleForm-F.Break in
    (roll-SimpleForm level, seen (at_trees fold-roll-SimpleForm) level)

pub continue_of : Seen simple_form_view g.continue_loop
unfolding simple_form_view
continue_of =
    let level : Level SimpleForm-F = SimpleForm-F.Continue in
    (roll-SimpleForm level, seen (at_trees fold-roll-SimpleForm) level)

pub assign_of : (x : g.SimpleForm) → Seen assignment_view x → Seen simple_form_view x
unfolding simple_form_view assignment_view
assign_of x inner =
    let level : Level SimpleForm-F = SimpleForm-F.Assign inner.0 in
    (roll-SimpleForm level, seen (at_trees fold-roll-SimpleForm) level ∙ inner.1)

pub evaluate_of : (x : g.Ex) → Seen expr_view x → Seen simple_form_view (g.evaluate x)
unfolding simple_form_view expr_view
evaluate_of x inner =
    let level : Level SimpleForm-F = SimpleForm-F.Evaluate inner.0 in
    (roll-SimpleForm level, seen (at_trees fold-roll-SimpleForm) level ∙ (λ i. g.evaluate (inner.1 i)))

pub block_body_of : (b : g.Block) → Seen block_view b → Seen body_view (g.block_body b)
unfolding body_view block_view
block_body_of b inner =
    let level : Level Body-F = Body-F.«Body::Block» inner.0 in
    (roll-Body level, seen (at_trees fold-roll-Body) level ∙ (λ i. g.block_body (inner.1 i)))

pub simple_body_of : (s : g.Simple) → Seen simple_view s → Seen body_view (g.simple_body s)
unfolding body_view simple_view
simple_body_of s inner =
    let level : Level Body-F = Body-F.«Body::Simple» inner.0 in
    (roll-Body level, seen (at_trees fold-roll-Body) level ∙ (λ i. g.simple_body (inner.1 i)))

pub no_else_of : Seen else_view g.no_else
unfolding else_view
no_else_of =
    let level : Level Else-F = Else-F.Nothing in
    (roll-Else level, seen (at_trees fold-roll-Else) level)

pub else_of : (b : g.Body) → Seen body_view b → Seen else_view (g.else_body b)
unfolding else_view body_view
else_of b inner =
    let level : Level Else-F = Else-F.Body inner.0 in
    (roll-Else level, seen (at_trees fold-roll-Else) level ∙ (λ i. g.else_body (inner.1 i)))
