-- What stands in a tree is less than the tree.
use Rattle.std.proofs.Common.{◌≡◌, ◌<◌, ◌+◌, max, List, sym, subst, arith}
use Rattle.code_tree.specs.declared.types.Block.{Block, out-Block}
use Rattle.code_tree.specs.declared.types.Branch.{Branch}
use Rattle.code_tree.specs.declared.types.Else.{Else}
use Rattle.code_tree.specs.declared.types.Else as last_else
use Rattle.code_tree.specs.declared.types.Body.{Body}
use Rattle.code_tree.specs.declared.types.Body as body
use Rattle.code_tree.specs.declared.types.IfStatement.{IfStatement, out-IfStatement}
use Rattle.code_tree.specs.declared.types.WhileStatement.{WhileStatement, out-WhileStatement}
use Rattle.code_tree.specs.declared.types.Statement.{Statement, out-Statement}
use Rattle.code_tree.specs.declared.types.StatementForm as form
use Rattle.code_tree.proofs.types.Block.TheLaws.{the_size as block_size}
use Rattle.code_tree.proofs.types.Else.TheLaws.{the_size as else_size}
use Rattle.code_tree.proofs.types.Body.TheLaws.{the_size as body_size}
use Rattle.code_tree.proofs.types.IfStatement.TheLaws.{the_size as if_size}
use Rattle.code_tree.proofs.types.WhileStatement.TheLaws.{the_size as while_size}
use Rattle.code_tree.proofs.types.Statement.TheLaws.{the_size as statement_size}
use Rattle.code_tree.proofs.types.StatementForm.TheLaws.{the_size as form_size}
use Rattle.code_tree.proofs.types.Branch.TheLaws.{the_size as branch_size}
use Rattle.code_tree.specs.declared.types.ArrowBody.TheViews as views
use denote.Param.Weighed.{most}
use Rattle.code_tree.specs.contracts.types.ArrowBody.TheKnot as knot

pub form_less : (x : Statement) → form_size (out-Statement x).form < statement_size x
form_less x = (knot.falls-Statement x (statement_size x) (omega arith)).0

pub else_less : (y : Body) → body_size y < else_size (last_else.Body y)
else_less y = (knot.falls-Else (last_else.Body y) (else_size (last_else.Body y)) (omega arith)).0

pub body_less : (y : Block) → block_size y < body_size (body.Block y)
body_less y = (knot.falls-Body (body.Block y) (body_size (body.Block y)) (omega arith)).0

pub if_less : (y : IfStatement) → if_size y < form_size (form.If y)
if_less y = (knot.falls-StatementForm (form.If y) (form_size (form.If y)) (omega arith)).0

pub while_less : (y : WhileStatement) → while_size y < form_size (form.While y)
while_less y = (knot.falls-StatementForm (form.While y) (form_size (form.While y)) (omega arith)).0

pub nested_less : (y : Block) → block_size y < form_size (form.Block y)
nested_less y = (knot.falls-StatementForm (form.Block y) (form_size (form.Block y)) (omega arith)).0

pub if_size_is : (x : IfStatement) → if_size x ≡ max (most branch_size (out-IfStatement x).branches) (max (else_size (out-IfStatement x).last) 0) + 1
if_size_is x = views.size_is-IfStatement x

pub last_less : (x : IfStatement) → else_size (out-IfStatement x).last < if_size x
last_less x = omega (arith, if_size_is x)

pub branches_less : (x : IfStatement) → most branch_size (out-IfStatement x).branches < if_size x
branches_less x = omega (arith, if_size_is x)

pub loop_less : (x : WhileStatement) → body_size (out-WhileStatement x).body < while_size x
loop_less x = (knot.falls-WhileStatement x (while_size x) (omega arith)).1.0

pub block_size_is : (x : Block) → block_size x ≡ max 0 (max 0 (max (most statement_size (out-Block x).statements) 0)) + 1
block_size_is x = views.size_is-Block x

pub block_less : (x : Block) → most statement_size (out-Block x).statements < block_size x
block_less x = omega (arith, block_size_is x)

-- ---- what stands in an arm

pub if_in : (x : Statement) (y : IfStatement) → (out-Statement x).form ≡ form.If y → if_size y < statement_size x
if_in x y is = let less : form_size (form.If y) < statement_size x = subst (λ f. form_size f < statement_size x) is (form_less x) in omega (arith, if_less y, less)

pub while_in : (x : Statement) (y : WhileStatement) → (out-Statement x).form ≡ form.While y → while_size y < statement_size x
while_in x y is = let less : form_size (form.While y) < statement_size x = subst (λ f. form_size f < statement_size x) is (form_less x) in omega (arith, while_less y, less)

pub nested_in : (x : Statement) (y : Block) → (out-Statement x).form ≡ form.Block y → block_size y < statement_size x
nested_in x y is = let less : form_size (form.Block y) < statement_size x = subst (λ f. form_size f < statement_size x) is (form_less x) in omega (arith, nested_less y, less)

pub else_in : (x : Else) (y : Body) → x ≡ last_else.Body y → body_size y < else_size x
else_in x y is = subst (λ e. body_size y < else_size e) (sym is) (else_less y)

pub body_in : (x : Body) (y : Block) → x ≡ body.Block y → block_size y < body_size x
body_in x y is = subst (λ b. block_size y < body_size b) (sym is) (body_less y)

pub branches_in : (x : IfStatement) (all : List Branch) → all ≡ (out-IfStatement x).branches → most branch_size all < if_size x
branches_in x all is = subst (λ l. most branch_size l < if_size x) (sym is) (branches_less x)

pub block_in : (x : Block) (all : List Statement) → all ≡ (out-Block x).statements → most statement_size all < block_size x
block_in x all is = subst (λ l. most statement_size l < block_size x) (sym is) (block_less x)
