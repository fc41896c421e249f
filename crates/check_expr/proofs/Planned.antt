-- What plans tell.
use Rattle.std.proofs.Common.{◌≡◌, List, Option, Some, refl, ap, ◌∙◌}
use Rattle.std.specs.Ordering.{nat_cmp}
use Rattle.std.specs.Cmp.Lexicographic.{slice_cmp}
use Rattle.std.specs.BTreeSet.{BTreeSet, contains}
use Rattle.check_values.specs.Rows.{Bytes}
use Rattle.typing.specs.Changes as typing
use Rattle.typing.specs.Changes.{is_set_inside}
use Rattle.code_changes.specs.View.{changes_view}
use Rattle.code_changes.specs.declared.change.Change.{Change}
use Rattle.code_tree.specs.View.{statement_form_view, if_statement_view, while_statement_view, block_view, body_view, else_view, branches_view, statements_view}
use Rattle.code_tree.specs.declared.types.Block.{Block, out-Block}
use Rattle.code_tree.specs.declared.types.Body.{Body}
use Rattle.code_tree.specs.declared.types.Body as body
use Rattle.code_tree.specs.declared.types.Branch.{Branch}
use Rattle.code_tree.specs.declared.types.Else.{Else}
use Rattle.code_tree.specs.declared.types.Else as last_else
use Rattle.code_tree.specs.declared.types.IfStatement.{IfStatement, out-IfStatement}
use Rattle.code_tree.specs.declared.types.Statement.{Statement}
use Rattle.code_tree.specs.declared.types.StatementForm.{StatementForm}
use Rattle.code_tree.specs.declared.types.StatementForm as statement_form
use Rattle.code_tree.specs.declared.types.WhileStatement.{WhileStatement, out-WhileStatement}
use Rattle.code_plans.specs.Plans as p
use Rattle.code_plans.specs.Plans.{includes, planned, part_of, plan_of_form, plan_of_block, plan_of_body, plan_of_else, plan_of_branches, plan_of_stmts}
use Rattle.code_plans.specs.View.{plan_view, IsPlan}
use Rattle.code_plans.specs.declared.plan.Plan.{Plan, out-Plan}
use Rattle.code_plans.proofs.Alike.{inside_alike}
use Rattle.code_plans.proofs.Handing.{changes_planned, plan_on, branches_handed, last_handed, body_handed, block_planned}
use Rattle.code_plans.proofs.Trees.{statement_form_if, statement_form_while, statement_form_block, last_else_body, body_block}
use Rattle.binders.specs.View.{TellsInner}

-- the names that functions inside assign
pub inner_planned : (names : BTreeSet Bytes) (x : Plan) (slice : List Change) → slice ≡ (out-Plan x).changes → ((name : Bytes) → contains (slice_cmp nat_cmp) names name ≡ is_set_inside (changes_view slice) name) →
    (changes : List typing.Change) → planned (plan_view x) ≡ includes changes → TellsInner names changes
inner_planned names x slice is told changes given name = told name ∙ inside_alike (changes_view slice) changes (changes_planned x slice (plan_view x) is refl ∙ given) name

-- a plan that is in hand, and none
pub given_planned : (a : Plan) (whole : p.Plan) → plan_view a ≡ whole → IsPlan (Some a) whole
unfolding IsPlan
given_planned a whole given = given

-- ---- plans that are handed on to what stands in an arm

pub if_planned : (o : Option Plan) (x : StatementForm) (y : IfStatement) → x ≡ statement_form.If y → IsPlan o (plan_of_form (statement_form_view x)) → IsPlan o (plan_of_form (if_statement_view y))
if_planned o x y is = plan_on o (plan_of_form (statement_form_view x)) (plan_of_form (if_statement_view y)) (ap plan_of_form (statement_form_if x y is))

pub while_planned : (o : Option Plan) (x : StatementForm) (y : WhileStatement) → x ≡ statement_form.While y → IsPlan o (plan_of_form (statement_form_view x)) → IsPlan o (plan_of_form (while_statement_view y))
while_planned o x y is = plan_on o (plan_of_form (statement_form_view x)) (plan_of_form (while_statement_view y)) (ap plan_of_form (statement_form_while x y is))

pub nested_planned : (o : Option Plan) (x : StatementForm) (y : Block) → x ≡ statement_form.Block y → IsPlan o (plan_of_form (statement_form_view x)) → IsPlan o (plan_of_block (block_view y))
nested_planned o x y is = plan_on o (plan_of_form (statement_form_view x)) (plan_of_block (block_view y)) (ap plan_of_form (statement_form_block x y is))

pub else_planned : (o : Option Plan) (x : Else) (y : Body) → x ≡ last_else.Body y → IsPlan o (plan_of_else (else_view x)) → IsPlan o (plan_of_body (body_view y))
else_planned o x y is = plan_on o (plan_of_else (else_view x)) (plan_of_body (body_view y)) (ap plan_of_else (last_else_body x y is))

pub body_planned : (o : Option Plan) (x : Body) (y : Block) → x ≡ body.Block y → IsPlan o (plan_of_body (body_view x)) → IsPlan o (plan_of_block (block_view y))
body_planned o x y is = plan_on o (plan_of_body (body_view x)) (plan_of_block (block_view y)) (ap plan_of_body (body_block x y is))

-- ---- and to parts, by what finding one says

pub branches_part : (o part : Option Plan) (x : IfStatement) (slice : List Branch) → ((whole : p.Plan) → IsPlan o whole → IsPlan part (part_of whole 0)) → slice ≡ (out-IfStatement x).branches → IsPlan o (plan_of_form (if_statement_view x)) →
    IsPlan part (plan_of_branches (branches_view slice))
branches_part o part x slice found is given = branches_handed part x slice is (found (plan_of_form (if_statement_view x)) given)

pub last_part : (o part : Option Plan) (x : IfStatement) → ((whole : p.Plan) → IsPlan o whole → IsPlan part (part_of whole 1)) → IsPlan o (plan_of_form (if_statement_view x)) → IsPlan part (plan_of_else (else_view (out-IfStatement x).last))
last_part o part x found given = last_handed part x (found (plan_of_form (if_statement_view x)) given)

pub loop_part : (a : Plan) (part : Option Plan) (x : WhileStatement) → ((whole : p.Plan) → IsPlan (Some a) whole → IsPlan part (part_of whole 0)) → plan_view a ≡ plan_of_form (while_statement_view x) → IsPlan part (plan_of_body (body_view (out-WhileStatement x).body))
loop_part a part x found given = body_handed part x (found (plan_of_form (while_statement_view x)) (given_planned a (plan_of_form (while_statement_view x)) given))

pub block_statements : (a : Plan) (x : Block) (slice : List Statement) → slice ≡ (out-Block x).statements → plan_view a ≡ plan_of_block (block_view x) → IsPlan (Some a) (plan_of_stmts (statements_view slice))
unfolding IsPlan
block_statements a x slice is given = given ∙ block_planned x slice is
