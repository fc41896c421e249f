use Rattle.std.proofs.Common.{[], List, ap, sym, subst, arith}
use Rattle.typing.specs.Changes.{changes_of_branch, changes_of_ex, changes_of_body, changes_of_stmts}
use Rattle.js_grammar.specs.Code.{declares, function_stmt, does, nested}
use Rattle.code_tree.specs.View.{expr_view, body_view, statements_view, block_view, declaration_view, function_view, simple_view, if_statement_view, while_statement_view}
use Rattle.code_tree.specs.declared.types.Branch.{out-Branch}
use Rattle.code_tree.specs.declared.types.Statement.{out-Statement}
use Rattle.code_changes.specs.declared.change.Change.{Change}
use Rattle.code_changes.proofs.Views.{branch_is, statement_form_function}
use Rattle.code_plans.specs.Plans.{plan_of_body, plan_of_branch, plan_of_block, plan_of_else, plan_of_form, no_plan}
use Rattle.code_plans.specs.View.{Adds}
use Rattle.code_plans.proofs.Trees.{statement_form_declaration, statement_form_simple, statement_form_if, statement_form_while, statement_form_block, last_else_body, body_block}
use Rattle.code_plans.proofs.Parts.{statements_none, statements_more, statements_begun, statements_turned, branches_none, branches_more, branches_all, branches_begun, branches_turned, branches_ended}
use Rattle.code_plans.proofs.Forms.{statements_made, block_made, block_told, loop_made, loop_told, if_made, if_told, made_as, told_as, told_both, stmt_as, stmt_told_as}
use Rattle.code_plans.proofs.plans.+planning.Goals as goal

pub plan_of_statements-loop-i-init : goal.plan_of_statements-loop-i-init
plan_of_statements-loop-i-init t c = record {
  made = statements_none c.args.all.now c.new-parts.result c.new-parts.ensures;
  told = subst (λ (l : List Change). Adds [] l (changes_of_stmts (statements_view []))) (sym c.new-changes.ensures) (statements_begun [] c.args.all.now);
}

pub plan_of_statements-loop-i-preserved : goal.plan_of_statements-loop-i-preserved
plan_of_statements-loop-i-preserved t c = record {
  made = statements_more c.args.all.now c.loop-i.i c.index-all-i.result c.loop-i.parts c.push.new.self c.in_ok-part.part (omega arith) c.index-all-i.is c.loop-i.invariant.made c.in_ok-part.ensures.made c.in_ok-push.ensures.ok;
  told = statements_turned [] c.loop-i.changes c.plan_of_statement.new.out c.args.all.now c.loop-i.i c.index-all-i.result (omega arith) c.index-all-i.is c.loop-i.invariant.told c.in_ok-part.ensures.told;
}

pub plan_of_statements-returns : goal.plan_of_statements-returns
plan_of_statements-returns t c =
    statements_made c.in_ok-made.made c.args.all.now c.loop-i.i c.loop-i.changes c.as_slice.result.now c.loop-i.parts (omega arith) c.as_slice.ensures c.loop-i.invariant.made c.loop-i.invariant.told c.in_ok-made.ensures

pub plan_of_block-returns-clause-made : goal.plan_of_block-returns-clause-made
plan_of_block-returns-clause-made t c = block_made c.args.block.now c.in_ok-made.made c.as_slice-statements.result.now c.as_slice-statements.ensures c.in_ok-made.ensures

pub plan_of_block-returns-clause-told : goal.plan_of_block-returns-clause-told
plan_of_block-returns-clause-told t c =
    block_told c.args.block.now c.as_slice-statements.result.now c.in_ok-made.made c.in_ok-own.own c.as_slice.result.now c.args.out.now c.add_outside.new.out c.as_slice-statements.ensures c.in_ok-made.ensures c.in_ok-own.ensures c.as_slice.ensures c.in_ok-add_outside.ensures

pub plan_of_body-returns-in-Block-clause-made : goal.plan_of_body-returns-in-Block-clause-made
plan_of_body-returns-in-Block-clause-made t c = made_as c.plan_of_block.result (plan_of_block (block_view c.in-Block.block)) _ (sym (ap plan_of_body (body_block c.args.body.now c.in-Block.block c.in-Block.is))) c.plan_of_block.ensures.made

pub plan_of_loop-returns : goal.plan_of_loop-returns
plan_of_loop-returns t c =
    loop_made c.args.statement.now c.in_ok-made.made c.in_ok-body.body c.new-changes.result c.plan_of_expr.new.out c.plan_of_body.new.out c.as_slice.result.now c.new-parts.result c.push.new.self
    c.new-changes.ensures c.in_ok-plan_of_expr.ensures.told c.in_ok-body.ensures.told c.in_ok-body.ensures.made c.new-parts.ensures c.in_ok-push.ensures.ok c.as_slice.ensures c.in_ok-made.ensures

pub plan_of_while-returns-clause-told : goal.plan_of_while-returns-clause-told
plan_of_while-returns-clause-told t c = loop_told c.args.statement.now c.in_ok-made.made c.as_slice.result.now c.args.out.now c.add_all.new.out c.in_ok-made.ensures c.as_slice.ensures c.in_ok-add_all.ensures

pub plan_of_if-returns-clause-made : goal.plan_of_if-returns-clause-made
plan_of_if-returns-clause-made t c =
    if_made c.args.statement.now c.of_parts-2.result c.of_parts.result c.in_ok-last.last c.new-parts.result c.push.new.self c.push-2.new.self c.in_ok-branches.branches c.as_slice.result.now c.as_slice.ensures c.in_ok-branches.ensures.made c.of_parts.ensures c.in_ok-last.ensures.made
    c.new-parts.ensures c.in_ok-push.ensures.ok c.in_ok-push-2.ensures.ok c.of_parts-2.ensures

pub plan_of_if-returns-clause-told : goal.plan_of_if-returns-clause-told
plan_of_if-returns-clause-told t c = if_told c.args.statement.now c.as_slice.result.now c.args.out.now c.plans_of_branches.new.out c.plan_of_else.new.out c.as_slice.ensures c.in_ok-branches.ensures.told c.in_ok-last.ensures.told

pub plans_of_branches-loop-i-init : goal.plans_of_branches-loop-i-init
plans_of_branches-loop-i-init t c = record {
  made = branches_none c.args.all.now c.new-parts.result c.new-parts.ensures;
  told = branches_begun c.args.out.now c.args.all.now;
}

pub plans_of_branches-loop-i-preserved : goal.plans_of_branches-loop-i-preserved
plans_of_branches-loop-i-preserved t c = record {
  made = branches_more c.args.all.now c.loop-i.i c.index-all-i.result c.loop-i.parts c.push.new.self c.in_ok-part.part (omega arith) c.index-all-i.is c.loop-i.invariant.made c.in_ok-part.ensures.made c.in_ok-push.ensures.ok;
  told = branches_turned c.args.out.now c.loop-i.out c.plan_of_branch.new.out c.args.all.now c.loop-i.i c.index-all-i.result (omega arith) c.index-all-i.is c.loop-i.invariant.told c.in_ok-part.ensures.told;
}

pub plans_of_branches-returns-clause-made : goal.plans_of_branches-returns-clause-made
plans_of_branches-returns-clause-made t c = branches_all c.args.all.now c.loop-i.i c.loop-i.parts (omega arith) c.loop-i.invariant.made

pub plans_of_branches-returns-clause-told : goal.plans_of_branches-returns-clause-told
plans_of_branches-returns-clause-told t c = branches_ended c.args.out.now c.loop-i.out c.args.all.now c.loop-i.i (omega arith) c.loop-i.invariant.told

pub plan_of_branch-returns-clause-made : goal.plan_of_branch-returns-clause-made
plan_of_branch-returns-clause-made t c = made_as c.plan_of_body.result (plan_of_body (body_view (out-Branch c.args.branch.now).body)) _ (sym (ap plan_of_branch (branch_is c.args.branch.now))) c.plan_of_body.ensures.made

pub plan_of_branch-returns-clause-told : goal.plan_of_branch-returns-clause-told
plan_of_branch-returns-clause-told t c =
    told_both c.plan_of_body.result c.args.out.now c.plan_of_expr.new.out c.plan_of_body.new.out (changes_of_ex (expr_view (out-Branch c.args.branch.now).test)) (changes_of_body (body_view (out-Branch c.args.branch.now).body)) _ (sym (ap changes_of_branch (branch_is c.args.branch.now)))
    c.in_ok-plan_of_expr.ensures.told c.plan_of_body.ensures.told

pub plan_of_else-returns-in-Body-clause-made : goal.plan_of_else-returns-in-Body-clause-made
plan_of_else-returns-in-Body-clause-made t c = made_as c.plan_of_body.result (plan_of_body (body_view c.in-Body.body)) _ (sym (ap plan_of_else (last_else_body c.args.last.now c.in-Body.body c.in-Body.is))) c.plan_of_body.ensures.made

pub plan_of_statement-returns-in-Declaration-clause-made : goal.plan_of_statement-returns-in-Declaration-clause-made
plan_of_statement-returns-in-Declaration-clause-made t c =
    made_as c.plan_of_expr.result no_plan _ (stmt_as c.args.statement.now (declares (declaration_view c.in-Declaration.declaration)) (statement_form_declaration (out-Statement c.args.statement.now).form c.in-Declaration.declaration c.in-Declaration.is)) c.plan_of_expr.ensures.made

pub plan_of_statement-returns-in-Function-clause-made : goal.plan_of_statement-returns-in-Function-clause-made
plan_of_statement-returns-in-Function-clause-made t c =
    made_as c.plan_of_function.result no_plan _ (stmt_as c.args.statement.now (function_stmt (function_view c.in-Function.function)) (statement_form_function (out-Statement c.args.statement.now).form c.in-Function.function c.in-Function.is)) c.plan_of_function.ensures.made

pub plan_of_statement-returns-in-Function-clause-told : goal.plan_of_statement-returns-in-Function-clause-told
plan_of_statement-returns-in-Function-clause-told t c =
    told_as c.plan_of_function.result c.args.out.now c.plan_of_function.new.out _ _ (stmt_told_as c.args.statement.now (function_stmt (function_view c.in-Function.function)) (statement_form_function (out-Statement c.args.statement.now).form c.in-Function.function c.in-Function.is)) c.plan_of_function.ensures.told

pub plan_of_statement-returns-in-Simple-clause-made : goal.plan_of_statement-returns-in-Simple-clause-made
plan_of_statement-returns-in-Simple-clause-made t c =
    made_as c.plan_of_simple.result no_plan _ (stmt_as c.args.statement.now (does (simple_view c.in-Simple.simple)) (statement_form_simple (out-Statement c.args.statement.now).form c.in-Simple.simple c.in-Simple.is)) c.plan_of_simple.ensures.made

pub plan_of_statement-returns-in-If-clause-made : goal.plan_of_statement-returns-in-If-clause-made
plan_of_statement-returns-in-If-clause-made t c =
    made_as c.plan_of_if.result (plan_of_form (if_statement_view c.in-If.statement)) _ (stmt_as c.args.statement.now (if_statement_view c.in-If.statement) (statement_form_if (out-Statement c.args.statement.now).form c.in-If.statement c.in-If.is)) c.plan_of_if.ensures.made

pub plan_of_statement-returns-in-While-clause-made : goal.plan_of_statement-returns-in-While-clause-made
plan_of_statement-returns-in-While-clause-made t c =
    made_as c.plan_of_while.result (plan_of_form (while_statement_view c.in-While.statement)) _ (stmt_as c.args.statement.now (while_statement_view c.in-While.statement) (statement_form_while (out-Statement c.args.statement.now).form c.in-While.statement c.in-While.is)) c.plan_of_while.ensures.made

pub plan_of_statement-returns-in-Block-clause-made : goal.plan_of_statement-returns-in-Block-clause-made
plan_of_statement-returns-in-Block-clause-made t c =
    made_as c.plan_of_block.result (plan_of_block (block_view c.in-Block.block)) _ (stmt_as c.args.statement.now (nested (block_view c.in-Block.block)) (statement_form_block (out-Statement c.args.statement.now).form c.in-Block.block c.in-Block.is)) c.plan_of_block.ensures.made
