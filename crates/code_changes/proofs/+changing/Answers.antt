use Rattle.std.proofs.Common.{arith, rules, ◌++◌, ap}
use Rattle.typing.specs.Changes.{declared_in, name_list, names_of_sig, changes_of_ex_form, changes_of_arm, changes_of_branch, changes_of_stmt_form, changes_of_simple_form}
use Rattle.code_tree.specs.Flat.{signature_view}
use Rattle.code_tree.specs.declared.types.Function.{out-Function}
use Rattle.code_tree.specs.declared.types.ArrowExpr.{out-ArrowExpr}
use Rattle.code_tree.specs.View.{statements_view}
use Rattle.code_changes.proofs.Views.{arm_is, branch_is, while_statement_is, assignment_is, arrow_expr_is}
use Rattle.code_changes.proofs.Forms.{postfix_changes, chain_changes, conditional_changes, if_changes, call_changes, block_changes, function_changes, named_changes, named_told, declared_told}
use Rattle.code_changes.proofs.Telling.{pair_told, triple_told, tells_function, tells_block}
use Rattle.code_changes.proofs.Parts.{exprs_begun, exprs_turned, exprs_ended, fields_begun, fields_turned, fields_ended, links_begun, links_turned, links_ended, operands_begun, operands_turned, operands_ended, arms_begun, arms_turned, arms_ended, statements_begun, statements_turned, statements_ended, branches_begun, branches_turned, branches_ended}
use Rattle.code_changes.proofs.+changing.Goals as goal

pub expressions::walk_exprs-loop-i-init : goal.expressions::walk_exprs-loop-i-init
expressions::walk_exprs-loop-i-init t c = exprs_begun c.args.walk.now c.args.all.now

pub expressions::walk_exprs-loop-i-preserved : goal.expressions::walk_exprs-loop-i-preserved
expressions::walk_exprs-loop-i-preserved t c = exprs_turned c.args.walk.now c.loop-i.walk c.walk_expr.new.walk c.args.all.now c.loop-i.i c.index-all-i.result (omega arith) c.index-all-i.is c.loop-i.invariant c.in_ok-walk_expr.ensures

pub expressions::walk_exprs-returns : goal.expressions::walk_exprs-returns
expressions::walk_exprs-returns t c = exprs_ended c.args.walk.now c.loop-i.walk c.args.all.now c.loop-i.i (omega arith) c.loop-i.invariant

pub expressions::walk_fields-loop-i-init : goal.expressions::walk_fields-loop-i-init
expressions::walk_fields-loop-i-init t c = fields_begun c.args.walk.now c.args.all.now

pub expressions::walk_fields-loop-i-preserved : goal.expressions::walk_fields-loop-i-preserved
expressions::walk_fields-loop-i-preserved t c = fields_turned c.args.walk.now c.loop-i.walk c.walk_field.new.walk c.args.all.now c.loop-i.i c.index-all-i.result (omega arith) c.index-all-i.is c.loop-i.invariant c.in_ok-walk_field.ensures

pub expressions::walk_fields-returns : goal.expressions::walk_fields-returns
expressions::walk_fields-returns t c = fields_ended c.args.walk.now c.loop-i.walk c.args.all.now c.loop-i.i (omega arith) c.loop-i.invariant

pub expressions::walk_links-loop-i-init : goal.expressions::walk_links-loop-i-init
expressions::walk_links-loop-i-init t c = links_begun c.args.walk.now c.args.all.now

pub expressions::walk_links-loop-i-preserved : goal.expressions::walk_links-loop-i-preserved
expressions::walk_links-loop-i-preserved t c = links_turned c.args.walk.now c.loop-i.walk c.walk_link.new.walk c.args.all.now c.loop-i.i c.index-all-i.result (omega arith) c.index-all-i.is c.loop-i.invariant c.in_ok-walk_link.ensures

pub expressions::walk_links-returns : goal.expressions::walk_links-returns
expressions::walk_links-returns t c = links_ended c.args.walk.now c.loop-i.walk c.args.all.now c.loop-i.i (omega arith) c.loop-i.invariant

pub expressions::walk_operands-loop-i-init : goal.expressions::walk_operands-loop-i-init
expressions::walk_operands-loop-i-init t c = operands_begun c.args.walk.now c.args.all.now

pub expressions::walk_operands-loop-i-preserved : goal.expressions::walk_operands-loop-i-preserved
expressions::walk_operands-loop-i-preserved t c = operands_turned c.args.walk.now c.loop-i.walk c.walk_operand.new.walk c.args.all.now c.loop-i.i c.index-all-i.result (omega arith) c.index-all-i.is c.loop-i.invariant c.in_ok-walk_operand.ensures

pub expressions::walk_operands-returns : goal.expressions::walk_operands-returns
expressions::walk_operands-returns t c = operands_ended c.args.walk.now c.loop-i.walk c.args.all.now c.loop-i.i (omega arith) c.loop-i.invariant

pub expressions::walk_arms-loop-i-init : goal.expressions::walk_arms-loop-i-init
expressions::walk_arms-loop-i-init t c = arms_begun c.args.walk.now c.args.all.now

pub expressions::walk_arms-loop-i-preserved : goal.expressions::walk_arms-loop-i-preserved
expressions::walk_arms-loop-i-preserved t c = arms_turned c.args.walk.now c.loop-i.walk c.walk_arm.new.walk c.args.all.now c.loop-i.i c.index-all-i.result (omega arith) c.index-all-i.is c.loop-i.invariant c.in_ok-walk_arm.ensures

pub expressions::walk_arms-returns : goal.expressions::walk_arms-returns
expressions::walk_arms-returns t c = arms_ended c.args.walk.now c.loop-i.walk c.args.all.now c.loop-i.i (omega arith) c.loop-i.invariant

pub statements::walk_statements-loop-i-init : goal.statements::walk_statements-loop-i-init
statements::walk_statements-loop-i-init t c = statements_begun c.args.walk.now c.args.all.now

pub statements::walk_statements-loop-i-preserved : goal.statements::walk_statements-loop-i-preserved
statements::walk_statements-loop-i-preserved t c = statements_turned c.args.walk.now c.loop-i.walk c.walk_statement.new.walk c.args.all.now c.loop-i.i c.index-all-i.result (omega arith) c.index-all-i.is c.loop-i.invariant c.in_ok-walk_statement.ensures

pub statements::walk_statements-returns : goal.statements::walk_statements-returns
statements::walk_statements-returns t c = statements_ended c.args.walk.now c.loop-i.walk c.args.all.now c.loop-i.i (omega arith) c.loop-i.invariant

pub statements::walk_branches-loop-i-init : goal.statements::walk_branches-loop-i-init
statements::walk_branches-loop-i-init t c = branches_begun c.args.walk.now c.args.all.now

pub statements::walk_branches-loop-i-preserved : goal.statements::walk_branches-loop-i-preserved
statements::walk_branches-loop-i-preserved t c = branches_turned c.args.walk.now c.loop-i.walk c.walk_branch.new.walk c.args.all.now c.loop-i.i c.index-all-i.result (omega arith) c.index-all-i.is c.loop-i.invariant c.in_ok-walk_branch.ensures

pub statements::walk_branches-returns : goal.statements::walk_branches-returns
statements::walk_branches-returns t c = branches_ended c.args.walk.now c.loop-i.walk c.args.all.now c.loop-i.i (omega arith) c.loop-i.invariant

-- code of two or three parts

pub expressions::walk_arm-returns : goal.expressions::walk_arm-returns
expressions::walk_arm-returns t c =
    pair_told c.walk_expr-2.result c.args.walk.now c.walk_expr.new.walk c.walk_expr-2.new.walk _ _ _ c.walk_expr-2.ensures c.in_ok-walk_expr.ensures (ap changes_of_arm (arm_is c.args.arm.now))

pub expressions::walk_chain-returns : goal.expressions::walk_chain-returns
expressions::walk_chain-returns t c =
    pair_told c.walk_operands.result c.args.walk.now c.walk_expr.new.walk c.walk_operands.new.walk _ _ _ c.walk_operands.ensures c.in_ok-walk_expr.ensures (chain_changes c.args.e.now c.get.result.now c.as_slice.result.now (search rules) (search rules))

pub expressions::walk_conditional-returns : goal.expressions::walk_conditional-returns
expressions::walk_conditional-returns t c =
    pair_told c.walk_expr.result c.args.walk.now c.walk_arms.new.walk c.walk_expr.new.walk _ _ _ c.walk_expr.ensures c.in_ok-walk_arms.ensures (conditional_changes c.args.e.now c.as_slice.result.now c.get.result.now (search rules) (search rules))

pub expressions::walk_postfix-returns : goal.expressions::walk_postfix-returns
expressions::walk_postfix-returns t c =
    pair_told c.walk_links.result c.args.walk.now c.walk_expr.new.walk c.walk_links.new.walk _ _ _ c.walk_links.ensures c.in_ok-walk_expr.ensures (postfix_changes c.args.e.now c.get.result.now c.as_slice.result.now (search rules) (search rules))

pub expressions::walk_link-returns-in_ok-walk_exprs-in-Call : goal.expressions::walk_link-returns-in_ok-walk_exprs-in-Call
expressions::walk_link-returns-in_ok-walk_exprs-in-Call t c =
    pair_told c.set_all.result c.args.walk.now c.walk_exprs.new.walk c.set_all.new.self _ _ _ c.set_all.ensures c.in_ok-walk_exprs-in-Call.ensures (call_changes c.args.link.now c.as_slice.result.now c.in-Call.arguments c.in-Call.comma (search rules) (search rules))

pub statements::walk_if-returns : goal.statements::walk_if-returns
statements::walk_if-returns t c =
    pair_told c.walk_else.result c.args.walk.now c.walk_branches.new.walk c.walk_else.new.walk _ _ _ c.walk_else.ensures c.in_ok-walk_branches.ensures (if_changes c.args.statement.now c.as_slice.result.now (search rules))

pub statements::walk_branch-returns : goal.statements::walk_branch-returns
statements::walk_branch-returns t c =
    pair_told c.walk_body.result c.args.walk.now c.walk_expr.new.walk c.walk_body.new.walk _ _ _ c.walk_body.ensures c.in_ok-walk_expr.ensures (ap changes_of_branch (branch_is c.args.branch.now))

pub statements::walk_while-returns : goal.statements::walk_while-returns
statements::walk_while-returns t c =
    pair_told c.walk_body.result c.args.walk.now c.walk_expr.new.walk c.walk_body.new.walk _ _ _ c.walk_body.ensures c.in_ok-walk_expr.ensures (ap changes_of_stmt_form (while_statement_is c.args.statement.now))

pub statements::walk_assignment-returns : goal.statements::walk_assignment-returns
statements::walk_assignment-returns t c =
    triple_told c.change_of_target.result c.args.walk.now c.walk_expr.new.walk c.walk_expr-2.new.walk c.change_of_target.new.walk _ _ _ _ c.change_of_target.ensures c.in_ok-walk_expr-2.ensures c.in_ok-walk_expr.ensures (ap changes_of_simple_form (assignment_is c.args.assignment.now))

pub statements::walk_statement-returns-in-Function : goal.statements::walk_statement-returns-in-Function
statements::walk_statement-returns-in-Function t c = declared_told c.walk_function.result c.args.walk.now c.walk_function.new.walk c.args.statement.now c.in-Function.function (search rules) c.walk_function.ensures

pub expressions::walk_form-returns-in-Function : goal.expressions::walk_form-returns-in-Function
expressions::walk_form-returns-in-Function t c = named_told c.walk_named.result c.args.walk.now c.walk_named.new.walk c.args.form.now _ (search rules) c.walk_named.ensures

-- scopes

pub expressions::walk_function-returns : goal.expressions::walk_function-returns
expressions::walk_function-returns t c =
    tells_function c.as_slice.result.now (names_of_sig (signature_view (out-Function c.args.function.now).signature) ++ declared_in (statements_view c.as_slice-statements.result.now)) c.in_ok-outside.outside c.args.walk.now c.enter.new.self c.walk_statements.new.walk c.leave.new.self _ _
    c.in_ok-outside.ensures (search rules) c.in_ok-walk_statements.ensures c.leave.ensures (function_changes c.args.function.now c.as_slice-statements.result.now (search rules))

pub expressions::walk_named-returns : goal.expressions::walk_named-returns
expressions::walk_named-returns t c =
    tells_block c.as_slice.result.now (name_list (out-Function c.args.function.now).name) c.in_ok-outside.outside c.args.walk.now c.enter.new.self c.walk_function.new.walk c.leave.new.self _ _
    c.in_ok-outside.ensures (search rules) c.in_ok-walk_function.ensures c.leave.ensures (named_changes c.args.function.now)

pub expressions::walk_arrow-returns : goal.expressions::walk_arrow-returns
expressions::walk_arrow-returns t c =
    tells_function c.as_slice.result.now (names_of_sig (signature_view (out-ArrowExpr c.args.arrow.now).signature)) c.in_ok-outside.outside c.args.walk.now c.enter.new.self c.walk_arrow_body.new.walk c.leave.new.self _ _
    c.in_ok-outside.ensures (search rules) c.in_ok-walk_arrow_body.ensures c.leave.ensures (ap changes_of_ex_form (arrow_expr_is c.args.arrow.now))

pub statements::walk_block-returns : goal.statements::walk_block-returns
statements::walk_block-returns t c =
    tells_block c.as_slice.result.now (declared_in (statements_view c.as_slice-statements.result.now)) c.in_ok-outside.outside c.args.walk.now c.enter.new.self c.walk_statements.new.walk c.leave.new.self _ _
    c.in_ok-outside.ensures (search rules) c.in_ok-walk_statements.ensures c.leave.ensures (block_changes c.args.block.now c.as_slice-statements.result.now (search rules))
