use Rattle.std.proofs.Common.{List, None, take, drop, ◌+◌, ◌-◌, Ok, Option, Some, ap, arith, map, refl, reverse, rules, sym, ◌∙◌}
use Rattle.std.specs.Option.{option_copied, option_map}
use Rattle.check_moves.proofs.Following.{follows_through}
use Rattle.check_moves.specs.View.{around, env, now, scope, told}
use Rattle.expression_moves.specs.declared.branches.Chosen.{Chosen}
use Rattle.check_world.specs.View.{world_view}
use Rattle.code_changes.specs.View.{changes_view}
use Rattle.code_tree.specs.Flat.{operator_view, signature_view}
use Rattle.code_tree.specs.View.{block_view, body_view, branches_view, expr_form_view, expr_view, exprs_view, field_form_view, fields_view, link_view, links_view, operands_view, simple_form_view, statement_form_view, statements_view, while_statement_view}
use Rattle.code_tree.proofs.types.Operand.TheLaws.{the_size}
use Rattle.code_tree.proofs.types.Branch.TheLaws.{the_size as branch_size}
use Rattle.code_tree.proofs.types.Statement.TheLaws.{the_size as statement_size}
use Rattle.code_tree.specs.declared.types.ArrowExpr.{out-ArrowExpr}
use Rattle.code_tree.specs.declared.types.Branch.{out-Branch}
use Rattle.code_tree.specs.declared.types.Declaration.{out-Declaration}
use Rattle.code_tree.specs.declared.types.Expr.{Expr, out-Expr}
use Rattle.code_tree.specs.declared.types.Field.{Field, out-Field}
use Rattle.code_tree.specs.declared.types.Link.{Link, out-Link}
use Rattle.code_tree.specs.declared.types.Operand.{Operand, out-Operand}
use Rattle.code_tree.specs.declared.types.Operator.{Operator}
use Rattle.code_tree.specs.declared.types.PostfixExpr.{out-PostfixExpr}
use Rattle.code_tree.specs.declared.types.Simple.{out-Simple}
use Rattle.code_tree.specs.declared.types.Statement.{out-Statement}
use Rattle.code_tree.specs.declared.types.WhileStatement.{out-WhileStatement}
use Rattle.flow_facts.specs.declared.place.Place.{Place}
use Rattle.js_grammar.specs.Code.{ArrowBody, Body, Else, Ex, FieldForm, LinkForm, OperandForm, does, elements, fields, index, member, right_side, variable}
use Rattle.literal_reads.specs.Keys.{entry_view}
use Rattle.literal_reads.specs.View.{candidate_view, elements_view, entries_view}
use Rattle.member_steps.specs.View.{arguments_view}
use Rattle.part_steps.specs.Goals.{goal_of_property}
use Rattle.part_steps.specs.View.{goal_view}
use Rattle.place_tests.specs.View.{comparison_view}
use Rattle.scopes.specs.Rows.{binding_view}
use Rattle.scopes.specs.View.{scope_view}
use Rattle.type_values.specs.declared.types.FlowType.{FlowType}
use Rattle.type_values.specs.declared.types.Param.{Param}
use Rattle.typing.specs.Changes.{changes_of_ex, changes_of_stmts}
use Rattle.typing.specs.Forms.{compared, first_want, nullish_now, nullish_out, place_before}
use Rattle.typing.specs.Members.{levels, one_function}
use Rattle.typing.specs.Objects.{Candidate, all_given, array_type, object_type}
use Rattle.typing.specs.States.{after, change_notes, noted_out}
use Rattle.typing.specs.Typing.{read, read_args, read_arrow, read_body, read_else, read_field, read_fields, read_link, read_links, read_operand, read_operands}
use Rattle.check_expr.proofs.Aims.{aim_of, call_aim, element_told, last_in, link_aim_of, no_part, part_aim, part_parts, target_goal, target_now}
use Rattle.check_expr.proofs.Assigning.{assigned_nothing}
use Rattle.check_expr.proofs.Bodied.{block_body_told, block_form_told, evaluate_told, function_stmt_told, ref_map, side_told, simple_as, throw_told, value_body_told}
use Rattle.check_expr.proofs.Branching.{conditional_form_told, if_told, stmt_as, while_told}
use Rattle.check_expr.proofs.Chains.{operands_all_read, operands_begin, operands_next, operands_run, place_gone, run_at, run_cut, run_here, run_begin, run_follows, run_met, run_next}
use Rattle.check_expr.proofs.Choices.{arms_begin, arms_chosen, arms_next, arms_now, branches_arms, branches_begin, branches_env, branches_next, statements_all, statements_begin, statements_next}
use Rattle.check_expr.proofs.Entering.{arrow_block_told, arrow_value_told, function_told, inside_on, outside_on}
use Rattle.statement_moves.proofs.Entering.{made}
use Rattle.check_expr.proofs.Leaving.{simple_told}
use Rattle.check_expr.proofs.Parts.{most_at, most_part}
use Rattle.check_expr.proofs.Other.{last_some, no_target, plain_form, same_now}
use Rattle.check_expr.proofs.Plain.{wanted}
use Rattle.check_expr.proofs.Plainly.{arrow_told, function_ex_told, number_told, prefix_told, read_as, str_told}
use Rattle.check_expr.proofs.Properties.{fields_all_read, fields_begin, fields_next, row_is, rows_length}
use Rattle.check_expr.proofs.Sequences.{args_all, args_next, args_none, arguments_push, elements_all, elements_next, elements_none, links_all_read, links_begin, links_next, told_ty}
use Rattle.check_expr.proofs.Sides.{nullish_follows, nullish_nested, nullish_way, operator_told, plain_operand, side_as}
use Rattle.check_expr.proofs.Steps.{env_on, told_on}
use Rattle.check_expr.proofs.Tests.{arm_chosen, arm_now, arm_out, branch_env, branch_way, conditional_fits, conditional_follows, if_fits, if_follows, test_read, turned_fits, turned_leaves, while_follows}
use Rattle.check_expr.proofs.Told.{array_told, call_told, chain_told, expr_told, index_told, nullish_told, object_told, postfix_told, shorthand_told}
use Rattle.check_expr.proofs.Valued.{assigned_told, declared_told, returned_told}
use Rattle.check_expr.proofs.Views.{arrow_body_block, arrow_body_value, expr_form_array, expr_form_chain, expr_form_conditional, expr_form_null, expr_form_object, expr_form_paren, expr_form_postfix, expr_form_truth, expr_form_variable, expr_is, field_form_shorthand, field_form_valued, link_form_call, link_form_index, link_form_member, operand_form_as, operand_form_right, simple_form_assign, simple_form_break, simple_form_continue, simple_form_return, simple_form_return_value, simple_is}
use Rattle.code_plans.specs.Plans.{plan_of_block, plan_of_branches, plan_of_form, plan_of_stmts, planned}
use Rattle.code_plans.proofs.Trees.{body_block, body_simple, last_else_body, last_else_nothing, statement_form_block, statement_form_declaration, statement_form_if, statement_form_simple, statement_form_while}
use Rattle.code_plans.proofs.Forms.{block_made}
use Rattle.code_plans.proofs.Handing.{block_planned, branch_handed, loop_planned, statement_handed}
use Rattle.check_expr.proofs.Sizes.{if_in, while_in, nested_in, else_in, body_in, branches_in, block_in, last_less, loop_less}
use Rattle.check_expr.proofs.Planned.{if_planned, while_planned, nested_planned, else_planned, body_planned, branches_part, last_part, loop_part, block_statements, given_planned}
use Rattle.code_plans.proofs.Views.{plan_given}
use Rattle.check_expr.specs.Bodies.{value_body}
use Rattle.check_expr.specs.Targets.{Aim, aim, aim_goal, aim_now, link_aim}
use Rattle.check_expr.proofs.+reading.Goals as goal

pub expressions::read-returns-clause-told : goal.expressions::read-returns-clause-told
expressions::read-returns-clause-told t c = c.in_ok-noted.ensures.told ∙ expr_told (world_view c.args.world.now) c.args.e.now (option_copied c.args.want) c.args.state.now _ c.in_ok-read.ensures.told

pub expressions::read-returns-clause-follows : goal.expressions::read-returns-clause-follows
expressions::read-returns-clause-follows t c = follows_through None c.in_ok-read.read.fork c.in_ok-noted.noted.fork c.args.state.now c.read_form.new.state c.noted.new.self c.in_ok-read.ensures.follows c.in_ok-noted.ensures.follows

pub expressions::read_form-returns-in-Paren-clause-told : goal.expressions::read_form-returns-in-Paren-clause-told
expressions::read_form-returns-in-Paren-clause-told t c =
    told_on c.read.result c.read.new.state _ _ c.read.ensures.told (ap (λ (e : Expr). read (world_view c.args.world.now) (expr_view e) (scope c.args.state.now) (option_copied c.args.want) (now c.args.state.now)) c.get.ensures ∙ sym (read_as (world_view c.args.world.now) c.args.first c.args.end (expr_form_view c.args.form.now) _ (scope c.args.state.now) (option_copied c.args.want) (now c.args.state.now) (expr_form_paren c.args.form.now c.in-Paren.inner c.in-Paren.is)))

pub expressions::read_form-returns-in-Conditional-clause-told : goal.expressions::read_form-returns-in-Conditional-clause-told
expressions::read_form-returns-in-Conditional-clause-told t c = told_on c.read_conditional.result c.read_conditional.new.state _ _ (c.read_conditional.ensures.told c.args.first) (sym (read_as (world_view c.args.world.now) c.args.first c.args.end (expr_form_view c.args.form.now) _ (scope c.args.state.now) (option_copied c.args.want) (now c.args.state.now) (expr_form_conditional c.args.form.now c.in-Conditional.e c.in-Conditional.is)))

pub expressions::read_form-returns-in-Array-clause-told : goal.expressions::read_form-returns-in-Array-clause-told
expressions::read_form-returns-in-Array-clause-told t c =
    told_on c.read_array.result c.read_array.new.state _ _ (c.read_array.ensures.told c.in-Array.comma) (sym (read_as (world_view c.args.world.now) c.args.first c.args.end (expr_form_view c.args.form.now) _ (scope c.args.state.now) (option_copied c.args.want) (now c.args.state.now) (expr_form_array c.args.form.now c.in-Array.elements c.in-Array.comma c.in-Array.is ∙ ap (λ (es : List Expr). elements (exprs_view es) c.in-Array.comma) (sym c.as_slice.ensures))))

pub expressions::read_form-returns-in-Object-clause-told : goal.expressions::read_form-returns-in-Object-clause-told
expressions::read_form-returns-in-Object-clause-told t c =
    told_on c.read_object.result c.read_object.new.state _ _ (c.read_object.ensures.told c.in-Object.comma) (sym (read_as (world_view c.args.world.now) c.args.first c.args.end (expr_form_view c.args.form.now) _ (scope c.args.state.now) (option_copied c.args.want) (now c.args.state.now) (expr_form_object c.args.form.now c.in-Object.fields c.in-Object.comma c.in-Object.is ∙ ap (λ (fs : List Field). fields (fields_view fs) c.in-Object.comma) (sym c.as_slice-in-Object.ensures))))

pub expressions::read_form-returns-in_ok-asked-in_default-clause-told : goal.expressions::read_form-returns-in_ok-asked-in_default-clause-told
expressions::read_form-returns-in_ok-asked-in_default-clause-told t c = wanted (world_view c.args.world.now) c.args.first c.args.end (expr_form_view c.args.form.now) (scope c.args.state.now) (option_copied c.args.want) (now c.args.state.now) _ _ (plain_form c.args.form.now c.in_default.not-Paren c.in_default.not-Conditional c.in_default.not-Array c.in_default.not-Object) c.in_ok-read-in_default.ensures.told c.in_ok-asked-in_default.ensures.told

pub expressions::read_form-returns-in_ok-asked-in_default-clause-follows : goal.expressions::read_form-returns-in_ok-asked-in_default-clause-follows
expressions::read_form-returns-in_ok-asked-in_default-clause-follows t c = follows_through None c.in_ok-read-in_default.read.fork c.in_ok-asked-in_default.asked.fork c.args.state.now c.read_plain.new.state c.against.new.self c.in_ok-read-in_default.ensures.follows c.in_ok-asked-in_default.ensures.follows

pub expressions::read_plain-returns-in_ok-ty-in-Number-clause-told : goal.expressions::read_plain-returns-in_ok-ty-in-Number-clause-told
expressions::read_plain-returns-in_ok-ty-in-Number-clause-told t c = c.plainly.ensures.told ∙ number_told (world_view c.args.world.now) c.args.first c.args.end c.args.form.now c.in-Number.digits c.in_ok-ty-in-Number.ty (scope c.args.state.now) (now c.args.state.now) c.in-Number.is c.in_ok-ty-in-Number.ensures

pub expressions::read_plain-returns-in_ok-share-in-Str-clause-told : goal.expressions::read_plain-returns-in_ok-share-in-Str-clause-told
expressions::read_plain-returns-in_ok-share-in-Str-clause-told t c = c.plainly-in-Str.ensures.told ∙ str_told (world_view c.args.world.now) c.args.first c.args.end c.args.form.now c.in-Str.text c.in_ok-share-in-Str.field-0 (scope c.args.state.now) (now c.args.state.now) c.in-Str.is c.in_ok-share-in-Str.ensures

pub expressions::read_plain-returns-in_ok-marked-in-Prefix-clause-told : goal.expressions::read_plain-returns-in_ok-marked-in-Prefix-clause-told
expressions::read_plain-returns-in_ok-marked-in-Prefix-clause-told t c = c.in_ok-marked-in-Prefix.ensures.told ∙ prefix_told (world_view c.args.world.now) c.args.first c.args.end c.args.form.now c.in-Prefix.marks c.as_slice.result.now c.in-Prefix.operand c.get-operand.result.now _ (scope c.args.state.now) (now c.args.state.now) c.in-Prefix.is c.as_slice.ensures c.get-operand.ensures c.in_ok-read-in-Prefix.ensures.told

pub expressions::read_plain-returns-in_ok-marked-in-Prefix-clause-follows : goal.expressions::read_plain-returns-in_ok-marked-in-Prefix-clause-follows
expressions::read_plain-returns-in_ok-marked-in-Prefix-clause-follows t c = follows_through None c.in_ok-read-in-Prefix.read.fork c.in_ok-marked-in-Prefix.marked.fork c.args.state.now c.read-in-Prefix.new.state c.read_prefixes.new.state c.in_ok-read-in-Prefix.ensures.follows c.in_ok-marked-in-Prefix.ensures.follows

pub expressions::read_plain-returns-in-Chain-clause-told : goal.expressions::read_plain-returns-in-Chain-clause-told
expressions::read_plain-returns-in-Chain-clause-told t c = told_on c.read_chain.result c.read_chain.new.state _ _ (c.read_chain.ensures.told c.args.end) (sym (read_as (world_view c.args.world.now) c.args.first c.args.end (expr_form_view c.args.form.now) _ (scope c.args.state.now) None (now c.args.state.now) (expr_form_chain c.args.form.now c.in-Chain.e c.in-Chain.is)))

pub expressions::read_plain-returns-in-Paren-clause-told : goal.expressions::read_plain-returns-in-Paren-clause-told
expressions::read_plain-returns-in-Paren-clause-told t c =
    told_on c.read.result c.read.new.state _ _ c.read.ensures.told (ap (λ (e : Expr). read (world_view c.args.world.now) (expr_view e) (scope c.args.state.now) None (now c.args.state.now)) c.get.ensures ∙ sym (read_as (world_view c.args.world.now) c.args.first c.args.end (expr_form_view c.args.form.now) _ (scope c.args.state.now) None (now c.args.state.now) (expr_form_paren c.args.form.now c.in-Paren.inner c.in-Paren.is)))

pub expressions::read_plain-returns-in-Conditional-clause-told : goal.expressions::read_plain-returns-in-Conditional-clause-told
expressions::read_plain-returns-in-Conditional-clause-told t c = told_on c.read_conditional.result c.read_conditional.new.state _ _ (c.read_conditional.ensures.told c.args.first) (sym (read_as (world_view c.args.world.now) c.args.first c.args.end (expr_form_view c.args.form.now) _ (scope c.args.state.now) None (now c.args.state.now) (expr_form_conditional c.args.form.now c.in-Conditional.e c.in-Conditional.is)))

pub expressions::read_plain-returns-in-Array-clause-told : goal.expressions::read_plain-returns-in-Array-clause-told
expressions::read_plain-returns-in-Array-clause-told t c =
    told_on c.read_array.result c.read_array.new.state _ _ (c.read_array.ensures.told c.in-Array.comma) (sym (read_as (world_view c.args.world.now) c.args.first c.args.end (expr_form_view c.args.form.now) _ (scope c.args.state.now) None (now c.args.state.now) (expr_form_array c.args.form.now c.in-Array.elements c.in-Array.comma c.in-Array.is ∙ ap (λ (es : List Expr). elements (exprs_view es) c.in-Array.comma) (sym c.as_slice-in-Array.ensures))))

pub expressions::read_plain-returns-in-Object-clause-told : goal.expressions::read_plain-returns-in-Object-clause-told
expressions::read_plain-returns-in-Object-clause-told t c =
    told_on c.read_object.result c.read_object.new.state _ _ (c.read_object.ensures.told c.in-Object.comma) (sym (read_as (world_view c.args.world.now) c.args.first c.args.end (expr_form_view c.args.form.now) _ (scope c.args.state.now) None (now c.args.state.now) (expr_form_object c.args.form.now c.in-Object.fields c.in-Object.comma c.in-Object.is ∙ ap (λ (fs : List Field). fields (fields_view fs) c.in-Object.comma) (sym c.as_slice-in-Object.ensures))))

pub expressions::read_plain-returns-in-Postfix-clause-told : goal.expressions::read_plain-returns-in-Postfix-clause-told
expressions::read_plain-returns-in-Postfix-clause-told t c = told_on c.read_postfix.result c.read_postfix.new.state _ _ (c.read_postfix.ensures.told c.args.end) (sym (read_as (world_view c.args.world.now) c.args.first c.args.end (expr_form_view c.args.form.now) _ (scope c.args.state.now) None (now c.args.state.now) (expr_form_postfix c.args.form.now c.in-Postfix.e c.in-Postfix.is)))

pub expressions::read_plain-returns-in_ok-ty-in-Function-clause-told : goal.expressions::read_plain-returns-in_ok-ty-in-Function-clause-told
expressions::read_plain-returns-in_ok-ty-in-Function-clause-told t c = c.plainly-in-Function.ensures.told ∙ function_ex_told (world_view c.args.world.now) c.args.first c.args.end c.args.form.now c.in-Function.function c.get-in-Function.result.now c.in_ok-ty-in-Function.ty c.args.state.now c.read_function.new.state c.in-Function.is c.get-in-Function.ensures c.in_ok-ty-in-Function.ensures.made

pub expressions::read_plain-returns-in_ok-ty-in-Arrow-clause-told : goal.expressions::read_plain-returns-in_ok-ty-in-Arrow-clause-told
expressions::read_plain-returns-in_ok-ty-in-Arrow-clause-told t c = c.plainly-in-Arrow.ensures.told ∙ arrow_told (world_view c.args.world.now) c.args.first c.args.end c.args.form.now c.in-Arrow.arrow c.get-in-Arrow.result.now c.in_ok-ty-in-Arrow.ty c.args.state.now c.read_arrow.new.state c.in-Arrow.is c.get-in-Arrow.ensures c.in_ok-ty-in-Arrow.ensures.made

pub expressions::read_chain-returns-clause-told : goal.expressions::read_chain-returns-clause-told
expressions::read_chain-returns-clause-told t c =
    λ end.
    c.in_ok-compared.ensures.told
    ∙ chain_told (world_view c.args.world.now) c.args.first end c.args.e.now (option_copied c.as_ref.result) c.get-left.result.now (option_map comparison_view c.in_ok-comparison.comparison) c.in_ok-place.place c.in_ok-first_part.first_part c.in_ok-chain.chain c.args.state.now c.read.new.state c.read_operands.new.state
    c.get-left.ensures (c.as_ref.ensures.value ∙ c.in_ok-want.ensures ∙ ap (λ (os : List Operand). first_want (world_view c.args.world.now) (operands_view os)) c.as_slice-operands.ensures) (c.in_ok-comparison.ensures ∙ ap (λ (os : List Operand). compared (scope_view c.args.state.now.scope) (expr_view c.get-left.result.now) (operands_view os)) c.as_slice-operands.ensures) c.in_ok-place.ensures c.in_ok-first_part.ensures.told c.in_ok-first_part.ensures.around (c.in_ok-chain.ensures.told ∙ ap (λ (os : List Operand). read_operands (world_view c.args.world.now) c.args.first (operands_view os) c.in_ok-place.place (scope c.read.new.state) (told c.in_ok-first_part.first_part c.read.new.state)) c.as_slice-operands.ensures)

pub expressions::read_chain-returns-clause-follows : goal.expressions::read_chain-returns-clause-follows
expressions::read_chain-returns-clause-follows t c = follows_through None c.in_ok-chain.chain.fork c.in_ok-compared.compared.fork c.args.state.now c.read_operands.new.state c.compare_place.new.state (follows_through None c.in_ok-first_part.first_part.fork c.in_ok-chain.chain.fork c.args.state.now c.read.new.state c.read_operands.new.state c.in_ok-first_part.ensures.follows c.in_ok-chain.ensures.follows) c.in_ok-compared.ensures.follows

pub expressions::read_conditional-meet_branches-requires-clause-nested : goal.expressions::read_conditional-meet_branches-requires-clause-nested
expressions::read_conditional-meet_branches-requires-clause-nested t c = conditional_fits (map (λ (k : Chosen). k.fork) (reverse c.in_ok-chosen.chosen.items)) c.in_ok-last.last.fork c.args.state.now c.read_arms.new.state c.read.new.state c.in_ok-chosen.ensures.leaves c.in_ok-last.ensures.follows

pub expressions::read_conditional-returns-clause-told : goal.expressions::read_conditional-returns-clause-told
expressions::read_conditional-returns-clause-told t c =
    λ first. conditional_form_told (world_view c.args.world.now) first c.args.end c.args.e.now c.as_slice.result.now c.get.result.now (option_copied c.args.want) c.in_ok-chosen.chosen.items c.in_ok-last.last c.in_ok-met.met c.args.state.now c.read_arms.new.state c.read.new.state c.meet_branches.new.state c.as_slice.ensures c.get.ensures c.in_ok-chosen.ensures.now c.in_ok-chosen.ensures.chosen c.in_ok-chosen.ensures.around c.in_ok-chosen.ensures.leaves c.in_ok-last.ensures.told c.in_ok-last.ensures.follows c.in_ok-met.ensures.told

pub expressions::read_conditional-returns-clause-follows : goal.expressions::read_conditional-returns-clause-follows
expressions::read_conditional-returns-clause-follows t c = conditional_follows (map (λ (k : Chosen). k.fork) (reverse c.in_ok-chosen.chosen.items)) c.in_ok-last.last.fork c.in_ok-met.met.fork c.args.state.now c.read_arms.new.state c.read.new.state c.meet_branches.new.state c.in_ok-chosen.ensures.leaves c.in_ok-last.ensures.follows c.in_ok-met.ensures.follows

pub expressions::read_arms-loop-i-init : goal.expressions::read_arms-loop-i-init
expressions::read_arms-loop-i-init t c = arms_begin (world_view c.args.world.now) c.args.arms.now (option_copied c.args.want) c.args.state.now _ (search rules)

pub expressions::read_arms-loop-i-preserved : goal.expressions::read_arms-loop-i-preserved
expressions::read_arms-loop-i-preserved t c =
    arms_next (world_view c.args.world.now) c.args.arms.now c.loop-i.i c.index-arms-i.result (option_copied c.args.want) c.args.state.now c.loop-i.state c.read_arm.new.state c.loop-i.chosen.items c.push.new.self.items c.in_ok-arm.arm
    (omega arith) c.index-arms-i.is c.loop-i.invariant c.in_ok-arm.ensures.now c.in_ok-arm.ensures.chosen c.in_ok-arm.ensures.around c.in_ok-arm.ensures.leaves (search rules)

pub expressions::read_arms-returns : goal.expressions::read_arms-returns
expressions::read_arms-returns t c =
    record {
      now = arms_now (world_view c.args.world.now) c.args.arms.now c.loop-i.i (option_copied c.args.want) c.args.state.now c.loop-i.state c.loop-i.chosen.items (omega arith) c.loop-i.invariant;
      chosen = arms_chosen (world_view c.args.world.now) c.args.arms.now c.loop-i.i (option_copied c.args.want) c.args.state.now c.loop-i.state c.loop-i.chosen.items (omega arith) c.loop-i.invariant;
      around = c.loop-i.invariant.same;
      leaves = c.loop-i.invariant.leaves;
    }

pub expressions::read_test-returns : goal.expressions::read_test-returns
expressions::read_test-returns t c = test_read _ c.in_ok-test.test c.in_ok-way.way c.args.state.now c.read.new.state c.part.new.state c.in_ok-test.ensures.told c.in_ok-test.ensures.around c.in_ok-test.ensures.follows (c.in_ok-way.ensures.now c.in_ok-test.test.ty) (c.in_ok-way.ensures.arm c.in_ok-test.test.ty) c.in_ok-way.ensures.around c.in_ok-way.ensures.follows

pub expressions::read_arm-turn-requires : goal.expressions::read_arm-turn-requires
expressions::read_arm-turn-requires t c = turned_fits (arm_out (world_view c.args.world.now) c.args.arm.now c.args.state.now) c.in_ok-fork.fork c.args.state.now c.read_test.new.state c.after.new.self c.in_ok-fork.ensures (follows_through None c.in_ok-branch.branch.fork None c.read_test.new.state c.read.new.state c.after.new.self c.in_ok-branch.ensures.follows c.in_ok-ty.ensures.follows)

pub expressions::read_arm-returns-clause-now : goal.expressions::read_arm-returns-clause-now
expressions::read_arm-returns-clause-now t c = arm_now (world_view c.args.world.now) c.args.arm.now (option_copied c.args.want) c.in_ok-fork.fork c.in_ok-branch.branch c.args.state.now c.read_test.new.state c.read.new.state c.after.new.self c.turn.new.self c.in_ok-fork.ensures c.in_ok-branch.ensures.told c.in_ok-branch.ensures.follows c.in_ok-ty.ensures.now c.in_ok-ty.ensures.follows c.in_ok-way.ensures.now

pub expressions::read_arm-returns-clause-chosen : goal.expressions::read_arm-returns-clause-chosen
expressions::read_arm-returns-clause-chosen t c = arm_chosen (world_view c.args.world.now) c.args.arm.now (option_copied c.args.want) c.in_ok-fork.fork c.in_ok-way.way c.in_ok-branch.branch c.in_ok-ty.ty c.args.state.now c.read_test.new.state c.read.new.state c.after.new.self c.turn.new.self c.in_ok-fork.ensures c.in_ok-branch.ensures.told c.in_ok-ty.ensures.now c.in_ok-ty.ensures.ty c.in_ok-way.ensures.arm

pub expressions::read_arm-returns-clause-leaves : goal.expressions::read_arm-returns-clause-leaves
expressions::read_arm-returns-clause-leaves t c =
    turned_leaves (arm_out (world_view c.args.world.now) c.args.arm.now c.args.state.now) c.in_ok-fork.fork c.in_ok-way.way c.args.state.now c.read_test.new.state c.after.new.self c.turn.new.self c.in_ok-fork.ensures (follows_through None c.in_ok-branch.branch.fork None c.read_test.new.state c.read.new.state c.after.new.self c.in_ok-branch.ensures.follows c.in_ok-ty.ensures.follows) c.in_ok-way.ensures.follows

pub expressions::read_array-returns-clause-told : goal.expressions::read_array-returns-clause-told
expressions::read_array-returns-clause-told t c =
    λ comma.
    c.in_ok-asked.ensures.told
    ∙ array_told (world_view c.args.world.now) c.args.first c.args.end c.args.elements.now comma (option_copied c.args.want) (option_copied c.whole_array-whole.result) (option_map elements_view c.in_ok-matched.matched) c.in_ok-types.types c.in_ok-ty.ty c.plainly-literal.result c.args.state.now c.read_elements.new.state
    c.in_ok-matched.ensures c.in_ok-types.ensures.read (c.in_ok-ty.ensures ∙ ap array_type c.as_slice.ensures) c.whole_array-whole.ensures c.plainly-literal.ensures.told

pub expressions::read_array-returns-clause-follows : goal.expressions::read_array-returns-clause-follows
expressions::read_array-returns-clause-follows t c = follows_through None c.plainly-literal.result.fork c.in_ok-asked.asked.fork c.args.state.now c.read_elements.new.state c.against.new.self (follows_through None None c.plainly-literal.result.fork c.args.state.now c.read_elements.new.state c.read_elements.new.state c.in_ok-types.ensures.follows c.plainly-literal.ensures.follows) c.in_ok-asked.ensures.follows

pub expressions::read_elements-loop-i-init : goal.expressions::read_elements-loop-i-init
expressions::read_elements-loop-i-init t c = elements_none (world_view c.args.world.now) c.args.elements.now (option_map elements_view c.args.matched) c.args.state.now _ (search rules)

pub expressions::read_elements-loop-i-preserved : goal.expressions::read_elements-loop-i-preserved
expressions::read_elements-loop-i-preserved t c =
    elements_next (world_view c.args.world.now) c.args.elements.now c.loop-i.i c.index-elements-i.result (option_map elements_view c.args.matched) (option_copied c.element_want-want.result) c.args.state.now c.loop-i.state c.read.new.state c.after.new.self c.loop-i.types c.push.new.self c.in_ok-element.element c.in_ok-ty.ty
    (omega arith) c.index-elements-i.is c.loop-i.invariant c.element_want-want.ensures c.in_ok-element.ensures.told c.in_ok-element.ensures.around c.in_ok-element.ensures.follows c.in_ok-ty.ensures.now c.in_ok-ty.ensures.ty c.in_ok-ty.ensures.around c.in_ok-ty.ensures.follows (search rules)

pub expressions::read_elements-returns : goal.expressions::read_elements-returns
expressions::read_elements-returns t c =
    record {
      read = elements_all (world_view c.args.world.now) c.args.elements.now c.loop-i.i (option_map elements_view c.args.matched) c.args.state.now c.loop-i.state c.loop-i.types (omega arith) c.loop-i.invariant;
      around = c.loop-i.invariant.goes.same;
      follows = c.loop-i.invariant.goes.follows;
    }

pub expressions::read_object-returns-clause-follows : goal.expressions::read_object-returns-clause-follows
expressions::read_object-returns-clause-follows t c =
    follows_through None c.plainly-literal.result.fork c.in_ok-asked.asked.fork c.args.state.now c.ask_all.new.state c.against.new.self (follows_through None None c.plainly-literal.result.fork c.args.state.now c.ask_all.new.state c.ask_all.new.state (follows_through None None None c.args.state.now c.read_fields.new.state c.ask_all.new.state c.in_ok-props.ensures.follows c.in_ok-ask_all.ensures.follows) c.plainly-literal.ensures.follows) c.in_ok-asked.ensures.follows

pub expressions::read_fields-loop-i-init : goal.expressions::read_fields-loop-i-init
expressions::read_fields-loop-i-init t c = fields_begin (world_view c.args.world.now) c.args.fields.now (option_map (λ k. candidate_view k.now) c.args.candidate) (entries_view c.args.entries.now) c.args.state.now _ (search rules)

pub expressions::read_fields-loop-i-preserved : goal.expressions::read_fields-loop-i-preserved
expressions::read_fields-loop-i-preserved t c =
    fields_next (world_view c.args.world.now) c.args.fields.now c.loop-i.i c.index-fields-i.result (option_map (λ k. candidate_view k.now) c.args.candidate) (entries_view c.args.entries.now) c.in_ok-want.want c.args.state.now c.loop-i.state c.ask_entry.new.state c.read_field.new.state c.after.new.self c.loop-i.props c.push.new.self (entry_view c.index-rows-i.result) c.in_ok-value.value c.in_ok-ty.ty c.in_ok-prop.prop
    (omega arith) c.index-fields-i.is c.loop-i.invariant (row_is c.args.fields.now c.loop-i.i c.index-fields-i.result c.rows-rows.result.now c.index-rows-i.result (c.rows-rows.ensures ∙ c.requires) (omega arith) c.index-fields-i.is c.index-rows-i.is) c.in_ok-want.ensures.want c.in_ok-want.ensures.now c.in_ok-want.ensures.around c.in_ok-want.ensures.follows (c.in_ok-value.ensures.told ∙ ap (λ (v : Option FlowType). read_field (world_view c.args.world.now) (out-Field c.index-fields-i.result).first (field_form_view (out-Field c.index-fields-i.result).form) (scope c.ask_entry.new.state) v (now c.ask_entry.new.state)) c.as_ref.ensures.value) c.in_ok-value.ensures.around c.in_ok-value.ensures.follows
    c.in_ok-ty.ensures.now c.in_ok-ty.ensures.ty c.in_ok-ty.ensures.around c.in_ok-ty.ensures.follows c.in_ok-prop.ensures (search rules)

pub expressions::read_fields-returns : goal.expressions::read_fields-returns
expressions::read_fields-returns t c =
    record {
      read = fields_all_read (world_view c.args.world.now) c.args.fields.now c.loop-i.i (option_map (λ k. candidate_view k.now) c.args.candidate) (entries_view c.args.entries.now) c.args.state.now c.loop-i.state c.loop-i.props (omega arith) c.loop-i.invariant;
      around = c.loop-i.invariant.goes.same;
      follows = c.loop-i.invariant.goes.follows;
    }

pub expressions::read_fields-bounds-rows-i : goal.expressions::read_fields-bounds-rows-i
expressions::read_fields-bounds-rows-i t c = omega (arith, rows_length c.args.fields.now c.rows-rows.result.now (c.rows-rows.ensures ∙ c.requires))

pub expressions::read_field-returns-in_ok-noted-in-Shorthand-clause-told : goal.expressions::read_field-returns-in_ok-noted-in-Shorthand-clause-told
expressions::read_field-returns-in_ok-noted-in-Shorthand-clause-told t c =
    c.in_ok-noted-in-Shorthand.ensures.told ∙ shorthand_told (world_view c.args.world.now) (out-Field c.args.field.now).first c.in_ok-end-in-Shorthand.end c.in-Shorthand.name (option_copied c.args.want) c.in_ok-variable-in-Shorthand.variable c.in_ok-asked-in-Shorthand.asked c.args.state.now c.read_variable.new.state c.against.new.self c.in_ok-end-in-Shorthand.ensures c.in_ok-variable-in-Shorthand.ensures.told c.in_ok-asked-in-Shorthand.ensures.told
    ∙ sym (ap (λ (v : FieldForm). read_field (world_view c.args.world.now) (out-Field c.args.field.now).first v (scope c.args.state.now) (option_copied c.args.want) (now c.args.state.now)) (field_form_shorthand (out-Field c.args.field.now).form c.in-Shorthand.name c.in-Shorthand.is))

pub expressions::read_field-returns-in_ok-noted-in-Shorthand-clause-follows : goal.expressions::read_field-returns-in_ok-noted-in-Shorthand-clause-follows
expressions::read_field-returns-in_ok-noted-in-Shorthand-clause-follows t c =
    follows_through None c.in_ok-asked-in-Shorthand.asked.fork c.in_ok-noted-in-Shorthand.noted.fork c.args.state.now c.against.new.self c.noted.new.self (follows_through None c.in_ok-variable-in-Shorthand.variable.fork c.in_ok-asked-in-Shorthand.asked.fork c.args.state.now c.read_variable.new.state c.against.new.self c.in_ok-variable-in-Shorthand.ensures.follows c.in_ok-asked-in-Shorthand.ensures.follows) c.in_ok-noted-in-Shorthand.ensures.follows

pub postfixes::read_postfix-returns-clause-told : goal.postfixes::read_postfix-returns-clause-told
postfixes::read_postfix-returns-clause-told t c =
    λ end. postfix_told (world_view c.args.world.now) c.args.first end c.args.e.now c.variable_in-from.result c.get-inner.result.now c.in_ok-base.base c.args.state.now c.read.new.state _ c.get-inner.ensures c.variable_in-from.ensures c.in_ok-base.ensures.told c.in_ok-base.ensures.around (c.in_ok-chain.ensures.told ∙ ap (λ (ls : List Link). read_links (world_view c.args.world.now) c.args.first (links_view ls) c.variable_in-from.result (scope c.read.new.state) (told c.in_ok-base.base c.read.new.state)) c.as_slice.ensures)

pub postfixes::read_postfix-returns-clause-follows : goal.postfixes::read_postfix-returns-clause-follows
postfixes::read_postfix-returns-clause-follows t c = follows_through None c.in_ok-base.base.fork c.in_ok-chain.chain.fork c.args.state.now c.read.new.state c.read_links.new.state c.in_ok-base.ensures.follows c.in_ok-chain.ensures.follows

pub postfixes::read_links-loop-i-init : goal.postfixes::read_links-loop-i-init
postfixes::read_links-loop-i-init t c = links_begin (world_view c.args.world.now) c.args.first c.args.links.now c.args.from c.args.base c.args.state.now c.requires

pub postfixes::read_links-loop-i-preserved : goal.postfixes::read_links-loop-i-preserved
postfixes::read_links-loop-i-preserved t c =
    links_next (world_view c.args.world.now) c.args.first c.args.links.now c.loop-i.i c.index-links-i.result c.args.from c.in_ok-place.place c.args.base c.loop-i.chain c.in_ok-read.read c.in_ok-chain.chain c.args.state.now c.loop-i.state c.read_link.new.state c.noted.new.self
    (omega arith) c.index-links-i.is c.loop-i.invariant c.in_ok-place.ensures c.in_ok-read.ensures.told c.in_ok-read.ensures.around c.in_ok-read.ensures.follows c.in_ok-chain.ensures.told c.in_ok-chain.ensures.around c.in_ok-chain.ensures.follows

pub postfixes::read_links-returns : goal.postfixes::read_links-returns
postfixes::read_links-returns t c =
    record {
      told = links_all_read (world_view c.args.world.now) c.args.first c.args.links.now c.loop-i.i c.args.from c.args.base c.loop-i.chain c.args.state.now c.loop-i.state (omega arith) c.loop-i.invariant;
      around = c.loop-i.invariant.goes.same;
      follows = c.loop-i.invariant.goes.follows;
    }

pub postfixes::read_link-returns-in_ok-element-in-Index-clause-told : goal.postfixes::read_link-returns-in_ok-element-in-Index-clause-told
postfixes::read_link-returns-in_ok-element-in-Index-clause-told t c =
    c.in_ok-element-in-Index.ensures.told (told c.args.object c.args.state.now) (sym (c.in_ok-object_type-in-Index.ensures.ty ∙ sym (told_ty c.args.object c.args.state.now)))
    ∙ index_told (world_view c.args.world.now) c.args.first (out-Link c.args.link.now).first (out-Link c.args.link.now).end (expr_view c.in-Index.index) c.args.place c.args.object c.in_ok-index-in-Index.index c.args.state.now c.after.new.self c.read.new.state c.in_ok-object_type-in-Index.ensures.now c.in_ok-object_type-in-Index.ensures.around c.in_ok-index-in-Index.ensures.told
    ∙ sym (ap (λ (v : LinkForm). read_link (world_view c.args.world.now) c.args.first (out-Link c.args.link.now).first (out-Link c.args.link.now).end v c.args.place (scope c.args.state.now) (told c.args.object c.args.state.now)) (link_form_index (out-Link c.args.link.now).form c.in-Index.index c.in-Index.is))

pub postfixes::read_link-returns-in_ok-element-in-Index-clause-follows : goal.postfixes::read_link-returns-in_ok-element-in-Index-clause-follows
postfixes::read_link-returns-in_ok-element-in-Index-clause-follows t c =
    follows_through c.args.object.fork c.in_ok-index-in-Index.index.fork c.in_ok-element-in-Index.element.fork c.args.state.now c.read.new.state c.read_element.new.state (follows_through c.args.object.fork None c.in_ok-index-in-Index.index.fork c.args.state.now c.after.new.self c.read.new.state c.in_ok-object_type-in-Index.ensures.follows c.in_ok-index-in-Index.ensures.follows) c.in_ok-element-in-Index.ensures.follows

pub postfixes::read_link-returns-in_ok-called-in-Call-clause-told : goal.postfixes::read_link-returns-in_ok-called-in-Call-clause-told
postfixes::read_link-returns-in_ok-called-in-Call-clause-told t c =
    c.in_ok-called-in-Call.ensures.told (told c.args.object c.args.state.now) (sym (c.in_ok-callee_type-in-Call.ensures.ty ∙ sym (told_ty c.args.object c.args.state.now)))
    ∙ call_told (world_view c.args.world.now) c.args.first (out-Link c.args.link.now).first (out-Link c.args.link.now).end (exprs_view c.in-Call.arguments) c.in-Call.comma c.args.place c.args.object c.in_ok-callee_type-in-Call.callee_type _ c.args.state.now c.after-in-Call.new.self c.in_ok-callee_type-in-Call.ensures.now c.in_ok-callee_type-in-Call.ensures.around (told_ty c.args.object c.args.state.now ∙ sym c.in_ok-callee_type-in-Call.ensures.ty)
    ((λ i. record { args = arguments_view (c.as_slice-in-Call.ensures i); now = now c.read_called_with.new.state }) ∙ c.in_ok-given-in-Call.ensures.read ∙ ap (λ (es : List Expr). read_args (world_view c.args.world.now) (exprs_view es) (scope c.after-in-Call.new.self) (one_function (levels (world_view c.args.world.now) c.in_ok-callee_type-in-Call.callee_type)) (now c.after-in-Call.new.self)) c.as_slice.ensures)
    ∙ sym (ap (λ (v : LinkForm). read_link (world_view c.args.world.now) c.args.first (out-Link c.args.link.now).first (out-Link c.args.link.now).end v c.args.place (scope c.args.state.now) (told c.args.object c.args.state.now)) (link_form_call (out-Link c.args.link.now).form c.in-Call.arguments c.in-Call.comma c.in-Call.is))

pub postfixes::read_link-returns-in_ok-called-in-Call-clause-follows : goal.postfixes::read_link-returns-in_ok-called-in-Call-clause-follows
postfixes::read_link-returns-in_ok-called-in-Call-clause-follows t c =
    follows_through c.args.object.fork None c.in_ok-called-in-Call.called.fork c.args.state.now c.read_called_with.new.state c.read_called.new.state (follows_through c.args.object.fork None None c.args.state.now c.after-in-Call.new.self c.read_called_with.new.state c.in_ok-callee_type-in-Call.ensures.follows c.in_ok-given-in-Call.ensures.follows) c.in_ok-called-in-Call.ensures.follows

pub postfixes::read_called_with-returns-clause-read : goal.postfixes::read_called_with-returns-clause-read
postfixes::read_called_with-returns-clause-read t c = c.in_ok-given.ensures.read ∙ ap (λ (ps : Option (List Param)). read_args (world_view c.args.world.now) (exprs_view c.args.arguments.now) (scope c.args.state.now) ps (now c.args.state.now)) (c.one_function-params.ensures ∙ ap one_function (search rules))

pub postfixes::read_arguments-loop-k-init : goal.postfixes::read_arguments-loop-k-init
postfixes::read_arguments-loop-k-init t c = args_none (world_view c.args.world.now) c.args.arguments.now (option_copied c.args.params) c.args.state.now _ (search rules)

pub postfixes::read_arguments-loop-k-preserved : goal.postfixes::read_arguments-loop-k-preserved
postfixes::read_arguments-loop-k-preserved t c =
    args_next (world_view c.args.world.now) c.args.arguments.now c.loop-k.k c.index-arguments-k.result (option_copied c.args.params) (option_copied c.as_ref.result) c.args.state.now c.loop-k.state c.read.new.state c.after.new.self (arguments_view c.loop-k.given) (arguments_view c.push.new.self) c.in_ok-read.read (record { first = (out-Expr c.index-arguments-k.result).first; end = (out-Expr c.index-arguments-k.result).end; ty = c.in_ok-ty.ty })
    (omega arith) c.index-arguments-k.is c.loop-k.invariant (c.as_ref.ensures.value ∙ c.in_ok-want.ensures) c.in_ok-read.ensures.told c.in_ok-read.ensures.around c.in_ok-read.ensures.follows c.in_ok-ty.ensures.now (λ j. record { first = (out-Expr c.index-arguments-k.result).first; end = (out-Expr c.index-arguments-k.result).end; ty = c.in_ok-ty.ensures.ty j }) c.in_ok-ty.ensures.around c.in_ok-ty.ensures.follows (arguments_push c.loop-k.given c.push.new.self _ c.in_ok-push.ensures.ok)

pub postfixes::read_arguments-returns : goal.postfixes::read_arguments-returns
postfixes::read_arguments-returns t c =
    record {
      read = args_all (world_view c.args.world.now) c.args.arguments.now c.loop-k.k (option_copied c.args.params) c.args.state.now c.loop-k.state (arguments_view c.loop-k.given) (omega arith) c.loop-k.invariant;
      around = c.loop-k.invariant.goes.same;
      follows = c.loop-k.invariant.goes.follows;
    }

pub operands::read_operands-loop-at-init : goal.operands::read_operands-loop-at-init
operands::read_operands-loop-at-init t c = record { within = omega arith; place = refl; read = operands_begin (world_view c.args.world.now) c.args.first c.args.operands.now c.args.place c.args.left c.args.state.now c.requires }

pub operands::read_operands-loop-at-preserved-in_default : goal.operands::read_operands-loop-at-preserved-in_default
operands::read_operands-loop-at-preserved-in_default t c =
    record {
      within = omega arith;
      place = c.take.ensures.after ∙ place_gone (c.loop-at.at + 1) c.args.place (omega arith);
      read = operands_next (world_view c.args.world.now) c.args.first c.args.operands.now c.loop-at.at c.index-operands-at.result c.args.place c.args.left c.loop-at.chain c.in_ok-chain.chain c.args.state.now c.loop-at.state c.read_more.new.state
          (omega arith) c.index-operands-at.is c.loop-at.invariant.read (c.in_ok-chain.ensures.told c.args.place (c.take.ensures.value ∙ c.loop-at.invariant.place)) c.in_ok-chain.ensures.around c.in_ok-chain.ensures.follows;
    }

pub operands::read_operands-loop-at-preserved : goal.operands::read_operands-loop-at-preserved
operands::read_operands-loop-at-preserved t c =
    record {
      within = c.run_end-end.ensures.within;
      place = place_gone c.run_end-end.result c.args.place (omega (arith, c.run_end-end.ensures.some));
      read = operands_run (world_view c.args.world.now) c.args.first c.in-Some.is_and c.args.operands.now c.loop-at.at c.run_end-end.result (take (c.run_end-end.result - c.loop-at.at) (drop c.loop-at.at c.args.operands.now)) c.args.place c.args.left c.loop-at.chain c.in_ok-chain-2.chain c.args.state.now c.loop-at.state c.read_run.new.state
          (run_cut c.args.operands.now c.loop-at.at c.run_end-end.result (omega (arith, c.run_end-end.ensures.some))) c.run_end-end.ensures.run c.loop-at.invariant.read c.in_ok-chain-2.ensures.told c.in_ok-chain-2.ensures.around c.in_ok-chain-2.ensures.follows;
    }

pub operands::read_operands-run_end-end-requires-clause-first : goal.operands::read_operands-run_end-end-requires-clause-first
operands::read_operands-run_end-end-requires-clause-first t c = run_here c.args.operands.now c.loop-at.at c.index-operands-at.result c.in-Some.is_and (omega arith) c.index-operands-at.is (sym c.run_of.ensures ∙ c.in-Some.is)

-- in the cycle, where a part of the operands is no deeper than all of them
pub operands::read_operands-read_run-requires : goal.operands::read_operands-read_run-requires
operands::read_operands-read_run-requires t c = (omega (arith, c.decreases, most_part the_size (c.run_end-end.result - c.loop-at.at) c.loop-at.at c.args.operands.now), (c.loop-at.invariant.read.goes.follows.leads.fits, (c.run_end-end.ensures.run, search rules)))

pub operands::read_operands-returns : goal.operands::read_operands-returns
operands::read_operands-returns t c =
    record {
      told = operands_all_read (world_view c.args.world.now) c.args.first c.args.operands.now c.loop-at.at c.args.place c.args.left c.loop-at.chain c.args.state.now c.loop-at.state (omega arith) c.loop-at.invariant.read;
      around = c.loop-at.invariant.read.goes.same;
      follows = c.loop-at.invariant.read.goes.follows;
    }

pub operands::read_run-loop-i-init : goal.operands::read_run-loop-i-init
operands::read_run-loop-i-init t c = record { count = search rules; read = run_begin (world_view c.args.world.now) c.args.first c.args.operands.now c.args.is_and c.args.left c.args.state.now _ _ _ (search rules) refl c.requires.fits }

pub operands::read_run-loop-i-preserved : goal.operands::read_run-loop-i-preserved
operands::read_run-loop-i-preserved t c =
    record {
      count = search rules;
      read = run_next (world_view c.args.world.now) c.args.first c.args.operands.now c.loop-i.i c.index-operands-i.result c.args.is_and c.args.left c.loop-i.ways.items c.push.new.self.items c.loop-i.ty c.loop-i.fork c.in_ok-way.way c.in_ok-side.side c.in_ok-chain.chain c.args.state.now c.loop-i.state c.part.new.state c.read_side.new.state c.noted.new.self
          (omega arith) c.index-operands-i.is (run_at c.args.operands.now c.loop-i.i c.index-operands-i.result c.args.is_and c.requires.run (omega arith) c.index-operands-i.is) c.loop-i.invariant.read (c.in_ok-way.ensures.now c.loop-i.ty) (c.in_ok-way.ensures.arm c.loop-i.ty) c.in_ok-way.ensures.around c.in_ok-way.ensures.follows
          c.in_ok-side.ensures.told c.in_ok-side.ensures.around c.in_ok-side.ensures.follows c.in_ok-chain.ensures.told c.in_ok-chain.ensures.around c.in_ok-chain.ensures.follows (search rules);
    }

-- in the cycle, where an operand is no deeper than all of them
pub operands::read_run-read_side-requires : goal.operands::read_run-read_side-requires
operands::read_run-read_side-requires t c = (omega (arith, c.decreases, most_at the_size c.args.operands.now c.loop-i.i c.index-operands-i.result (omega arith) c.index-operands-i.is), run_at c.args.operands.now c.loop-i.i c.index-operands-i.result c.args.is_and c.requires.run (omega arith) c.index-operands-i.is)

pub operands::read_run-meet_left-requires-clause-left : goal.operands::read_run-meet_left-requires-clause-left
operands::read_run-meet_left-requires-clause-left t c = c.loop-i.invariant.read.nested

pub operands::read_run-returns-clause-told : goal.operands::read_run-returns-clause-told
operands::read_run-returns-clause-told t c = λ place. run_met (world_view c.args.world.now) c.args.first c.args.operands.now c.loop-i.i c.args.is_and c.args.left c.loop-i.ways.items c.loop-i.ty c.loop-i.fork c.in_ok-met.met c.args.state.now c.loop-i.state c.meet_left.new.state place (omega arith) c.requires.some c.loop-i.invariant.read (omega (arith, c.loop-i.invariant.count)) (c.in_ok-met.ensures.told c.loop-i.ty)

pub operands::read_run-returns-clause-around : goal.operands::read_run-returns-clause-around
operands::read_run-returns-clause-around t c = c.in_ok-met.ensures.around ∙ c.loop-i.invariant.read.same

pub operands::read_run-returns-clause-follows : goal.operands::read_run-returns-clause-follows
operands::read_run-returns-clause-follows t c = run_follows c.args.left.fork c.loop-i.fork c.in_ok-met.met c.loop-i.ways.items c.args.state.now c.loop-i.state c.meet_left.new.state c.loop-i.invariant.read.goes c.loop-i.invariant.read.heights c.in_ok-met.ensures.follows

pub operands::read_more-returns-clause-told : goal.operands::read_more-returns-clause-told
operands::read_more-returns-clause-told t c = λ place goes. c.in_ok-noted.ensures.told ∙ ap (noted_out (world_view c.args.world.now) c.args.first (out-Operand c.args.operand.now).end) (c.in_ok-read.ensures.told place goes)

pub operands::read_more-returns-clause-follows : goal.operands::read_more-returns-clause-follows
operands::read_more-returns-clause-follows t c = follows_through c.args.left.fork c.in_ok-read.read.fork c.in_ok-noted.noted.fork c.args.state.now c.read_operand.new.state c.noted.new.self c.in_ok-read.ensures.follows c.in_ok-noted.ensures.follows

pub operands::read_operand-returns-in_ok-both-in_default-clause-told : goal.operands::read_operand-returns-in_ok-both-in_default-clause-told
operands::read_operand-returns-in_ok-both-in_default-clause-told t c =
    λ place goes. c.in_ok-both-in_default.ensures.told (told c.args.left c.args.state.now) (sym (c.in_ok-left-in_default.ensures.ty ∙ sym (told_ty c.args.left c.args.state.now)))
    ∙ operator_told (world_view c.args.world.now) c.args.first (out-Operand c.args.operand.now).first (out-Operand c.args.operand.now).end (operator_view c.in-Right.operator) (expr_view c.in-Right.side) (place_before c.args.before.0 place) c.args.left c.in_ok-right-in_default.right c.args.state.now c.after.new.self c.read.new.state (plain_operand c.args.operand.now c.in-Right.operator c.in-Right.side c.in-Right.is c.requires.other c.in_default.not-Nullish) c.in_ok-left-in_default.ensures.now c.in_ok-left-in_default.ensures.around c.in_ok-right-in_default.ensures.told
    ∙ sym (ap (λ (v : OperandForm). read_operand (world_view c.args.world.now) c.args.first (out-Operand c.args.operand.now).first (out-Operand c.args.operand.now).end v c.args.before.0 place (scope c.args.state.now) (told c.args.left c.args.state.now)) (operand_form_right (out-Operand c.args.operand.now).form c.in-Right.operator c.in-Right.side c.in-Right.is))

pub operands::read_operand-returns-in_ok-both-in_default-clause-follows : goal.operands::read_operand-returns-in_ok-both-in_default-clause-follows
operands::read_operand-returns-in_ok-both-in_default-clause-follows t c =
    follows_through c.args.left.fork c.in_ok-right-in_default.right.fork c.in_ok-both-in_default.both.fork c.args.state.now c.read.new.state c.read_operator.new.state (follows_through c.args.left.fork None c.in_ok-right-in_default.right.fork c.args.state.now c.after.new.self c.read.new.state c.in_ok-left-in_default.ensures.follows c.in_ok-right-in_default.ensures.follows) c.in_ok-both-in_default.ensures.follows

pub operands::read_nullish-returns-clause-told : goal.operands::read_nullish-returns-clause-told
operands::read_nullish-returns-clause-told t c =
    c.in_ok-both.ensures.told (told c.args.left c.args.state.now) (told_ty c.args.left c.args.state.now ∙ sym c.in_ok-left.ensures.ty) (sym (nullish_way c.args.left.fork c.in_ok-right.right.fork c.in_ok-left.fork c.args.state.now c.begin_nullish.new.state c.read.new.state c.in_ok-left.ensures.follows c.in_ok-right.ensures.follows ∙ c.in_ok-left.ensures.arm))
    ∙ nullish_told (world_view c.args.world.now) c.args.place (expr_view c.args.side.now) c.args.left c.in_ok-right.right c.args.state.now c.begin_nullish.new.state c.read.new.state c.in_ok-left.ensures.now c.in_ok-left.ensures.around c.in_ok-right.ensures.told

pub operands::read_nullish-end_nullish-requires-clause-left : goal.operands::read_nullish-end_nullish-requires-clause-left
operands::read_nullish-end_nullish-requires-clause-left t c = nullish_nested c.args.left.fork c.in_ok-right.right.fork c.in_ok-left.fork c.args.state.now c.begin_nullish.new.state c.read.new.state c.in_ok-left.ensures.follows c.in_ok-right.ensures.follows

pub statements::read_declaration-returns-clause-env : goal.statements::read_declaration-returns-clause-env
statements::read_declaration-returns-clause-env t c =
    declared_told {E = Unit {0}} (Ok tt) (world_view c.args.world.now) c.args.declaration.now c.in_ok-token.token c.in_ok-want.want c.in_ok-value.value c.args.state.now c.read_annotated.new.state c.read.new.state c.declare.new.state
    c.in_ok-want.ensures.ty c.in_ok-want.ensures.now c.in_ok-want.ensures.around c.in_ok-token.ensures (c.in_ok-value.ensures.told ∙ ap (λ (v : Option FlowType). read (world_view c.args.world.now) (expr_view (out-Declaration c.args.declaration.now).value) (scope c.read_annotated.new.state) v (now c.read_annotated.new.state)) c.as_ref.ensures.value) c.in_ok-value.ensures.around c.in_ok-declare.ensures.env

pub statements::read_declaration-returns-clause-follows : goal.statements::read_declaration-returns-clause-follows
statements::read_declaration-returns-clause-follows t c = follows_through None c.in_ok-value.value.fork None c.args.state.now c.read.new.state c.declare.new.state (follows_through None None c.in_ok-value.value.fork c.args.state.now c.read_annotated.new.state c.read.new.state c.in_ok-want.ensures.follows c.in_ok-value.ensures.follows) c.in_ok-declare.ensures.follows

pub statements::read_assignment-returns-clause-env : goal.statements::read_assignment-returns-clause-env
statements::read_assignment-returns-clause-env t c =
    λ first end. assigned_told {E = Unit {0}} (Ok tt) (world_view c.args.world.now) first end c.args.assignment.now c.in-Some.goal (option_copied c.want.result) c.in_ok-read.read c.args.state.now c.read_target.new.state c.read.new.state c.assigned.new.state
    (sym (ap (option_map goal_view) c.in-Some.is) ∙ c.in_ok-goal.ensures.goal) c.in_ok-goal.ensures.now c.in_ok-goal.ensures.around c.want.ensures c.in_ok-read.ensures.told c.in_ok-read.ensures.around c.in_ok-assigned.ensures.env

pub statements::read_if-meet_arms-requires : goal.statements::read_if-meet_arms-requires
statements::read_if-meet_arms-requires t c = if_fits (reverse c.in_ok-arms.arms.items) c.args.state.now c.read_branches.new.state c.read_else.new.state c.in_ok-arms.ensures.leaves c.in_ok-read_else.ensures.follows

pub statements::read_if-returns-clause-env : goal.statements::read_if-returns-clause-env
statements::read_if-returns-clause-env t c =
    λ first end. if_told (world_view c.args.world.now) first end c.args.statement.now c.as_slice.result.now (reverse c.in_ok-arms.arms.items) c.args.state.now c.read_branches.new.state c.read_else.new.state c.meet_arms.new.self c.as_slice.ensures c.in_ok-arms.ensures.env c.in_ok-arms.ensures.arms c.in_ok-arms.ensures.leaves c.in_ok-read_else.ensures.env c.in_ok-read_else.ensures.follows c.in_ok-meet_arms.ensures.now c.in_ok-meet_arms.ensures.around

pub statements::read_if-returns-clause-follows : goal.statements::read_if-returns-clause-follows
statements::read_if-returns-clause-follows t c = if_follows (reverse c.in_ok-arms.arms.items) c.args.state.now c.read_branches.new.state c.read_else.new.state c.meet_arms.new.self c.in_ok-arms.ensures.leaves c.in_ok-read_else.ensures.follows c.in_ok-meet_arms.ensures.follows

pub statements::read_branches-loop-i-init : goal.statements::read_branches-loop-i-init
statements::read_branches-loop-i-init t c = branches_begin (world_view c.args.world.now) c.args.branches.now c.args.state.now _ (search rules)

pub statements::read_branches-loop-i-preserved : goal.statements::read_branches-loop-i-preserved
statements::read_branches-loop-i-preserved t c = branches_next (world_view c.args.world.now) c.args.branches.now c.loop-i.i c.index-branches-i.result c.args.state.now c.loop-i.state c.read_branch.new.state c.loop-i.arms.items c.push.new.self.items c.in_ok-arm.arm (omega arith) c.index-branches-i.is c.loop-i.invariant c.in_ok-arm.ensures.env c.in_ok-arm.ensures.way c.in_ok-arm.ensures.leaves (search rules)

pub statements::read_branches-returns : goal.statements::read_branches-returns
statements::read_branches-returns t c =
    record {
      env = branches_env (world_view c.args.world.now) c.args.branches.now c.loop-i.i c.args.state.now c.loop-i.state c.loop-i.arms.items (omega arith) c.loop-i.invariant;
      arms = branches_arms (world_view c.args.world.now) c.args.branches.now c.loop-i.i c.args.state.now c.loop-i.state c.loop-i.arms.items (omega arith) c.loop-i.invariant;
      leaves = c.loop-i.invariant.leaves;
    }

pub statements::read_branch-turn-requires : goal.statements::read_branch-turn-requires
statements::read_branch-turn-requires t c = turned_fits (read (world_view c.args.world.now) (expr_view (out-Branch c.args.branch.now).test) (scope c.args.state.now) None (now c.args.state.now)) c.in_ok-fork.fork c.args.state.now c.read_test.new.state c.read_body.new.state c.in_ok-fork.ensures c.in_ok-read_body.ensures.follows

pub statements::read_branch-returns-clause-env : goal.statements::read_branch-returns-clause-env
statements::read_branch-returns-clause-env t c = λ arms. branch_env (world_view c.args.world.now) (expr_view (out-Branch c.args.branch.now).test) (body_view (out-Branch c.args.branch.now).body) c.in_ok-fork.fork arms c.args.state.now c.read_test.new.state c.read_body.new.state c.turn.new.self c.in_ok-fork.ensures c.in_ok-read_body.ensures.env c.in_ok-read_body.ensures.follows c.in_ok-way.ensures.now c.in_ok-way.ensures.around

pub statements::read_branch-returns-clause-way : goal.statements::read_branch-returns-clause-way
statements::read_branch-returns-clause-way t c = branch_way (world_view c.args.world.now) (expr_view (out-Branch c.args.branch.now).test) (body_view (out-Branch c.args.branch.now).body) c.in_ok-fork.fork c.in_ok-way.way c.args.state.now c.read_test.new.state c.read_body.new.state c.turn.new.self c.in_ok-fork.ensures c.in_ok-read_body.ensures.env c.in_ok-way.ensures.arm

pub statements::read_branch-returns-clause-leaves : goal.statements::read_branch-returns-clause-leaves
statements::read_branch-returns-clause-leaves t c = turned_leaves (read (world_view c.args.world.now) (expr_view (out-Branch c.args.branch.now).test) (scope c.args.state.now) None (now c.args.state.now)) c.in_ok-fork.fork c.in_ok-way.way c.args.state.now c.read_test.new.state c.read_body.new.state c.turn.new.self c.in_ok-fork.ensures c.in_ok-read_body.ensures.follows c.in_ok-way.ensures.follows

pub statements::read_loop-leave_loop-requires : goal.statements::read_loop-leave_loop-requires
statements::read_loop-leave_loop-requires t c = turned_fits (read (world_view c.args.world.now) (expr_view (out-WhileStatement c.args.statement.now).test) (scope c.enter_loop.new.state) None (now c.enter_loop.new.state)) c.in_ok-fork.fork c.enter_loop.new.state c.read_test.new.state c.read_body.new.state c.in_ok-fork.ensures c.in_ok-read_body.ensures.follows

pub statements::read_loop-returns-clause-env : goal.statements::read_loop-returns-clause-env
statements::read_loop-returns-clause-env t c =
    λ first end. while_told (world_view c.args.world.now) first end c.args.statement.now (changes_view c.as_slice.result.now) c.in_ok-outer.outer c.in_ok-fork.fork c.args.state.now c.enter_loop.new.state c.read_test.new.state c.read_body.new.state c.leave_loop.new.state
    (loop_planned c.args.statement.now c.args.plan.now c.as_slice.result.now c.as_slice.ensures c.requires) c.in_ok-outer.ensures.env c.in_ok-outer.ensures.outer c.in_ok-fork.ensures c.in_ok-read_body.ensures.env c.in_ok-read_body.ensures.follows c.in_ok-leave_loop.ensures.env

pub statements::read_loop-returns-clause-follows : goal.statements::read_loop-returns-clause-follows
statements::read_loop-returns-clause-follows t c =
    while_follows (read (world_view c.args.world.now) (expr_view (out-WhileStatement c.args.statement.now).test) (scope c.enter_loop.new.state) None (now c.enter_loop.new.state)) c.in_ok-fork.fork c.args.state.now c.enter_loop.new.state c.read_test.new.state c.read_body.new.state c.leave_loop.new.state c.in_ok-outer.ensures.follows c.in_ok-fork.ensures c.in_ok-read_body.ensures.follows c.in_ok-leave_loop.ensures.follows

pub bodies::read_statements-loop-i-init : goal.bodies::read_statements-loop-i-init
bodies::read_statements-loop-i-init t c = statements_begin (world_view c.args.world.now) c.args.statements.now c.args.state.now

pub bodies::read_statements-loop-i-preserved : goal.bodies::read_statements-loop-i-preserved
bodies::read_statements-loop-i-preserved t c = statements_next (world_view c.args.world.now) c.args.statements.now c.loop-i.i c.index-statements-i.result c.args.state.now c.loop-i.state c.reach.new.state c.read_statement.new.state (omega arith) c.index-statements-i.is c.loop-i.invariant c.in_ok-reach.ensures.env c.in_ok-reach.ensures.follows c.in_ok-read_statement.ensures.env c.in_ok-read_statement.ensures.follows

pub bodies::read_statements-returns : goal.bodies::read_statements-returns
bodies::read_statements-returns t c = record { env = statements_all (world_view c.args.world.now) c.args.statements.now c.loop-i.i c.args.state.now c.loop-i.state (omega arith) c.loop-i.invariant; follows = c.loop-i.invariant.follows }

pub bodies::read_returned-returns-clause-env : goal.bodies::read_returned-returns-clause-env
bodies::read_returned-returns-clause-env t c = returned_told {E = Unit {0}} (Ok tt) (world_view c.args.world.now) (expr_view c.args.value.now) (option_copied c.as_ref.result) c.in_ok-value.value c.args.state.now c.read.new.state c.return_value.new.state (c.as_ref.ensures.value ∙ c.in_ok-want.ensures) c.in_ok-value.ensures.told c.in_ok-value.ensures.around c.in_ok-return_value.ensures.env

pub bodies::read_returned-returns-clause-follows : goal.bodies::read_returned-returns-clause-follows
bodies::read_returned-returns-clause-follows t c = follows_through None c.in_ok-value.value.fork None c.args.state.now c.read.new.state c.return_value.new.state c.in_ok-value.ensures.follows c.in_ok-return_value.ensures.follows

pub bodies::read_body-returns-in_ok-read_simple-in-Simple-clause-env : goal.bodies::read_body-returns-in_ok-read_simple-in-Simple-clause-env
bodies::read_body-returns-in_ok-read_simple-in-Simple-clause-env t c =
    simple_told (world_view c.args.world.now) c.in-Simple.simple c.in_ok-end-in-Simple.end c.is_stopped-stopped.result c.args.state.now c.reach.new.state c.read_simple.new.state c.set_stopped.new.self c.in_ok-end-in-Simple.ensures c.is_stopped-stopped.ensures c.in_ok-reach-in-Simple.ensures.env c.in_ok-read_simple-in-Simple.ensures.env c.set_stopped.ensures.now c.set_stopped.ensures.around
    ∙ sym (ap (λ (v : Body). read_body (world_view c.args.world.now) v (env c.args.state.now)) (body_simple c.args.body.now c.in-Simple.simple c.in-Simple.is))

pub bodies::read_body-returns-in_ok-read_simple-in-Simple-clause-follows : goal.bodies::read_body-returns-in_ok-read_simple-in-Simple-clause-follows
bodies::read_body-returns-in_ok-read_simple-in-Simple-clause-follows t c = follows_through None None None c.args.state.now c.read_simple.new.state c.set_stopped.new.self (follows_through None None None c.args.state.now c.reach.new.state c.read_simple.new.state c.in_ok-reach-in-Simple.ensures.follows c.in_ok-read_simple-in-Simple.ensures.follows) c.set_stopped.ensures.follows

pub expressions::read_object-returns-clause-told : goal.expressions::read_object-returns-clause-told
expressions::read_object-returns-clause-told t c =
    λ comma.
    c.in_ok-asked.ensures.told
    ∙ object_told (world_view c.args.world.now) c.args.first c.args.end (fields_view c.args.fields.now) comma (option_copied c.args.want) (option_copied c.whole_object-whole.result) (entries_view c.in_ok-entries.entries) (option_map candidate_view c.in_ok-candidate.candidate) c.in_ok-props.props c.in_ok-ty.ty c.plainly-literal.result c.args.state.now c.read_fields.new.state c.ask_all.new.state
    c.in_ok-entries.ensures c.in_ok-candidate.ensures (c.in_ok-props.ensures.read ∙ ap (λ (m : Option Candidate). read_fields (world_view c.args.world.now) (fields_view c.args.fields.now) (scope c.args.state.now) m (entries_view c.in_ok-entries.entries) (now c.args.state.now)) (ref_map candidate_view c.as_ref.result c.in_ok-candidate.candidate c.as_ref.ensures.value))
    (c.in_ok-ask_all.ensures.now ∙ ap (λ (m : Option Candidate). change_notes (all_given (world_view c.args.world.now) c.args.first c.args.end (entries_view c.in_ok-entries.entries) m) (now c.read_fields.new.state)) (ref_map candidate_view c.as_ref-2.result c.in_ok-candidate.candidate c.as_ref-2.ensures.value)) (c.in_ok-ty.ensures ∙ ap object_type c.as_slice.ensures) c.whole_object-whole.ensures c.plainly-literal.ensures.told

pub operands::read_side-returns-in-As-clause-told : goal.operands::read_side-returns-in-As-clause-told
operands::read_side-returns-in-As-clause-told t c = c.plainly.ensures.told ∙ side_as (world_view c.args.world.now) c.args.is_and c.args.operand.now c.in-As.field-0 c.args.left (scope c.args.state.now) (now c.args.state.now) c.in-As.is

pub operands::read_side-returns-in_ok-ty-in-Right-clause-told : goal.operands::read_side-returns-in_ok-ty-in-Right-clause-told
operands::read_side-returns-in_ok-ty-in-Right-clause-told t c = side_told (world_view c.args.world.now) c.args.is_and c.args.operand.now c.in-Right.operator c.in-Right.side c.args.left c.in_ok-ty-in-Right.ty c.in_ok-right-in-Right.right c.args.state.now c.read.new.state c.in-Right.is c.in_ok-right-in-Right.ensures.told c.in_ok-ty-in-Right.ensures

pub operands::read_nullish-returns-clause-follows : goal.operands::read_nullish-returns-clause-follows
operands::read_nullish-returns-clause-follows t c = nullish_follows c.args.left.fork c.in_ok-right.right.fork c.in_ok-both.both.fork c.in_ok-left.fork c.args.state.now c.begin_nullish.new.state c.read.new.state c.end_nullish.new.state c.in_ok-left.ensures.follows c.in_ok-right.ensures.follows c.in_ok-both.ensures.follows

pub statements::read_statement-returns-in-Declaration-clause-env : goal.statements::read_statement-returns-in-Declaration-clause-env
statements::read_statement-returns-in-Declaration-clause-env t c =
    env_on c.read_declaration.result c.read_declaration.new.state _ _ (c.read_declaration.ensures.env) (sym (stmt_as (world_view c.args.world.now) (out-Statement c.args.statement.now).first (out-Statement c.args.statement.now).end (statement_form_view (out-Statement c.args.statement.now).form) _ (env c.args.state.now) (statement_form_declaration (out-Statement c.args.statement.now).form c.in-Declaration.declaration c.in-Declaration.is)))

pub statements::read_statement-returns-in-Simple-clause-env : goal.statements::read_statement-returns-in-Simple-clause-env
statements::read_statement-returns-in-Simple-clause-env t c =
    env_on c.read_simple.result c.read_simple.new.state _ _ (c.read_simple.ensures.env) (sym (stmt_as (world_view c.args.world.now) (out-Statement c.args.statement.now).first (out-Statement c.args.statement.now).end (statement_form_view (out-Statement c.args.statement.now).form) _ (env c.args.state.now) (statement_form_simple (out-Statement c.args.statement.now).form c.in-Simple.simple c.in-Simple.is ∙ ap does (simple_is c.in-Simple.simple))))

pub statements::read_statement-returns-in-If-clause-env : goal.statements::read_statement-returns-in-If-clause-env
statements::read_statement-returns-in-If-clause-env t c =
    env_on c.read_if.result c.read_if.new.state _ _ (c.read_if.ensures.env (out-Statement c.args.statement.now).first (out-Statement c.args.statement.now).end) (sym (stmt_as (world_view c.args.world.now) (out-Statement c.args.statement.now).first (out-Statement c.args.statement.now).end (statement_form_view (out-Statement c.args.statement.now).form) _ (env c.args.state.now) (statement_form_if (out-Statement c.args.statement.now).form c.in-If.statement c.in-If.is)))

pub statements::read_statement-returns-in-While-clause-env : goal.statements::read_statement-returns-in-While-clause-env
statements::read_statement-returns-in-While-clause-env t c =
    env_on c.read_while.result c.read_while.new.state _ _ (c.read_while.ensures.env (out-Statement c.args.statement.now).first (out-Statement c.args.statement.now).end) (sym (stmt_as (world_view c.args.world.now) (out-Statement c.args.statement.now).first (out-Statement c.args.statement.now).end (statement_form_view (out-Statement c.args.statement.now).form) _ (env c.args.state.now) (statement_form_while (out-Statement c.args.statement.now).form c.in-While.statement c.in-While.is)))

pub statements::read_statement-returns-in-Block-clause-env : goal.statements::read_statement-returns-in-Block-clause-env
statements::read_statement-returns-in-Block-clause-env t c =
    env_on c.read_inner_block.result c.read_inner_block.new.state _ _ (c.read_inner_block.ensures.env) (sym (stmt_as (world_view c.args.world.now) (out-Statement c.args.statement.now).first (out-Statement c.args.statement.now).end (statement_form_view (out-Statement c.args.statement.now).form) _ (env c.args.state.now) (statement_form_block (out-Statement c.args.statement.now).form c.in-Block.block c.in-Block.is)))

pub statements::read_statement-returns-in_ok-read_function-in-Function-clause-env : goal.statements::read_statement-returns-in_ok-read_function-in-Function-clause-env
statements::read_statement-returns-in_ok-read_function-in-Function-clause-env t c =
    function_stmt_told (world_view c.args.world.now) (out-Statement c.args.statement.now).first (out-Statement c.args.statement.now).end (out-Statement c.args.statement.now).form c.in-Function.function c.in_ok-read_function-in-Function.field-0 c.args.state.now c.read_function.new.state c.in-Function.is c.in_ok-read_function-in-Function.ensures.made c.in_ok-read_function-in-Function.ensures.around

pub statements::read_simple-returns-in-Return-clause-env : goal.statements::read_simple-returns-in-Return-clause-env
statements::read_simple-returns-in-Return-clause-env t c = env_on c.return_bare.result c.return_bare.new.state _ _ (c.return_bare.ensures.env) (sym (simple_as (world_view c.args.world.now) (out-Simple c.args.simple.now).first (out-Simple c.args.simple.now).end (simple_form_view (out-Simple c.args.simple.now).form) _ (env c.args.state.now) (simple_form_return (out-Simple c.args.simple.now).form c.in-Return.is)))

pub statements::read_simple-returns-in-ReturnValue-clause-env : goal.statements::read_simple-returns-in-ReturnValue-clause-env
statements::read_simple-returns-in-ReturnValue-clause-env t c = env_on c.read_returned.result c.read_returned.new.state _ _ (c.read_returned.ensures.env) (sym (simple_as (world_view c.args.world.now) (out-Simple c.args.simple.now).first (out-Simple c.args.simple.now).end (simple_form_view (out-Simple c.args.simple.now).form) _ (env c.args.state.now) (simple_form_return_value (out-Simple c.args.simple.now).form c.in-ReturnValue.value c.in-ReturnValue.is)))

pub statements::read_simple-returns-in-Break-clause-env : goal.statements::read_simple-returns-in-Break-clause-env
statements::read_simple-returns-in-Break-clause-env t c = env_on c.break_loop.result c.break_loop.new.state _ _ (c.break_loop.ensures.env) (sym (simple_as (world_view c.args.world.now) (out-Simple c.args.simple.now).first (out-Simple c.args.simple.now).end (simple_form_view (out-Simple c.args.simple.now).form) _ (env c.args.state.now) (simple_form_break (out-Simple c.args.simple.now).form c.in-Break.is)))

pub statements::read_simple-returns-in-Assign-clause-env : goal.statements::read_simple-returns-in-Assign-clause-env
statements::read_simple-returns-in-Assign-clause-env t c = env_on c.read_assignment.result c.read_assignment.new.state _ _ (c.read_assignment.ensures.env (out-Simple c.args.simple.now).first (out-Simple c.args.simple.now).end) (sym (simple_as (world_view c.args.world.now) (out-Simple c.args.simple.now).first (out-Simple c.args.simple.now).end (simple_form_view (out-Simple c.args.simple.now).form) _ (env c.args.state.now) (simple_form_assign (out-Simple c.args.simple.now).form c.in-Assign.assignment c.in-Assign.is)))

pub statements::read_simple-returns-in_ok-after-in-Throw-clause-env : goal.statements::read_simple-returns-in_ok-after-in-Throw-clause-env
statements::read_simple-returns-in_ok-after-in-Throw-clause-env t c =
    throw_told (world_view c.args.world.now) (out-Simple c.args.simple.now).first (out-Simple c.args.simple.now).end (out-Simple c.args.simple.now).form c.in-Throw.value c.in_ok-value-in-Throw.value c.args.state.now c.read.new.state c.after.new.self c.die.new.self c.in-Throw.is c.in_ok-value-in-Throw.ensures.told c.in_ok-value-in-Throw.ensures.around c.in_ok-after-in-Throw.ensures.now c.in_ok-after-in-Throw.ensures.around c.die.ensures.env

pub statements::read_simple-returns-in_ok-after-in-Throw-clause-follows : goal.statements::read_simple-returns-in_ok-after-in-Throw-clause-follows
statements::read_simple-returns-in_ok-after-in-Throw-clause-follows t c = follows_through None None None c.args.state.now c.after.new.self c.die.new.self (follows_through None c.in_ok-value-in-Throw.value.fork None c.args.state.now c.read.new.state c.after.new.self c.in_ok-value-in-Throw.ensures.follows c.in_ok-after-in-Throw.ensures.follows) c.die.ensures.follows

pub statements::read_simple-returns-in-Continue-clause-env : goal.statements::read_simple-returns-in-Continue-clause-env
statements::read_simple-returns-in-Continue-clause-env t c = c.die-in-Continue.ensures.env ∙ sym (simple_as (world_view c.args.world.now) (out-Simple c.args.simple.now).first (out-Simple c.args.simple.now).end (simple_form_view (out-Simple c.args.simple.now).form) _ (env c.args.state.now) (simple_form_continue (out-Simple c.args.simple.now).form c.in-Continue.is))

pub statements::read_simple-returns-in_ok-after-in-Evaluate-clause-env : goal.statements::read_simple-returns-in_ok-after-in-Evaluate-clause-env
statements::read_simple-returns-in_ok-after-in-Evaluate-clause-env t c =
    evaluate_told (world_view c.args.world.now) (out-Simple c.args.simple.now).first (out-Simple c.args.simple.now).end (out-Simple c.args.simple.now).form c.in-Evaluate.value c.in_ok-value-in-Evaluate.value c.args.state.now c.read-in-Evaluate.new.state c.after-in-Evaluate.new.self c.in-Evaluate.is c.in_ok-value-in-Evaluate.ensures.told c.in_ok-value-in-Evaluate.ensures.around c.in_ok-after-in-Evaluate.ensures.now c.in_ok-after-in-Evaluate.ensures.around

pub statements::read_simple-returns-in_ok-after-in-Evaluate-clause-follows : goal.statements::read_simple-returns-in_ok-after-in-Evaluate-clause-follows
statements::read_simple-returns-in_ok-after-in-Evaluate-clause-follows t c = follows_through None c.in_ok-value-in-Evaluate.value.fork None c.args.state.now c.read-in-Evaluate.new.state c.after-in-Evaluate.new.self c.in_ok-value-in-Evaluate.ensures.follows c.in_ok-after-in-Evaluate.ensures.follows

pub statements::read_assignment-returns-clause-follows : goal.statements::read_assignment-returns-clause-follows
statements::read_assignment-returns-clause-follows t c = follows_through None c.in_ok-read.read.fork None c.args.state.now c.read.new.state c.assigned.new.state (follows_through None None c.in_ok-read.read.fork c.args.state.now c.read_target.new.state c.read.new.state c.in_ok-goal.ensures.follows c.in_ok-read.ensures.follows) c.in_ok-assigned.ensures.follows

pub statements::read_assignment-returns-in_default-clause-env : goal.statements::read_assignment-returns-in_default-clause-env
statements::read_assignment-returns-in_default-clause-env t c = λ first end. assigned_nothing (world_view c.args.world.now) first end c.args.assignment.now c.args.state.now c.read_target.new.state (sym (ap (option_map goal_view) c.in_default.is) ∙ c.in_ok-goal.ensures.goal) c.in_ok-goal.ensures.now c.in_ok-goal.ensures.around

pub statements::read_target-returns-in_ok-read_variable_goal-in-Variable-clause-goal : goal.statements::read_target-returns-in_ok-read_variable_goal-in-Variable-clause-goal
statements::read_target-returns-in_ok-read_variable_goal-in-Variable-clause-goal t c = ap Some c.in_ok-read_variable_goal-in-Variable.ensures.goal ∙ sym (ap aim_goal (aim_of (world_view c.args.world.now) c.args.target.now (variable c.in-Variable.name) (scope c.args.state.now) (now c.args.state.now) (expr_form_variable (out-Expr c.args.target.now).form c.in-Variable.name c.in-Variable.is)))

pub statements::read_target-returns-in_ok-read_variable_goal-in-Variable-clause-now : goal.statements::read_target-returns-in_ok-read_variable_goal-in-Variable-clause-now
statements::read_target-returns-in_ok-read_variable_goal-in-Variable-clause-now t c = c.in_ok-read_variable_goal-in-Variable.ensures.now ∙ sym (ap (λ (o : Option Aim). aim_now o (now c.args.state.now)) (aim_of (world_view c.args.world.now) c.args.target.now (variable c.in-Variable.name) (scope c.args.state.now) (now c.args.state.now) (expr_form_variable (out-Expr c.args.target.now).form c.in-Variable.name c.in-Variable.is)))

pub statements::read_target-returns-in-Postfix-clause-goal : goal.statements::read_target-returns-in-Postfix-clause-goal
statements::read_target-returns-in-Postfix-clause-goal t c = target_goal c.read_part.result (world_view c.args.world.now) c.args.target.now c.in-Postfix.e (scope c.args.state.now) (now c.args.state.now) c.in-Postfix.is (c.read_part.ensures.goal (out-Expr c.args.target.now).end)

pub statements::read_target-returns-in-Postfix-clause-now : goal.statements::read_target-returns-in-Postfix-clause-now
statements::read_target-returns-in-Postfix-clause-now t c = target_now c.read_part.result (world_view c.args.world.now) c.args.target.now c.in-Postfix.e (scope c.args.state.now) (now c.args.state.now) c.read_part.new.state c.in-Postfix.is (c.read_part.ensures.now (out-Expr c.args.target.now).end)

pub statements::read_target-returns-in_default-clause-goal : goal.statements::read_target-returns-in_default-clause-goal
statements::read_target-returns-in_default-clause-goal t c =
    sym (ap aim_goal (ap (λ (x : Ex). aim (world_view c.args.world.now) x (scope c.args.state.now) (now c.args.state.now)) (expr_is c.args.target.now) ∙ no_target (out-Expr c.args.target.now).form c.in_default.not-Variable c.in_default.not-Postfix (world_view c.args.world.now) (out-Expr c.args.target.now).first (out-Expr c.args.target.now).end (scope c.args.state.now) (now c.args.state.now)))

pub statements::read_target-returns-in_default-clause-now : goal.statements::read_target-returns-in_default-clause-now
statements::read_target-returns-in_default-clause-now t c =
    sym (ap (λ (o : Option Aim). aim_now o (now c.args.state.now)) (ap (λ (x : Ex). aim (world_view c.args.world.now) x (scope c.args.state.now) (now c.args.state.now)) (expr_is c.args.target.now) ∙ no_target (out-Expr c.args.target.now).form c.in_default.not-Variable c.in_default.not-Postfix (world_view c.args.world.now) (out-Expr c.args.target.now).first (out-Expr c.args.target.now).end (scope c.args.state.now) (now c.args.state.now)))

pub bodies::read_block_body-returns-clause-env : goal.bodies::read_block_body-returns-clause-env
bodies::read_block_body-returns-clause-env t c =
    block_body_told (world_view c.args.world.now) (signature_view c.args.signature.now) c.args.block.now c.as_slice-statements.result.now c.args.state.now c.bind_body.new.state c.read_statements.new.state c.end_body.new.state c.as_slice-statements.ensures (c.in_ok-bind_body.ensures.env (changes_of_stmts (statements_view c.as_slice-statements.result.now)) (c.in_ok-set_inside.ensures (changes_of_stmts (statements_view c.as_slice-statements.result.now)) (ap planned c.in_ok-plan.ensures))) c.in_ok-read_statements.ensures.env c.in_ok-end_body.ensures.env

pub bodies::read_block_body-returns-clause-follows : goal.bodies::read_block_body-returns-clause-follows
bodies::read_block_body-returns-clause-follows t c = follows_through None None None c.args.state.now c.read_statements.new.state c.end_body.new.state (follows_through None None None c.args.state.now c.bind_body.new.state c.read_statements.new.state c.in_ok-bind_body.ensures.follows c.in_ok-read_statements.ensures.follows) c.in_ok-end_body.ensures.follows

pub bodies::read_value_body-returns-clause-env : goal.bodies::read_value_body-returns-clause-env
bodies::read_value_body-returns-clause-env t c = value_body_told (world_view c.args.world.now) (signature_view c.args.signature.now) (expr_view c.args.value.now) c.args.state.now c.bind_body.new.state c.read_returned.new.state (c.in_ok-bind_body.ensures.env (changes_of_ex (expr_view c.args.value.now)) c.in_ok-set_inside.ensures) c.in_ok-read_returned.ensures.env

pub bodies::read_value_body-returns-clause-follows : goal.bodies::read_value_body-returns-clause-follows
bodies::read_value_body-returns-clause-follows t c = follows_through None None None c.args.state.now c.bind_body.new.state c.read_returned.new.state c.in_ok-bind_body.ensures.follows c.in_ok-read_returned.ensures.follows

pub bodies::read_planned-returns-clause-env : goal.bodies::read_planned-returns-clause-env
bodies::read_planned-returns-clause-env t c =
    block_form_told (world_view c.args.world.now) c.args.block.now c.as_slice-statements.result.now c.args.state.now c.enter_block.new.state c.read_statements.new.state c.leave_block.new.state c.as_slice-statements.ensures (c.in_ok-outer.ensures.env (changes_of_stmts (statements_view c.as_slice-statements.result.now)) (c.in_ok-set_inside.ensures (changes_of_stmts (statements_view c.as_slice-statements.result.now)) (ap planned (c.requires ∙ block_planned c.args.block.now c.as_slice-statements.result.now c.as_slice-statements.ensures)))) c.in_ok-read_statements.ensures.env (c.leave_block.ensures.env c.args.state.now (inside_on (world_view c.args.world.now) c.in_ok-outer.outer (statements_view c.as_slice-statements.result.now) c.args.state.now c.enter_block.new.state c.read_statements.new.state c.in_ok-outer.ensures.inside c.in_ok-read_statements.ensures.env c.in_ok-read_statements.ensures.follows))

pub bodies::read_planned-returns-clause-follows : goal.bodies::read_planned-returns-clause-follows
bodies::read_planned-returns-clause-follows t c =
    c.leave_block.ensures.follows c.args.state.now (inside_on (world_view c.args.world.now) c.in_ok-outer.outer (statements_view c.as_slice-statements.result.now) c.args.state.now c.enter_block.new.state c.read_statements.new.state c.in_ok-outer.ensures.inside c.in_ok-read_statements.ensures.env c.in_ok-read_statements.ensures.follows) (follows_through None None None c.args.state.now c.enter_block.new.state c.read_statements.new.state c.in_ok-outer.ensures.follows c.in_ok-read_statements.ensures.follows)

pub bodies::read_function-leave-requires : goal.bodies::read_function-leave-requires
bodies::read_function-leave-requires t c = (outside_on c.in_ok-outside.outside c.args.state.now c.enter.new.state c.read_block_body.new.state c.in_ok-outside.ensures.outside c.in_ok-read_block_body.ensures.follows).marks.last

pub bodies::read_function-returns-clause-made : goal.bodies::read_function-returns-clause-made
bodies::read_function-returns-clause-made t c =
    function_told (world_view c.args.world.now) c.args.is_expression c.args.function.now (option_map binding_view c.in_ok-own.own) _ c.args.state.now c.enter.new.state c.read_block_body.new.state c.in_ok-own.ensures c.in_ok-outside.ensures.env c.in_ok-read_block_body.ensures.env (c.in_ok-ty.ensures.made c.args.state.now (outside_on c.in_ok-outside.outside c.args.state.now c.enter.new.state c.read_block_body.new.state c.in_ok-outside.ensures.outside c.in_ok-read_block_body.ensures.follows))

pub bodies::read_function-returns-clause-around : goal.bodies::read_function-returns-clause-around
bodies::read_function-returns-clause-around t c = c.in_ok-ty.ensures.around c.args.state.now (outside_on c.in_ok-outside.outside c.args.state.now c.enter.new.state c.read_block_body.new.state c.in_ok-outside.ensures.outside c.in_ok-read_block_body.ensures.follows)

pub bodies::read_function-returns-clause-follows : goal.bodies::read_function-returns-clause-follows
bodies::read_function-returns-clause-follows t c = c.in_ok-ty.ensures.follows c.args.state.now (outside_on c.in_ok-outside.outside c.args.state.now c.enter.new.state c.read_block_body.new.state c.in_ok-outside.ensures.outside c.in_ok-read_block_body.ensures.follows)

pub bodies::read_arrow-leave-requires : goal.bodies::read_arrow-leave-requires
bodies::read_arrow-leave-requires t c = (outside_on c.in_ok-outside.outside c.args.state.now c.enter.new.state c.read_block_body.new.state c.in_ok-outside.ensures.outside c.in_ok-read_block_body-in-Block.ensures.follows).marks.last

pub bodies::read_arrow-returns-in_ok-ty-in-Block-clause-made : goal.bodies::read_arrow-returns-in_ok-ty-in-Block-clause-made
bodies::read_arrow-returns-in_ok-ty-in-Block-clause-made t c =
    arrow_block_told (world_view c.args.world.now) (signature_view (out-ArrowExpr c.args.arrow.now).signature) c.in-Block.block _ c.args.state.now c.enter.new.state c.read_block_body.new.state c.in_ok-outside.ensures.env c.in_ok-read_block_body-in-Block.ensures.env (c.in_ok-ty-in-Block.ensures.made c.args.state.now (outside_on c.in_ok-outside.outside c.args.state.now c.enter.new.state c.read_block_body.new.state c.in_ok-outside.ensures.outside c.in_ok-read_block_body-in-Block.ensures.follows)) ∙ sym (ap (λ (v : ArrowBody). read_arrow (world_view c.args.world.now) (signature_view (out-ArrowExpr c.args.arrow.now).signature) v (scope c.args.state.now) (now c.args.state.now)) (arrow_body_block (out-ArrowExpr c.args.arrow.now).body c.in-Block.block c.in-Block.is))

pub bodies::read_arrow-returns-in_ok-ty-in-Block-clause-around : goal.bodies::read_arrow-returns-in_ok-ty-in-Block-clause-around
bodies::read_arrow-returns-in_ok-ty-in-Block-clause-around t c = c.in_ok-ty-in-Block.ensures.around c.args.state.now (outside_on c.in_ok-outside.outside c.args.state.now c.enter.new.state c.read_block_body.new.state c.in_ok-outside.ensures.outside c.in_ok-read_block_body-in-Block.ensures.follows)

pub bodies::read_arrow-returns-in_ok-ty-in-Block-clause-follows : goal.bodies::read_arrow-returns-in_ok-ty-in-Block-clause-follows
bodies::read_arrow-returns-in_ok-ty-in-Block-clause-follows t c = c.in_ok-ty-in-Block.ensures.follows c.args.state.now (outside_on c.in_ok-outside.outside c.args.state.now c.enter.new.state c.read_block_body.new.state c.in_ok-outside.ensures.outside c.in_ok-read_block_body-in-Block.ensures.follows)

pub bodies::read_arrow-leave-requires-in-Value : goal.bodies::read_arrow-leave-requires-in-Value
bodies::read_arrow-leave-requires-in-Value t c = (outside_on c.in_ok-outside.outside c.args.state.now c.enter.new.state c.read_value_body.new.state c.in_ok-outside.ensures.outside c.in_ok-read_value_body-in-Value.ensures.follows).marks.last

pub bodies::read_arrow-returns-in_ok-ty-in-Value-clause-made : goal.bodies::read_arrow-returns-in_ok-ty-in-Value-clause-made
bodies::read_arrow-returns-in_ok-ty-in-Value-clause-made t c =
    arrow_value_told (world_view c.args.world.now) (signature_view (out-ArrowExpr c.args.arrow.now).signature) (expr_view c.in-Value.value) _ c.args.state.now c.enter.new.state c.read_value_body.new.state c.in_ok-outside.ensures.env (c.in_ok-read_value_body-in-Value.ensures.env ∙ ap (λ (x : Expr). value_body (world_view c.args.world.now) (signature_view (out-ArrowExpr c.args.arrow.now).signature) (expr_view x) (env c.enter.new.state)) c.get.ensures) (c.in_ok-ty-in-Value.ensures.made c.args.state.now (outside_on c.in_ok-outside.outside c.args.state.now c.enter.new.state c.read_value_body.new.state c.in_ok-outside.ensures.outside c.in_ok-read_value_body-in-Value.ensures.follows)) ∙ sym (ap (λ (v : ArrowBody). read_arrow (world_view c.args.world.now) (signature_view (out-ArrowExpr c.args.arrow.now).signature) v (scope c.args.state.now) (now c.args.state.now)) (arrow_body_value (out-ArrowExpr c.args.arrow.now).body c.in-Value.value c.in-Value.is))

pub bodies::read_arrow-returns-in_ok-ty-in-Value-clause-around : goal.bodies::read_arrow-returns-in_ok-ty-in-Value-clause-around
bodies::read_arrow-returns-in_ok-ty-in-Value-clause-around t c = c.in_ok-ty-in-Value.ensures.around c.args.state.now (outside_on c.in_ok-outside.outside c.args.state.now c.enter.new.state c.read_value_body.new.state c.in_ok-outside.ensures.outside c.in_ok-read_value_body-in-Value.ensures.follows)

pub bodies::read_arrow-returns-in_ok-ty-in-Value-clause-follows : goal.bodies::read_arrow-returns-in_ok-ty-in-Value-clause-follows
bodies::read_arrow-returns-in_ok-ty-in-Value-clause-follows t c = c.in_ok-ty-in-Value.ensures.follows c.args.state.now (outside_on c.in_ok-outside.outside c.args.state.now c.enter.new.state c.read_value_body.new.state c.in_ok-outside.ensures.outside c.in_ok-read_value_body-in-Value.ensures.follows)

pub expressions::read_plain-returns-in-Truth-clause-told : goal.expressions::read_plain-returns-in-Truth-clause-told
expressions::read_plain-returns-in-Truth-clause-told t c = told_on c.read_truth.result c.read_truth.new.state _ _ (c.read_truth.ensures.told) (sym (read_as (world_view c.args.world.now) c.args.first c.args.end (expr_form_view c.args.form.now) _ (scope c.args.state.now) None (now c.args.state.now) (expr_form_truth c.args.form.now c.in-Truth.value c.in-Truth.is)))

pub expressions::read_plain-returns-in-Variable-clause-told : goal.expressions::read_plain-returns-in-Variable-clause-told
expressions::read_plain-returns-in-Variable-clause-told t c = told_on c.read_variable.result c.read_variable.new.state _ _ (c.read_variable.ensures.told) (sym (read_as (world_view c.args.world.now) c.args.first c.args.end (expr_form_view c.args.form.now) _ (scope c.args.state.now) None (now c.args.state.now) (expr_form_variable c.args.form.now c.in-Variable.name c.in-Variable.is)))

pub expressions::read_plain-returns-in-Null-clause-told : goal.expressions::read_plain-returns-in-Null-clause-told
expressions::read_plain-returns-in-Null-clause-told t c = c.plainly-in-Null.ensures.told ∙ sym (read_as (world_view c.args.world.now) c.args.first c.args.end (expr_form_view c.args.form.now) _ (scope c.args.state.now) None (now c.args.state.now) (expr_form_null c.args.form.now c.in-Null.is))

pub expressions::read_field-returns-in-Valued-clause-told : goal.expressions::read_field-returns-in-Valued-clause-told
expressions::read_field-returns-in-Valued-clause-told t c = told_on c.read.result c.read.new.state _ _ (c.read.ensures.told) (sym (ap (λ (v : FieldForm). read_field (world_view c.args.world.now) (out-Field c.args.field.now).first v (scope c.args.state.now) (option_copied c.args.want) (now c.args.state.now)) (field_form_valued (out-Field c.args.field.now).form c.in-Valued.key c.in-Valued.value c.in-Valued.is)))

pub postfixes::read_link-returns-in-Member-clause-told : goal.postfixes::read_link-returns-in-Member-clause-told
postfixes::read_link-returns-in-Member-clause-told t c = told_on c.read_member.result c.read_member.new.state _ _ (c.read_member.ensures.told) (sym (ap (λ (v : LinkForm). read_link (world_view c.args.world.now) c.args.first (out-Link c.args.link.now).first (out-Link c.args.link.now).end v c.args.place (scope c.args.state.now) (told c.args.object c.args.state.now)) (link_form_member (out-Link c.args.link.now).form c.in-Member.key c.in-Member.is)))

pub operands::read_operand-returns-in-As-clause-told : goal.operands::read_operand-returns-in-As-clause-told
operands::read_operand-returns-in-As-clause-told t c =
    λ place goes. told_on c.read_cast.result c.read_cast.new.state _ _ c.read_cast.ensures.told (sym (ap (λ (v : OperandForm). read_operand (world_view c.args.world.now) c.args.first (out-Operand c.args.operand.now).first (out-Operand c.args.operand.now).end v c.args.before.0 place (scope c.args.state.now) (told c.args.left c.args.state.now)) (operand_form_as (out-Operand c.args.operand.now).form c.in-As.tree c.in-As.is)))

pub operands::read_operand-returns-in-Nullish-clause-told : goal.operands::read_operand-returns-in-Nullish-clause-told
operands::read_operand-returns-in-Nullish-clause-told t c =
    λ place goes. told_on c.read_nullish.result c.read_nullish.new.state _ _ c.read_nullish.ensures.told
    (ap (λ (p : Option Place). nullish_out (world_view c.args.world.now) (told c.args.left c.args.state.now) (read (world_view c.args.world.now) (expr_view c.in-Right.side) (scope c.args.state.now) None (nullish_now (world_view c.args.world.now) p (told c.args.left c.args.state.now)))) goes
    ∙ sym (ap (λ (v : OperandForm). read_operand (world_view c.args.world.now) c.args.first (out-Operand c.args.operand.now).first (out-Operand c.args.operand.now).end v c.args.before.0 place (scope c.args.state.now) (told c.args.left c.args.state.now)) (operand_form_right (out-Operand c.args.operand.now).form c.in-Right.operator c.in-Right.side c.in-Right.is ∙ ap (λ (o : Operator). right_side (operator_view o) (expr_view c.in-Right.side)) c.in-Nullish.is)))

pub operands::read_operand-read_operator-requires-clause-plain : goal.operands::read_operand-read_operator-requires-clause-plain
operands::read_operand-read_operator-requires-clause-plain t c = plain_operand c.args.operand.now c.in-Right.operator c.in-Right.side c.in-Right.is c.requires.other c.in_default.not-Nullish

pub statements::read_else-returns-in-Nothing-clause-env : goal.statements::read_else-returns-in-Nothing-clause-env
statements::read_else-returns-in-Nothing-clause-env t c = sym (ap (λ (v : Else). read_else (world_view c.args.world.now) v (env c.args.state.now)) (last_else_nothing c.args.last.now c.in-Nothing.is))

pub statements::read_else-returns-in-Body-clause-env : goal.statements::read_else-returns-in-Body-clause-env
statements::read_else-returns-in-Body-clause-env t c = env_on c.read_body.result c.read_body.new.state _ _ c.read_body.ensures.env (sym (ap (λ (v : Else). read_else (world_view c.args.world.now) v (env c.args.state.now)) (last_else_body c.args.last.now c.in-Body.body c.in-Body.is)))

pub bodies::read_body-returns-in-Block-clause-env : goal.bodies::read_body-returns-in-Block-clause-env
bodies::read_body-returns-in-Block-clause-env t c = env_on c.read_inner_block.result c.read_inner_block.new.state _ _ c.read_inner_block.ensures.env (sym (ap (λ (v : Body). read_body (world_view c.args.world.now) v (env c.args.state.now)) (body_block c.args.body.now c.in-Block.block c.in-Block.is)))

pub statements::read_part-returns-in_default-clause-goal : goal.statements::read_part-returns-in_default-clause-goal
statements::read_part-returns-in_default-clause-goal t c = λ end. sym (ap aim_goal (no_part (world_view c.args.world.now) c.args.first end c.args.e.now (scope c.args.state.now) (now c.args.state.now) (last_in c.as_slice-links.result.now (out-PostfixExpr c.args.e.now).links (option_copied c.last.result) None (ap option_copied c.in_default.is) c.last.ensures.value c.as_slice-links.ensures)))

pub statements::read_part-returns-in_default-clause-now : goal.statements::read_part-returns-in_default-clause-now
statements::read_part-returns-in_default-clause-now t c = λ end. sym (ap (λ (o : Option Aim). aim_now o (now c.args.state.now)) (no_part (world_view c.args.world.now) c.args.first end c.args.e.now (scope c.args.state.now) (now c.args.state.now) (last_in c.as_slice-links.result.now (out-PostfixExpr c.args.e.now).links (option_copied c.last.result) None (ap option_copied c.in_default.is) c.last.ensures.value c.as_slice-links.ensures)))

pub statements::read_part-returns-in-Call-clause-goal : goal.statements::read_part-returns-in-Call-clause-goal
statements::read_part-returns-in-Call-clause-goal t c =
    λ end. sym (ap aim_goal ((part_aim (world_view c.args.world.now) c.args.first end c.args.e.now c.in-Some.last.now (scope c.args.state.now) (now c.args.state.now) (last_in c.as_slice-links.result.now (out-PostfixExpr c.args.e.now).links (option_copied c.last.result) (Some c.in-Some.last.now) (ap option_copied c.in-Some.is) c.last.ensures.value c.as_slice-links.ensures)) ∙ call_aim (world_view c.args.world.now) c.args.first c.in-Some.last.now c.in-Call.arguments c.in-Call.comma _ (scope c.args.state.now) _ c.in-Call.is))

pub statements::read_part-returns-in-Call-clause-now : goal.statements::read_part-returns-in-Call-clause-now
statements::read_part-returns-in-Call-clause-now t c =
    λ end. sym (ap (λ (o : Option Aim). aim_now o (now c.args.state.now)) ((part_aim (world_view c.args.world.now) c.args.first end c.args.e.now c.in-Some.last.now (scope c.args.state.now) (now c.args.state.now) (last_in c.as_slice-links.result.now (out-PostfixExpr c.args.e.now).links (option_copied c.last.result) (Some c.in-Some.last.now) (ap option_copied c.in-Some.is) c.last.ensures.value c.as_slice-links.ensures)) ∙ call_aim (world_view c.args.world.now) c.args.first c.in-Some.last.now c.in-Call.arguments c.in-Call.comma _ (scope c.args.state.now) _ c.in-Call.is))

pub statements::read_part-returns-clause-goal : goal.statements::read_part-returns-clause-goal
statements::read_part-returns-clause-goal t c =
    λ end. c.in_ok-goal.ensures.goal ∙ ap aim_goal ((part_parts (world_view c.args.world.now) c.args.first c.args.e.now c.as_slice-links.result.now c.get-inner.result.now c.in-Some.last.now c.variable_in-from.result c.in_ok-place.place c.in_ok-base.base c.in_ok-object.object c.args.state.now c.read.new.state c.read_links.new.state c.as_slice-links.ensures c.get-inner.ensures c.variable_in-from.ensures c.in_ok-base.ensures.told c.in_ok-base.ensures.around c.in_ok-object.ensures.told c.in_ok-object.ensures.around c.in_ok-place.ensures) ∙ sym (part_aim (world_view c.args.world.now) c.args.first end c.args.e.now c.in-Some.last.now (scope c.args.state.now) (now c.args.state.now) (last_in c.as_slice-links.result.now (out-PostfixExpr c.args.e.now).links (option_copied c.last.result) (Some c.in-Some.last.now) (ap option_copied c.in-Some.is) c.last.ensures.value c.as_slice-links.ensures)))

pub statements::read_part-returns-clause-now : goal.statements::read_part-returns-clause-now
statements::read_part-returns-clause-now t c =
    λ end. c.in_ok-goal.ensures.now ∙ same_now (link_aim (world_view c.args.world.now) c.args.first (link_view c.in-Some.last.now) c.in_ok-place.place (scope c.read_links.new.state) (told c.in_ok-object.object c.read_links.new.state)) _ (now c.args.state.now) (last_some (world_view c.args.world.now) c.args.first c.in-Some.last.now c.in_ok-place.place (scope c.read_links.new.state) (told c.in_ok-object.object c.read_links.new.state) c.in_default-form.not-Call) ∙ ap (λ (o : Option Aim). aim_now o (now c.args.state.now)) ((part_parts (world_view c.args.world.now) c.args.first c.args.e.now c.as_slice-links.result.now c.get-inner.result.now c.in-Some.last.now c.variable_in-from.result c.in_ok-place.place c.in_ok-base.base c.in_ok-object.object c.args.state.now c.read.new.state c.read_links.new.state c.as_slice-links.ensures c.get-inner.ensures c.variable_in-from.ensures c.in_ok-base.ensures.told c.in_ok-base.ensures.around c.in_ok-object.ensures.told c.in_ok-object.ensures.around c.in_ok-place.ensures) ∙ sym (part_aim (world_view c.args.world.now) c.args.first end c.args.e.now c.in-Some.last.now (scope c.args.state.now) (now c.args.state.now) (last_in c.as_slice-links.result.now (out-PostfixExpr c.args.e.now).links (option_copied c.last.result) (Some c.in-Some.last.now) (ap option_copied c.in-Some.is) c.last.ensures.value c.as_slice-links.ensures)))

pub statements::read_part-returns-clause-follows : goal.statements::read_part-returns-clause-follows
statements::read_part-returns-clause-follows t c = follows_through None c.in_ok-object.object.fork None c.args.state.now c.read_links.new.state c.read_last.new.state (follows_through None c.in_ok-base.base.fork c.in_ok-object.object.fork c.args.state.now c.read.new.state c.read_links.new.state c.in_ok-base.ensures.follows c.in_ok-object.ensures.follows) c.in_ok-goal.ensures.follows

pub statements::read_last-returns-in_ok-goal-in-Member-clause-goal : goal.statements::read_last-returns-in_ok-goal-in-Member-clause-goal
statements::read_last-returns-in_ok-goal-in-Member-clause-goal t c =
    ap Some (c.in_ok-goal-in-Member.ensures ∙ ap (goal_of_property (world_view c.args.world.now) c.args.first (out-Link c.args.last.now).first (out-Link c.args.last.now).end c.in-Member.key c.args.place) (c.in_ok-object_type.ensures.ty ∙ sym (told_ty c.args.object c.args.state.now))) ∙ sym (ap aim_goal (link_aim_of (world_view c.args.world.now) c.args.first c.args.last.now (member c.in-Member.key) c.args.place (scope c.args.state.now) (told c.args.object c.args.state.now) (link_form_member (out-Link c.args.last.now).form c.in-Member.key c.in-Member.is)))

pub statements::read_last-returns-in_ok-goal-in-Member-clause-now : goal.statements::read_last-returns-in_ok-goal-in-Member-clause-now
statements::read_last-returns-in_ok-goal-in-Member-clause-now t c = c.in_ok-object_type.ensures.now ∙ sym (ap (λ (o : Option Aim). aim_now o (after (told c.args.object c.args.state.now))) (link_aim_of (world_view c.args.world.now) c.args.first c.args.last.now (member c.in-Member.key) c.args.place (scope c.args.state.now) (told c.args.object c.args.state.now) (link_form_member (out-Link c.args.last.now).form c.in-Member.key c.in-Member.is)))

pub statements::read_last-returns-in_ok-goal-in-Index-clause-goal : goal.statements::read_last-returns-in_ok-goal-in-Index-clause-goal
statements::read_last-returns-in_ok-goal-in-Index-clause-goal t c =
    ap Some (element_told (world_view c.args.world.now) c.args.first (out-Link c.args.last.now).first c.in-Index.e (out-Expr c.in-Index.e).end c.in_ok-object_type.object_type c.in_ok-index-in-Index-2.index _ c.args.object c.in_ok-index-in-Index.index c.args.state.now c.after.new.self c.read.new.state c.in_ok-goal-in-Index.ensures refl (c.in_ok-object_type.ensures.ty ∙ sym (told_ty c.args.object c.args.state.now)) c.in_ok-index-in-Index-2.ensures.ty c.in_ok-index-in-Index.ensures.told c.in_ok-object_type.ensures.now c.in_ok-object_type.ensures.around)
    ∙ sym (ap aim_goal (link_aim_of (world_view c.args.world.now) c.args.first c.args.last.now (index (expr_view c.in-Index.e)) c.args.place (scope c.args.state.now) (told c.args.object c.args.state.now) (link_form_index (out-Link c.args.last.now).form c.in-Index.e c.in-Index.is)))

pub statements::read_last-returns-in_ok-goal-in-Index-clause-now : goal.statements::read_last-returns-in_ok-goal-in-Index-clause-now
statements::read_last-returns-in_ok-goal-in-Index-clause-now t c =
    c.in_ok-index-in-Index-2.ensures.now ∙ ap after c.in_ok-index-in-Index.ensures.told ∙ (λ i. after (read (world_view c.args.world.now) (expr_view c.in-Index.e) (c.in_ok-object_type.ensures.around i).scope None (c.in_ok-object_type.ensures.now i))) ∙ sym (ap (λ (o : Option Aim). aim_now o (after (told c.args.object c.args.state.now))) (link_aim_of (world_view c.args.world.now) c.args.first c.args.last.now (index (expr_view c.in-Index.e)) c.args.place (scope c.args.state.now) (told c.args.object c.args.state.now) (link_form_index (out-Link c.args.last.now).form c.in-Index.e c.in-Index.is)))

pub statements::read_last-returns-in_ok-goal-in-Index-clause-follows : goal.statements::read_last-returns-in_ok-goal-in-Index-clause-follows
statements::read_last-returns-in_ok-goal-in-Index-clause-follows t c = follows_through c.args.object.fork c.in_ok-index-in-Index.index.fork None c.args.state.now c.read.new.state c.after-in-Index.new.self (follows_through c.args.object.fork None c.in_ok-index-in-Index.index.fork c.args.state.now c.after.new.self c.read.new.state c.in_ok-object_type.ensures.follows c.in_ok-index-in-Index.ensures.follows) c.in_ok-index-in-Index-2.ensures.follows

pub statements::read_last-returns-in-Call-clause-goal : goal.statements::read_last-returns-in-Call-clause-goal
statements::read_last-returns-in-Call-clause-goal t c = sym (ap aim_goal (call_aim (world_view c.args.world.now) c.args.first c.args.last.now c.in-Call.arguments c.in-Call.comma c.args.place (scope c.args.state.now) (told c.args.object c.args.state.now) c.in-Call.is))

pub statements::read_last-returns-in-Call-clause-now : goal.statements::read_last-returns-in-Call-clause-now
statements::read_last-returns-in-Call-clause-now t c = c.in_ok-object_type.ensures.now ∙ sym (ap (λ (o : Option Aim). aim_now o (after (told c.args.object c.args.state.now))) (call_aim (world_view c.args.world.now) c.args.first c.args.last.now c.in-Call.arguments c.in-Call.comma c.args.place (scope c.args.state.now) (told c.args.object c.args.state.now) c.in-Call.is))

-- plans that are handed on

pub statements::read_branches-read_branch-requires : goal.statements::read_branches-read_branch-requires
statements::read_branches-read_branch-requires t c = (omega (arith, c.decreases, most_at branch_size c.args.branches.now c.loop-i.i c.index-branches-i.result (omega arith) c.index-branches-i.is), branch_handed (option_copied c.part-planned.result) c.args.branches.now c.loop-i.i c.index-branches-i.result (omega arith) c.index-branches-i.is (c.part-planned.ensures.tells (plan_of_branches (branches_view c.args.branches.now)) c.requires))

pub statements::read_while-read_loop-requires : goal.statements::read_while-read_loop-requires
statements::read_while-read_loop-requires t c = (search rules, plan_given (option_copied c.args.plan) c.in-Some.plan.now (plan_of_form (while_statement_view c.args.statement.now)) (ap option_copied c.in-Some.is) c.requires)

pub bodies::read_block-read_planned-requires : goal.bodies::read_block-read_planned-requires
bodies::read_block-read_planned-requires t c = (search rules, block_made c.args.block.now c.in_ok-plan.plan c.as_slice.result.now c.as_slice.ensures c.in_ok-plan.ensures)

pub bodies::read_inner_block-read_planned-requires : goal.bodies::read_inner_block-read_planned-requires
bodies::read_inner_block-read_planned-requires t c = (search rules, plan_given (option_copied c.args.plan) c.in-Some.plan.now (plan_of_block (block_view c.args.block.now)) (ap option_copied c.in-Some.is) c.requires)

pub bodies::read_statements-read_statement-requires : goal.bodies::read_statements-read_statement-requires
bodies::read_statements-read_statement-requires t c =
    (omega (arith, c.decreases, most_at statement_size c.args.statements.now c.loop-i.i c.index-statements-i.result (omega arith) c.index-statements-i.is), statement_handed (option_copied c.part-planned.result) c.args.statements.now c.loop-i.i c.index-statements-i.result (omega arith) c.index-statements-i.is (c.part-planned.ensures.tells (plan_of_stmts (statements_view c.args.statements.now)) c.requires))

pub statements::read_statement-read_if-requires : goal.statements::read_statement-read_if-requires
statements::read_statement-read_if-requires t c = (omega (arith, c.decreases, if_in c.args.statement.now c.in-If.statement c.in-If.is), if_planned (option_copied c.args.plan) (out-Statement c.args.statement.now).form c.in-If.statement c.in-If.is c.requires)

pub statements::read_statement-read_while-requires : goal.statements::read_statement-read_while-requires
statements::read_statement-read_while-requires t c = (omega (arith, c.decreases, while_in c.args.statement.now c.in-While.statement c.in-While.is), while_planned (option_copied c.args.plan) (out-Statement c.args.statement.now).form c.in-While.statement c.in-While.is c.requires)

pub statements::read_statement-read_inner_block-requires : goal.statements::read_statement-read_inner_block-requires
statements::read_statement-read_inner_block-requires t c = (omega (arith, c.decreases, nested_in c.args.statement.now c.in-Block.block c.in-Block.is), nested_planned (option_copied c.args.plan) (out-Statement c.args.statement.now).form c.in-Block.block c.in-Block.is c.requires)

pub statements::read_else-read_body-requires : goal.statements::read_else-read_body-requires
statements::read_else-read_body-requires t c = (omega (arith, c.decreases, else_in c.args.last.now c.in-Body.body c.in-Body.is), else_planned (option_copied c.args.plan) c.args.last.now c.in-Body.body c.in-Body.is c.requires)

pub bodies::read_body-read_inner_block-requires : goal.bodies::read_body-read_inner_block-requires
bodies::read_body-read_inner_block-requires t c = (omega (arith, c.decreases, body_in c.args.body.now c.in-Block.block c.in-Block.is), body_planned (option_copied c.args.plan) c.args.body.now c.in-Block.block c.in-Block.is c.requires)

pub statements::read_if-read_branches-requires : goal.statements::read_if-read_branches-requires
statements::read_if-read_branches-requires t c = (omega (arith, c.decreases, branches_in c.args.statement.now c.as_slice.result.now c.as_slice.ensures), branches_part (option_copied c.args.plan) (option_copied c.part-planned.result) c.args.statement.now c.as_slice.result.now c.part-planned.ensures.tells c.as_slice.ensures c.requires)

pub statements::read_if-read_else-requires : goal.statements::read_if-read_else-requires
statements::read_if-read_else-requires t c = (omega (arith, c.decreases, last_less c.args.statement.now), last_part (option_copied c.args.plan) (option_copied c.part-last.result) c.args.statement.now c.part-last.ensures.tells c.requires)

pub statements::read_loop-read_body-requires : goal.statements::read_loop-read_body-requires
statements::read_loop-read_body-requires t c = (omega (arith, c.decreases, loop_less c.args.statement.now), loop_part c.args.plan.now (option_copied c.part.result) c.args.statement.now c.part.ensures.tells c.requires)

pub bodies::read_planned-read_statements-requires : goal.bodies::read_planned-read_statements-requires
bodies::read_planned-read_statements-requires t c = (omega (arith, c.decreases, block_in c.args.block.now c.as_slice-statements.result.now c.as_slice-statements.ensures), block_statements c.args.plan.now c.args.block.now c.as_slice-statements.result.now c.as_slice-statements.ensures c.requires)

pub bodies::read_block_body-read_statements-requires : goal.bodies::read_block_body-read_statements-requires
bodies::read_block_body-read_statements-requires t c = (omega (arith, c.decreases, block_in c.args.block.now c.as_slice-statements.result.now c.as_slice-statements.ensures), given_planned c.in_ok-plan.plan (plan_of_stmts (statements_view c.as_slice-statements.result.now)) c.in_ok-plan.ensures)
