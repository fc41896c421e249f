use Rattle.std.proofs.Common.{take}
use Rattle.typing.specs.Changes.{changes_of_exs, changes_of_fields, changes_of_links, changes_of_operands, changes_of_arms, changes_of_stmts, changes_of_branches}
use Rattle.code_tree.specs.View.{exprs_view, fields_view, links_view, operands_view, arms_view, statements_view, branches_view}
use Rattle.code_changes.specs.Walks.{Tells}
use Rattle.code_changes.proofs.+changing.Given as goal

abbrev pub invariant-expressions::walk_exprs-loop-i : goal.invariant-expressions::walk_exprs-loop-i
invariant-expressions::walk_exprs-loop-i l = Tells l.fn.walk l.walk (changes_of_exs (exprs_view (take l.i l.all)))

abbrev pub invariant-expressions::walk_fields-loop-i : goal.invariant-expressions::walk_fields-loop-i
invariant-expressions::walk_fields-loop-i l = Tells l.fn.walk l.walk (changes_of_fields (fields_view (take l.i l.all)))

abbrev pub invariant-expressions::walk_links-loop-i : goal.invariant-expressions::walk_links-loop-i
invariant-expressions::walk_links-loop-i l = Tells l.fn.walk l.walk (changes_of_links (links_view (take l.i l.all)))

abbrev pub invariant-expressions::walk_operands-loop-i : goal.invariant-expressions::walk_operands-loop-i
invariant-expressions::walk_operands-loop-i l = Tells l.fn.walk l.walk (changes_of_operands (operands_view (take l.i l.all)))

abbrev pub invariant-expressions::walk_arms-loop-i : goal.invariant-expressions::walk_arms-loop-i
invariant-expressions::walk_arms-loop-i l = Tells l.fn.walk l.walk (changes_of_arms (arms_view (take l.i l.all)))

abbrev pub invariant-statements::walk_statements-loop-i : goal.invariant-statements::walk_statements-loop-i
invariant-statements::walk_statements-loop-i l = Tells l.fn.walk l.walk (changes_of_stmts (statements_view (take l.i l.all)))

abbrev pub invariant-statements::walk_branches-loop-i : goal.invariant-statements::walk_branches-loop-i
invariant-statements::walk_branches-loop-i l = Tells l.fn.walk l.walk (changes_of_branches (branches_view (take l.i l.all)))
