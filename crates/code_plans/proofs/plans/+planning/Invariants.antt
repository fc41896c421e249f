use Rattle.std.proofs.Common.{◌≡◌, [], take}
use Rattle.typing.specs.Changes.{changes_of_stmts, changes_of_branches}
use Rattle.code_tree.specs.View.{statements_view, branches_view}
use Rattle.code_plans.specs.Plans.{plans_of_stmts, plans_of_branches}
use Rattle.code_plans.specs.View.{plans_view, Adds}
use Rattle.code_plans.proofs.plans.+planning.Given as goal

abbrev pub invariant-plan_of_statements-loop-i : goal.invariant-plan_of_statements-loop-i
invariant-plan_of_statements-loop-i l = record {
  made : plans_view l.parts ≡ plans_of_stmts (statements_view (take l.i l.all));
  told : Adds [] l.changes (changes_of_stmts (statements_view (take l.i l.all)));
}

abbrev pub invariant-plans_of_branches-loop-i : goal.invariant-plans_of_branches-loop-i
invariant-plans_of_branches-loop-i l = record {
  made : plans_view l.parts ≡ plans_of_branches (branches_view (take l.i l.all));
  told : Adds l.fn.out l.out (changes_of_branches (branches_view (take l.i l.all)));
}
