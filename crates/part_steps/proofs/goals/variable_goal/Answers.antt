use Rattle.std.proofs.Common.{sym, ap, ◌∙◌}
use Rattle.check_world.specs.View.{world_view, notes_view}
use Rattle.scopes.specs.View.{scope_view}
use Rattle.typing.specs.Names as typing
use Rattle.typing.specs.Names.{meaning_of}
use Rattle.typing.specs.Statements.{variable_goal, variable_named}
use Rattle.part_steps.proofs.Steps.{means_none, means_variable}
use Rattle.part_steps.proofs.goals.variable_goal.Goals as goal

pub returns-in_ok-name_at-in-NoVariable-clause-goal : goal.returns-in_ok-name_at-in-NoVariable-clause-goal
returns-in_ok-name_at-in-NoVariable-clause-goal c =
    c.nothing.ensures
    ∙ ap (variable_goal (world_view c.args.world.now) c.args.token c.args.name.now)
    (sym (means_none c.in_ok-code.field-0 c.in-NoVariable.code (meaning_of (scope_view c.args.scope.now) c.args.name.now) c.in-NoVariable.is c.in_ok-code.ensures))

pub returns-in_ok-name_at-in-NoVariable-clause-notes : goal.returns-in_ok-name_at-in-NoVariable-clause-notes
returns-in_ok-name_at-in-NoVariable-clause-notes c =
    c.in_ok-name_at-in-NoVariable.ensures.ok
    ∙ ap (λ (m : typing.Meaning). variable_named (world_view c.args.world.now) c.args.token c.args.name.now m (notes_view c.args.notes.now))
    (sym (means_none c.in_ok-code.field-0 c.in-NoVariable.code (meaning_of (scope_view c.args.scope.now) c.args.name.now) c.in-NoVariable.is c.in_ok-code.ensures))

pub returns-in-Variable-clause-goal : goal.returns-in-Variable-clause-goal
returns-in-Variable-clause-goal c =
    means_variable (world_view c.args.world.now) c.args.token c.args.name.now c.in_ok-code.field-0 c.in-Variable.variable c.in-Variable.declared
    (meaning_of (scope_view c.args.scope.now) c.args.name.now) c.goal_of_variable.result c.in-Variable.is c.in_ok-code.ensures c.goal_of_variable.ensures
