use Rattle.std.proofs.Common.{◌≡◌, ◌-◌, ◌≤◌, nat_lt, length, take}
use Rattle.std.specs.Option.{option_copied, option_map}
use Rattle.check_world.specs.View.{world_view}
use Rattle.code_tree.specs.View.{exprs_view, fields_view, links_view, operands_view, arms_view, statements_view, branches_view}
use Rattle.literal_reads.specs.View.{elements_view, entries_view, candidate_view}
use Rattle.member_steps.specs.View.{arguments_view}
use Rattle.typing.specs.Forms.{place_before}
use Rattle.check_expr.proofs.Loops.{ElementsRead, FieldsRead, ArgumentsRead, LinksRead, OperandsRead, RunRead, ArmsRead, BranchesRead, StatementsRead}
use Rattle.check_expr.proofs.+reading.Given as goal

abbrev pub invariant-expressions::read_arms-loop-i : goal.invariant-expressions::read_arms-loop-i
invariant-expressions::read_arms-loop-i l = ArmsRead (world_view l.world) (arms_view (take l.i l.arms)) (option_copied l.want) l.fn.state l.chosen.items l.state

abbrev pub invariant-expressions::read_elements-loop-i : goal.invariant-expressions::read_elements-loop-i
invariant-expressions::read_elements-loop-i l = ElementsRead (world_view l.world) (exprs_view (take l.i l.elements)) (option_map elements_view l.matched) l.fn.state l.types l.state

abbrev pub invariant-expressions::read_fields-loop-i : goal.invariant-expressions::read_fields-loop-i
invariant-expressions::read_fields-loop-i l =
    FieldsRead (world_view l.world) (fields_view (take l.i l.fields)) (option_map (λ c. candidate_view c.now) l.candidate) (entries_view l.entries) l.fn.state l.props l.state

abbrev pub invariant-postfixes::read_links-loop-i : goal.invariant-postfixes::read_links-loop-i
invariant-postfixes::read_links-loop-i l = LinksRead (world_view l.world) l.first (links_view (take l.i l.links)) l.from l.fn.base l.fn.state l.chain l.state

abbrev pub invariant-postfixes::read_arguments-loop-k : goal.invariant-postfixes::read_arguments-loop-k
invariant-postfixes::read_arguments-loop-k l = ArgumentsRead (world_view l.world) (exprs_view (take l.k l.arguments)) (option_copied l.params) l.fn.state (arguments_view l.given) l.state

abbrev pub invariant-operands::read_operands-loop-at : goal.invariant-operands::read_operands-loop-at
invariant-operands::read_operands-loop-at l = record {
  within : l.at ≤ length l.operands;
  place : l.place ≡ place_before (nat_lt 0 l.at) l.fn.place;
  read : OperandsRead (world_view l.world) l.first (operands_view (take l.at l.operands)) l.fn.place l.fn.left l.fn.state l.chain l.state;
}

abbrev pub invariant-operands::read_run-loop-i : goal.invariant-operands::read_run-loop-i
invariant-operands::read_run-loop-i l = record {
  count : length l.ways.items ≡ l.i;
  read : RunRead (world_view l.world) l.first (operands_view (take l.i l.operands)) l.is_and l.fn.left l.fn.state l.ways.items l.ty l.fork l.state;
}

abbrev pub invariant-bodies::read_statements-loop-i : goal.invariant-bodies::read_statements-loop-i
invariant-bodies::read_statements-loop-i l = StatementsRead (world_view l.world) (statements_view (take l.i l.statements)) l.fn.state l.state

abbrev pub invariant-statements::read_branches-loop-i : goal.invariant-statements::read_branches-loop-i
invariant-statements::read_branches-loop-i l = BranchesRead (world_view l.world) (branches_view (take l.i l.branches)) l.fn.state l.arms.items l.state

abbrev pub decreases-operands::read_operands-loop-at : goal.decreases-operands::read_operands-loop-at
decreases-operands::read_operands-loop-at l = length l.operands - l.at
