use Rattle.std.proofs.Common.{Some, None, sym, ap, ◌∙◌}
use Rattle.std.specs.Option.{option_copied}
use Rattle.check_world.specs.View.{world_view}
use Rattle.code_tree.specs.declared.types.Operand.{out-Operand}
use Rattle.typing.specs.Forms.{cast_want}
use Rattle.check_expr.proofs.Fronts.{wants_first}
use Rattle.check_expr.proofs.Views.{operand_form_as, operand_form_right}
use Rattle.check_expr.proofs.operands.first_want.Goals as goal

pub returns-in_ok-written-in-As : goal.returns-in_ok-written-in-As
returns-in_ok-written-in-As c =
    wants_first (world_view c.args.world.now) c.args.operands.now c.in-Some.operand.now (Some c.in_ok-written-in-As.field-0) (sym c.first.ensures.value ∙ ap option_copied c.in-Some.is)
    (ap Some c.in_ok-written-in-As.ensures ∙ sym (ap (cast_want (world_view c.args.world.now)) (operand_form_as (out-Operand c.in-Some.operand.now).form c.in-As.tree c.in-As.is)))

pub returns-in-Right : goal.returns-in-Right
returns-in-Right c =
    wants_first (world_view c.args.world.now) c.args.operands.now c.in-Some.operand.now None (sym c.first.ensures.value ∙ ap option_copied c.in-Some.is)
    (sym (ap (cast_want (world_view c.args.world.now)) (operand_form_right (out-Operand c.in-Some.operand.now).form c.in-Right.operator c.in-Right.side c.in-Right.is)))
