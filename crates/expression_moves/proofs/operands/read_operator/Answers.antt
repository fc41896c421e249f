use Rattle.std.proofs.Common.{refl}
use Rattle.check_world.specs.View.{world_view}
use Rattle.code_tree.specs.Flat.{operator_view}
use Rattle.expression_moves.proofs.Operating.{operator_read}
use Rattle.expression_moves.proofs.operands.read_operator.Goals as goal

pub returns-clause-told : goal.returns-clause-told
returns-clause-told c o own =
    operator_read (world_view c.args.world.now) c.args.tokens.0 c.args.tokens.1 c.args.tokens.2 (operator_view c.args.operator) o c.args.right c.args.left.now c.in_ok-right.right c.in_ok-ty.ty c.args.state.now c.after.new.self
    (record c.after.new.self { notes = c.operator_type.new.notes }) c.requires.plain own c.in_ok-right.ensures.now c.in_ok-right.ensures.ty refl c.in_ok-ty.ensures.ty c.in_ok-ty.ensures.notes
