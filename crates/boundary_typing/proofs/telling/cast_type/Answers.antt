use Rattle.boundary_typing.proofs.Told.{cast_none}
use Rattle.boundary_typing.proofs.telling.cast_type.Goals as goal

pub returns-in_default : goal.returns-in_default
returns-in_default g c = cast_none (g.N.Names.stands_for c.args.names.now) c.args.operands.now c.in_default.ensures.value
