-- Moves that the definition of typing has no words for.
use Rattle.std.specs.Prelude.{Bool, true, Some, None}
use Rattle.type_values.specs.declared.types.FlowType.{FlowType}
use Rattle.typing.specs.States.{World, Want}

-- a type is below what it is read against, if that is told
abbrev pub is_met : World → Want → FlowType → Bool
is_met w None ty = true
is_met w (Some want) ty = w.below ty want
