-- What may be absent.
use Rattle.std.specs.Prelude.{Bool, [], ◌∷◌, if◌then◌else◌}
use Rattle.type_values.specs.declared.types.FlowType.{FlowType}
use Rattle.type_values.specs.declared.types.FlowType as made

-- the type of the values at a property or parameter of type t: with `void` behind it where it may be absent
abbrev pub eff : Bool → FlowType → FlowType
eff optional t = if optional then made.Union (t ∷ made.Void ∷ []) else t
