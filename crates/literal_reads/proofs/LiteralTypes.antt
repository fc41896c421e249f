-- The types of literals.
use Rattle.std.proofs.Common.{◌≡◌, List, [], ◌∷◌, map, refl}
use Rattle.type_values.specs.declared.types.FlowType.{FlowType}
use Rattle.type_values.specs.declared.types.FlowType as made
use Rattle.type_terms.specs.Join.{join_of, widened}
use Rattle.typing.specs.Objects.{array_type}

pub of_some : (types : List FlowType) → (types ≡ [] → ⊥) → made.Array (join_of (map widened types)) ≡ array_type types
of_some [] some = absurd (some refl)
of_some (t ∷ types) some = refl
