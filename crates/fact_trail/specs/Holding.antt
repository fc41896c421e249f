-- How the type of a fact is held.
use Rattle.std.specs.Prelude.{List, [], ◌∷◌, ◌++◌, reverse}
use Rattle.type_values.specs.declared.types.FlowType.{FlowType}
use Rattle.type_terms.specs.Join.{join_of}

-- a type, and the join of it with those that wait in front of it, of which the first one stands last
abbrev pub type_held : FlowType → List FlowType → FlowType
type_held ty [] = ty
type_held ty (next ∷ more) = join_of (reverse (next ∷ more) ++ ty ∷ [])
