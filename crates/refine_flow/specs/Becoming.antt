-- What a fact becomes where it is joined with another one.
use Rattle.std.specs.Prelude.{◌≡◌, [], ◌∷◌, Option, Some, None}
use Rattle.type_values.specs.declared.types.FlowType.{FlowType}
use Rattle.type_terms.specs.Join.{join_of}
use Rattle.flow_facts.specs.declared.test.Cell.{Cell}
use Rattle.flow_facts.specs.declared.test.Cell.TheVariants.{Stays, Gone, Becomes}

-- what a fact of a type becomes
abbrev pub left_of : FlowType → Cell → Option FlowType
left_of t Stays = Some t
left_of t Gone = None
left_of t (Becomes u) = Some u

-- what it becomes is its own join with itself
abbrev pub IsJoint : Cell → Type 0
IsJoint (Becomes u) = join_of (u ∷ u ∷ []) ≡ u
IsJoint cell = Unit {0}
