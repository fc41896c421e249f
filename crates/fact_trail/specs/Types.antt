-- The type of a fact.
use Rattle.type_values.specs.declared.types.FlowType.{FlowType}
use Rattle.fact_trail.specs.declared.fact.Fact.{Fact}
use Rattle.fact_trail.specs.Holding.{type_held}

abbrev pub ty_of : Fact → FlowType
ty_of fact = type_held fact.ty fact.waiting
