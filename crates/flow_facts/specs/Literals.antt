-- The types that a tested literal names.

use Rattle.type_values.specs.declared.types.FlowType.{FlowType}
use Rattle.type_values.specs.declared.types.FlowType as made
use Rattle.flow_facts.specs.declared.test.Lit.{Lit}
use Rattle.flow_facts.specs.declared.test.Lit.TheVariants.{Str, Num, Bool}

-- the type of the literal alone
abbrev pub lit_type : Lit → FlowType
lit_type (Str text) = made.StrLit text
lit_type (Num spelling) = made.NumLit spelling
lit_type (Bool b) = made.BoolLit b

-- its base
abbrev pub lit_base : Lit → FlowType
lit_base (Str text) = made.Str
lit_base (Num spelling) = made.Number
lit_base (Bool b) = made.Boolean
