-- What is the only one of its list.
use Rattle.std.specs.Prelude.{Bool, true, false, Option, Some, None, if◌then◌else◌}
use Rattle.js_grammar.specs.Code.{Prefixes, no_prefix, more_prefix, kind_of, Links, no_link, more_link, link, member, Operand, operand, OperandForm, Ex}
use Rattle.check_values.specs.Rows.{Bytes}
use Rattle.typing.specs.Names.{Scope}
use Rattle.typing.specs.Tests.{Tested, tested_kind, place_in}

-- one `typeof`, and no other mark
abbrev pub is_kind_of : Prefixes → Bool
is_kind_of (more_prefix no_prefix at kind_of) = true
is_kind_of ps = false

-- the name of a property, where it is the only link
abbrev pub only_member : Links → Option Bytes
only_member (more_link no_link (link f t (member key))) = Some key
only_member ls = None

-- the place that an expression behind marks tests
abbrev pub tested_behind : Scope → Prefixes → Ex → Option Tested
tested_behind scope ps e = if is_kind_of ps then tested_kind (place_in scope e) else None

-- what an operand is, without its place
abbrev pub form_of : Operand → OperandForm
form_of (operand f t form) = form
