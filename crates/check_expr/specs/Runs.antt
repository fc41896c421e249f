-- Operands of one chain, and what each gives on parts that were read.
use Rattle.std.specs.Prelude.{◌&&◌, Bool, true, false, List, [], ◌∷◌, Option, Some, None, if◌then◌else◌}
use Rattle.js_grammar.specs.Code.{or, and, Operand, operand, right_side}
use Rattle.type_values.specs.declared.types.FlowType.{FlowType}
use Rattle.type_terms.specs.Join.{join_of}
use Rattle.flow_facts.specs.Narrowing.{narrowed}
use Rattle.flow_facts.specs.declared.test.Test as test
use Rattle.typing.specs.Names.{Scope}
use Rattle.typing.specs.States.{World, Now, Out, plainly}
use Rattle.typing.specs.Typing.{read}

-- whether an operand goes on a chain of `&&` (true) or of `||` (false), or of neither
abbrev pub run_of : Operand → Option Bool
run_of (operand f t (right_side and e)) = Some true
run_of (operand f t (right_side or e)) = Some false
run_of o = None

abbrev pub is_run : Bool → Option Bool → Bool
is_run true (Some true) = true
is_run false (Some false) = true
is_run is_and kind = false

-- all of them go on a chain of `&&` (true) or of `||`
abbrev pub are_run : Bool → List Operand → Bool
are_run is_and [] = true
are_run is_and (o ∷ os) = is_run is_and (run_of o) && are_run is_and os

-- the type of `a && b` (true) or `a || b`
abbrev pub either_type : World → Bool → FlowType → FlowType → FlowType
either_type w is_and left right = join_of (narrowed w.members (if is_and then test.Falsy else test.Truthy) left ∷ right ∷ [])

-- the right side of `&&` (true) or `||`, with the type of the whole
abbrev pub side_out : World → Bool → Operand → FlowType → Scope → Now → Out
side_out w is_and (operand f t (right_side op e)) left scope now =
    let b = read w e scope None now in
    record b { ty = either_type w is_and left b.ty }
side_out w is_and o left scope now = plainly left now
