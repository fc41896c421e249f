-- Parts and calls, from the tokens at which they stand.
use Rattle.std.specs.Prelude.{ℕ, ◌++◌, List, map}
use Rattle.check_values.specs.Rows.{Bytes}
use Rattle.check_values.specs.declared.faults.Fault.{Fault}
use Rattle.type_values.specs.declared.types.FlowType.{FlowType}
use Rattle.typing.specs.States.{World}
use Rattle.typing.specs.Members.{Part, Step, Arg, Call, levels, member_called, steps_faults, args_faults}

-- a part of an object: the tokens of the object, its type, the tokens of the part, and what names it
abbrev pub part_at : ℕ → ℕ → FlowType → ℕ → ℕ → Bytes → Part
part_at f at ty from to details =
    record { object_first = f; object_end = at; object_type = ty; first = from; end = to; details = details }

-- a call: its first token, that behind the callee, that behind the call, the callee's type, and the arguments
abbrev pub call_at : ℕ → ℕ → ℕ → FlowType → List Arg → Call
call_at f at t ty args = record { first = f; callee_end = at; end = t; callee_type = ty; args = args }

-- what each member gives where it is called
abbrev pub steps_called : World → Call → List Step
steps_called w c = map (member_called w c) (levels w c.callee_type)

-- all faults of a call
abbrev pub faults_called : World → Call → List Fault
faults_called w c = steps_faults (steps_called w c) ++ args_faults w (levels w c.callee_type) c.args
