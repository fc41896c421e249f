-- What steps, parts and calls of the code stand for.
use Rattle.std.specs.Prelude.{ℕ, List, map}
use Rattle.type_values.specs.declared.types.FlowType.{FlowType}
use Rattle.type_terms.specs.Show.{brief, quoted}
use Rattle.check_values.specs.declared.faults.Fault.{Fault}
use Rattle.typing.specs.Members as typing
pub use Rattle.check_world.specs.View.{levels_seen}
use Rattle.member_steps.specs.declared.step.Step.{Step}
use Rattle.member_steps.specs.declared.step.Steps.{Steps}
use Rattle.member_steps.specs.declared.part.Details.{Details}
use Rattle.member_steps.specs.declared.part.Details.TheVariants as details
use Rattle.member_steps.specs.declared.part.Part.{Part}
use Rattle.member_steps.specs.declared.call.Argument.{Argument}
use Rattle.member_steps.specs.declared.call.Call.{Call}

-- what a member gives, and its faults
abbrev pub step_view : Step → typing.Step
step_view s = (s.ty, s.faults)

-- the types that the members so far give, and their faults
abbrev pub steps_view : Steps → List FlowType × List Fault
steps_view s = (s.types, s.faults)

-- what steps give: their types, and the faults of all
abbrev pub summed : List typing.Step → List FlowType × List Fault
summed steps = (map (λ (step : typing.Step). step.0) steps, typing.steps_faults steps)

-- the bytes that name a part
abbrev pub details_view : Details → List ℕ
details_view (details.Key key) = key.now
details_view (details.Quoted key) = quoted key.now
details_view (details.Index ty) = brief ty.now

abbrev pub part_view : Part → typing.Part
part_view p = record {
  object_first = p.object_first;
  object_end = p.object_end;
  object_type = p.object_type.now;
  first = p.first;
  end = p.end;
  details = details_view p.details;
}

-- an argument that was read
abbrev pub argument_view : Argument → typing.Arg
argument_view a = record { first = a.first; end = a.end; ty = a.ty }

abbrev pub arguments_view : List Argument → List typing.Arg
arguments_view all = map argument_view all

abbrev pub call_view : Call → typing.Call
call_view c = record {
  first = c.first;
  callee_end = c.callee_end;
  end = c.end;
  callee_type = c.callee_type.now;
  args = arguments_view c.arguments.now;
}
