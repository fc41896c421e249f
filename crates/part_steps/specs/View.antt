-- What is given, and goals of the code.
use Rattle.std.specs.Prelude.{◌≡◌, List}
use Rattle.typing.specs.States.{World}
use Rattle.typing.specs.Members as typing
use Rattle.typing.specs.Members.{steps_type, steps_faults}
use Rattle.typing.specs.Statements as goals
use Rattle.part_steps.specs.Members.{steps_called, faults_called}
use Rattle.part_steps.specs.declared.members.Given.{Given}
use Rattle.part_steps.specs.declared.goals.Target.{Target}
use Rattle.part_steps.specs.declared.goals.Target.TheVariants as target
use Rattle.part_steps.specs.declared.goals.Goal.{Goal}

-- this is what the steps of all members give
abbrev pub IsGiven : Given → List typing.Step → Type 0
IsGiven g steps = (g.ty ≡ steps_type steps) × (g.faults ≡ steps_faults steps)

-- this is what a call gives
abbrev pub IsCalled : World → typing.Call → Given → Type 0
IsCalled w c g = (g.ty ≡ steps_type (steps_called w c)) × (g.faults ≡ faults_called w c)

-- what an assignment sets
abbrev pub target_view : Target → goals.Target
target_view target.Nothing = goals.set_nothing
target_view (target.Place p declared) = goals.set_place p declared
target_view (target.Property key) = goals.set_property key
target_view target.Element = goals.set_element

abbrev pub goal_view : Goal → goals.Goal
goal_view g = record { wants = g.wants; faults = g.faults; target = target_view g.target }
