use Rattle.std.proofs.Common.{◌≡◌, ◌++◌, drop}
use Rattle.check_world.specs.View.{world_view}
use Rattle.typing.specs.Members.{misfits}
use Rattle.member_steps.specs.View.{arguments_view}
use Rattle.member_steps.proofs.call.add_misfits.Given as goal

-- with those of the arguments that are left, they are all
abbrev pub invariant-loop-k : goal.invariant-loop-k
invariant-loop-k l = l.faults ++ misfits (world_view l.world) l.params l.k (arguments_view (drop l.k l.arguments)) ≡ l.initial.faults ++ misfits (world_view l.world) l.params 0 (arguments_view l.arguments)
