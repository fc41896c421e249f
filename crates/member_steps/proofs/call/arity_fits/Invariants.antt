use Rattle.std.proofs.Common.{◌≡◌, drop}
use Rattle.std.specs.List.{list_all}
use Rattle.check_world.specs.View.{world_view}
use Rattle.typing.specs.Members.{may_lack}
use Rattle.member_steps.proofs.call.arity_fits.Given as goal

-- each parameter before the place may lack its argument
abbrev pub invariant-loop-k : goal.invariant-loop-k
invariant-loop-k l = list_all (may_lack (world_view l.world)) (drop l.count l.params) ≡ list_all (may_lack (world_view l.world)) (drop l.k l.params)
