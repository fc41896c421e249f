use Rattle.std.proofs.Common.{◌≡◌, take}
use Rattle.check_world.specs.View.{world_view, notes_view}
use Rattle.part_steps.specs.Goals.{asked_all}
use Rattle.part_steps.proofs.goals.ask_each.Given as goal

abbrev pub invariant-loop-i : goal.invariant-loop-i
invariant-loop-i l = notes_view l.notes ≡ asked_all (world_view l.world) l.tokens.0 l.tokens.1 (take l.i l.wants) l.ty (notes_view l.fn.notes)
