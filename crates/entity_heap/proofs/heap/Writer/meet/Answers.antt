use Rattle.std.proofs.Common.{subst, sym, ap}
use Rattle.entity_heap.specs.Rule.{AreStates}
use Rattle.entity_heap.specs.Writers.{plan_in}
use Rattle.entity_heap.specs.Lanes.{visit_at}
use Rattle.entity_heap.specs.declared.board.Visit.{Visit}
use Rattle.entity_heap.proofs.heap.Writer.meet.Goals as goal

pub returns-clause-states : goal.returns-clause-states
returns-clause-states g c = subst (λ (z : Visit g.row.P.Denot). AreStates (plan_in c.args.self.now) z.entries) (sym (ap visit_at c.leave-core.ensures.core)) c.meet_core.ensures.states
