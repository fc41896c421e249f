use Rattle.std.proofs.Common.{rules}
use Rattle.std.specs.Arc.{arc_value}
use Rattle.run_cases.proofs.Heaps.{empty_fits, empty_is}
use Rattle.run_cases.proofs.calls.empty_heap.Goals as goal

pub open-requires-clause-fit : goal.open-requires-clause-fit
open-requires-clause-fit c = empty_fits 12 (arc_value c.in_ok-root.root) (arc_value c.in_ok-absent.absent) (search rules) (search rules)

pub returns : goal.returns
returns c = empty_is _ (arc_value c.in_ok-root.root) (arc_value c.in_ok-absent.absent) c.in_ok-heap.ensures (search rules)
