use Rattle.std.proofs.Common.{rules}
use Rattle.std.specs.Arc.{arc_value}
use Rattle.script_run.proofs.NewServers.{empty_fits, new_server}
use Rattle.script_run.proofs.opening.open_server.Goals as goal

pub open-requires-clause-fit : goal.open-requires-clause-fit
open-requires-clause-fit c = empty_fits _ _ _ (search rules) (search rules)

pub returns : goal.returns
returns c =
    new_server _ c.args.modules c.args.lanes (arc_value c.in_ok-root.root) (arc_value c.in_ok-absent.absent) c.in_ok-heap.ensures.meaning (search rules) c.requires.1 c.in_ok-heap.ensures.writer.0 c.in_ok-heap.ensures.lanes c.requires.2 c.requires.3
