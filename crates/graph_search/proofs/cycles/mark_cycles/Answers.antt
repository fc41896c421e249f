use Rattle.std.proofs.Common.{arith}
use Rattle.graph_search.proofs.CycleLemmas.{half_begin, half_step, half_end}
use Rattle.graph_search.proofs.cycles.mark_cycles.Goals as goal

pub loop-x-init : goal.loop-x-init
loop-x-init c = half_begin c.args.edges.now c.new-marks.result.items c.new-marks.ensures.items

pub loop-x-preserved : goal.loop-x-preserved
loop-x-preserved c = half_step c.args.edges.now c.loop-x.x c.loop-x.marks.items c.push.new.self.items c.leads_back.result (omega arith) c.leads_back.ensures c.in_ok-push.ensures.items c.loop-x.invariant

pub returns : goal.returns
returns c = half_end c.args.edges.now c.loop-x.x c.loop-x.marks.items (omega arith) c.loop-x.invariant
