use Rattle.entity_heap.proofs.Takes.{last_of_new, rest_of_new}
use Rattle.heap_cases.proofs.tests.running.take_lane.Goals as goal

pub returns-clause-lane : goal.returns-clause-lane
returns-clause-lane c = last_of_new c.args.heap.now 5 c.args.lanes.now c.pop.new.self c.pop.result c.requires c.pop.ensures

pub returns-clause-others : goal.returns-clause-others
returns-clause-others c = rest_of_new c.args.heap.now 5 c.args.lanes.now c.pop.new.self c.pop.result c.requires c.pop.ensures
