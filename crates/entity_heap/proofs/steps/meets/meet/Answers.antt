use Rattle.std.proofs.Common.{◌≡◌, ◌∙◌}
use Rattle.entity_heap.proofs.Floors.{Met, floor_is, floor_was, learnt_is, states_are}
use Rattle.entity_heap.proofs.steps.meets.meet.Goals as goal

pub returns-clause-lane : goal.returns-clause-lane
returns-clause-lane g c = c.report.ensures.same.2
    ∙ floor_is c.args.writer.now.me c.args.lane.now.me c.tell.new.writer.me c.tell.new.lane.me c.report.new.writer.me record { told = c.tell.ensures.same.2; floor = c.tell.ensures.lane; learnt = c.report.ensures.writer; room = c.requires.room; seen = c.check.ensures.met; states = c.check.ensures.heard }

pub returns-clause-writer : goal.returns-clause-writer
returns-clause-writer g c = c.check.ensures.same.1
    ∙ learnt_is c.args.writer.now.me c.args.lane.now.me c.tell.new.writer.me c.tell.new.lane.me c.report.new.writer.me record { told = c.tell.ensures.same.2; floor = c.tell.ensures.lane; learnt = c.report.ensures.writer; room = c.requires.room; seen = c.check.ensures.met; states = c.check.ensures.heard }

pub returns-clause-floor : goal.returns-clause-floor
returns-clause-floor g c = floor_was c.args.writer.now.me c.args.lane.now.me c.tell.new.writer.me c.tell.new.lane.me c.report.new.writer.me
    record { told = c.tell.ensures.same.2; floor = c.tell.ensures.lane; learnt = c.report.ensures.writer; room = c.requires.room; seen = c.check.ensures.met; states = c.check.ensures.heard }

pub returns-clause-states : goal.returns-clause-states
returns-clause-states g c = states_are c.args.writer.now.me c.args.lane.now.me c.tell.new.writer.me c.tell.new.lane.me c.report.new.writer.me
    record { told = c.tell.ensures.same.2; floor = c.tell.ensures.lane; learnt = c.report.ensures.writer; room = c.requires.room; seen = c.check.ensures.met; states = c.check.ensures.heard }
