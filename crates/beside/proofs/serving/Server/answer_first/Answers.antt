use Rattle.std.proofs.Common.{◌∙◌}
use Rattle.beside.proofs.Served.{first_there, first_set, first_uses, first_rises}
use Rattle.beside.proofs.Done.{first_running}
use Rattle.beside.proofs.serving.Server.answer_first.Goals as goal

pub returns-clause-running : goal.returns-clause-running
returns-clause-running g c =
    let same = c.into_vec-lanes.ensures ∙ c.replace.ensures.value in let told = c.answer_current-told.ensures in
    let at = first_there c.into_vec-lanes.result.items c.args.self.now.lanes c.index_mut.result.now same c.requires.running.some c.index_mut.ensures.value in
    let is = first_set c.into_vec-lanes.result.items c.args.self.now.lanes c.from_vec.result c.answer_current-told.new.lane same c.from_vec.ensures in
    first_running c.args.self.now.heap c.args.self.now.writer c.answer_current-told.new.writer c.args.self.now.lanes c.from_vec.result c.index_mut.result.now c.answer_current-told.new.lane is at c.requires.running told.from.0 told.from.1 told.writer.made told.number

pub returns-clause-falls : goal.returns-clause-falls
returns-clause-falls g c =
    let same = c.into_vec-lanes.ensures ∙ c.replace.ensures.value in
    let at = first_there c.into_vec-lanes.result.items c.args.self.now.lanes c.index_mut.result.now same c.requires.running.some c.index_mut.ensures.value in
    first_rises c.args.self.now.lanes c.index_mut.result.now c.answer_current-told.result.version at c.answer_current-told.ensures.later

pub returns-clause-lanes : goal.returns-clause-lanes
returns-clause-lanes g c =
    let same = c.into_vec-lanes.ensures ∙ c.replace.ensures.value in
    let at = first_there c.into_vec-lanes.result.items c.args.self.now.lanes c.index_mut.result.now same c.requires.running.some c.index_mut.ensures.value in
    let is = first_set c.into_vec-lanes.result.items c.args.self.now.lanes c.from_vec.result c.answer_current-told.new.lane same c.from_vec.ensures in
    first_uses c.args.self.now.lanes c.from_vec.result c.index_mut.result.now c.answer_current-told.new.lane is at c.answer_current-told.result.version c.answer_current-told.ensures.lane
