use Rattle.std.proofs.Common.{rules, refl, sym, ◌∙◌, subst, arith, [], length}
use Rattle.std.proofs.lemmas.Result.{err_from_is_err_and}
use Rattle.flow_base.specs.Seen.{outside}
use Rattle.script_reader.specs.Lines.{bytes_left, lines_left}
use Rattle.script_run.specs.Transcript.{start}
use Rattle.script_run.specs.Session.{standing_in}
use Rattle.script_run.specs.Steps.{walk_state, HasWalked, Takes, Closes, Breaks}
use Rattle.beside.specs.Server.{use_of, uses_of}
use Rattle.beside.specs.Writers.{meaning_in}
use Rattle.script_run.specs.declared.ending.RunFault.TheVariants.{ScriptFault, SinkFault}
use Rattle.script_run.proofs.Givens.{begins, then_front, took_all}
use Rattle.script_run.proofs.Lanes.{walked_lanes, used_many}
use Rattle.script_run.proofs.Walks.{on_err, counts_handed, leaves_same, some_of, none_of, begin, more, stops, finishes, may_answer_line, front_of_close, front_of_walk, front_of_break, front_of_load}
use Rattle.script_run.proofs.walk.run.Goals as goal

pub returns-in_err-session-clause-front : goal.returns-in_err-session-clause-front
returns-in_err-session-clause-front g c =
    on_err c.from_residual.result _
    (front_of_load c.args.modules (length c.args.askers.items) c.args.listed.now (walk_state (start c.args.listed.now (length c.args.askers.items)) (g.F.Folder.seen c.args.folder.now) (g.K.Sink.seen c.args.out.now)) (g.S.Source.seen c.args.script.now) c.each_edit_has_sizes.ensures c.each_has_answer.ensures
    (outside (g.F.Folder.seen c.load.new.folder) (g.S.Source.seen c.args.script.now) (g.K.Sink.seen c.load.new.out)) refl c.load.ensures.later c.in_err-session.ensures.front)

pub returns-in_err-reader-clause-front : goal.returns-in_err-reader-clause-front
returns-in_err-reader-clause-front g c =
    let before = walk_state (start c.args.listed.now (length c.args.askers.items)) (g.F.Folder.seen c.args.folder.now) (g.K.Sink.seen c.args.out.now) in
    let now = walk_state (standing_in c.in_ok-session.session) (g.F.Folder.seen c.load.new.folder) (g.K.Sink.seen c.load.new.out) in
    let source = g.S.Source.seen c.args.script.now in
    on_err c.from_residual-in_err-reader.result _
    (front_of_walk c.args.modules (length c.args.askers.items) c.args.listed.now before source c.each_edit_has_sizes.ensures c.each_has_answer.ensures (lines_left [] source.left) 0 now (outside now.folder source now.out) refl (omega arith)
    (begin c.args.modules (length c.args.askers.items) c.args.listed.now (lines_left [] source.left) before now refl c.in_ok-session.ensures.loaded))

pub loop-reader-init : goal.loop-reader-init
loop-reader-init g c =
    let before = walk_state (start c.args.listed.now (length c.args.askers.items)) (g.F.Folder.seen c.args.folder.now) (g.K.Sink.seen c.args.out.now) in
    let now = walk_state (standing_in c.in_ok-session.session) (g.F.Folder.seen c.load.new.folder) (g.K.Sink.seen c.load.new.out) in
    let left = (g.S.Source.seen c.args.script.now).left in
    record {
      walked =
          subst (λ r. HasWalked c.args.modules (length c.args.askers.items) c.args.listed.now (lines_left [] left) (lines_left r left) 0 before now) (sym c.in_ok-reader.ensures)
          (begin c.args.modules (length c.args.askers.items) c.args.listed.now (lines_left [] left) before now refl c.in_ok-session.ensures.loaded);
      front = begins left c.in_ok-reader.reader c.in_ok-reader.ensures;
      modules = c.in_ok-session.ensures.modules;
      few = omega arith;
      told = c.load.ensures.told;
      folder_later = c.load.ensures.later;
      script_faults = refl;
      sink_faults = c.in_ok-session.ensures.counts.stays (search rules);
    }

pub returns-in_err-ending-clause-stopped : goal.returns-in_err-ending-clause-stopped
returns-in_err-ending-clause-stopped g c = λ is.
    let before = walk_state (start c.args.listed.now (length c.args.askers.items)) (g.F.Folder.seen c.args.folder.now) (g.K.Sink.seen c.args.out.now) in
    let mid = walk_state (standing_in c.loop-reader.session) (g.F.Folder.seen c.loop-reader.folder) (g.K.Sink.seen c.loop-reader.out) in
    let now = outside (g.F.Folder.seen c.step.new.folder) (g.S.Source.seen c.step.new.script) (g.K.Sink.seen c.step.new.out) in
    let left = lines_left c.loop-reader.reader (g.S.Source.seen c.loop-reader.script).left in
    stops c.args.modules (length c.args.askers.items) c.args.listed.now before (g.S.Source.seen c.args.script.now) left c.loop-reader.taken mid now (search rules) (search rules) c.loop-reader.invariant.walked
    (took_all c.loop-reader.invariant.walked.lines (g.S.Source.seen c.args.script.now).left (bytes_left c.loop-reader.reader (g.S.Source.seen c.loop-reader.script).left) (g.S.Source.seen c.step.new.script).left
    c.step.new.reader c.loop-reader.invariant.walked.leaves c.loop-reader.invariant.front (search rules) (search rules))

pub returns-in_err-ending-clause-script_counts : goal.returns-in_err-ending-clause-script_counts
returns-in_err-ending-clause-script_counts g c =
    let p = err_from_is_err_and c.from_residual-in_err-ending.result c.from_residual-in_err-ending.ensures.1 in
    counts_handed c.step.result c.from_residual-in_err-ending.result p.0 _ ScriptFault _ _ _ c.in_err-ending.was p.1 p.2 c.loop-reader.invariant.script_faults c.step.ensures.script_counts

pub returns-in_err-ending-clause-sink_counts : goal.returns-in_err-ending-clause-sink_counts
returns-in_err-ending-clause-sink_counts g c =
    let p = err_from_is_err_and c.from_residual-in_err-ending.result c.from_residual-in_err-ending.ensures.1 in
    counts_handed c.step.result c.from_residual-in_err-ending.result p.0 _ SinkFault _ _ _ c.in_err-ending.was p.1 p.2 c.loop-reader.invariant.sink_faults c.step.ensures.sink_counts

pub returns-in_err-ending-clause-front : goal.returns-in_err-ending-clause-front
returns-in_err-ending-clause-front g c =
    let before = walk_state (start c.args.listed.now (length c.args.askers.items)) (g.F.Folder.seen c.args.folder.now) (g.K.Sink.seen c.args.out.now) in
    let mid = walk_state (standing_in c.loop-reader.session) (g.F.Folder.seen c.loop-reader.folder) (g.K.Sink.seen c.loop-reader.out) in
    let now = outside (g.F.Folder.seen c.step.new.folder) (g.S.Source.seen c.step.new.script) (g.K.Sink.seen c.step.new.out) in
    on_err c.from_residual-in_err-ending.result _
    (front_of_break c.args.modules (length c.args.askers.items) c.args.listed.now before (g.S.Source.seen c.args.script.now) c.each_edit_has_sizes.ensures c.each_has_answer.ensures (lines_left c.loop-reader.reader (g.S.Source.seen c.loop-reader.script).left) c.loop-reader.taken mid now
    c.loop-reader.invariant.told c.step.ensures.later c.loop-reader.invariant.walked
    (subst (λ m. Breaks m c.loop-reader.taken (lines_left c.loop-reader.reader (g.S.Source.seen c.loop-reader.script).left) mid now.folder now.out.written) c.loop-reader.invariant.modules c.in_err-ending.ensures.breaks))

pub returns-in_err-errors-in-Some-clause-front : goal.returns-in_err-errors-in-Some-clause-front
returns-in_err-errors-in-Some-clause-front g c =
    let before = walk_state (start c.args.listed.now (length c.args.askers.items)) (g.F.Folder.seen c.args.folder.now) (g.K.Sink.seen c.args.out.now) in
    let mid = walk_state (standing_in c.loop-reader.session) (g.F.Folder.seen c.loop-reader.folder) (g.K.Sink.seen c.loop-reader.out) in
    let now = walk_state (standing_in c.step.new.session) (g.F.Folder.seen c.step.new.folder) (g.K.Sink.seen c.step.new.out) in
    let source = g.S.Source.seen c.args.script.now in
    let source' = g.S.Source.seen c.step.new.script in
    let left = lines_left c.loop-reader.reader (g.S.Source.seen c.loop-reader.script).left in
    let closes = some_of c.in_ok-ending.field-0 c.in-Some.ending (λ how. Closes how c.loop-reader.taken left mid now) c.in-Some.is c.in_ok-ending.ensures.closes in
    on_err c.from_residual-in_err-errors-in-Some.result _
    (front_of_close c.args.modules (length c.args.askers.items) c.args.listed.now before source left c.loop-reader.taken mid now source' c.in-Some.ending c.loop-reader.invariant.walked closes)

pub returns-in-Some-clause-ended : goal.returns-in-Some-clause-ended
returns-in-Some-clause-ended g c =
    let before = walk_state (start c.args.listed.now (length c.args.askers.items)) (g.F.Folder.seen c.args.folder.now) (g.K.Sink.seen c.args.out.now) in
    let mid = walk_state (standing_in c.loop-reader.session) (g.F.Folder.seen c.loop-reader.folder) (g.K.Sink.seen c.loop-reader.out) in
    let now = walk_state (standing_in c.step.new.session) (g.F.Folder.seen c.step.new.folder) (g.K.Sink.seen c.step.new.out) in
    let left = lines_left c.loop-reader.reader (g.S.Source.seen c.loop-reader.script).left in
    let closes = some_of c.in_ok-ending.field-0 c.in-Some.ending (λ how. Closes how c.loop-reader.taken left mid now) c.in-Some.is c.in_ok-ending.ensures.closes in
    leaves_same c.args.modules (length c.args.askers.items) c.args.listed.now c.in-Some.ending c.in_ok-errors-in-Some.errors (meaning_in c.into_server-server.result.writer) c.step.new.session.heap (uses_of c.into_server-server.result.lanes)
    c.step.new.session.lanes _ _ c.into_server-server.ensures.heap c.into_server-server.ensures.lanes
    (finishes c.args.modules (length c.args.askers.items) c.args.listed.now before (g.S.Source.seen c.args.script.now) left c.loop-reader.taken mid now (g.S.Source.seen c.step.new.script) c.in-Some.ending c.in_ok-errors-in-Some.errors
    c.in_ok-errors-in-Some.ensures c.loop-reader.invariant.walked closes)

pub returns-in-Some-clause-idle : goal.returns-in-Some-clause-idle
returns-in-Some-clause-idle g c =
    let mid = walk_state (standing_in c.loop-reader.session) (g.F.Folder.seen c.loop-reader.folder) (g.K.Sink.seen c.loop-reader.out) in
    let now = walk_state (standing_in c.step.new.session) (g.F.Folder.seen c.step.new.folder) (g.K.Sink.seen c.step.new.out) in
    let left = lines_left c.loop-reader.reader (g.S.Source.seen c.loop-reader.script).left in
    let closes = some_of c.in_ok-ending.field-0 c.in-Some.ending (λ how. Closes how c.loop-reader.taken left mid now) c.in-Some.is c.in_ok-ending.ensures.closes in
    (c.into_server-server.ensures.idle, used_many use_of c.into_server-server.result.lanes mid.standing now.standing (length c.args.askers.items) c.into_server-server.ensures.lanes closes.standing (walked_lanes {told = (g.F.Folder.seen c.args.folder.now).told} c.loop-reader.invariant.walked.walk))

pub loop-reader-preserved : goal.loop-reader-preserved
loop-reader-preserved g c =
    let before = walk_state (start c.args.listed.now (length c.args.askers.items)) (g.F.Folder.seen c.args.folder.now) (g.K.Sink.seen c.args.out.now) in
    let mid = walk_state (standing_in c.loop-reader.session) (g.F.Folder.seen c.loop-reader.folder) (g.K.Sink.seen c.loop-reader.out) in
    let now = walk_state (standing_in c.step.new.session) (g.F.Folder.seen c.step.new.folder) (g.K.Sink.seen c.step.new.out) in
    let left = lines_left c.loop-reader.reader (g.S.Source.seen c.loop-reader.script).left in
    let left' = lines_left c.step.new.reader (g.S.Source.seen c.step.new.script).left in
    let takes =
    subst (λ m. Takes m c.loop-reader.taken left left' mid now) c.loop-reader.invariant.modules
    (none_of c.in_ok-ending.field-0 (Takes c.loop-reader.session.waiting.capacity c.loop-reader.taken left left' mid now) c.in-None.is c.in_ok-ending.ensures.takes) in
    record {
      walked = more c.args.modules (length c.args.askers.items) c.args.listed.now (lines_left [] (g.S.Source.seen c.args.script.now).left) before left left' c.loop-reader.taken mid now
          c.loop-reader.invariant.told c.loop-reader.invariant.walked takes;
      front =
          then_front (g.S.Source.seen c.args.script.now).left (bytes_left c.loop-reader.reader (g.S.Source.seen c.loop-reader.script).left) (bytes_left c.step.new.reader (g.S.Source.seen c.step.new.script).left)
          c.loop-reader.invariant.front c.step.ensures.front;
      modules = c.step.ensures.modules ∙ c.loop-reader.invariant.modules;
      few = omega (arith, takes.is.few);
      told = c.step.ensures.told ∙ c.loop-reader.invariant.told;
      folder_later = omega (arith, c.step.ensures.later);
      script_faults = c.in_ok-ending.ensures.script_counts.stays (search rules) ∙ c.loop-reader.invariant.script_faults;
      sink_faults = c.in_ok-ending.ensures.sink_counts.stays (search rules) ∙ c.loop-reader.invariant.sink_faults;
    }

pub step-requires-clause-pins : goal.step-requires-clause-pins
step-requires-clause-pins g c κs within = may_answer_line c.loop-reader.taken (standing_in c.loop-reader.session) c.loop-reader.invariant.few c.loop-reader.invariant.walked.answered
