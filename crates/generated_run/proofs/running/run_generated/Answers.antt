use Rattle.std.proofs.Common.{rules, refl, ap, ◌∙◌, arith, length}
use Rattle.std.proofs.lemmas.Result.{err_from_is_err_and}
use Rattle.heap_core.specs.Meaning.{Meaning}
use Rattle.payloads.specs.declared.payload.Payload.{Payload}
use Rattle.script_run.specs.beside.specs.Server.{use_of}
use Rattle.script_run.specs.declared.ending.RunFault.TheVariants.{SinkFault}
use Rattle.script_run.specs.Session.{standing_in, program_in}
use Rattle.script_run.proofs.Walks.{on_err, counts_handed}
use Rattle.generated_run.specs.Steps.{HasDone, HasBegun}
use Rattle.generated_run.proofs.InOrder.{is_folder, made_distinct, as_many}
use Rattle.generated_run.proofs.Parts.{all_rounds, not_begun, load_stops, edits_stop, line_stops, count_stops, has_generated, new_may, as_many_lanes}
use Rattle.generated_run.proofs.running.run_generated.Goals as goal

pub returns-in_err-generated-clause-front : goal.returns-in_err-generated-clause-front
returns-in_err-generated-clause-front g c = on_err c.from_residual.result _ (not_begun c.each_edit_has_sizes.ensures c.args.modules (length c.args.askers.items) c.args.n c.args.seed c.requires.made.1 _ _ refl)

pub returns-in_err-folder-clause-front : goal.returns-in_err-folder-clause-front
returns-in_err-folder-clause-front g c = on_err c.from_residual-in_err-folder.result _ (not_begun c.each_edit_has_sizes.ensures c.args.modules (length c.args.askers.items) c.args.n c.args.seed c.requires.made.1 _ _ refl)

pub returns-in_err-listed-clause-front : goal.returns-in_err-listed-clause-front
returns-in_err-listed-clause-front g c = on_err c.from_residual-in_err-listed.result _ (not_begun c.each_edit_has_sizes.ensures c.args.modules (length c.args.askers.items) c.args.n c.args.seed c.requires.made.1 _ _ refl)

pub folder_of-requires : goal.folder_of-requires
folder_of-requires g c = made_distinct c.args.n c.args.seed c.in_ok-generated.generated.modules c.requires.made.1 c.in_ok-generated.ensures.modules

pub load-requires-clause-few : goal.load-requires-clause-few
load-requires-clause-few g c κs within =
    let whole = is_folder c.args.n c.args.seed c.in_ok-generated.generated.modules c.in_ok-folder.folder c.in_ok-folder.folder c.in_ok-generated.ensures.modules refl c.in_ok-folder.ensures.whole c.in_ok-folder.ensures.rising in
    let many = as_many c.args.n c.args.seed c.in_ok-folder.folder c.as_slice-paths.result.now (c.as_slice-paths.ensures ∙ c.in_ok-listed.ensures.paths) whole in
    omega (arith, many, c.requires.few)

pub returns-in_err-session-clause-front : goal.returns-in_err-session-clause-front
returns-in_err-session-clause-front g c =
    on_err c.from_residual-in_err-session.result _
    (load_stops c.each_edit_has_sizes.ensures c.args.modules (length c.args.askers.items) c.args.n c.args.seed c.paths_in.new.folder
    (is_folder c.args.n c.args.seed c.in_ok-generated.generated.modules c.in_ok-folder.folder c.paths_in.new.folder c.in_ok-generated.ensures.modules c.paths_in.ensures.same c.in_ok-folder.ensures.whole c.in_ok-folder.ensures.rising) _ _ c.in_err-session.ensures.front)

pub returns-in_err-put_and_check_all-clause-front : goal.returns-in_err-put_and_check_all-clause-front
returns-in_err-put_and_check_all-clause-front g c =
    on_err c.from_residual-in_err-put_and_check_all.result _
    (edits_stop c.each_edit_has_sizes.ensures c.args.modules (length c.args.askers.items) c.args.n c.args.seed c.paths_in.new.folder
    (is_folder c.args.n c.args.seed c.in_ok-generated.generated.modules c.in_ok-folder.folder c.paths_in.new.folder c.in_ok-generated.ensures.modules c.paths_in.ensures.same c.in_ok-folder.ensures.whole c.in_ok-folder.ensures.rising) (standing_in c.in_ok-session.session) (g.K.Sink.seen c.args.out.now).written (g.K.Sink.seen c.load.new.out).written (g.K.Sink.seen c.put_and_check_all.new.out).written c.in_ok-session.ensures.loaded
    (all_rounds (λ Prints. HasBegun Prints (g.K.Sink.seen c.load.new.out).written (g.K.Sink.seen c.put_and_check_all.new.out).written) c.args.modules c.args.n c.args.seed c.in_ok-session.session.waiting.capacity c.paths_in.new.folder c.load.new.folder c.as_slice-edits.result.now (standing_in c.in_ok-session.session)
    c.in_ok-session.ensures.modules c.load.ensures.same (c.as_slice-edits.ensures ∙ c.in_ok-generated.ensures.edits) c.in_err-put_and_check_all.ensures.front))

pub returns-in_err-close-clause-front : goal.returns-in_err-close-clause-front
returns-in_err-close-clause-front g c =
    on_err c.from_residual-in_err-close.result _
    (line_stops c.each_edit_has_sizes.ensures c.args.modules (length c.args.askers.items) c.args.n c.args.seed c.paths_in.new.folder
    (is_folder c.args.n c.args.seed c.in_ok-generated.generated.modules c.in_ok-folder.folder c.paths_in.new.folder c.in_ok-generated.ensures.modules c.paths_in.ensures.same c.in_ok-folder.ensures.whole c.in_ok-folder.ensures.rising) (standing_in c.in_ok-session.session) (standing_in c.put_and_check_all.new.session) (g.K.Sink.seen c.args.out.now).written (g.K.Sink.seen c.load.new.out).written (g.K.Sink.seen c.put_and_check_all.new.out).written (g.K.Sink.seen c.close.new.out).written c.in_ok-session.ensures.loaded
    (all_rounds (λ Prints. HasDone Prints (standing_in c.put_and_check_all.new.session) (g.K.Sink.seen c.load.new.out).written (g.K.Sink.seen c.put_and_check_all.new.out).written) c.args.modules c.args.n c.args.seed c.in_ok-session.session.waiting.capacity c.paths_in.new.folder c.load.new.folder c.as_slice-edits.result.now (standing_in c.in_ok-session.session)
    c.in_ok-session.ensures.modules c.load.ensures.same (c.as_slice-edits.ensures ∙ c.in_ok-generated.ensures.edits) c.in_ok-put_and_check_all.ensures.goes) c.close.ensures.front)

pub returns-in_err-errors-clause-front : goal.returns-in_err-errors-clause-front
returns-in_err-errors-clause-front g c =
    on_err c.from_residual-in_err-errors.result _
    (count_stops c.each_edit_has_sizes.ensures c.args.modules (length c.args.askers.items) c.args.n c.args.seed c.paths_in.new.folder
    (is_folder c.args.n c.args.seed c.in_ok-generated.generated.modules c.in_ok-folder.folder c.paths_in.new.folder c.in_ok-generated.ensures.modules c.paths_in.ensures.same c.in_ok-folder.ensures.whole c.in_ok-folder.ensures.rising) (standing_in c.in_ok-session.session) (standing_in c.put_and_check_all.new.session) (g.K.Sink.seen c.args.out.now).written (g.K.Sink.seen c.load.new.out).written (g.K.Sink.seen c.put_and_check_all.new.out).written (g.K.Sink.seen c.close.new.out).written c.in_ok-session.ensures.loaded
    (all_rounds (λ Prints. HasDone Prints (standing_in c.put_and_check_all.new.session) (g.K.Sink.seen c.load.new.out).written (g.K.Sink.seen c.put_and_check_all.new.out).written) c.args.modules c.args.n c.args.seed c.in_ok-session.session.waiting.capacity c.paths_in.new.folder c.load.new.folder c.as_slice-edits.result.now (standing_in c.in_ok-session.session)
    c.in_ok-session.ensures.modules c.load.ensures.same (c.as_slice-edits.ensures ∙ c.in_ok-generated.ensures.edits) c.in_ok-put_and_check_all.ensures.goes) c.in_ok-close.ensures.ok)

pub returns-clause-generated : goal.returns-clause-generated
returns-clause-generated g c =
    has_generated c.each_edit_has_sizes.ensures c.args.modules (length c.args.askers.items) c.args.n c.args.seed c.paths_in.new.folder
    (is_folder c.args.n c.args.seed c.in_ok-generated.generated.modules c.in_ok-folder.folder c.paths_in.new.folder c.in_ok-generated.ensures.modules c.paths_in.ensures.same c.in_ok-folder.ensures.whole c.in_ok-folder.ensures.rising) (standing_in c.in_ok-session.session) (standing_in c.put_and_check_all.new.session) (g.K.Sink.seen c.args.out.now).written (g.K.Sink.seen c.load.new.out).written (g.K.Sink.seen c.put_and_check_all.new.out).written (g.K.Sink.seen c.close.new.out).written c.in_ok-session.ensures.loaded
    (all_rounds (λ Prints. HasDone Prints (standing_in c.put_and_check_all.new.session) (g.K.Sink.seen c.load.new.out).written (g.K.Sink.seen c.put_and_check_all.new.out).written) c.args.modules c.args.n c.args.seed c.in_ok-session.session.waiting.capacity c.paths_in.new.folder c.load.new.folder c.as_slice-edits.result.now (standing_in c.in_ok-session.session)
    c.in_ok-session.ensures.modules c.load.ensures.same (c.as_slice-edits.ensures ∙ c.in_ok-generated.ensures.edits) c.in_ok-put_and_check_all.ensures.goes) c.in_ok-errors.errors _ _ _ (ap (λ (m : Meaning Payload). program_in m.committed) c.into_server.ensures.heap) (ap (λ (m : Meaning Payload). m.version) c.into_server.ensures.heap)
    c.into_server.ensures.lanes c.in_ok-close.ensures.ok c.in_ok-errors.ensures

pub put_and_check_all-requires-clause-pins : goal.put_and_check_all-requires-clause-pins
put_and_check_all-requires-clause-pins g c κs within = new_may (length c.args.askers.items) c.in_ok-session.session.lanes c.in_ok-session.ensures.lanes

pub returns-clause-idle : goal.returns-clause-idle
returns-clause-idle g c = (
  c.into_server.ensures.idle,
  as_many_lanes use_of c.into_server.result.lanes (length c.args.askers.items) c.in_ok-session.session.lanes c.put_and_check_all.new.session.lanes c.into_server.ensures.lanes c.in_ok-put_and_check_all.ensures.lanes
      c.in_ok-session.ensures.lanes,
)

pub returns-in_err-put_and_check_all-clause-counts : goal.returns-in_err-put_and_check_all-clause-counts
returns-in_err-put_and_check_all-clause-counts g c =
    let p = err_from_is_err_and c.from_residual-in_err-put_and_check_all.result c.from_residual-in_err-put_and_check_all.ensures.1 in
    counts_handed c.put_and_check_all.result c.from_residual-in_err-put_and_check_all.result p.0 _ SinkFault _ _ _ c.in_err-put_and_check_all.was p.1 p.2 (c.in_ok-session.ensures.counts.stays (search rules)) c.put_and_check_all.ensures.counts

pub returns-in_err-close-clause-counts : goal.returns-in_err-close-clause-counts
returns-in_err-close-clause-counts g c =
    let p = err_from_is_err_and c.from_residual-in_err-close.result c.from_residual-in_err-close.ensures.1 in
    counts_handed c.close.result c.from_residual-in_err-close.result p.0 _ SinkFault _ _ _ c.in_err-close.was p.1 p.2 (c.in_ok-put_and_check_all.ensures.counts.stays (search rules) ∙ c.in_ok-session.ensures.counts.stays (search rules))
    c.close.ensures.counts
