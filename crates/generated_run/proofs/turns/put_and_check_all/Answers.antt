use Rattle.std.proofs.Common.{rules, refl, sym, ◌∙◌, subst, arith}
use Rattle.script_run.specs.beside.specs.Uses.{MayAnswer}
use Rattle.script_run.specs.Session.{standing_in}
use Rattle.script_run.proofs.Walks.{on_err}
use Rattle.generated_run.proofs.Parts.{stops_between, round_goes, round_stops}
use Rattle.generated_run.proofs.turns.put_and_check_all.Goals as goal

pub returns-in_err-share-clause-front : goal.returns-in_err-share-clause-front
returns-in_err-share-clause-front g c =
    on_err c.from_residual.result _
    (stops_between c.args.session.now.waiting.capacity c.args.folder.now c.args.edits.now (standing_in c.args.session.now) (g.K.Sink.seen c.args.out.now).written c.each_edit_has_sizes.ensures
    c.loop-i.i (standing_in c.loop-i.session) (g.K.Sink.seen c.loop-i.out).written _ refl c.loop-i.invariant.gone)

pub returns-in_err-share-2-clause-front : goal.returns-in_err-share-2-clause-front
returns-in_err-share-2-clause-front g c =
    on_err c.from_residual-in_err-share-2.result _
    (stops_between c.args.session.now.waiting.capacity c.args.folder.now c.args.edits.now (standing_in c.args.session.now) (g.K.Sink.seen c.args.out.now).written c.each_edit_has_sizes.ensures
    c.loop-i.i (standing_in c.loop-i.session) (g.K.Sink.seen c.loop-i.out).written _ refl c.loop-i.invariant.gone)

pub returns-in_err-put_and_check-clause-front : goal.returns-in_err-put_and_check-clause-front
returns-in_err-put_and_check-clause-front g c =
    on_err c.from_residual-in_err-put_and_check.result _
    (round_stops c.args.session.now.waiting.capacity c.args.folder.now c.args.edits.now (standing_in c.args.session.now) (g.K.Sink.seen c.args.out.now).written
    c.loop-i.i c.index-edits-i.result c.in_ok-share.field-0 c.in_ok-share-2.field-0 (standing_in c.loop-i.session) (g.K.Sink.seen c.loop-i.out).written _ c.loop-i.session.waiting.capacity c.loop-i.folder
    (omega arith) c.index-edits-i.is c.in_ok-share.ensures c.in_ok-share-2.ensures c.loop-i.invariant.modules c.loop-i.invariant.same c.loop-i.invariant.gone
    c.each_edit_has_sizes.ensures c.in_err-put_and_check.ensures.front)

pub loop-i-preserved : goal.loop-i-preserved
loop-i-preserved g c = record {
  gone =
      round_goes c.args.session.now.waiting.capacity c.args.folder.now c.args.edits.now (standing_in c.args.session.now) (g.K.Sink.seen c.args.out.now).written
      c.loop-i.i c.index-edits-i.result c.in_ok-share.field-0 c.in_ok-share-2.field-0 (standing_in c.loop-i.session) (g.K.Sink.seen c.loop-i.out).written _ c.loop-i.session.waiting.capacity c.loop-i.folder
      (omega arith) c.index-edits-i.is c.in_ok-share.ensures c.in_ok-share-2.ensures c.loop-i.invariant.modules c.loop-i.invariant.same c.loop-i.invariant.gone
      (standing_in c.put_and_check.new.session) c.in_ok-put_and_check.ensures.goes;
  modules = c.put_and_check.ensures.modules ∙ c.loop-i.invariant.modules;
  version = omega (arith, c.in_ok-put_and_check.ensures.version, c.loop-i.invariant.version);
  lanes = c.in_ok-put_and_check.ensures.lanes ∙ c.loop-i.invariant.lanes;
  same = c.put_and_check.ensures.same ∙ c.loop-i.invariant.same;
  sink_faults = c.in_ok-put_and_check.ensures.counts.stays (search rules) ∙ c.loop-i.invariant.sink_faults;
}

pub put_and_check-requires-clause-pins : goal.put_and_check-requires-clause-pins
put_and_check-requires-clause-pins g c κs within = subst (MayAnswer 0) (sym c.loop-i.invariant.lanes) c.requires.pins
