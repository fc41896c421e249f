use Rattle.flow_base.specs.Seen.{outside}
use Rattle.flowd_top.proofs.Endings.{nothing_run}
use Rattle.flowd_top.proofs.top.run_over.Goals as goal

pub returns-in_default-made-2-clause-leaves : goal.returns-in_default-made-2-clause-leaves
returns-in_default-made-2-clause-leaves g c =
    nothing_run c.each_edit_has_sizes.ensures c.each_has_answer.ensures c.args.command.modules c.args.command.lanes c.args.listed.now
    (outside (g.F.Folder.seen c.args.folder.now) (g.S.Source.seen c.args.script.now) (g.K.Sink.seen c.args.out.now)) c.args.kept.now c.requires.kept
