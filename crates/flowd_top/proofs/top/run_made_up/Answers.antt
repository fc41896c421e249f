use Rattle.std.proofs.Common.{arith, length}
use Rattle.flowd_top.proofs.Endings.{nothing_made, made_leaves}
use Rattle.flowd_top.proofs.top.run_made_up.Goals as goal

pub returns-in_default-clause-leaves : goal.returns-in_default-clause-leaves
returns-in_default-clause-leaves g c =
    nothing_made c.args.command.modules c.args.command.lanes c.args.n c.args.seed _ c.args.kept.now c.requires.kept
    (c.one_generated_run.ensures.some c.args.command.modules c.args.command.lanes c.args.n c.args.seed (omega (arith, c.requires.made.0), omega (arith, c.requires.made.1, c.requires.modules.1)))

pub returns-in_default-made-clause-leaves : goal.returns-in_default-made-clause-leaves
returns-in_default-made-clause-leaves g c =
    nothing_made c.args.command.modules c.args.command.lanes c.args.n c.args.seed _ c.args.kept.now c.requires.kept
    (c.one_generated_run.ensures.some c.args.command.modules c.args.command.lanes c.args.n c.args.seed (omega (arith, c.requires.made.0), omega (arith, c.requires.made.1, c.requires.modules.1)))

pub returns-in_default-made-2-clause-leaves : goal.returns-in_default-made-2-clause-leaves
returns-in_default-made-2-clause-leaves g c =
    nothing_made c.args.command.modules c.args.command.lanes c.args.n c.args.seed _ c.args.kept.now c.requires.kept
    (c.one_generated_run.ensures.some c.args.command.modules c.args.command.lanes c.args.n c.args.seed (omega (arith, c.requires.made.0), omega (arith, c.requires.made.1, c.requires.modules.1)))

pub returns-clause-leaves : goal.returns-clause-leaves
returns-clause-leaves g c =
    made_leaves c.args.command.modules c.args.command.lanes c.args.n c.args.seed (g.K.Sink.seen c.args.out.now).written (g.K.Sink.seen c.run_generated.new.out).written c.in-Ok-run_generated.ended.ending
    c.in-Ok-run_generated.ended.errors c.in-Ok-run_generated.ended.server c.finish.result c.finish.new.kept (length c.in-Ok-made-2.askers.items) c.in-Ok-made-2.ensures c.in-Ok-run_generated.ensures.finished
    c.in-Ok-run_generated.ensures.generated c.finish.ensures.status c.finish.ensures.kept
