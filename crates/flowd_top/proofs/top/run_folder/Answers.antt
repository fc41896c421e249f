use Rattle.std.proofs.Common.{List, rules, arith, subst}
use Rattle.std.proofs.lemmas.Grind.{common_steps}
use Rattle.flow_base.specs.Program.{Bytes}
use Rattle.flow_base.specs.Seen.{outside}
use Rattle.flowd_top.specs.Run.{RunLeaves}
use Rattle.flowd_top.proofs.Endings.{refused_leaves, run_leaves}
use Rattle.flowd_top.proofs.top.run_folder.Goals as goal

pub returns-then-len-command-clause-printed : goal.returns-then-len-command-clause-printed
returns-then-len-command-clause-printed g c =
    let script = g.S.Source.seen c.args.script.now in
    refused_leaves c.args.command (outside (g.F.Folder.seen c.args.folder.now) script (g.K.Sink.seen c.args.out.now)) (outside (g.F.Folder.seen c.list.new.self) script (g.K.Sink.seen c.refuse_files.new.out))
    c.args.kept.now c.refuse_files.result c.in-Ok.listed (search rules) c.in-Ok.ensures.rising c.in-Ok.ensures.paths (first_of (search rules, grind (arith, common_steps)))
    c.requires.kept (g.met.F.Folder.bounded c.args.folder.now) (c.in-Ok.ensures.counts.stays (search rules)) c.refuse_files.ensures.writes

pub returns-clause-printed : goal.returns-clause-printed
returns-clause-printed g c =
    run_leaves c.args.command (g.F.Folder.seen c.args.folder.now) (g.F.Folder.seen c.list.new.self) (g.S.Source.seen c.args.script.now) (g.K.Sink.seen c.args.out.now)
    (outside (g.F.Folder.seen c.run_over.new.folder) (g.S.Source.seen c.run_over.new.script) (g.K.Sink.seen c.run_over.new.out)) c.run_over.new.kept c.run_over.result c.in-Ok.listed
    (search rules) c.in-Ok.ensures.rising c.in-Ok.ensures.paths (first_of (search rules, grind (arith, common_steps)))
    c.list.ensures.told (c.in-Ok.ensures.counts.stays (search rules)) (c.in-Ok.ensures.counts.keeps (search rules))
    (subst (λ (listed : List Bytes). RunLeaves c.args.command.modules c.args.command.lanes listed (outside (g.F.Folder.seen c.list.new.self) (g.S.Source.seen c.args.script.now) (g.K.Sink.seen c.args.out.now))
    (outside (g.F.Folder.seen c.run_over.new.folder) (g.S.Source.seen c.run_over.new.script) (g.K.Sink.seen c.run_over.new.out)) c.run_over.result c.run_over.new.kept) c.as_slice-paths.ensures c.run_over.ensures.leaves)
