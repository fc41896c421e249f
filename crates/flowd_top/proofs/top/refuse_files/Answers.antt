use Rattle.std.proofs.Common.{ap, ◌∙◌, subst}
use Rattle.script_print.specs.Printed.{files_line}
use Rattle.flowd_top.specs.Run.{WritesLast}
use Rattle.flowd_top.specs.declared.status.Status.TheVariants.{Limit}
use Rattle.flowd_top.proofs.top.refuse_files.Goals as goal

pub returns-in-Ok-clause-writes : goal.returns-in-Ok-clause-writes
returns-in-Ok-clause-writes g c =
    subst (λ bytes. WritesLast (g.K.Sink.seen c.args.out.now).written (g.K.Sink.seen c.write_last.new.out).written bytes Limit c.write_last.result)
    (c.as_bytes.ensures.value ∙ c.in-Ok.ensures ∙ ap files_line c.len.ensures) c.write_last.ensures.writes
