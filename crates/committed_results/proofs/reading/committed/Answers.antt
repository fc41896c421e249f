use Rattle.std.proofs.Common.{sym, ◌∙◌}
use Rattle.std.proofs.lemmas.Result.{IfOk-weaker}
use Rattle.committed_results.proofs.Taken.{latest_is_committed}
use Rattle.committed_results.proofs.reading.committed.Goals as goal

pub returns : goal.returns
returns g c =
    IfOk-weaker c.latest.result _ _ (λ payload at. sym (latest_is_committed (g.W.HeapWriter.meaning c.args.writer.now) (g.met.W.HeapWriter.sound c.args.writer.now) c.requires.bare c.args.entity c.requires.within) ∙ at) c.latest.ensures
