use Rattle.std.proofs.Common.{refl, arith}
use Rattle.refine_flow.proofs.Turning.{opened}
use Rattle.refine_flow.proofs.facts.Facts.mark.Goals as goal

pub returns-clause-mark : goal.returns-clause-mark
returns-clause-mark c = opened _ c.args.self.now _ refl refl (omega arith) refl c.len.ensures refl
