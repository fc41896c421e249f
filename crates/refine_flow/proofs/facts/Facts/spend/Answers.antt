use Rattle.std.proofs.Common.{refl}
use Rattle.refine_flow.proofs.Turning.{spent}
use Rattle.refine_flow.proofs.facts.Facts.spend.Goals as goal

pub returns-clause-marks : goal.returns-clause-marks
returns-clause-marks c = spent c.args.mark c.args.self.now _ c.settle.new.self refl refl refl c.settle.ensures.marks
