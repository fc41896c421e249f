use Rattle.work_totals.proofs.Totals.{law}
use Rattle.work_totals.proofs.laws.totals_rise.Goals as goal

pub returns : goal.returns
returns c = law
