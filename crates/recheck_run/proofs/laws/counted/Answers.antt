use Rattle.std.proofs.Common.{map}
use Rattle.recheck_run.proofs.laws.counted.Goals as goal

pub returns : goal.returns
returns g c = c.totals_rise.ensures.counted (map g.A.Analyst.work c.args.analysts.now)
