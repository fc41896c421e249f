use Rattle.request_core.proofs.laws.counted.Goals as goal

pub returns : goal.returns
returns g c = g.met.A.Analyst.bounded c.args.analyst.now
