use Rattle.request_core.proofs.laws.numbered.Goals as goal

pub returns : goal.returns
returns g c = g.met.R.HeapReader.numbered c.args.reader.now
