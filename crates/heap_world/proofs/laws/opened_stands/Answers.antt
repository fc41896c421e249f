use Rattle.heap_world.proofs.StandsLaw as law
use Rattle.heap_world.proofs.laws.opened_stands.Goals as goal

pub returns : goal.returns
returns g c = law.opened_stands g.P.Program.fits
