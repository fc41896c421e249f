use Rattle.heap_world.proofs.WorldLaw as law
use Rattle.heap_world.proofs.laws.stays_lawful.Goals as goal

pub returns : goal.returns
returns g c = law.stays_lawful g.P.Program.fits
