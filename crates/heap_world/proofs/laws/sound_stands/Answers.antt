use Rattle.heap_world.proofs.Existence.{stands_for_some}
use Rattle.heap_world.proofs.laws.sound_stands.Goals as goal

pub returns : goal.returns
returns g c = stands_for_some g.P.Program.fits
