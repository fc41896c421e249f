use Rattle.heap_core.proofs.TransactionLaws.{undone}
use Rattle.heap_core.proofs.laws.rollback_gives_back.Goals as goal

pub returns : goal.returns
returns g c = undone g.P.Program.fits
