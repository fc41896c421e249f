use Rattle.heap_core.proofs.TransactionLaws.{done}
use Rattle.heap_core.proofs.laws.commit_changes_the_staged.Goals as goal

pub returns : goal.returns
returns g c = done g.P.Program.fits
