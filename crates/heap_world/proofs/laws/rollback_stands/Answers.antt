use Rattle.std.proofs.Common.{sym, subst}
use Rattle.heap_world.specs.Stands.{Leads, of_rollback}
use Rattle.heap_world.proofs.StandsLaw.{rollback_leads}
use Rattle.heap_world.proofs.laws.rollback_stands.Goals as goal

pub returns-clause-leads : goal.returns-clause-leads
returns-clause-leads g c = let m = g.W.HeapWriter.meaning c.args.writer.now in
    subst (Leads g.P.Program.fits m (of_rollback m)) (sym c.rollback.ensures.meaning) (rollback_leads g.P.Program.fits m (g.met.W.HeapWriter.sound c.args.writer.now) c.requires)
