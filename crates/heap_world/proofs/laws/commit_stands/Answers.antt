use Rattle.std.proofs.Common.{sym, subst}
use Rattle.heap_world.specs.Stands.{Leads, of_commit}
use Rattle.heap_world.proofs.StandsLaw.{commit_leads}
use Rattle.heap_world.proofs.laws.commit_stands.Goals as goal

pub returns-clause-leads : goal.returns-clause-leads
returns-clause-leads g c = let m = g.W.HeapWriter.meaning c.args.writer.now in
    subst (Leads g.P.Program.fits m (of_commit m)) (sym c.commit.ensures.meaning) (commit_leads g.P.Program.fits m (g.met.W.HeapWriter.sound c.args.writer.now) c.requires.0 c.requires.1)
