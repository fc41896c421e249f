use Rattle.std.proofs.Common.{sym, subst}
use Rattle.heap_world.specs.Stands.{Leads, of_begin}
use Rattle.heap_world.proofs.StandsLaw.{begin_leads}
use Rattle.heap_world.proofs.laws.begin_stands.Goals as goal

pub returns-clause-leads : goal.returns-clause-leads
returns-clause-leads g c = let m = g.W.HeapWriter.meaning c.args.writer.now in
    subst (Leads g.P.Program.fits m of_begin) (sym c.begin.ensures.meaning) (begin_leads g.P.Program.fits m c.requires.0)
