use Rattle.std.specs.Arc.{arc_value}
use Rattle.heap_world.specs.Stands.{of_stage}
use Rattle.heap_world.proofs.StandsLaw.{stage_leads, staged_leads}
use Rattle.heap_world.proofs.laws.stage_stands.Goals as goal

pub returns-clause-leads : goal.returns-clause-leads
returns-clause-leads g c = let m = g.W.HeapWriter.meaning c.args.writer.now in let x = arc_value c.args.payload in
    staged_leads g.P.Program.fits m (of_stage c.args.e x) c.stage.result _ _ c.stage.ensures.ok (stage_leads g.P.Program.fits m c.args.e x (g.met.W.HeapWriter.sound c.args.writer.now) c.requires.0 c.requires.1)
