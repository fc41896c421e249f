use Rattle.std.proofs.Common.{refl, arith, rules}
use Rattle.check_phases.proofs.Merges.{adds_unmade}
use Rattle.recheck_merging.proofs.merging.add_made.Goals as goal

pub returns-in-None : goal.returns-in-None
returns-in-None c =
    adds_unmade c.args.sources.now c.args.slots.now c.args.y c.modules_of-modules.result.now c.index-modules-y.result c.index-slots-y.result _ _ (search rules) (search rules) c.index-modules-y.is (omega (arith, c.requires.within)) c.index-slots-y.is c.in-None.is refl
