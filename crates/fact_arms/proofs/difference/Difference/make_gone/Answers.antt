use Rattle.fact_trail.specs.Moments.{map_of}
use Rattle.fact_arms.proofs.Classes.{all_classes}
use Rattle.fact_arms.proofs.Making.{goes_then}
use Rattle.fact_arms.proofs.difference.Difference.make_gone.Goals as goal

pub returns-clause-made : goal.returns-clause-made
returns-clause-made c =
    all_classes c.args.self.now.gone (map_of c.args.trail.now) (map_of c.make_class_gone.new.trail) (map_of c.make_class_gone-2.new.trail) (map_of c.make_properties_gone.new.trail) c.make_class_gone.ensures.made c.make_class_gone-2.ensures.made
    c.make_properties_gone.ensures.made

pub returns-clause-goes : goal.returns-clause-goes
returns-clause-goes c =
    goes_then c.args.self.now c.args.trail.now c.make_class_gone-2.new.trail c.make_properties_gone.new.trail
    (goes_then c.args.self.now c.args.trail.now c.make_class_gone.new.trail c.make_class_gone-2.new.trail c.make_class_gone.ensures.goes c.make_class_gone-2.ensures.goes) c.make_properties_gone.ensures.goes
