use Rattle.refine_flow.proofs.Setting.{others_named, others_of}
use Rattle.refine_flow.proofs.facts.Facts.overwrite_others.Goals as goal

pub returns-in-Some : goal.returns-in-Some
returns-in-Some c = others_named c.args.place.now c.in-Some.name c.args.self.now c.forget_other_named.new.self c.in-Some.is c.forget_other_named.ensures

pub returns-in-None : goal.returns-in-None
returns-in-None c = others_of c.args.place.now c.args.self.now c.forget_properties_of.new.self c.in-None.is c.forget_properties_of.ensures
