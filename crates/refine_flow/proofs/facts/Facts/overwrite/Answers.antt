use Rattle.refine_flow.proofs.Assigning.{overwrites_name, overwrites_variable}
use Rattle.refine_flow.proofs.facts.Facts.overwrite.Goals as goal

pub returns-in-Some : goal.returns-in-Some
returns-in-Some c = overwrites_name c.args.place.now c.in-Some.name c.args.self.now c.forget_name.new.self c.in-Some.is c.forget_name.ensures

pub returns-in-None : goal.returns-in-None
returns-in-None c = overwrites_variable c.args.place.now c.args.self.now c.forget_variable.new.self c.in-None.is c.forget_variable.ensures
