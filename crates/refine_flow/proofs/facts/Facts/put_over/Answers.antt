use Rattle.refine_flow.proofs.Setting.{set_over}
use Rattle.refine_flow.proofs.facts.Facts.put_over.Goals as goal

pub returns-clause-facts : goal.returns-clause-facts
returns-clause-facts c = set_over c.args.place.now c.args.ty c.args.self.now c.put.new.self c.overwrite_others.new.self c.in_ok-put.ensures.facts c.overwrite_others.ensures
