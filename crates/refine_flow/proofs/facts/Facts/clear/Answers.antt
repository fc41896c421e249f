use Rattle.refine_flow.proofs.Setting.{all_gone}
use Rattle.refine_flow.proofs.facts.Facts.clear.Goals as goal

pub returns : goal.returns
returns c = all_gone c.args.self.now c.forget_properties.new.self c.forget_class.new.self c.forget_class-2.new.self c.forget_properties.ensures c.forget_class.ensures c.forget_class-2.ensures
