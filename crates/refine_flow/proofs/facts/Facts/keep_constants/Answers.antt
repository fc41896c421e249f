use Rattle.refine_flow.proofs.Assigning.{constants_left}
use Rattle.refine_flow.proofs.facts.Facts.keep_constants.Goals as goal

pub returns : goal.returns
returns c = constants_left c.args.keeps c.keeps_none-all.result c.args.self.now c.forget_class.new.self c.forget_constants_if.new.self c.keeps_none-all.ensures c.forget_class.ensures c.forget_constants_if.ensures
