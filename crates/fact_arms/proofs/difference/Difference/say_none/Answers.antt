use Rattle.std.proofs.Common.{None, refl}
use Rattle.fact_arms.proofs.Settling.{says_here, says_settles, says_others, gone_here, gone_settles}
use Rattle.fact_arms.proofs.difference.Difference.say_none.Goals as goal

pub returns-then-drops-clause-here : goal.returns-then-drops-clause-here
returns-then-drops-clause-here c = gone_here c.args.self.now c.args.slot c.drops.result c.requires c.drops.ensures c.if-drops.true

pub returns-then-drops-clause-settles : goal.returns-then-drops-clause-settles
returns-then-drops-clause-settles c = gone_settles c.args.self.now c.args.slot c.drops.result c.drops.ensures c.if-drops.true

pub returns-clause-here : goal.returns-clause-here
returns-clause-here c = says_here c.say.result c.args.self.now c.say.new.self c.args.slot None None refl c.say.ensures.said

pub returns-clause-settles : goal.returns-clause-settles
returns-clause-settles c = says_settles c.say.result c.args.self.now c.say.new.self c.args.slot None c.say.ensures.said

pub returns-clause-others : goal.returns-clause-others
returns-clause-others c = says_others c.say.result c.args.self.now c.say.new.self c.args.slot None c.say.ensures.said
