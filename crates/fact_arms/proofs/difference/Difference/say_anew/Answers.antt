use Rattle.std.proofs.Common.{Some}
use Rattle.fact_arms.proofs.Settling.{says_here, says_settles, says_others}
use Rattle.fact_arms.proofs.difference.Difference.say_anew.Goals as goal

pub returns-in-Some-clause-here : goal.returns-in-Some-clause-here
returns-in-Some-clause-here c = says_here c.say.result c.args.self.now c.say.new.self c.args.slot (Some c.in-Some.fact) c.args.fact c.in-Some.is c.say.ensures.said

pub returns-in-Some-clause-settles : goal.returns-in-Some-clause-settles
returns-in-Some-clause-settles c = says_settles c.say.result c.args.self.now c.say.new.self c.args.slot (Some c.in-Some.fact) c.say.ensures.said

pub returns-in-Some-clause-others : goal.returns-in-Some-clause-others
returns-in-Some-clause-others c = says_others c.say.result c.args.self.now c.say.new.self c.args.slot (Some c.in-Some.fact) c.say.ensures.said
