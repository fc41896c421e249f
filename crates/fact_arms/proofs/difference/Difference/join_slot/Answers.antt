use Rattle.fact_trail.specs.Moments.{map_of}
use Rattle.fact_arms.specs.Joining.{joined_type}
use Rattle.fact_arms.proofs.Settling.{taken_out, joined_here, others_left}
use Rattle.fact_arms.proofs.difference.Difference.join_slot.Goals as goal

pub say_anew-requires : goal.say_anew-requires
say_anew-requires c = taken_out c.args.self.now c.join_at.new.second c.args.slot c.in_ok-fact.ensures.said

pub returns-clause-here : goal.returns-clause-here
returns-clause-here c =
    joined_here c.say_anew.result c.say_anew.new.self (map_of c.args.trail.now) c.args.slot c.in_ok-fact.fact (joined_type c.args.arm.now c.args.self.now (map_of c.args.trail.now) c.args.slot) c.in_ok-fact.ensures.fact c.say_anew.ensures.here

pub returns-clause-others : goal.returns-clause-others
returns-clause-others c = others_left c.say_anew.result c.args.self.now c.join_at.new.second c.say_anew.new.self c.args.slot c.in_ok-fact.ensures.said c.say_anew.ensures.others
