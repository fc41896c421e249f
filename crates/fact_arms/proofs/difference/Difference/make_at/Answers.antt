use Rattle.std.proofs.Common.{sym, ap, ◌∙◌}
use Rattle.std.specs.Option.{option_copied}
use Rattle.fact_trail.specs.Moments.{map_of}
use Rattle.fact_arms.specs.Differences.{type_of}
use Rattle.fact_arms.proofs.Making.{made_said, made_none, said_goes, goes_itself}
use Rattle.fact_arms.proofs.difference.Difference.make_at.Goals as goal

pub returns-in-Some-clause-made : goal.returns-in-Some-clause-made
returns-in-Some-clause-made c =
    made_said c.give.result c.args.self.now c.args.slot c.in-Some.fact.now (map_of c.args.trail.now) (map_of c.give.new.trail) (sym c.said.ensures ∙ ap option_copied c.in-Some.is) c.give.ensures.made

pub returns-in-Some-clause-goes : goal.returns-in-Some-clause-goes
returns-in-Some-clause-goes c =
    said_goes c.args.self.now c.args.slot c.in-Some.fact.now c.args.trail.now c.give.new.trail (sym c.said.ensures ∙ ap option_copied c.in-Some.is) c.give.ensures.longer c.give.ensures.moments c.give.ensures.fresh

pub returns-in-None-clause-made : goal.returns-in-None-clause-made
returns-in-None-clause-made c = λ s. ap type_of (made_none c.args.self.now c.args.slot (map_of c.args.trail.now) (sym c.said.ensures ∙ ap option_copied c.in-None.is) s)

pub returns-in-None-clause-goes : goal.returns-in-None-clause-goes
returns-in-None-clause-goes c = goes_itself c.args.self.now c.args.trail.now
