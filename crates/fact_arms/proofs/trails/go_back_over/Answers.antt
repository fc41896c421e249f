use Rattle.std.proofs.Common.{◌∙◌}
use Rattle.fact_arms.proofs.Staying.{can_take, went_back, stayed}
use Rattle.fact_arms.proofs.trails.go_back_over.Goals as goal

pub returns-in-Ok-clause-keeps : goal.returns-in-Ok-clause-keeps
returns-in-Ok-clause-keeps c = went_back c.args.number c.args.trail.now c.go_back.new.trail c.go_back.ensures.within c.go_back.ensures.goes

pub take_over-requires : goal.take_over-requires
take_over-requires c = can_take c.args.spare c.args.trail.now c.go_back.new.trail c.go_back.ensures.goes c.go_back.ensures.capacity c.requires.room

pub returns-in-Err-clause-stays : goal.returns-in-Err-clause-stays
returns-in-Err-clause-stays c = c.take_over.ensures.facts ∙ c.requires.copy

pub returns-in-Err-clause-keeps : goal.returns-in-Err-clause-keeps
returns-in-Err-clause-keeps c = stayed c.args.number c.args.spare c.args.trail.now c.go_back.new.trail c.take_over.new.self c.go_back.ensures.within c.requires.copy c.go_back.ensures.goes c.take_over.ensures
