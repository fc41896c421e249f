use Rattle.std.proofs.Common.{arith}
use Rattle.fact_trail.proofs.Sparing.{spared}
use Rattle.fact_trail.proofs.trail.Trail.spare.Goals as goal

pub returns-clause-facts : goal.returns-clause-facts
returns-clause-facts c = spared (record { variables = c.in_ok-variables.variables; properties = c.in_ok-properties.properties }) c.args.self.now c.in_ok-variables.ensures.facts c.in_ok-properties.ensures.facts

pub returns-clause-room : goal.returns-clause-room
returns-clause-room c = omega (arith, c.in_ok-make_room.ensures.room, c.rows-rows.ensures, c.in_ok-variables.ensures.len, c.in_ok-properties.ensures.len)
