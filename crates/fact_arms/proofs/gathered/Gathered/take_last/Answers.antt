use Rattle.std.proofs.Common.{◌≡◌, []}
use Rattle.fact_trail.specs.Moments.{map_of}
use Rattle.fact_arms.proofs.Moving.{goes_same, last_some, took_one}
use Rattle.fact_arms.proofs.Settling.{after_some, taken_settled}
use Rattle.fact_arms.proofs.gathered.Gathered.take_last.Goals as goal

pub returns-in_err-change-clause-goes : goal.returns-in_err-change-clause-goes
returns-in_err-change-clause-goes c = goes_same c.args.trail.now c.undo.new.self c.in_err-change.ensures.err

pub returns-in-Some-clause-back : goal.returns-in-Some-clause-back
returns-in-Some-clause-back c =
    let took = c.in_ok-change.ensures in
    took_one c.add_change.result c.args.self.now.difference c.add_change.new.self.difference c.args.trail.now c.undo.new.self c.in_ok-change.field-0 c.requires.more
    (last_some c.add_change.result c.args.self.now.difference c.add_change.new.self.difference c.in_ok-change.field-0 c.in-Some.change c.in-Some.is c.add_change.ensures.made) took.after took.shorter took.quiet

pub returns-in-Some-clause-settled : goal.returns-in-Some-clause-settled
returns-in-Some-clause-settled c =
    taken_settled c.add_change.result c.args.self.now c.add_change.new.self (map_of c.args.trail.now) (map_of c.undo.new.self) c.in-Some.change
    (after_some (map_of c.args.trail.now) (map_of c.undo.new.self) c.in_ok-change.field-0 c.in-Some.change (c.args.trail.now.changes.items ≡ []) c.in-Some.is c.in_ok-change.ensures.after) c.requires.settled c.add_change.ensures.settled
