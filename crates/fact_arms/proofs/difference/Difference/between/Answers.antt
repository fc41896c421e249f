use Rattle.std.proofs.Common.{ap}
use Rattle.fact_trail.specs.Moments.{map_of}
use Rattle.fact_arms.specs.Differences.{type_of}
use Rattle.fact_arms.proofs.Between.{types_again, moments_again, within_again, between_them, new_again}
use Rattle.fact_arms.proofs.difference.Difference.between.Goals as goal

pub returns-clause-types : goal.returns-clause-types
returns-clause-types c =
    types_again c.in_ok-since.since c.in_ok-between.between (map_of c.args.trail.now) (map_of c.take.new.trail) (map_of c.take-2.new.trail) (map_of c.make.new.trail) (map_of c.move_to.new.trail) c.in_ok-since.ensures.made c.in_ok-between.ensures.made
    c.in_ok-make.ensures.made (λ s. ap type_of (c.in_ok-move_to.ensures.made s))

pub returns-clause-moments : goal.returns-clause-moments
returns-clause-moments c =
    moments_again c.in_ok-since.since c.in_ok-between.between c.args.first c.args.second c.args.trail.now c.take.new.trail c.take-2.new.trail c.make.new.trail c.move_to.new.trail c.requires.first c.in_ok-since.ensures.count c.in_ok-between.ensures.count
    c.in_ok-since.ensures.goes c.in_ok-between.ensures.goes c.in_ok-make.ensures.goes c.in_ok-move_to.ensures.goes

pub returns-clause-within : goal.returns-clause-within
returns-clause-within c =
    within_again c.in_ok-since.since c.in_ok-between.between c.args.first c.take-2.new.trail c.make.new.trail c.move_to.new.trail c.in_ok-between.ensures.count c.in_ok-make.ensures.goes c.in_ok-move_to.ensures.goes

pub returns-clause-between : goal.returns-clause-between
returns-clause-between c =
    between_them c.in_ok-between.between c.args.first c.args.second c.args.trail.now c.take.new.trail c.take-2.new.trail c.requires.first c.in_ok-since.ensures.count c.in_ok-since.ensures.goes c.in_ok-since.ensures.back
    c.in_ok-between.ensures.back c.in_ok-between.ensures.made

pub returns-clause-leaves : goal.returns-clause-leaves
returns-clause-leaves c = λ s was. c.in_ok-between.ensures.leaves s (c.in_ok-since.ensures.goes.fresh s was)

pub returns-clause-fresh : goal.returns-clause-fresh
returns-clause-fresh c = λ s was.
    new_again s c.in_ok-since.since c.in_ok-between.between c.args.trail.now c.take.new.trail c.take-2.new.trail c.make.new.trail c.move_to.new.trail c.in_ok-since.ensures.leaves c.in_ok-since.ensures.goes c.in_ok-between.ensures.leaves
    c.in_ok-between.ensures.goes c.in_ok-make.ensures.goes c.in_ok-move_to.ensures.goes was

pub returns-in_err-move_to-clause-fresh : goal.returns-in_err-move_to-clause-fresh
returns-in_err-move_to-clause-fresh c = λ s was.
    new_again s c.in_ok-since.since c.in_ok-between.between c.args.trail.now c.take.new.trail c.take-2.new.trail c.make.new.trail c.move_to.new.trail c.in_ok-since.ensures.leaves c.in_ok-since.ensures.goes c.in_ok-between.ensures.leaves
    c.in_ok-between.ensures.goes c.in_ok-make.ensures.goes c.in_err-move_to.ensures.goes was

pub returns-in_err-make-clause-fresh : goal.returns-in_err-make-clause-fresh
returns-in_err-make-clause-fresh c = λ s was.
    let earlier = c.in_ok-since.ensures.goes.fresh s was in c.in_err-make.ensures.goes.fresh s (c.in_ok-between.ensures.leaves s earlier) (c.in_ok-between.ensures.goes.fresh s earlier)

pub returns-in_err-between-clause-fresh : goal.returns-in_err-between-clause-fresh
returns-in_err-between-clause-fresh c = λ s was. c.in_err-between.ensures.goes.fresh s (c.in_ok-since.ensures.goes.fresh s was)

pub returns-in_err-since-clause-fresh : goal.returns-in_err-since-clause-fresh
returns-in_err-since-clause-fresh c = λ s was. c.in_err-since.ensures.goes.fresh s was
