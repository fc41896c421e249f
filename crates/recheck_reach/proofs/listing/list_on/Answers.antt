use Rattle.recheck_reach.proofs.Listed.{on_skipped, on_listed}
use Rattle.recheck_reach.proofs.listing.list_on.Goals as goal

pub returns-then-not-flags-x : goal.returns-then-not-flags-x
returns-then-not-flags-x c = on_skipped c.args.flags.now c.args.x c.args.numbers.now c.requires.low c.if-not-flags-x.true c.requires.listed

pub returns : goal.returns
returns c = on_listed c.args.flags.now c.args.x c.args.numbers.now _ c.requires.low c.if-not-flags-x.false c.in_ok-push.ensures.ok c.requires.listed
