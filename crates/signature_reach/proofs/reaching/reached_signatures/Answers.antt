use Rattle.check_values.specs.Roots.{paths_of_rows}
use Rattle.check_values.specs.Rows.{row_at}
use Rattle.signature_reach.specs.Along.{signed}
use Rattle.signature_reach.proofs.Reached.{all_told}
use Rattle.signature_reach.proofs.reaching.reached_signatures.Goals as goal

pub returns : goal.returns
returns c =
    all_told (row_at (signed c.args.modules.now c.args.signatures.now)) (paths_of_rows c.args.modules.now) c.args.lists.now c.args.numbers.now c.look_at_starts.new.seen c.follow.new.seen c.look_at_starts.new.found c.follow.new.found c.in_ok-look_at_starts.ensures.started
    c.in_ok-follow.ensures.grows c.in_ok-follow.ensures.closed
