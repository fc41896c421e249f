use Rattle.recheck_merging.proofs.Hinted.{row_stands}
use Rattle.recheck_merging.proofs.hints.stands_at.Goals as goal

pub returns-in-Some : goal.returns-in-Some
returns-in-Some c on = let there = c.in-Some.ensures.lookup.3 in row_stands c.args.rows.now c.args.at c.in-Some.row.now c.args.path.now there.0 there.1 (c.equals.ensures.0 on)
