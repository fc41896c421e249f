use Rattle.recheck_reach.proofs.Checks.{checked_are_of_checked}
use Rattle.recheck_reach.proofs.laws.checked_are_of_checked.Goals as goal

pub returns : goal.returns
returns c = checked_are_of_checked c.one_parse.ensures c.all_stays_inside.ensures.named c.reach_is_by_names.ensures.checked
