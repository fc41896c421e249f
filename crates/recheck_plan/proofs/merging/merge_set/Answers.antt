use Rattle.std.proofs.Common.{rules}
use Rattle.recheck_plan.proofs.Backwards.{leads_to_touched}
use Rattle.recheck_plan.proofs.merging.merge_set.Goals as goal

pub returns : goal.returns
returns c = let r = c.in_ok-back.ensures in let a = c.in_ok-all.ensures in search (leads_to_touched, rules)
