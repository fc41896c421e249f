use Rattle.recheck_merging.proofs.Plans.{nothing}
use Rattle.recheck_merging.proofs.planning.nothing_to_merge.Goals as goal

pub returns : goal.returns
returns c = nothing _ c.new.ensures c.new-2.ensures.items c.new-3.ensures c.new-4.ensures
