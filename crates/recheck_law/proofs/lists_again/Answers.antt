use Rattle.recheck_law.proofs.Lists as lists
use Rattle.recheck_law.proofs.lists_again.Goals as goal

pub returns-clause-lists : goal.returns-clause-lists
returns-clause-lists c = lists.lists_again

pub returns-clause-serve : goal.returns-clause-serve
returns-clause-serve c = lists.deps_serve_again c.what_serves_on.ensures.deps
