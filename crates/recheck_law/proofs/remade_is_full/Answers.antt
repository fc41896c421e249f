use Rattle.recheck_law.proofs.Remade as remade
use Rattle.recheck_law.proofs.remade_is_full.Goals as goal

pub returns : goal.returns
returns c = remade.remade_is_full c.what_serves_on.ensures.parse c.what_serves_on.ensures.deps c.rechecked_is_full.ensures
