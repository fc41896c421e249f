use Rattle.typing_laws.proofs.Breaks.{breaks_only_join}
use Rattle.typing_laws.proofs.breaks_only_join.Goals as goal

pub returns : goal.returns
returns c = breaks_only_join
