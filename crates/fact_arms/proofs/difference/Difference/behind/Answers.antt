use Rattle.std.proofs.Common.{refl}
use Rattle.fact_arms.proofs.Over.{behind_all}
use Rattle.fact_arms.proofs.difference.Difference.behind.Goals as goal

pub returns : goal.returns
returns c = behind_all c.args.self c.args.first c.add_variables.new.self c.add_keys.new.self _ c.in_ok-add_variables.ensures.made c.in_ok-add_keys.ensures.made refl refl c.or-both.ensures
