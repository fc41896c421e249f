use Rattle.subtype_rules.proofs.Deciding.{below_is}
use Rattle.subtype_rules.proofs.laws.below_is_the_relation.Goals as goal

pub returns : goal.returns
returns c = below_is c.args.table.now
