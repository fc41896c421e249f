use Rattle.subtype_rules.proofs.Grown.{there_or}
use Rattle.subtype_rules.proofs.collecting.Links.at.Goals as goal

pub returns : goal.returns
returns c = there_or c.as_slice.result.now c.args.self.now.all c.args.k _ c.as_slice.ensures c.requires
