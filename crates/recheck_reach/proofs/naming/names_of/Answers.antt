use Rattle.std.proofs.Common.{rules}
use Rattle.recheck_reach.proofs.Named.{are_steps}
use Rattle.recheck_reach.proofs.naming.names_of.Goals as goal

pub returns : goal.returns
returns c = are_steps c.args.sources.now c.get.result.now c.args.signatures.now c.args.numbers.now c.in_ok-named.named.items c.requires.sources c.requires.many (search rules) c.in_ok-named.ensures
