use Rattle.std.proofs.Common.{rules}
use Rattle.check_values.specs.Roots.{paths_of}
use Rattle.recheck_reach.proofs.Named.{more_named}
use Rattle.recheck_reach.proofs.naming.tell_names.Goals as goal

pub returns : goal.returns
returns c =
    more_named (paths_of c.args.root.now) c.args.signatures.now c.args.numbers.now c.args.i c.index-signatures-x.result c.get.result.now c.in_ok-named.field-0 c.args.named.now.items c.requires.within c.requires.low c.index-signatures-x.is (search rules)
    c.in_ok-named.ensures c.requires.told
