use Rattle.std.proofs.Common.{map}
use Rattle.module_deps.proofs.EachOnce.{specifiers_taken}
use Rattle.module_deps.proofs.listing.specifiers_in.Goals as goal

pub returns : goal.returns
returns c = specifiers_taken c.loop-i.i c.args.items.now (map (λ text. text.now) c.loop-i.found.items) c.loop-i-test.false c.loop-i.invariant
