use Rattle.std.proofs.Common.{refl, arith}
use Rattle.graph_search.proofs.Owns.{owns_begin, members_small, owns_step, owns_end}
use Rattle.graph_search.proofs.leveling.give_owners.Goals as goal

pub loop-k-init : goal.loop-k-init
loop-k-init c = owns_begin c.args.edges.now c.args.components.now c.args.owners.now c.requires.size

pub write_all-requires : goal.write_all-requires
write_all-requires c = members_small c.args.edges.now c.args.components.now c.loop-k.k c.ends.result.now c.ends.result.now c.loop-k.owners c.requires.components c.ends.ensures refl c.loop-k.invariant.len

pub loop-k-preserved : goal.loop-k-preserved
loop-k-preserved c = owns_step c.args.edges.now c.args.components.now c.loop-k.k c.ends.result.now c.ends.result.now c.loop-k.owners c.write_all.new.numbers c.requires.components c.ends.ensures refl c.loop-k.invariant c.write_all.ensures

pub returns : goal.returns
returns c = owns_end c.args.edges.now c.args.components.now c.loop-k.k c.loop-k.owners c.requires.components (omega arith) c.loop-k.invariant
