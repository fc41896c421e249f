use Rattle.std.proofs.Common.{arith}
use Rattle.std.specs.Ordering.{nat_cmp}
use Rattle.std.specs.Cmp.Lexicographic.{slice_cmp}
use Rattle.std.specs.BTreeSet.{contains}
use Rattle.code_changes.proofs.Sets.{inner_begun, inner_turned, inner_ended}
use Rattle.code_changes.proofs.change.inner_names.Goals as goal

pub loop-i-init : goal.loop-i-init
loop-i-init c = inner_begun c.new-names.result c.new-names.ensures.empty

pub loop-i-preserved : goal.loop-i-preserved
loop-i-preserved c =
    inner_turned (contains (slice_cmp nat_cmp) c.loop-i.names) (contains (slice_cmp nat_cmp) c.add_inner.new.names) c.args.changes.now c.loop-i.i c.index-changes-i.result (omega arith) c.index-changes-i.is c.loop-i.invariant c.in_ok-add_inner.ensures

pub returns : goal.returns
returns c = inner_ended (contains (slice_cmp nat_cmp) c.loop-i.names) c.args.changes.now c.loop-i.i (omega arith) c.loop-i.invariant
