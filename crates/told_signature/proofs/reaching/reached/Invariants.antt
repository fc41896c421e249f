use Rattle.std.proofs.Common.{◌+◌, length}
use Rattle.std.specs.Ordering.{nat_cmp}
use Rattle.std.specs.Cmp.Lexicographic.{slice_cmp}
use Rattle.std.specs.BTreeSet.{contains}
use Rattle.told_signature.specs.Reaching.{Reaches, unread}
use Rattle.told_signature.proofs.reaching.reached.Given as goal

abbrev pub invariant-loop-word : goal.invariant-loop-word
invariant-loop-word l = Reaches l.aliases.entries l.initial.waiting.items (contains (slice_cmp nat_cmp) l.names) l.waiting.items

abbrev pub decreases-loop-word : goal.decreases-loop-word
decreases-loop-word l = unread (contains (slice_cmp nat_cmp) l.names) l.aliases.entries + length l.waiting.items
