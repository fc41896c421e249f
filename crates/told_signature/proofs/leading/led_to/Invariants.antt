use Rattle.std.proofs.Common.{take}
use Rattle.std.specs.Ordering.{nat_cmp}
use Rattle.std.specs.Cmp.Lexicographic.{slice_cmp}
use Rattle.std.specs.BTreeSet.{contains}
use Rattle.named_rows.specs.Seen.{seen}
use Rattle.told_signature.specs.Seen.{named_in, said_view}
use Rattle.told_signature.specs.Leading.{Leads}
use Rattle.told_signature.proofs.leading.led_to.Given as goal

abbrev pub invariant-loop-i : goal.invariant-loop-i
invariant-loop-i l = Leads (named_in l.named.entries) (contains (slice_cmp nat_cmp) l.met) l.names.items (seen (said_view (named_in l.named.entries)) (take l.i l.exports))
