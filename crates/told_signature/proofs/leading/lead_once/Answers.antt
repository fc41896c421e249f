use Rattle.std.proofs.Common.{sym, ◌∙◌}
use Rattle.std.specs.Ordering.{nat_cmp}
use Rattle.std.specs.Cmp.Lexicographic.{slice_cmp}
use Rattle.std.specs.BTreeSet.{contains}
use Rattle.told_signature.specs.Seen.{named_in}
use Rattle.told_signature.proofs.LedNames.{first_time, again}
use Rattle.told_signature.proofs.leading.lead_once.Goals as goal

pub returns-then-not-branch : goal.returns-then-not-branch
returns-then-not-branch c =
    again (named_in c.args.named.now.entries) (contains (slice_cmp nat_cmp) c.args.met.now) (contains (slice_cmp nat_cmp) c.insert.new.self) c.args.names.now.items c.args.word.now c.in_ok-share.field-0 c.in_ok-share.ensures c.in_ok-insert.ensures.updates.0
    (sym c.if-not-branch.true ∙ c.in_ok-insert.ensures.added)

pub returns : goal.returns
returns c =
    first_time (named_in c.args.named.now.entries) (contains (slice_cmp nat_cmp) c.args.met.now) (contains (slice_cmp nat_cmp) c.insert.new.self) c.args.names.now.items c.args.word.now c.in_ok-share.field-0 c.in_ok-share.ensures c.in_ok-insert.ensures.updates.0
    c.lead_by_name.new.names.items c.in_ok-lead_by_name.ensures
