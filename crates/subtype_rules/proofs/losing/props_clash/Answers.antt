use Rattle.std.proofs.Common.{sym, ◌∙◌}
use Rattle.subtype_rules.proofs.LostPairs.{both_dead_left, both_dead_right, read_dead, write_dead}
use Rattle.subtype_rules.proofs.losing.props_clash.Goals as goal

pub returns-then-has_no_ways : goal.returns-then-has_no_ways
returns-then-has_no_ways c = λ _ named. both_dead_left c.args.p.now c.args.q.now c.in-Both.is (sym c.has_no_ways.ensures ∙ c.if-has_no_ways.true) named

pub returns-else-has_no_ways : goal.returns-else-has_no_ways
returns-else-has_no_ways c = λ t named. both_dead_right c.args.p.now c.args.q.now c.in-Both.is (sym c.has_no_ways-in-Both.ensures ∙ t) named

pub returns-then-are_required : goal.returns-then-are_required
returns-then-are_required c = λ t named. let r = c.are_required.ensures c.if-are_required.true in read_dead c.args.p.now c.args.q.now c.in-Read.is r.0 r.1 (sym c.has_no_ways-then-are_required.ensures ∙ t) named

pub returns-then-are_required-2 : goal.returns-then-are_required-2
returns-then-are_required-2 c = λ t named. let r = c.are_required-in-Write.ensures c.if-are_required-2.true in write_dead c.args.p.now c.args.q.now c.in-Write.is r.0 r.1 (sym c.has_no_ways-then-are_required-2.ensures ∙ t) named
