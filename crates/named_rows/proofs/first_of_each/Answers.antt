use Rattle.std.proofs.Common.{◌++◌, ◌∷◌, [], sym, ap, ◌∙◌, arith}
use Rattle.std.specs.Ordering.{nat_cmp}
use Rattle.std.specs.Cmp.Lexicographic.{slice_cmp}
use Rattle.std.specs.BTreeSet.{contains}
use Rattle.check_values.specs.Rows.{Bytes}
use Rattle.named_rows.proofs.FirstRows.{turn_new, turn_old}
use Rattle.named_rows.proofs.first_of_each.Goals as goal

pub loop-i-preserved-then-not-branch : goal.loop-i-preserved-then-not-branch
loop-i-preserved-then-not-branch g c =
    turn_old (contains (slice_cmp nat_cmp) c.loop-i.seen) (contains (slice_cmp nat_cmp) c.insert.new.self) c.loop-i.firsts.items c.args.rows.now c.loop-i.i c.index-rows-i.result (omega arith) c.index-rows-i.is
    c.in_ok-share.field-0 c.in_ok-share.ensures c.in_ok-insert.ensures.updates.0 (sym c.if-not-branch.true ∙ c.in_ok-insert.ensures.added) c.loop-i.invariant

pub loop-i-preserved : goal.loop-i-preserved
loop-i-preserved g c =
    turn_new (contains (slice_cmp nat_cmp) c.loop-i.seen) (contains (slice_cmp nat_cmp) c.insert.new.self) c.loop-i.firsts.items c.args.rows.now c.loop-i.i c.index-rows-i.result (omega arith) c.index-rows-i.is
    c.in_ok-share.field-0 c.in_ok-share.ensures c.in_ok-insert.ensures.updates.0 c.push.new.self.items
    (c.in_ok-push.ensures.items ∙ ap (λ (name : Bytes). c.loop-i.firsts.items ++ (name, c.index-rows-i.result.1) ∷ []) c.in_ok-share-2.ensures) (sym c.if-not-branch.false ∙ c.in_ok-insert.ensures.added) c.loop-i.invariant
