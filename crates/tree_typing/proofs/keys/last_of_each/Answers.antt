use Rattle.std.proofs.Common.{◌≡◌, ◌-◌, ◌++◌, ◌∷◌, [], drop, arith, sym, ap, ◌∙◌, subst, List}
use Rattle.std.specs.Ordering.{nat_cmp}
use Rattle.std.specs.Cmp.Lexicographic.{slice_cmp}
use Rattle.std.specs.BTreeSet.{contains}
use Rattle.type_values.specs.declared.types.FlowProp.{FlowProp}
use Rattle.tree_typing.proofs.KeptKeys.{IsKept, turn_new, turn_old}
use Rattle.tree_typing.proofs.keys.last_of_each.Goals as goal

pub loop-i-preserved-then-not-branch : goal.loop-i-preserved-then-not-branch
loop-i-preserved-then-not-branch c =
    let same : c.as_bytes.result.now ≡ c.index-props-i.result.key = cc in
    turn_old (contains (λ a b. slice_cmp nat_cmp a.now b.now) c.loop-i.keys) (contains (λ a b. slice_cmp nat_cmp a.now b.now) c.insert.new.self) c.args.props.now (c.loop-i.i - 1) c.loop-i.i (omega arith) (omega arith) c.as_bytes.result
    c.index-props-i.result c.loop-i.kept.items c.index-props-i.is same (sym c.if-not-branch.true ∙ c.in_ok-insert.ensures.added) c.in_ok-insert.ensures.updates.0 c.loop-i.invariant

pub loop-i-preserved : goal.loop-i-preserved
loop-i-preserved c =
    let same : c.as_bytes.result.now ≡ c.index-props-i.result.key = cc in
    let shared : c.in_ok-share.field-0 ≡ c.index-props-i.result = c.in_ok-share.ensures in
    let pushed : c.push.new.self.items ≡ c.loop-i.kept.items ++ c.index-props-i.result ∷ [] = c.in_ok-push.ensures.items ∙ ap (λ (p : FlowProp). c.loop-i.kept.items ++ p ∷ []) shared in
    subst (λ (kept : List FlowProp). IsKept (contains (λ a b. slice_cmp nat_cmp a.now b.now) c.insert.new.self) kept (drop (c.loop-i.i - 1) c.args.props.now)) (sym pushed)
    (turn_new (contains (λ a b. slice_cmp nat_cmp a.now b.now) c.loop-i.keys) (contains (λ a b. slice_cmp nat_cmp a.now b.now) c.insert.new.self) c.args.props.now (c.loop-i.i - 1) c.loop-i.i (omega arith) (omega arith) c.as_bytes.result
    c.index-props-i.result c.loop-i.kept.items c.index-props-i.is same (sym c.if-not-branch.false ∙ c.in_ok-insert.ensures.added) c.in_ok-insert.ensures.updates.0 c.loop-i.invariant)
