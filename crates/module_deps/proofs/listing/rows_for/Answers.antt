use Rattle.std.proofs.Common.{◌≡◌, ◌++◌, ◌∷◌, [], ◌+◌, List, sym, ap, ◌∙◌, subst}
use Rattle.std.specs.Ordering.{nat_cmp}
use Rattle.std.specs.Cmp.Lexicographic.{slice_cmp}
use Rattle.std.specs.BTreeSet.{contains}
use Rattle.check_values.specs.Roots.{paths_of}
use Rattle.check_values.specs.declared.signatures.DepRow.{DepRow}
use Rattle.module_deps.proofs.EachOnce.{AreRows, so_far, row_of, turn_new, turn_old}
use Rattle.module_deps.proofs.listing.rows_for.Goals as goal

pub loop-i-preserved-then-not-branch : goal.loop-i-preserved-then-not-branch
loop-i-preserved-then-not-branch c =
    turn_old (paths_of c.args.root.now) c.args.from.now (contains (λ a b. slice_cmp nat_cmp a.now b.now) c.loop-i.seen) (contains (λ a b. slice_cmp nat_cmp a.now b.now) c.insert.new.self) c.args.specs.now c.loop-i.i c.loop-i-test.true c.loop-i.rows
    c.as_bytes.result c.index-specs-i.result c.index-specs-i.is c.as_bytes.ensures c.in_ok-insert.ensures.updates.0 (sym c.if-not-branch.true ∙ c.in_ok-insert.ensures.added) c.loop-i.invariant

pub loop-i-preserved : goal.loop-i-preserved
loop-i-preserved c =
    let pushed : c.push.new.self ≡ c.loop-i.rows ++ row_of (paths_of c.args.root.now) c.args.from.now c.index-specs-i.result.now ∷ [] = c.in_ok-push.ensures.ok ∙ ap (λ (row : DepRow). c.loop-i.rows ++ row ∷ []) c.in_ok-row_for.ensures in
    subst (λ (rows : List DepRow). AreRows (paths_of c.args.root.now) c.args.from.now (contains (λ a b. slice_cmp nat_cmp a.now b.now) c.insert.new.self) rows (so_far c.args.specs.now (c.loop-i.i + 1))) (sym pushed)
    (turn_new (paths_of c.args.root.now) c.args.from.now (contains (λ a b. slice_cmp nat_cmp a.now b.now) c.loop-i.seen) (contains (λ a b. slice_cmp nat_cmp a.now b.now) c.insert.new.self) c.args.specs.now c.loop-i.i c.loop-i-test.true c.loop-i.rows
    c.as_bytes.result c.index-specs-i.result c.index-specs-i.is c.as_bytes.ensures c.in_ok-insert.ensures.updates.0 (sym c.if-not-branch.false ∙ c.in_ok-insert.ensures.added) c.loop-i.invariant)
