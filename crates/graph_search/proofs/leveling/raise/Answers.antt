use Rattle.std.proofs.Common.{◌+◌, Bool, length, get_or, take, refl, sym, subst, arith}
use Rattle.graph_search.specs.Cycles.{Edge}
use Rattle.graph_search.specs.Leveling.{IsRaisedOver}
use Rattle.graph_search.proofs.Lists.{get_index}
use Rattle.graph_search.proofs.Climbs.{RisesOver, below_count, over_begin, over_rose, over_still, over_end}
use Rattle.graph_search.proofs.leveling.raise.Goals as goal
use Rattle.graph_search.proofs.leveling.raise.Goals.{then-raise_over, else-raise_over}

pub loop-y-init : goal.loop-y-init
loop-y-init c = over_begin c.args.edges.now c.args.owners.now (get_or c.args.owners.now c.args.x 0) c.args.levels.now c.requires.low

pub raise_over-requires-clause-room : goal.raise_over-requires-clause-room
raise_over-requires-clause-room c j v at =
    let h = below_count c.args.edges.now c.args.owners.now (length c.args.levels.now) c.requires.owned c.loop-y.levels c.loop-y.invariant.low j v at in
    let size = c.loop-y.invariant.rises.len in
    omega arith

pub loop-y-preserved : goal.loop-y-preserved
loop-y-preserved c =
    let k = get_or c.args.owners.now c.args.x 0 in
    let ys = c.ends-y-items.result.now in
    let y = get_or ys c.loop-y.y-index 0 in
    let x_k = get_index c.args.owners.now c.args.x 0 k (omega (arith, c.requires.owned.2.len)) refl in
    let edge : Edge c.args.edges.now c.args.x y = (ys, c.ends-y-items.ensures, (c.loop-y.y-index, get_index ys c.loop-y.y-index 0 y c.loop-y-test.true refl)) in
    elim c.if-raise_over.branch [
      | then-raise_over w ↦ subst (λ (r : Bool). RisesOver c.args.edges.now c.args.owners.now k (take (c.loop-y.y-index + 1) ys) c.args.levels.now c.raise_over.new.levels r) (sym w.rose-is)
          (over_rose c.args.edges.now c.args.owners.now k c.args.x ys c.loop-y.y-index y c.args.levels.now c.loop-y.levels c.raise_over.new.levels c.loop-y.rose c.requires.owned x_k edge c.loop-y.invariant
          (subst (λ (r : Bool). IsRaisedOver c.args.owners.now k y c.loop-y.levels c.raise_over.new.levels r) w.if-raise_over.true c.raise_over.ensures))
      | else-raise_over w ↦ subst (λ (r : Bool). RisesOver c.args.edges.now c.args.owners.now k (take (c.loop-y.y-index + 1) ys) c.args.levels.now c.raise_over.new.levels r) (sym w.rose-is)
          (over_still c.args.edges.now c.args.owners.now k ys c.loop-y.y-index y c.args.levels.now c.loop-y.levels c.raise_over.new.levels c.loop-y.rose refl c.loop-y.invariant
          (subst (λ (r : Bool). IsRaisedOver c.args.owners.now k y c.loop-y.levels c.raise_over.new.levels r) w.if-raise_over.false c.raise_over.ensures))
    ]

pub returns : goal.returns
returns c =
    let k = get_or c.args.owners.now c.args.x 0 in
    let x_k = get_index c.args.owners.now c.args.x 0 k (omega (arith, c.requires.owned.2.len)) refl in
    over_end c.args.edges.now c.args.owners.now k c.args.x c.ends-y-items.result.now c.ends-y-items.result.now c.loop-y.y-index c.args.levels.now c.loop-y.levels c.loop-y.rose x_k c.ends-y-items.ensures refl c.loop-y-test.false c.loop-y.invariant
