use Rattle.std.proofs.Common.{◌≡◌, ◌+◌, ◌%◌, ◌<◌, ℕ, List, [], ◌∷◌, length, refl, sym, ap, ◌∙◌, subst, arith, length-set}
use Rattle.std.proofs.lemmas.List.{length-append}
use Rattle.std.proofs.lemmas.Nat.{mod_below}
use Rattle.heap_core.proofs.Lists.{get_index}
use Rattle.lane_asks.proofs.Dealt.{none_taken, taken_at, one_left_at, all_taken}
use Rattle.lane_asks.proofs.dealing.gather.Goals as goal

pub loop-i-init : goal.loop-i-init
loop-i-init g c = record { many = ap (λ (l : List g.row.X.Denot). length l) c.new-all.ensures.items; rows = refl; taken = rw c.new-all.ensures.items (none_taken c.args.rows.items) }

pub unreachable-requires : goal.unreachable-requires
unreachable-requires g c =
    let inv = c.loop-i.invariant in let many : c.len-count.result ≡ length c.args.rows.items = omega (arith, c.len-count.ensures, c.args.rows.ok.0) in let some = c.requires.some in let wide = inv.rows in
    let below = mod_below c.loop-i.i c.len-count.result (omega arith) in
    let here = get_index c.loop-i.rows.items (c.loop-i.i % c.len-count.result) c.index_mut.result.now (omega arith) c.index_mut.ensures.value in
    let left = one_left_at c.loop-i.all.items c.args.asks.now c.args.rows.items c.loop-i.rows.items c.index_mut.result.now c.loop-i.i c.len-count.result inv.many many inv.taken c.requires.full some c.loop-i-test.true here in
    let gone = c.in-None.ensures.cases.0 in omega arith

pub loop-i-preserved : goal.loop-i-preserved
loop-i-preserved g c =
    let inv = c.loop-i.invariant in let many : c.len-count.result ≡ length c.args.rows.items = omega (arith, c.len-count.ensures, c.args.rows.ok.0) in let some = c.requires.some in let wide = inv.rows in
    let below = mod_below c.loop-i.i c.len-count.result (omega arith) in
    let here = get_index c.loop-i.rows.items (c.loop-i.i % c.len-count.result) c.index_mut.result.now (omega arith) c.index_mut.ensures.value in
    record {
      many = ap (λ (l : List g.row.X.Denot). length l) c.in_ok-push-in-Some.ensures.items ∙ length-append c.loop-i.all.items (c.in-Some.next ∷ []) ∙ ap (λ (j : ℕ). j + 1) inv.many;
      rows = length-set c.loop-i.rows.items (c.loop-i.i % c.len-count.result) (record c.index_mut.result.now { told = c.pop_front.new.self }) ∙ inv.rows;
      taken = rw c.in_ok-push-in-Some.ensures.items (taken_at c.loop-i.all.items c.args.rows.items c.loop-i.rows.items c.in-Some.next c.index_mut.result.now (record c.index_mut.result.now { told = c.pop_front.new.self }) c.loop-i.i c.len-count.result inv.many many inv.taken some here c.in-Some.ensures.items);
    }

pub returns-clause-rows : goal.returns-clause-rows
returns-clause-rows g c = let inv = c.loop-i.invariant in let long = inv.many in let done = c.loop-i-test.false in let most = c.loop-i.auto.i-end in all_taken c.loop-i.all.items c.args.asks.now c.args.rows.items c.loop-i.rows.items inv.taken c.requires.full (omega arith)
