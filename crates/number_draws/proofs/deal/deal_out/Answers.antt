use Rattle.std.proofs.Common.{◌≡◌, ◌%◌, ◌<◌, length, refl, ◌∙◌, arith}
use Rattle.std.proofs.lemmas.Nat.{mod_below}
use Rattle.crossbeam_deque.specs.Handles.{worker_view, worker_flavor}
use Rattle.number_draws.proofs.Dealing.{fresh_there, dealt_there, rec_at, rec_kept, set_long}
use Rattle.number_draws.proofs.deal.deal_out.Goals as goal

pub put-requires : goal.put-requires
put-requires c =
    let many = c.loop-number.invariant.many in
    let low : c.loop-number.number % c.args.workers < length c.loop-number.deques.items = omega (arith, mod_below c.loop-number.number c.args.workers c.requires) in
    fresh_there worker_view c.loop-number.number c.loop-number.deques.items (c.loop-number.number % c.args.workers) _ low c.index_mut.ensures.value c.loop-number.invariant.dealt

pub loop-number-preserved : goal.loop-number-preserved
loop-number-preserved c =
    let many = c.loop-number.invariant.many in
    let low : c.loop-number.number % c.args.workers < length c.loop-number.deques.items = omega (arith, mod_below c.loop-number.number c.args.workers c.requires) in record {
      many = set_long worker_view c.loop-number.deques.items (c.loop-number.number % c.args.workers) c.put.new.deque ∙ many;
      fifo = rec_kept (λ d. worker_flavor d ≡ 0) c.loop-number.deques.items (c.loop-number.number % c.args.workers) c.put.new.deque
          (let f = rec_at (λ d. worker_flavor d ≡ 0) c.loop-number.deques.items (c.loop-number.number % c.args.workers) c.index_mut.result.now low c.loop-number.invariant.fifo in let s = c.in_ok-put.ensures.same.1 in let v = c.index_mut.ensures.value in grind arith)
          c.loop-number.invariant.fifo;
      dealt = dealt_there worker_view c.loop-number.number c.loop-number.deques.items _ (c.loop-number.number % c.args.workers) c.index_mut.result.now c.put.new.deque low c.index_mut.ensures.value c.loop-number.invariant.dealt c.in_ok-put.ensures.put refl;
    }
