use Rattle.std.proofs.Common.{◌≡◌, length, map}
use Rattle.std.specs.List.{AllByRecursion}
use Rattle.crossbeam_deque.specs.Handles.{worker_flavor, worker_view}
use Rattle.number_draws.specs.Dealt.{AreDealt}
use Rattle.number_draws.proofs.deal.deal_out.Given as goal

abbrev pub invariant-loop-number : goal.invariant-loop-number
invariant-loop-number l = record {
  many : length l.deques.items ≡ l.workers;
  fifo : AllByRecursion (λ d. worker_flavor d ≡ 0) l.deques.items;
  dealt : AreDealt l.number (map worker_view l.deques.items);
}
