use Rattle.std.proofs.Common.{◌≡◌, length, map}
use Rattle.std.specs.List.{AllByRecursion}
use Rattle.crossbeam_deque.specs.Handles.{worker_flavor, worker_view}
use Rattle.number_draws.specs.Dealt.{AreDealt}
use Rattle.number_draws.proofs.deal.empty_deques.Given as goal

abbrev pub invariant-loop-i : goal.invariant-loop-i
invariant-loop-i l = record {
  many : length l.deques.items ≡ l._i;
  fifo : AllByRecursion (λ d. worker_flavor d ≡ 0) l.deques.items;
  dealt : AreDealt 0 (map worker_view l.deques.items);
}
