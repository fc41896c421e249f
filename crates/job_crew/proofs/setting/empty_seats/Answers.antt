use Rattle.std.proofs.Common.{refl}
use Rattle.crossbeam_deque.specs.Handles.{worker_view, worker_flavor}
use Rattle.job_crew.proofs.Linked.{begun_fresh, begun_tied}
use Rattle.job_crew.proofs.setting.empty_seats.Goals as goal

pub returns-clause-fresh : goal.returns-clause-fresh
returns-clause-fresh g c = begun_fresh (λ s. s.own) worker_view worker_flavor (λ s. refl) (λ s. refl) c.args.jobs _ _ c.in_ok-seats.ensures.owns c.in_ok-seats.ensures.none c.in_ok-deques.ensures.fifo c.in_ok-deques.ensures.dealt

pub returns-clause-tied : goal.returns-clause-tied
returns-clause-tied g c = begun_tied (λ s. s.own) worker_view worker_flavor (λ s. refl) (λ s. refl) c.args.jobs _ _ c.in_ok-seats.ensures.owns c.in_ok-seats.ensures.none c.args.workers c.in_ok-deques.ensures.dealt
