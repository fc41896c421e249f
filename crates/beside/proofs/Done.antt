-- What the calls of a server leave.
use Rattle.std.proofs.Common.{◌≡◌, ℕ, List, length, set, slice_get, sym, ap, ◌∙◌, subst, arith, Some, Result, Ok, Err}
use Rattle.std.specs.Prelude.{IfOk}
use Rattle.std.specs.List.{AllZip}
use Rattle.heap_core.specs.declared.traits.Program.{Ghosts}
use Rattle.request_core.specs.payloads.specs.declared.payload.Payload.{Payload}
use Rattle.asks.specs.declared.ask.Ask.{Ask}
use Rattle.request_core.specs.answers_law.specs.Answers.{Answered}
use Rattle.recheck_run.specs.Recheck.{RecheckState}
use Rattle.recheck_run.specs.declared.outcome.Outcome.{Outcome}
use Rattle.entity_heap.specs.declared.heap.Heap.{Heap}
use Rattle.entity_heap.specs.declared.heap.Lane.{Lane}
use Rattle.entity_heap.specs.declared.heap.Writer.{Writer}
use Rattle.entity_heap.specs.Lanes.{visit_in, IsLaneOf}
use Rattle.entity_heap.specs.Writers.{IsWriterOf, plan_in, meaning_in}
use Rattle.lane_asks.specs.Telling.{AllHaveTold, IsToldFrom, versions}
use Rattle.lane_asks.specs.declared.told.Told.{Told}
use Rattle.lane_asks.proofs.Whole.{zip_long}
use Rattle.beside.specs.Beside.{IsServer, AnswersFrom, HasRechecked}
use Rattle.beside.specs.Uses.{lanes_after, NoneFalls}
use Rattle.beside.specs.Server.{IsToldOfEither, moment_in, uses_of}
use Rattle.beside.proofs.Served.{uses_have, have_risen, first_long, first_lanes}
use Rattle.beside.proofs.Moments.{told_of_either}

module _ {E : Type 0} {G : Ghosts Payload} where
  -- each ask was answered from one of two moments
  pub told_done : (r : Result (Outcome × List (Told Answered)) E) (h : Heap Payload) (w v : Writer Payload G) (before now : RecheckState) (asks : List Ask)
      → IfOk r (λ done. HasRechecked h w v before now done.0) → before.heap ≡ meaning_in w → now.heap ≡ meaning_in v
      → IfOk r (λ done. AllZip (IsToldFrom AnswersFrom (plan_in v).history (meaning_in w).version (meaning_in v).version) asks done.1) → IfOk r (λ done. AllZip (IsToldOfEither (moment_in w) (moment_in v)) asks done.1)
  told_done (Ok done) h w v before now asks has first last all = told_of_either h w v before now done.0 asks done.1 first last has all
  told_done (Err e) h w v before now asks has first last all = tt

module _ {O E P A Q X : Type 0} {G : Ghosts P} (works : Q → X → A → A → Type 0) (version : ℕ) (lanes old new last : List (Lane P G)) (before now : List A) (asks : List Q) where
  -- what each lane and who answers on it have done
  pub work_done : (r : Result (O × List (Told X)) E) → lanes ≡ old → new ≡ last → IfOk r (λ done. AllHaveTold works version old new before now asks done.1) → IfOk r (λ done. AllHaveTold works version lanes last before now asks done.1)
  work_done (Ok done) same kept have = subst (λ (p : List (Lane P G) × List (Lane P G)). AllHaveTold works version p.0 p.1 before now asks done.1) (λ j. (sym same j, kept j)) have
  work_done (Err e) same kept have = tt

  -- on no lane a version falls
  pub falls_done : (r : Result (O × List (Told X)) E) → lanes ≡ old → length before ≡ length lanes → IfOk r (λ done. AllHaveTold works version old new before now asks done.1) → IfOk r (λ done. NoneFalls (uses_of lanes) (versions done.1))
  falls_done (Ok done) same askers have = subst (λ (ls : List (Lane P G)). NoneFalls (uses_of ls) (versions done.1)) (sym same) (have_risen works version old new before now asks done.1 (askers ∙ ap (λ (ls : List (Lane P G)). length ls) same) have)
  falls_done (Err e) same askers have = tt

  -- the lanes have answered what was asked of them
  pub uses_done : (F : Q → Told X → Type 0) (r : Result (O × List (Told X)) E) → lanes ≡ old → new ≡ last → length before ≡ length lanes → length new ≡ length old → IfOk r (λ done. AllZip F asks done.1)
      → IfOk r (λ done. AllHaveTold works version old new before now asks done.1) → IfOk r (λ done. uses_of last ≡ lanes_after (uses_of lanes) (versions done.1))
  uses_done F (Ok done) same kept askers many all have =
      subst (λ (p : List (Lane P G) × List (Lane P G)). uses_of p.1 ≡ lanes_after (uses_of p.0) (versions done.1)) (λ j. (sym same j, kept j))
      (uses_have works version old new before now asks done.1 (askers ∙ ap (λ (ls : List (Lane P G)). length ls) same) many (zip_long F asks done.1 all) have)
  uses_done F (Err e) same kept askers many all have = tt

module _ {G : Ghosts Payload} where
  -- a server whose first lane has answered
  pub first_running : (h : Heap Payload) (w v : Writer Payload G) (lanes new : List (Lane Payload G)) (l m : Lane Payload G) → new ≡ set lanes 0 m → slice_get lanes 0 ≡ Some l → IsServer h w lanes
      → IsWriterOf h v → IsLaneOf h m → (plan_in v).made ≡ (plan_in w).made → (visit_in m).number ≡ (visit_in l).number → IsServer h v new
  first_running h w v lanes new l m is at server from of made number =
      let long = first_long lanes new l m is at in let all = server.made in let some = server.some in let few = server.few in
      record { writer = from; lanes = first_lanes lanes new l m is at h of number server.lanes; made = omega arith; some = omega arith; few = omega arith }
