-- What is answered beside a recheck is answered from the state before it, or from the one behind it.
use Rattle.std.proofs.Common.{◌≡◌, ◌⊎◌, inl, inr, ⊎_elim, ℕ, ◌+◌, List, [], ◌∷◌, ◌++◌, sym, ap, subst, Some}
use Rattle.std.specs.List.{AllZip}
use Rattle.heap_core.specs.Meaning.{Meaning}
use Rattle.heap_core.specs.declared.traits.Program.{Ghosts}
use Rattle.request_core.specs.payloads.specs.declared.payload.Payload.{Payload}
use Rattle.asks.specs.declared.ask.Ask.{Ask}
use Rattle.request_core.specs.answers_law.specs.Answers.{Answered}
use Rattle.recheck_run.specs.Recheck.{RecheckState, IsAsBefore, Rechecked, Tells}
use Rattle.recheck_run.specs.declared.outcome.Outcome as declared
use Rattle.recheck_run.specs.declared.outcome.Outcome.TheVariants as outcome
use Rattle.entity_heap.specs.declared.heap.Heap.{Heap}
use Rattle.entity_heap.specs.declared.heap.Writer.{Writer}
use Rattle.entity_heap.specs.Writers.{plan_in, meaning_in}
use Rattle.lane_asks.specs.Telling.{IsToldFrom}
use Rattle.lane_asks.specs.declared.told.Told.{Told}
use Rattle.beside.specs.Beside.{AnswersFrom, HasRechecked}
use Rattle.beside.specs.Server.{Moment, IsToldOf, IsToldOfEither, moment_in}
use Rattle.beside.proofs.Served.{of_either, stands}

-- the version and the states after a recheck: as before, or one more
abbrev GoesOn : List (List Payload) → List (List Payload) → Meaning Payload → Meaning Payload → Type 0
GoesOn hs hs' m m' = (m'.version ≡ m.version) ⊎ ((m'.version ≡ m.version + 1) × (hs' ≡ hs ++ m'.committed ∷ []))

same_version : (hs hs' : List (List Payload)) (before now : RecheckState) → IsAsBefore before now → GoesOn hs hs' before.heap now.heap
same_version hs hs' before now same = inl (ap (λ (m : Meaning Payload). m.version) same.0)

goes_on : (hs hs' : List (List Payload)) (before now : RecheckState) (o : declared.Outcome) → Rechecked before now o → Tells (Some hs) (Some hs') now.heap o → GoesOn hs hs' before.heap now.heap
goes_on hs hs' before now (outcome.Done version parsed checked errors) is tells = inr (is.next.0, (let z : Some hs' ≡ Some (hs ++ now.heap.committed ∷ []) = tells in cc))
goes_on hs hs' before now (outcome.Cancelled poll) is tells = same_version hs hs' before now is.same
goes_on hs hs' before now (outcome.ReadFault path) is tells = same_version hs hs' before now is.0
goes_on hs hs' before now outcome.NoMemory is tells = same_version hs hs' before now is.same

module _ {G : Ghosts Payload} where
  one_of_either : (w v : Writer Payload G) (ask : Ask) (told : Told Answered) → GoesOn (plan_in w).history (plan_in v).history (meaning_in w) (meaning_in v)
      → IsToldFrom AnswersFrom (plan_in v).history (meaning_in w).version (meaning_in v).version ask told → IsToldOfEither (moment_in w) (moment_in v) ask told
  one_of_either w v ask told later from =
      ⊎_elim
      (λ (o : (told.version ≡ (meaning_in w).version) × (from.state ≡ (meaning_in w).committed)). inl (of (moment_in w) o))
      (λ (o : (told.version ≡ (meaning_in v).version) × (from.state ≡ (meaning_in v).committed)). inr (of (moment_in v) o))
      (of_either (plan_in w).history (plan_in v).history (meaning_in w).version (meaning_in v).version told.version (meaning_in w).committed (meaning_in v).committed from.state (stands w) (stands v) later from.within from.committed)
    where
      of : (m : Moment) → (told.version ≡ m.version) × (from.state ≡ m.state) → IsToldOf m ask told
      of m o = record { version = o.0; answer = subst (λ (state : List Payload). AnswersFrom state ask told.answer) o.1 from.answer }

  all_of_either : (w v : Writer Payload G) (asks : List Ask) (told : List (Told Answered)) → GoesOn (plan_in w).history (plan_in v).history (meaning_in w) (meaning_in v)
      → AllZip (IsToldFrom AnswersFrom (plan_in v).history (meaning_in w).version (meaning_in v).version) asks told → AllZip (IsToldOfEither (moment_in w) (moment_in v)) asks told
  all_of_either w v [] [] later all = tt
  all_of_either w v [] (t ∷ told) later all = absurd all
  all_of_either w v (ask ∷ asks) [] later all = absurd all
  all_of_either w v (ask ∷ asks) (t ∷ told) later all = (one_of_either w v ask t later all.0, all_of_either w v asks told later all.1)

  -- all that was told beside a recheck
  pub told_of_either : (h : Heap Payload) (w v : Writer Payload G) (before now : RecheckState) (o : declared.Outcome) (asks : List Ask) (told : List (Told Answered)) → before.heap ≡ meaning_in w → now.heap ≡ meaning_in v → HasRechecked h w v before now o
      → AllZip (IsToldFrom AnswersFrom (plan_in v).history (meaning_in w).version (meaning_in v).version) asks told → AllZip (IsToldOfEither (moment_in w) (moment_in v)) asks told
  told_of_either h w v before now o asks told first last has all =
      let states : Tells (Some (plan_in w).history) (Some (plan_in v).history) now.heap o = subst (λ (m : Meaning Payload). Tells (Some (plan_in w).history) (Some (plan_in v).history) m o) (sym last) has.states in
      all_of_either w v asks told (subst (λ (p : Meaning Payload × Meaning Payload). GoesOn (plan_in w).history (plan_in v).history p.0 p.1) (λ j. (first j, last j)) (goes_on (plan_in w).history (plan_in v).history before now o has.result states)) all
