-- The writer meets the lanes, and what is known of a recheck and of the answers stays.
use Rattle.std.proofs.Common.{◌≡◌, ℕ, ◌<◌, false, List, length, slice_get, sym, ap, ◌∙◌, subst, arith, Some, Result, Ok, Err}
use Rattle.std.specs.Prelude.{OnOk}
use Rattle.std.specs.List.{AllZip}
use Rattle.flow_base.specs.Seen.{FolderSeen}
use Rattle.heap_core.specs.Meaning.{Meaning}
use Rattle.heap_core.specs.declared.traits.Program.{Ghosts}
use Rattle.request_core.specs.payloads.specs.declared.payload.Payload.{Payload}
use Rattle.request_core.specs.payloads.specs.declared.payload.Payload.TheVariants as payload
use Rattle.pending_edits.specs.Pending.{Pending}
use Rattle.stops.specs.Asked.{StopSeen}
use Rattle.request_core.specs.analyst.specs.Work.{Work}
use Rattle.asks.specs.declared.ask.Ask.{Ask}
use Rattle.request_core.specs.answers_law.specs.Answers.{Answered}
use Rattle.recheck_run.specs.Recheck.{HasRoom, Rechecked, Tells}
use Rattle.recheck_run.specs.declared.outcome.Outcome as declared
use Rattle.entity_heap.specs.declared.board.Plan.{Plan}
use Rattle.entity_heap.specs.declared.board.Visit.{Visit}
use Rattle.entity_heap.specs.declared.heap.Heap.{Heap}
use Rattle.entity_heap.specs.declared.heap.Lane.{Lane}
use Rattle.entity_heap.specs.declared.heap.Writer.{Writer}
use Rattle.entity_heap.specs.Lanes.{visit_in, AreLanesOf, AreMet}
use Rattle.entity_heap.specs.Writers.{IsWriterOf, plan_in, meaning_in}
use Rattle.entity_heap.proofs.Lists.{get_short, get_there, same_some}
use Rattle.lane_asks.specs.Dealing.{AreOpen}
use Rattle.lane_asks.specs.Telling.{AllTold, AllHaveTold, IsToldFrom, IsReady}
use Rattle.lane_asks.specs.declared.dealing.Row.{Row}
use Rattle.lane_asks.specs.declared.told.Told.{Told}
use Rattle.lane_asks.proofs.Whole.{all_ready, all_full, all_from, all_have}
use Rattle.beside.specs.Beside.{MayPin, MayRecheck, HasRechecked, RowsTell, state_of, AnswersFrom, WorksAs}

module _ {G : Ghosts Payload} where
  -- a recheck between two meetings is one around them
  pub moved : (h : Heap Payload) (w0 w1 w2 w3 : Writer Payload G) (f g : FolderSeen) (e d : Pending) (s t : StopSeen) (k l : Work) (o : declared.Outcome)
      → meaning_in w1 ≡ meaning_in w0 → ((plan_in w1).made ≡ (plan_in w0).made) × ((plan_in w1).history ≡ (plan_in w0).history)
      → meaning_in w3 ≡ meaning_in w2 → ((plan_in w3).made ≡ (plan_in w2).made) × ((plan_in w3).history ≡ (plan_in w2).history) → IsWriterOf h w3
      → HasRechecked h w1 w2 (state_of f e w1 s k) (state_of g d w2 t l) o → HasRechecked h w0 w3 (state_of f e w0 s k) (state_of g d w3 t l) o
  moved h w0 w1 w2 w3 f g e d s t k l o first plan second later from has = record {
    result = subst (λ (p : Meaning Payload × Meaning Payload). Rechecked (record { folder = f; edits = e; heap = p.0; stop = s; work = k }) (record { folder = g; edits = d; heap = p.1; stop = t; work = l }) o) (λ j. (first j, sym second j)) has.result;
    closed = subst (λ (m : Meaning Payload). m.is_open ≡ false) (sym second) has.closed;
    room = subst (λ (m : Meaning Payload). HasRoom m d.capacity) (sym second) has.room;
    capacity = has.capacity;
    told = has.told;
    told_stop = has.told_stop;
    later = has.later;
    reads = has.reads;
    states = subst (λ (p : List (List Payload) × List (List Payload) × Meaning Payload). Tells (Some p.0) (Some p.1) p.2 o) (λ j. (plan.1 j, sym later.1 j, sym second j)) has.states;
    writer = from;
    made = later.0 ∙ has.made ∙ plan.0;
  }

  -- it may begin behind the first meeting too
  pub may_still : (w0 w1 : Writer Payload G) (edits : Pending) → meaning_in w1 ≡ meaning_in w0 → MayRecheck w0 edits → MayRecheck w1 edits
  may_still w0 w1 edits same may =
      let closed : (meaning_in w1).is_open ≡ false = ap (λ (m : Meaning Payload). m.is_open) same ∙ may.closed in
      let version : (meaning_in w1).version ≡ (meaning_in w0).version = ap (λ (m : Meaning Payload). m.version) same in let low = may.version in
      record { closed = closed; version = omega arith; room = subst (λ (m : Meaning Payload). HasRoom m edits.capacity) (sym same) may.room; fit = λ old was. may.fit old (subst (λ (m : Meaning Payload). slice_get m.committed 0 ≡ Some (payload.Root old)) same was) }

  -- the lanes are ready behind the first meeting
  pub ready_still : {X : Type 0} (h : Heap Payload) (q : Plan Payload) (asks : List Ask) (l0 l1 : List (Lane Payload G)) (rows : List (Row X)) → AreMet q l0 l1 → AreLanesOf h l1 → length l1 ≡ length l0 → MayPin (length asks) l0 → AreOpen rows → length rows ≡ length l0 → AllZip (IsReady h asks) l1 rows
  ready_still h q asks l0 l1 rows met lanes long pins opened many = all_ready h asks l1 rows lanes (λ k l at.
      let low : k < length l1 = get_short l1 k l at in let o = get_there l0 k (omega arith) in let m = met k o.0 o.1 in
      let same : m.0 ≡ l = same_some (slice_get l1 k) m.0 l m.1 at in
      let e : (visit_in l).pins ≡ (visit_in o.0).pins = ap (λ (z : Lane Payload G). (visit_in z).pins) (sym same) ∙ ap (λ (v : Visit Payload). v.pins) m.2 in
      let p = pins k o.0 o.1 in omega arith) opened (many ∙ sym long)

  module _ {A V E : Type 0} (work : A → Work) where
    -- what the rows have are the answers
    pub rows_tell : (r : Result V E) (asks : List Ask) (q q2 : Plan Payload) (since until : ℕ) (states : List (List Payload)) (l0 l1 l2 l3 : List (Lane Payload G)) (before now : List A) (rows after : List (Row (Told Answered)))
        → 0 < length l0 → length l1 ≡ length l0 → q.version ≡ since → q2.version ≡ until → states ≡ q2.history → AreMet q l0 l1 → AreMet q2 l2 l3 → AreOpen rows
        → OnOk r (AllTold AnswersFrom (WorksAs work) asks l1 l2 before now rows after) → OnOk r (RowsTell work states since until l0 l3 before now asks after)
    rows_tell (Err e) asks q q2 since until states l0 l1 l2 l3 before now rows after some long v u hs met met2 opened told = tt
    rows_tell (Ok x) asks q q2 since until states l0 l1 l2 l3 before now rows after some long v u hs met met2 opened told = record {
      full = all_full AnswersFrom (WorksAs work) asks l1 l2 before now rows after told opened;
      told = λ all are many. subst (λ (p : List (List Payload) × ℕ × ℕ). AllZip (IsToldFrom AnswersFrom p.0 p.1 p.2) asks all) (λ j. (sym hs j, v j, u j)) (all_from AnswersFrom (WorksAs work) asks all q q2 l0 l1 l2 l3 before now rows after (omega arith) (sym long) met met2 told opened are many);
      lanes = λ all are. subst (λ (n : ℕ). AllHaveTold (WorksAs work) n l0 l3 before now asks all) u (all_have AnswersFrom (WorksAs work) asks all q q2 l0 l1 l2 l3 before now rows after (sym long) met met2 told opened are);
    }
