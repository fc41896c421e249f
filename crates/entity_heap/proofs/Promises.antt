-- What readers may rest on follows from the rule.
use Rattle.std.proofs.Common.{◌≡◌, ◌≢◌, ℕ, ◌-◌, ◌<◌, slice_get, refl, sym, ap, ◌∙◌, subst, inl, arith, Option, Some}
use mathlib.Core.Option.{some}
use Rattle.std.specs.declared.sync.Arc.{Arc}
use Rattle.atomic_table.specs.Table.{State}
use Rattle.entity_heap.specs.declared.board.Plan.{Plan}
use Rattle.entity_heap.specs.declared.board.Visit.{Visit}
use Rattle.entity_heap.specs.declared.board.Role.{Role}
use Rattle.entity_heap.specs.declared.board.Role.TheVariants.{Reads}
use Rattle.entity_heap.specs.Rule.{spot, pick, word_of, pinned_before, IsFrom, IsPin, IsLane, Kept}
use Rattle.entity_heap.specs.Promises.{AreServed, HaveLeft, IsAwaited, AreNoted, IsApart}
use Rattle.entity_heap.proofs.Totals.{some_of}
use Rattle.entity_heap.proofs.Gates.{is_just_before}
use Rattle.entity_heap.proofs.Slots.{now, apart_from_read}

module _ {P Z : Type 0} (fits : ℕ → P → ℕ → P → Type 0) where
  pub are_served : (s : State (Option (Arc P Z)) (Role P)) (r : Kept fits s) → AreServed fits s r.plan r.ties
  are_served s r = ((r.world.fit r.plan.version r.plan.committed r.world.committed).1, λ n e x a b g away. r.slots.served n e r.plan.version r.plan.committed x a b (inl refl) r.world.committed g away)

  pub have_left : (s : State (Option (Arc P Z)) (Role P)) (r : Kept fits s) → HaveLeft s r.plan
  have_left s r drained j p l at is = let k : IsLane r.plan r.ties j l = r.seats.each j (Reads l) at in let known : IsPin r.plan l.state (Some p) = subst (IsPin r.plan l.state) is k.pin in now r.plan p drained known.0

  pub is_awaited : (s : State (Option (Arc P Z)) (Role P)) (r : Kept fits s) → IsAwaited s r.plan
  is_awaited s r undrained fewer =
      let owed = r.gate.owing undrained in let one = some_of (pinned_before r.plan.version) s.views (omega arith) in let at = is_just_before r.plan.version one.1 one.3 in
      (one.0, at.0, at.1, one.2 ∙ ap (λ (v : Role P). some v) at.2, at.3, at.4)

  pub are_noted : (s : State (Option (Arc P Z)) (Role P)) (r : Kept fits s) → AreNoted s r.plan
  are_noted s r j l at =
      let k : IsLane r.plan r.ties j l = r.seats.each j (Reads l) at in let met = (r.seats.noted l.number).0 in
      (k.seen.0, k.seen.1, k.entries, λ p is. let from : IsFrom (r.ties.noted l.number) (Some p) = subst (IsFrom (r.ties.noted l.number)) is k.noted in omega arith)

  pub is_apart : (s : State (Option (Arc P Z)) (Role P)) (r : Kept fits s) → IsApart s r.plan
  is_apart s r w taken n e v a b read same =
      let o = r.slots.reached w taken in let g = r.slots.filling o.0 o.1 in
      apart_from_read r.plan (word_of s.words) w.lane n o.0.entity e v (r.gate.cleared g.0).0 read g.1 b (sym o.4 ∙ same)
