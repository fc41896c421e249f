-- What the writer and a lane know once they have met.
use Rattle.std.proofs.Common.{◌≡◌, ℕ, ◌<◌, ◌≤◌, max, List, length, set, get_or, sym, ap, ◌∙◌, subst, arith, get_or-set_same}
use Rattle.atomic_table.specs.Table.{Me}
use Rattle.entity_heap.specs.declared.board.Plan.{Plan}
use Rattle.entity_heap.specs.declared.board.Visit.{Visit}
use Rattle.entity_heap.specs.declared.board.Role.{Role}
use Rattle.entity_heap.specs.declared.board.Role.TheVariants.{Reads, Writes}
use Rattle.entity_heap.specs.Rule.{AreStates}
use Rattle.entity_heap.specs.Plans.{plan_of, visit_of}

most_is : (a b : ℕ) → max a b ≤ b → max a b ≡ b
most_is a b h = omega arith

module _ {S P : Type 0} where
  -- the writer after a meeting, and what it then saw: w, w' and w'' are it at first, after it told and after it learnt, and l' the lane after it was told
  pub record Met (w l w' l' w'' : Me S (Role P)) : Type 0 where
    pub told : w' ≡ w
    pub floor : l' ≡ (Reads (record (visit_of l.0) { floor = max (visit_of l.0).floor (plan_of w.0).version }), l.1)
    pub learnt : w'' ≡ (Writes (record (plan_of w'.0) { met = set (plan_of w'.0).met (visit_of l'.0).number (visit_of l'.0).floor; heard = (visit_of l'.0).entries }), w'.1)
    pub room : (visit_of l.0).number < length (plan_of w.0).met
    pub seen : (i : ℕ) → get_or (plan_of w''.0).met i 0 ≤ (plan_of w''.0).version
    pub states : AreStates (plan_of w''.0) (plan_of w''.0).heard

  learnt_from : (w l w' l' w'' : Me S (Role P)) → Met w l w' l' w''
      → w'' ≡ (Writes (record (plan_of w.0) { met = set (plan_of w.0).met (visit_of l.0).number (max (visit_of l.0).floor (plan_of w.0).version); heard = (visit_of l.0).entries }), w.1)
  learnt_from w l w' l' w'' m = m.learnt ∙ (λ j. let q : Plan P = plan_of (m.told j).0 in let v : Visit P = visit_of (m.floor j).0 in let z : Plan P = record q { met = set q.met v.number v.floor; heard = v.entries } in (Writes z, (m.told j).1))

  low : (w l w' l' w'' : Me S (Role P)) → Met w l w' l' w'' → max (visit_of l.0).floor (plan_of w.0).version ≤ (plan_of w.0).version
  low w l w' l' w'' m =
      let q : Plan P = plan_of w.0 in let v : Visit P = visit_of l.0 in let f : ℕ = max v.floor q.version in
      let b : get_or (set q.met v.number f) v.number 0 ≤ q.version = subst (λ (z : Plan P). get_or z.met v.number 0 ≤ z.version) (ap (λ m. plan_of m.0) (learnt_from w l w' l' w'' m)) (m.seen v.number) in
      let s = get_or-set_same q.met v.number f 0 m.room in omega arith

  -- the lane's floor is the writer's version
  pub floor_is : (w l w' l' w'' : Me S (Role P)) → Met w l w' l' w'' → l' ≡ (Reads (record (visit_of l.0) { floor = (plan_of w.0).version }), l.1)
  floor_is w l w' l' w'' m = let is = most_is (visit_of l.0).floor (plan_of w.0).version (low w l w' l' w'' m) in m.floor ∙ (λ j. let z : Visit P = record (visit_of l.0) { floor = is j } in (Reads z, l.1))

  pub floor_was : (w l w' l' w'' : Me S (Role P)) → Met w l w' l' w'' → (visit_of l.0).floor ≤ (plan_of w.0).version
  floor_was w l w' l' w'' m = let b = low w l w' l' w'' m in omega arith

  -- the writer has a note of the lane at its version, and the lane's record
  pub learnt_is : (w l w' l' w'' : Me S (Role P)) → Met w l w' l' w'' → w'' ≡ (Writes (record (plan_of w.0) { met = set (plan_of w.0).met (visit_of l.0).number (plan_of w.0).version; heard = (visit_of l.0).entries }), w.1)
  learnt_is w l w' l' w'' m = let is = most_is (visit_of l.0).floor (plan_of w.0).version (low w l w' l' w'' m) in
      learnt_from w l w' l' w'' m ∙ (λ j. let z : Plan P = record (plan_of w.0) { met = set (plan_of w.0).met (visit_of l.0).number (is j); heard = (visit_of l.0).entries } in (Writes z, w.1))

  pub states_are : (w l w' l' w'' : Me S (Role P)) → Met w l w' l' w'' → AreStates (plan_of w.0) (visit_of l.0).entries
  states_are w l w' l' w'' m = subst (λ (z : Plan P). AreStates z z.heard) (ap (λ m. plan_of m.0) (learnt_from w l w' l' w'' m)) m.states
