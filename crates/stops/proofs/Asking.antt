-- How often one who tells its question has said yes.
use Rattle.std.proofs.Common.{◌≡◌, ℕ, ◌+◌, ◌<◌, ◌≤◌, ◌^◌, ◌⊎◌, Bool, true, false, refl, inl, inr, arith, lit<}
use Rattle.std.specs.Prelude.{IsTrue, ◌↔◌, ◌&&◌, nat_lt, nat_le, if◌then◌else◌}
use Rattle.std.proofs.lemmas.Bool.{false≢true}
use Rattle.std.proofs.lemmas.Bool.Decides.{leb_tells}
use Rattle.flow_base.specs.Causes.{raised, Counts}
use Rattle.stops.specs.Asked.{yes_answers_by, SaysYesAtItsQuestion}

at_most_once : (b : Bool) → (if b then 1 else 0) < 2 ^ 64
at_most_once true = lit< tt
at_most_once false = lit< tt

pub yes_fits : (question questions : ℕ) → yes_answers_by question questions < 2 ^ 64
yes_fits question questions = at_most_once (nat_lt 0 question && nat_le question questions)

-- its question was asked, or not yet
abbrev IsToldBy : ℕ → ℕ → ℕ → Type 0
IsToldBy question questions count =
    ((0 < question) × (question ≤ questions) × (count ≡ 1)) ⊎ ((count ≡ 0) × (((0 < question) × (question ≤ questions)) → ⊥))

asked_or_not : (question questions : ℕ) → IsToldBy question questions (yes_answers_by question questions)
asked_or_not question questions = elim (leb_tells 1 question) [
  | inr none ↦ rw none.0 (inr (refl, λ there. omega (arith, there, none)))
  | inl some ↦ elim (leb_tells question questions) [
    | inl asked ↦ rw (some.0, asked.0) (inl (some.1, asked.1, refl))
    | inr later ↦ rw (some.0, later.0) (inr (refl, λ there. omega (arith, there, later)))
  ]
]

told_by : (question before now count_before count : ℕ) (b : Bool) → IsToldBy question before count_before → IsToldBy question now count →
    now ≡ raised before → Counts (IsTrue b) count_before count → (IsTrue b) ↔ ((before < question) × (now ≡ question))
told_by question before now count_before count true (inl was) at next counts =
    (λ _. let r = counts.rises refl in elim at [ inl a ↦ omega (arith, was, a, r) | inr a ↦ omega (arith, was, a, r) ], λ _. refl)
told_by question before now count_before count true (inr was) (inl is) next counts =
    (λ _. elim (leb_tells (before + 1) question) [ inl later ↦ omega (arith, later, is, next) | inr asked ↦ absurd (was.1 (omega (arith, is), omega (arith, asked))) ], λ _. refl)
told_by question before now count_before count true (inr was) (inr is) next counts = (λ _. let r = counts.rises refl in omega (arith, was.0, is.0, r), λ _. refl)
told_by question before now count_before count false (inl was) at next counts = (λ says. absurd (false≢true says), λ there. absurd (omega (arith, was, there)))
told_by question before now count_before count false (inr was) (inl at) next counts =
    (λ says. absurd (false≢true says), λ there. let s = counts.stays false≢true in absurd (omega (arith, was.0, at, s, there)))
told_by question before now count_before count false (inr was) (inr at) next counts =
    (λ says. absurd (false≢true says), λ there. absurd (at.1 (omega (arith, there), omega (arith, there))))

pub says_yes_at_its_question : SaysYesAtItsQuestion
says_yes_at_its_question question before now b next counts =
    told_by question before now (yes_answers_by question before) (yes_answers_by question now) b (asked_or_not question before) (asked_or_not question now) next counts
