-- The longest front of a list whose elements pass a test.
use Rattle.std.proofs.Common.{◌≡◌, ℕ, suc, ◌+◌, ◌≤◌, Bool, true, false, List, [], ◌∷◌, ◌++◌, length, take, drop, refl, inl, inr, arith}
use Rattle.std.specs.List.{list_all, prefix_len}
use Rattle.std.proofs.lemmas.Bool.{and_parts, and_from, cases_Bool}

-- what follows is empty, or begins with an element that fails
abbrev pub Stops : (ℕ → Bool) → List ℕ → Type 0
Stops p [] = Unit {0}
Stops p (c ∷ cs) = p c ≡ false

one_more : (n : ℕ) → 1 + n ≡ suc n
one_more n = omega arith

pub run : (p : ℕ → Bool) (xs rest : List ℕ) → list_all p xs ≡ true → Stops p rest → prefix_len p (xs ++ rest) ≡ length xs
run p [] [] all stops = refl
run p [] (c ∷ rest) all stops = rw stops refl
run p (x ∷ xs) rest all stops =
    let parts = and_parts (p x) (list_all p xs) all in
    rw (parts.0, run p xs rest parts.1 stops) (one_more (length xs))

pub run_least : (p : ℕ → Bool) (xs rest : List ℕ) → list_all p xs ≡ true → length xs ≤ prefix_len p (xs ++ rest)
run_least p [] rest all = omega arith
run_least p (x ∷ xs) rest all =
    let parts = and_parts (p x) (list_all p xs) all in
    let more = run_least p xs rest parts.1 in
    rw parts.0 (omega arith)

pub run_passes : (p : ℕ → Bool) (cs : List ℕ) → list_all p (take (prefix_len p cs) cs) ≡ true
run_passes p [] = refl
run_passes p (c ∷ cs) =
    elim (cases_Bool (p c)) [
      | inl e ↦ rw (e, one_more (prefix_len p cs)) (and_from (p c) _ e (run_passes p cs))
      | inr e ↦ rw e refl
    ]

pub run_stops : (p : ℕ → Bool) (cs : List ℕ) → Stops p (drop (prefix_len p cs) cs)
run_stops p [] = tt
run_stops p (c ∷ cs) =
    elim (cases_Bool (p c)) [
      | inl e ↦ rw (e, one_more (prefix_len p cs)) (run_stops p cs)
      | inr e ↦ rw e e
    ]

pub run_front : (p : ℕ → Bool) (c : ℕ) (cs : List ℕ) → p c ≡ true → prefix_len p (c ∷ cs) ≡ suc (prefix_len p cs)
run_front p c cs e = rw e (one_more (prefix_len p cs))
