-- Stacks, which grow at their end: the last place at which a test holds, and changes at a place.
use Rattle.std.specs.Prelude.{ℕ, zero, suc, ◌≡◌, Bool, List, [], ◌∷◌, take, slice_get, Option, Some, None, if◌then◌else◌}

-- the number of the place behind one, in a list with one more in front
abbrev pub one_further : Option ℕ → Option ℕ → Option ℕ
one_further (Some at) here = Some (suc at)
one_further None here = here

-- the last place of a list at which a test holds
abbrev pub last_at : {A : Type 0} → (A → Bool) → List A → Option ℕ
last_at test [] = None
last_at test (x ∷ xs) = one_further (last_at test xs) (if test x then Some 0 else None)

-- Each element of a stack tells where the next outer one stands that is like it.
abbrev pub AreLinked : {A : Type 0} → (A → A → Bool) → (A → Option ℕ) → List A → Type 0
AreLinked {A} like outer xs = (at : ℕ) (x : A) → slice_get xs at ≡ Some x → outer x ≡ last_at (like x) (take at xs)

-- a list with a change of the element at a place, if it has one there
abbrev pub at_place : {A : Type 0} → ℕ → (A → A) → List A → List A
at_place at change [] = []
at_place zero change (x ∷ xs) = change x ∷ xs
at_place (suc at) change (x ∷ xs) = x ∷ at_place at change xs
