-- A front of a buffer, or of a piece, in its place.
use Rattle.std.proofs.Common.{◌≡◌, ℕ, zero, suc, ◌<◌, ◌≤◌, List, [], ◌∷◌, ◌++◌, length, take, drop, Some, Result, Ok, Err, refl, sym, ap, ◌∙◌, subst, arith, append_assoc, inl, inr}
use Rattle.std.proofs.lemmas.List.{take-append-drop, length-take-le}
use Rattle.flow_base.specs.Outside.{Takes, IsStuck}
use Rattle.flow_base.specs.Causes.{Counts}

drop_joined : (n m : ℕ) (xs : List ℕ) → n ≤ m → drop n (take m xs) ++ drop m xs ≡ drop n xs
drop_joined zero m xs within = take-append-drop m xs
drop_joined (suc n) zero xs within = absurd (omega (arith, within))
drop_joined (suc n) (suc m) [] within = refl
drop_joined (suc n) (suc m) (x ∷ xs) within = drop_joined n m xs (omega (arith, within))

-- what was read into the first bytes of a buffer was read into the buffer
pub takes_more : {E : Type 0} (left now given part old : List ℕ) (m : ℕ) (r : Result ℕ E) → given ≡ take m old → m ≤ length old → Takes (Some left) (Some now) given part r → Takes (Some left) (Some now) old (part ++ drop m old) r
takes_more left now given part old m (Err e) same within takes = takes
takes_more left now given part old m (Ok n) same within takes =
    let few : n ≤ m = subst (λ (k : ℕ). n ≤ k) (ap length same ∙ length-take-le m old within) takes.0 in
    let here : part ≡ take n left ++ drop n (take m old) = takes.2.1 ∙ ap (λ (g : List ℕ). take n left ++ drop n g) same in
    (omega (arith, few, within), takes.1, (takes.2.0, ap (λ (p : List ℕ). p ++ drop m old) here ∙ append_assoc (take n left) (drop n (take m old)) (drop m old) ∙ ap (λ (p : List ℕ). take n left ++ p) (drop_joined n m old few)))

take_none : (m : ℕ) → take {A = ℕ} m [] ≡ []
take_none zero = refl
take_none (suc m) = refl

take_some : (m : ℕ) (xs : List ℕ) → (0 < length xs → 0 < m) → take m xs ≡ [] → xs ≡ []
take_some m [] some none = refl
take_some zero (x ∷ xs) some none = absurd (omega (arith, some (omega arith)))
take_some (suc m) (x ∷ xs) some none = absurd (let is : x ∷ take m xs ≡ [] = none in cc)

-- where none of a front was taken, none of the whole piece was
pub counts_more : {E : Type 0} (f : E) (piece given : List ℕ) (m : ℕ) (r : Result ℕ E) (before now : ℕ) → given ≡ take m piece → (0 < length piece → 0 < m) → Counts (IsStuck f given r) before now → Counts (IsStuck f piece r) before now
counts_more {E} f piece given m r before now same some counts = record { later = counts.later; rises = λ stuck. counts.rises (over stuck); stays = λ none. counts.stays (λ stuck. none (back stuck)) }
  where
    over : IsStuck f piece r → IsStuck f given r
    over (inl failed) = inl failed
    over (inr nothing) = inr (nothing.0, λ none. nothing.1 (take_some m piece some (sym same ∙ none)))

    back : IsStuck f given r → IsStuck f piece r
    back (inl failed) = inl failed
    back (inr nothing) = inr (nothing.0, λ none. nothing.1 (same ∙ ap (take m) none ∙ take_none m))
