-- The numbers that a list names, and flags at them.
use Rattle.std.proofs.Common.{◌≡◌, ◌≢◌, ℕ, ◌<◌, Bool, true, false, List, [], ◌∷◌, ◌++◌, length, set, slice_get, refl, sym, ap, ◌∙◌, arith, Some, length-set}
use Rattle.std.specs.Prelude.{eqb, ◌||◌}
use Rattle.std.proofs.lemmas.Bool.Decides.{nat_tests}
use mathlib.Core.Logic.{dite}
use native.Mathlib.Decide.{ℕ_discrete}
use Rattle.heap_core.specs.Meaning.{names}
use Rattle.heap_core.proofs.Lists.{put_here, put_else}

-- a number is named
pub names-skip : (e : ℕ) (ks : List ℕ) (k : ℕ) → k ≢ e → names (e ∷ ks) k ≡ true → names ks k ≡ true
names-skip e ks k ne h = grind (arith, nat_tests)

pub names-append : (ks : List ℕ) (e k : ℕ) → names ks k ≡ true → names (ks ++ e ∷ []) k ≡ true
names-append [] e k h = absurd (let z : false ≡ true = h in cc)
names-append (j ∷ ks) e k h = elim (eqb j k) as (λ b. b || names ks k ≡ true → b || names (ks ++ e ∷ []) k ≡ true) [ true ↦ λ _. refl | false ↦ λ t. names-append ks e k t ] h

pub names-last : (ks : List ℕ) (e : ℕ) → names (ks ++ e ∷ []) e ≡ true
names-last [] e = grind (arith, nat_tests)
names-last (j ∷ ks) e = elim (eqb j e) as (λ b. b || names (ks ++ e ∷ []) e ≡ true) [ true ↦ refl | false ↦ names-last ks e ]

pub names-first : (k : ℕ) (ks : List ℕ) → names (k ∷ ks) k ≡ true
names-first k ks = grind (arith, nat_tests)

pub names-later : (k : ℕ) (ks : List ℕ) (e : ℕ) → names ks e ≡ true → names (k ∷ ks) e ≡ true
names-later k ks e h = elim (eqb k e) as (λ b. b || names ks e ≡ true) [ true ↦ refl | false ↦ h ]

-- the flags, with each of these set
abbrev pub marked : List ℕ → List Bool → List Bool
marked [] bs = bs
marked (k ∷ ks) bs = marked ks (set bs k true)

marked_kept : (ks : List ℕ) (bs : List Bool) (e : ℕ) → e < length bs → slice_get bs e ≡ Some true → slice_get (marked ks bs) e ≡ Some true
marked_kept [] bs e here h = h
marked_kept (k ∷ ks) bs e here h = let n = length-set bs k true in marked_kept ks (set bs k true) e (omega arith)
    (dite (ℕ_discrete e k) (λ (same : e ≡ k). let lower : k < length bs = omega arith in ap (slice_get (set bs k true)) same ∙ put_here bs k true lower) (λ (ne : e ≢ k). put_else bs k e true ne ∙ h))

pub marked_here : (ks : List ℕ) (bs : List Bool) (e : ℕ) → e < length bs → names ks e ≡ true → slice_get (marked ks bs) e ≡ Some true
marked_here [] bs e here h = absurd (let z : false ≡ true = h in cc)
marked_here (k ∷ ks) bs e here h = let n = length-set bs k true in let longer : e < length (set bs k true) = omega arith in
    dite (ℕ_discrete e k) (λ (same : e ≡ k). let lower : k < length bs = omega arith in marked_kept ks (set bs k true) e longer (ap (slice_get (set bs k true)) same ∙ put_here bs k true lower))
    (λ (ne : e ≢ k). marked_here ks (set bs k true) e longer (names-skip k ks e ne h))

pub names-not : (k : ℕ) (ks : List ℕ) (e : ℕ) → names (k ∷ ks) e ≡ false → (e ≢ k) × (names ks e ≡ false)
names-not k ks e h = ((λ same. let z : true ≡ false = sym (grind (arith, nat_tests)) ∙ h in cc), rest (eqb k e) h)
  where
    rest : (b : Bool) → b || names ks e ≡ false → names ks e ≡ false
    rest true h = absurd (let z : true ≡ false = h in cc)
    rest false h = h

pub marked_else : (ks : List ℕ) (bs : List Bool) (e : ℕ) → names ks e ≡ false → slice_get (marked ks bs) e ≡ slice_get bs e
marked_else [] bs e h = refl
marked_else (k ∷ ks) bs e h = let n = names-not k ks e h in marked_else ks (set bs k true) e n.1 ∙ put_else bs k e true n.0

pub length-marked : (ks : List ℕ) (bs : List Bool) → length (marked ks bs) ≡ length bs
length-marked [] bs = refl
length-marked (k ∷ ks) bs = length-marked ks (set bs k true) ∙ length-set bs k true
