-- The numbers of what is staged, as a loop goes over them.
use Rattle.std.proofs.Common.{◌≡◌, ℕ, zero, suc, ◌+◌, ◌<◌, ◌≤◌, Bool, true, false, cond, List, [], ◌∷◌, ◌++◌, length, set, get_or, slice_get, drop, refl, sym, ap, ◌∙◌, arith, Some, get_or-set_other}
use mathlib.Core.Logic.{dite}
use native.Mathlib.Decide.{ℕ_discrete}
use Rattle.heap_core.specs.Meaning.{names}
use Rattle.heap_core.proofs.Lists.{drop_step, drop_past}
use Rattle.heap_core.proofs.Names.{names-skip, names-append, names-last}
use Rattle.entity_heap.specs.Starts.{AreListed}
use Rattle.entity_heap.proofs.Lists.{not_both}

-- what is staged is listed from place i on
abbrev pub AreAhead : ℕ → List ℕ → List Bool → Type 0
AreAhead i ks bs = (k : ℕ) → get_or bs k false ≡ true → names (drop i ks) k ≡ true

down_here : (bs : List Bool) (e : ℕ) → get_or (set bs e false) e false ≡ false
down_here [] e = refl
down_here (b ∷ bs) zero = refl
down_here (b ∷ bs) (suc e) = down_here bs e

-- the first of the list is not staged any more
pub ahead_less : (bs : List Bool) (ks : List ℕ) (i e : ℕ) → slice_get ks i ≡ Some e → AreAhead i ks bs → AreAhead (i + 1) ks (set bs e false)
ahead_less bs ks i e at ahead k up = dite (ℕ_discrete k e)
    (λ (is : k ≡ e). not_both (get_or (set bs e false) k false) up (ap (λ (z : ℕ). get_or (set bs e false) z false) is ∙ down_here bs e))
    (λ ne. names-skip e (drop (i + 1) ks) k ne (ap (λ (l : List ℕ). names l k) (sym (drop_step ks i e at)) ∙ ahead k (sym (get_or-set_other bs e k false false ne) ∙ up)))

-- the first of the list was not staged
pub ahead_same : (bs : List Bool) (ks : List ℕ) (i e : ℕ) → slice_get ks i ≡ Some e → get_or bs e false ≡ false → AreAhead i ks bs → AreAhead (i + 1) ks bs
ahead_same bs ks i e at down ahead k up = dite (ℕ_discrete k e)
    (λ (is : k ≡ e). not_both (get_or bs k false) up (ap (λ (z : ℕ). get_or bs z false) is ∙ down))
    (λ ne. names-skip e (drop (i + 1) ks) k ne (ap (λ (l : List ℕ). names l k) (sym (drop_step ks i e at)) ∙ ahead k up))

-- where the list is at its end, nothing is staged
pub none_ahead : (bs : List Bool) (ks : List ℕ) (i : ℕ) → length ks ≤ i → AreAhead i ks bs → (k : ℕ) → get_or bs k false ≡ false
none_ahead bs ks i past ahead k = go (get_or bs k false) refl
  where
    go : (b : Bool) → get_or bs k false ≡ b → b ≡ false
    go false is = refl
    go true is = absurd (let z : false ≡ true = ap (λ (l : List ℕ). names l k) (sym (drop_past ks i past)) ∙ ahead k is in cc)

-- one more is staged, and listed unless it was
pub listed_more : (ks more : List ℕ) (bs : List Bool) (e : ℕ) (b : Bool) → AreListed ks bs → get_or bs e false ≡ b → more ≡ cond b ks (ks ++ e ∷ []) → AreListed more (set bs e true)
listed_more ks more bs e b listed here is k up = ap (λ (l : List ℕ). names l k) is ∙ dite (ℕ_discrete k e)
    (λ (at : k ≡ e). ap (names (cond b ks (ks ++ e ∷ []))) at ∙ (elim b as (λ v. get_or bs e false ≡ v → names (cond v ks (ks ++ e ∷ [])) e ≡ true) [ true ↦ λ on. listed e on | false ↦ λ _. names-last ks e ] here))
    (λ ne. let old = listed k (sym (get_or-set_other bs e k true false ne) ∙ up) in elim b as (λ v. names (cond v ks (ks ++ e ∷ [])) k ≡ true) [ true ↦ old | false ↦ names-append ks e k old ])

-- where none is staged, no list is too short
pub listed_none : (ks : List ℕ) (bs : List Bool) → ((k : ℕ) → get_or bs k false ≡ false) → AreListed ks bs
listed_none ks bs none e up = not_both (get_or bs e false) up (none e)
