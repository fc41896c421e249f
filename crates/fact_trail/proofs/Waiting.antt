-- Joins that wait.
use Rattle.std.proofs.Common.{◌≡◌, ◌+◌, ◌<◌, ℕ, List, [], ◌∷◌, ◌++◌, Bool, true, false, drop, get_or, length, reverse, refl, sym, ap, ◌∙◌, arith}
use Rattle.std.proofs.lemmas.List.{reverse-append, drop_more, drop_all}
use Rattle.type_values.specs.declared.types.FlowType.{FlowType}
use Rattle.type_terms.specs.Join.{join_of}
use Rattle.type_terms.proofs.Settled.{settled}
use Rattle.type_joins.proofs.Joins.{join_in_front_of}
use Rattle.fact_trail.specs.declared.fact.Fact.{Fact}
use Rattle.fact_trail.specs.Holding.{type_held}
use Rattle.fact_trail.specs.Types.{ty_of}

-- ---- no type waits

pub held_alone : (ty : FlowType) (waiting : List FlowType) → waiting ≡ [] → type_held ty waiting ≡ ty
held_alone ty waiting none = ap (type_held ty) none

pub settled_as_held : (ty t : FlowType) → t ≡ ty → join_of (ty ∷ ty ∷ []) ≡ ty → join_of (t ∷ t ∷ []) ≡ t
settled_as_held ty t is settles = (λ i. join_of (is i ∷ is i ∷ [])) ∙ settles ∙ sym is

pub settled_alone : (ty : FlowType) (waiting : List FlowType) → waiting ≡ [] → join_of (ty ∷ ty ∷ []) ≡ ty → join_of (type_held ty waiting ∷ type_held ty waiting ∷ []) ≡ type_held ty waiting
settled_alone ty waiting none settles = settled_as_held ty (type_held ty waiting) (held_alone ty waiting none) settles

-- a fact of the same type
pub settled_shared : (fact : Fact) (ty : FlowType) (waiting : List FlowType) → waiting ≡ [] → ty ≡ ty_of fact → fact.rough ≡ false → join_of (type_held ty waiting ∷ type_held ty waiting ∷ []) ≡ type_held ty waiting
settled_shared fact ty waiting none is smooth = settled_as_held (ty_of fact) (type_held ty waiting) (held_alone ty waiting none ∙ is) (fact.settled smooth)

-- ---- one type more waits

held_more : (ty first : FlowType) (waiting : List FlowType) → type_held ty (waiting ++ first ∷ []) ≡ join_of (first ∷ type_held ty waiting ∷ [])
held_more ty first [] = refl
held_more ty first (next ∷ more) = ap (λ l. join_of (l ++ ty ∷ [])) (reverse-append (next ∷ more) (first ∷ [])) ∙ sym (join_in_front_of first (reverse (next ∷ more) ++ ty ∷ []))

pub waits_in_front : (ty first : FlowType) (waiting more : List FlowType) → more ≡ waiting ++ first ∷ [] → type_held ty more ≡ join_of (first ∷ type_held ty waiting ∷ [])
waits_in_front ty first waiting more is = ap (type_held ty) is ∙ held_more ty first waiting

pub waits_settled : (ty first : FlowType) (waiting more : List FlowType) → more ≡ waiting ++ first ∷ [] → join_of (type_held ty more ∷ type_held ty more ∷ []) ≡ type_held ty more
waits_settled ty first waiting more is = let one = first ∷ type_held ty waiting ∷ [] in settled_as_held (join_of one) (type_held ty more) (waits_in_front ty first waiting more is) (settled one)

-- ---- the types that wait, from the first one on

pub reversed_none : (types : List FlowType) (count : ℕ) → count ≡ length types → [] ≡ reverse (drop count types)
reversed_none types count is = ap reverse (sym (drop_all count types (omega (arith, is))))

pub reversed_more : (types : List FlowType) (count left : ℕ) (t : FlowType) (old new : List FlowType) → count ≡ left + 1 → left < length types → t ≡ get_or types left t → old ≡ reverse (drop count types) → new ≡ old ++ t ∷ [] → new ≡ reverse (drop left types)
reversed_more types count left t old new one within is before now =
    now ∙ ap (λ l. l ++ t ∷ []) (before ∙ ap (λ n. reverse (drop n types)) one)
    ∙ sym (ap reverse (drop_more types left t within ∙ ap (λ u. u ∷ drop (left + 1) types) (sym is)) ∙ reverse-append (t ∷ []) (drop (left + 1) types))

-- where some types wait, all are joined
pub held_all : (ty last : FlowType) (waiting before all : List FlowType) (none : Bool) → (waiting ≡ [] → none ≡ true) → none ≡ false → before ≡ reverse waiting → last ≡ ty → all ≡ before ++ last ∷ [] → join_of all ≡ type_held ty waiting
held_all ty last [] before all none empty some first is now = absurd (wrong (sym (empty refl) ∙ some))
  where
    wrong : true ≡ false → ⊥
    wrong e = cc
held_all ty last (next ∷ more) before all none empty some first is now = ap join_of (now ∙ (λ i. first i ++ is i ∷ []))
