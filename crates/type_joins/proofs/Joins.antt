-- Joins of types, of which some are joined first.
use Rattle.std.proofs.Common.{◌≡◌, Bool, true, false, ◌||◌, List, [], ◌∷◌, ◌++◌, if◌then◌else◌, refl, sym, ap, ◌∙◌, append_assoc}
use Rattle.std.specs.List.{flat_map, list_any}
use Rattle.std.proofs.lemmas.Cmp.{on_total, nat_list_cmp_total, eq_by_cmp_equiv}
use Rattle.std.proofs.lemmas.List.{append-nil}
use Rattle.std.proofs.lemmas.List.Folds.{list_any-append}
use Rattle.type_values.specs.Order.{is_same, word}
use Rattle.type_values.specs.declared.types.FlowType.{FlowType, map-FlowType, out-roll-FlowType}
use Rattle.type_values.specs.declared.types.FlowType as made
use Rattle.type_terms.specs.Join.{parts, is_any, firsts, one_of, joined_parts, join_of}
use Rattle.type_terms.proofs.Settled.{Each, all_each, firsts_each, firsts_none, firsts_append, firsts_twice, true_or, or_true, parts_one_of, parts_any, any_is}

-- ---- the parts of a type are their own parts

-- ---- the first ones

-- ---- lists that have the same types

same_all : (t u : FlowType) (all : List FlowType) → is_same t u ≡ true → list_any (is_same t) all ≡ list_any (is_same u) all
same_all t u [] same = refl
same_all t u (v ∷ all) same = (λ i. (eq_by_cmp_equiv (on_total word nat_list_cmp_total)).congr t u v same i || same_all t u all same i)

-- they have the same types
abbrev Alike : List FlowType → List FlowType → Type 0
Alike l m = (t : FlowType) → list_any (is_same t) l ≡ list_any (is_same t) m

alike_more : (l m : List FlowType) (u : FlowType) → Alike l m → Alike (l ++ u ∷ []) (m ++ u ∷ [])
alike_more l m u is t = list_any-append (is_same t) l (u ∷ []) ∙ ap (λ b. b || list_any (is_same t) (u ∷ [])) (is t) ∙ sym (list_any-append (is_same t) m (u ∷ []))

-- the first ones behind them are the same
firsts_alike : (l m ts : List FlowType) → Alike l m → firsts l ts ≡ firsts m ts
firsts_alike l m [] is = refl
firsts_alike l m (t ∷ ts) is = (λ i. (if is t i then [] else t ∷ []) ++ firsts_alike (l ++ t ∷ []) (m ++ t ∷ []) ts (alike_more l m t is) i)

or_false : (b : Bool) → (b || false) ≡ b
or_false true = refl
or_false false = refl

or_assoc : (a b c : Bool) → ((a || b) || c) ≡ (a || (b || c))
or_assoc true b c = refl
or_assoc false b c = refl

-- one more that they have already
alike_seen : (l : List FlowType) (u : FlowType) → list_any (is_same u) l ≡ true → Alike (l ++ u ∷ []) l
alike_seen l u seen t = list_any-append (is_same t) l (u ∷ []) ∙ at (is_same t u) refl
  where
    at : (b : Bool) → is_same t u ≡ b → (list_any (is_same t) l || (b || false)) ≡ list_any (is_same t) l
    at true same = or_true (list_any (is_same t) l) (true || false) refl ∙ sym (same_all t u l same ∙ seen)
    at false same = or_false (list_any (is_same t) l)

-- the first ones have what all have
firsts_have : (before ts : List FlowType) (t : FlowType) → (list_any (is_same t) before || list_any (is_same t) (firsts before ts)) ≡ (list_any (is_same t) before || list_any (is_same t) ts)
firsts_have before [] t = refl
firsts_have before (u ∷ ts) t = at (list_any (is_same u) before) refl (firsts_have (before ++ u ∷ []) ts t)
  where
    all : Bool
    all = list_any (is_same t) before

    rest : List FlowType
    rest = firsts (before ++ u ∷ []) ts

    folded : (x : Bool) → ((all || (is_same t u || false)) || x) ≡ (all || (is_same t u || x))
    folded x = ap (λ b. (all || b) || x) (or_false (is_same t u)) ∙ or_assoc all (is_same t u) x

    at : (b : Bool) → list_any (is_same u) before ≡ b →
        (list_any (is_same t) (before ++ u ∷ []) || list_any (is_same t) rest) ≡ (list_any (is_same t) (before ++ u ∷ []) || list_any (is_same t) ts) →
        (all || list_any (is_same t) ((if b then [] else u ∷ []) ++ rest)) ≡ (all || (is_same t u || list_any (is_same t) ts))
    at false seen next =
        sym (ap (λ b. b || list_any (is_same t) rest) (list_any-append (is_same t) before (u ∷ [])) ∙ folded (list_any (is_same t) rest))
        ∙ next ∙ ap (λ b. b || list_any (is_same t) ts) (list_any-append (is_same t) before (u ∷ [])) ∙ folded (list_any (is_same t) ts)
    at true seen next =
        ap (λ b. b || list_any (is_same t) rest) (sym (alike_seen before u seen t))
        ∙ next ∙ ap (λ b. b || list_any (is_same t) ts) (list_any-append (is_same t) before (u ∷ [])) ∙ folded (list_any (is_same t) ts)

firsts_all_alike : (ts : List FlowType) → Alike (firsts [] ts) ts
firsts_all_alike ts t = firsts_have [] ts t

-- what others have, these have
abbrev Holds : List FlowType → List FlowType → Type 0
Holds more few = (t : FlowType) → list_any (is_same t) few ≡ true → list_any (is_same t) more ≡ true

holds_both : (more few : List FlowType) (u : FlowType) → Holds more few → Holds (more ++ u ∷ []) (few ++ u ∷ [])
holds_both more few u holds t has = list_any-append (is_same t) more (u ∷ []) ∙ at (list_any (is_same t) few) refl (sym (list_any-append (is_same t) few (u ∷ [])) ∙ has)
  where
    at : (b : Bool) → list_any (is_same t) few ≡ b → (b || (is_same t u || false)) ≡ true → (list_any (is_same t) more || (is_same t u || false)) ≡ true
    at true is one = true_or (list_any (is_same t) more) (is_same t u || false) (holds t is)
    at false is one = or_true (list_any (is_same t) more) (is_same t u || false) one

holds_seen : (more few : List FlowType) (u : FlowType) → list_any (is_same u) few ≡ true → Holds more few → Holds more (few ++ u ∷ [])
holds_seen more few u seen holds t has = holds t (sym (alike_seen few u seen t) ∙ has)

-- the first ones of first ones, behind types that have those
firsts_of_firsts : (before few ts : List FlowType) → Holds before few → firsts before (firsts few ts) ≡ firsts before ts
firsts_of_firsts before few [] holds = refl
firsts_of_firsts before few (t ∷ ts) holds =
    at (list_any (is_same t) few) refl (λ is. firsts_of_firsts before (few ++ t ∷ []) ts (holds_seen before few t is holds)) (firsts_of_firsts (before ++ t ∷ []) (few ++ t ∷ []) ts (holds_both before few t holds))
  where
    rest : List FlowType
    rest = firsts (few ++ t ∷ []) ts

    at : (b : Bool) → list_any (is_same t) few ≡ b → (list_any (is_same t) few ≡ true → firsts before rest ≡ firsts before ts) → firsts (before ++ t ∷ []) rest ≡ firsts (before ++ t ∷ []) ts →
        firsts before ((if b then [] else t ∷ []) ++ rest) ≡ (if list_any (is_same t) before then [] else t ∷ []) ++ firsts (before ++ t ∷ []) ts
    at false is seen fresh = ap (λ l. (if list_any (is_same t) before then [] else t ∷ []) ++ l) fresh
    at true is seen fresh =
        seen is
        ∙ sym (firsts_alike (before ++ t ∷ []) before ts (alike_seen before t (holds t is)))
        ∙ ap (λ (b : Bool). (if b then [] else t ∷ []) ++ firsts (before ++ t ∷ []) ts) (sym (holds t is))

-- ---- joins

-- parts that are joined before others
join_in_front : (ps qs : List FlowType) → Each ps → joined_parts (parts (joined_parts ps) ++ qs) ≡ joined_parts (ps ++ qs)
join_in_front ps qs each = at (list_any is_any ps) refl
  where
    at : (b : Bool) → list_any is_any ps ≡ b → joined_parts (parts (if b then made.Any else one_of (firsts [] ps)) ++ qs) ≡ joined_parts (ps ++ qs)
    at true is =
        ap (λ l. joined_parts (l ++ qs)) parts_any
        ∙ ap (λ (b : Bool). if (b || list_any is_any qs) then made.Any else one_of (firsts [] (made.Any ∷ qs))) any_is
        ∙ sym (ap (λ (b : Bool). if b then made.Any else one_of (firsts [] (ps ++ qs))) (list_any-append is_any ps qs ∙ true_or (list_any is_any ps) (list_any is_any qs) is))
    at false is =
        let fs = firsts [] ps in
        let none = firsts_none [] ps is in
        ap (λ l. joined_parts (l ++ qs)) (parts_one_of fs (firsts_each [] ps each))
        ∙ (λ i. if (list_any-append is_any fs qs ∙ ap (λ b. b || list_any is_any qs) (none ∙ sym is) ∙ sym (list_any-append is_any ps qs)) i then made.Any else one_of ((firsts_append [] fs qs ∙ (λ j. firsts_twice [] [] ps (λ t n. n) j ++ firsts_alike fs ps qs (firsts_all_alike ps) j) ∙ sym (firsts_append [] ps qs)) i))

-- and behind others
join_behind : (ps qs : List FlowType) → Each ps → joined_parts (qs ++ parts (joined_parts ps)) ≡ joined_parts (qs ++ ps)
join_behind ps qs each = at (list_any is_any ps) refl
  where
    at : (b : Bool) → list_any is_any ps ≡ b → joined_parts (qs ++ parts (if b then made.Any else one_of (firsts [] ps))) ≡ joined_parts (qs ++ ps)
    at true is =
        ap (λ l. joined_parts (qs ++ l)) parts_any
        ∙ ap (λ (b : Bool). if b then made.Any else one_of (firsts [] (qs ++ made.Any ∷ []))) (list_any-append is_any qs (made.Any ∷ []) ∙ or_true (list_any is_any qs) (is_any made.Any || false) (true_or (is_any made.Any) false any_is))
        ∙ sym (ap (λ (b : Bool). if b then made.Any else one_of (firsts [] (qs ++ ps))) (list_any-append is_any qs ps ∙ or_true (list_any is_any qs) (list_any is_any ps) is))
    at false is =
        let fs = firsts [] ps in
        let none = firsts_none [] ps is in
        ap (λ l. joined_parts (qs ++ l)) (parts_one_of fs (firsts_each [] ps each))
        ∙ (λ i. if (list_any-append is_any qs fs ∙ ap (λ b. list_any is_any qs || b) (none ∙ sym is) ∙ sym (list_any-append is_any qs ps)) i then made.Any else one_of ((firsts_append [] qs fs ∙ ap (λ l. firsts [] qs ++ l) (firsts_of_firsts qs [] ps (λ t has. cc)) ∙ sym (firsts_append [] qs ps)) i))

-- One type more in front of a join.
pub join_in_front_of : (a : FlowType) (bs : List FlowType) → join_of (a ∷ join_of bs ∷ []) ≡ join_of (a ∷ bs)
join_in_front_of a bs = ap (λ l. joined_parts (parts a ++ l)) (append-nil (parts (join_of bs))) ∙ join_behind (flat_map parts bs) (parts a) (all_each bs)

-- Of three types it is the same which two are joined first.
pub join_twice : (a b c : FlowType) → join_of (join_of (a ∷ b ∷ []) ∷ c ∷ []) ≡ join_of (a ∷ join_of (b ∷ c ∷ []) ∷ [])
join_twice a b c =
    join_in_front (flat_map parts (a ∷ b ∷ [])) (flat_map parts (c ∷ [])) (all_each (a ∷ b ∷ []))
    ∙ ap joined_parts (append_assoc (parts a) (parts b ++ []) (parts c ++ []) ∙ ap (λ l. parts a ++ l) (append_assoc (parts b) [] (parts c ++ [])))
    ∙ sym (ap joined_parts (ap (λ l. parts a ++ l) (append-nil (parts (join_of (b ∷ c ∷ []))))) ∙ join_behind (flat_map parts (b ∷ c ∷ [])) (parts a) (all_each (b ∷ c ∷ [])))
