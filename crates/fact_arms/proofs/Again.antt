-- Joining with one fact twice in a row.
use Rattle.std.proofs.Common.{◌≡◌, Bool, true, false, ◌||◌, List, [], ◌∷◌, ◌++◌, Option, Some, None, refl, sym, ap, ◌∙◌, if◌then◌else◌}
use Rattle.std.specs.List.{list_any}
use Rattle.std.proofs.lemmas.Cmp.{on_total, nat_list_cmp_total, eq_by_cmp_equiv}
use Rattle.std.proofs.lemmas.List.Folds.{list_any-append}
use Rattle.type_values.specs.Order.{is_same, word}
use Rattle.type_values.specs.declared.types.FlowType.{FlowType}
use Rattle.type_values.specs.declared.types.FlowType as made
use Rattle.type_terms.specs.Join.{parts, is_any, firsts, one_of, joined_parts, join_of}
use Rattle.type_terms.proofs.Settled.{firsts_append, true_or, or_true}
use Rattle.type_joins.proofs.Joins.{join_in_front_of}
use Rattle.flow_facts.specs.Known.{both}

or_same : (b : Bool) → (b || b) ≡ b
or_same true = refl
or_same false = refl

or_again : (a b : Bool) → (a || (a || b)) ≡ (a || b)
or_again true b = refl
or_again false b = refl

itself : (t : FlowType) → is_same t t ≡ true
itself t = (eq_by_cmp_equiv (on_total word nat_list_cmp_total)).refl t

-- types among those before are no first ones
none_new : (before ts : List FlowType) → ((t : FlowType) → list_any (is_same t) ts ≡ true → list_any (is_same t) before ≡ true) → firsts before ts ≡ []
none_new before [] has = refl
none_new before (t ∷ ts) has = λ i. (if has t (true_or (is_same t t) (list_any (is_same t) ts) (itself t)) i then [] else t ∷ []) ++ none_new (before ++ t ∷ []) ts more i
  where
    more : (u : FlowType) → list_any (is_same u) ts ≡ true → list_any (is_same u) (before ++ t ∷ []) ≡ true
    more u is = list_any-append (is_same u) before (t ∷ []) ∙ true_or (list_any (is_same u) before) (list_any (is_same u) (t ∷ [])) (has u (or_true (is_same u t) (list_any (is_same u) ts) is))

-- the first ones behind lists of the same types are the same
firsts_behind : (l m ts : List FlowType) → ((t : FlowType) → list_any (is_same t) l ≡ list_any (is_same t) m) → firsts l ts ≡ firsts m ts
firsts_behind l m [] same = refl
firsts_behind l m (t ∷ ts) same = λ i. (if same t i then [] else t ∷ []) ++ firsts_behind (l ++ t ∷ []) (m ++ t ∷ []) ts more i
  where
    more : (u : FlowType) → list_any (is_same u) (l ++ t ∷ []) ≡ list_any (is_same u) (m ++ t ∷ [])
    more u = list_any-append (is_same u) l (t ∷ []) ∙ ap (λ b. b || list_any (is_same u) (t ∷ [])) (same u) ∙ sym (list_any-append (is_same u) m (t ∷ []))

firsts_again : (ps qs : List FlowType) → firsts [] (ps ++ (ps ++ qs)) ≡ firsts [] (ps ++ qs)
firsts_again ps qs =
    firsts_append [] ps (ps ++ qs)
    ∙ ap (λ l. firsts [] ps ++ l) (firsts_append ps ps qs ∙ (λ i. none_new ps ps (λ t is. is) i ++ firsts_behind (ps ++ ps) ps qs (λ t. list_any-append (is_same t) ps ps ∙ or_same (list_any (is_same t) ps)) i))
    ∙ sym (firsts_append [] ps qs)

parts_again : (ps qs : List FlowType) → joined_parts (ps ++ (ps ++ qs)) ≡ joined_parts (ps ++ qs)
parts_again ps qs = λ i. if anys i then made.Any else one_of (firsts_again ps qs i)
  where
    anys : list_any is_any (ps ++ (ps ++ qs)) ≡ list_any is_any (ps ++ qs)
    anys =
        list_any-append is_any ps (ps ++ qs) ∙ ap (λ b. list_any is_any ps || b) (list_any-append is_any ps qs)
        ∙ or_again (list_any is_any ps) (list_any is_any qs) ∙ sym (list_any-append is_any ps qs)

-- a type that was joined is joined again
join_again : (a x : FlowType) → join_of (a ∷ join_of (a ∷ x ∷ []) ∷ []) ≡ join_of (a ∷ x ∷ [])
join_again a x = join_in_front_of a (a ∷ x ∷ []) ∙ parts_again (parts a) (parts x ++ [])

pub both_again : (a x : Option FlowType) → both a (both a x) ≡ both a x
both_again None x = refl
both_again (Some a) None = refl
both_again (Some a) (Some x) = ap Some (join_again a x)
