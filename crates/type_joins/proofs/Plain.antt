-- The join of a plain type and a union that is its own join with itself.
use Rattle.std.proofs.Common.{◌≡◌, ℕ, ◌+◌, ◌<◌, Bool, true, false, not, ◌||◌, ◌&&◌, List, [], ◌∷◌, ◌++◌, length, take, get_or, cond, if◌then◌else◌, refl, sym, ap, ◌∙◌, subst}
use Rattle.std.specs.List.{flat_map, list_any, list_all}
use Rattle.std.proofs.lemmas.List.{append-nil}
use Rattle.std.proofs.lemmas.List.Elements.{filter_more}
use Rattle.std.proofs.lemmas.List.Folds.{list_any-append}
use Rattle.type_values.specs.Order.{is_same}
use Rattle.type_values.specs.declared.types.FlowType.{FlowType, out-FlowType, out-roll-FlowType}
use Rattle.type_values.specs.declared.types.FlowType as made
use Rattle.type_values.specs.declared.types.FlowType.TheOpen.{FlowType-F, Any, Empty, Union}
use Rattle.type_values.specs.declared.types.FlowType.TheViews.{rolls-Empty, rolls-Union}
use Rattle.type_values.specs.declared.types.FlowProp.{FlowProp}
use Rattle.type_values.specs.declared.types.Param.{Param}
use Rattle.type_terms.specs.Join.{level_is_any, is_any, parts, firsts, one_of, joined_parts, join_of}
use Rattle.type_terms.proofs.Parts.{parts_union, parts_plain}
use Rattle.type_terms.proofs.Settled.{Each, all_each, firsts_each, firsts_append, firsts_twice, parts_one_of}
use Rattle.type_joins.specs.Plain.{level_is_plain, is_plain, others}

abbrev Level : Type 0
Level = FlowType-F FlowType FlowProp Param

no_union : (t : FlowType) → is_plain t ≡ true → (all : List FlowType) → ¬ (t ≡ made.Union all)
no_union t is all same = cc' (sym is ∙ ap is_plain same ∙ ap is_plain (sym (rolls-Union all)) ∙ ap level_is_plain (out-roll-FlowType (Union all)))
  where
    cc' : true ≡ false → ⊥
    cc' e = cc

not_empty : (t : FlowType) → is_plain t ≡ true → ¬ (t ≡ made.Empty)
not_empty t is same = cc' (sym is ∙ ap is_plain same ∙ ap is_plain (sym rolls-Empty) ∙ ap level_is_plain (out-roll-FlowType Empty))
  where
    cc' : true ≡ false → ⊥
    cc' e = cc

plain_part : (t : FlowType) → is_plain t ≡ true → parts t ≡ t ∷ []
plain_part t is = parts_plain t (no_union t is) (not_empty t is)

level_any : (l : Level) → level_is_plain l ≡ true → level_is_any l ≡ false
level_any Any is = cc
level_any l is = refl

plain_any : (t : FlowType) → is_plain t ≡ true → is_any t ≡ false
plain_any t is = level_any (out-FlowType t) is

both : (a b : Bool) → (a && b) ≡ true → (a ≡ true) × (b ≡ true)
both true b is = (refl, is)
both false b is = cc

plain_flat : (ts : List FlowType) → list_all is_plain ts ≡ true → flat_map parts ts ≡ ts
plain_flat [] is = refl
plain_flat (t ∷ ts) is = let each = both (is_plain t) (list_all is_plain ts) is in (λ i. plain_part t each.0 i ++ plain_flat ts each.1 i)

plain_none : (ts : List FlowType) → list_all is_plain ts ≡ true → list_any is_any ts ≡ false
plain_none [] is = refl
plain_none (t ∷ ts) is = let each = both (is_plain t) (list_all is_plain ts) is in (λ i. plain_any t each.0 i || plain_none ts each.1 i)

joined_none : (ts : List FlowType) → list_any is_any ts ≡ false → joined_parts ts ≡ one_of (firsts [] ts)
joined_none ts none = ap (λ (b : Bool). if b then made.Any else one_of (firsts [] ts)) none

union_parts : (all : List FlowType) → list_all is_plain all ≡ true → parts (made.Union all) ≡ all
union_parts all plain = parts_union all ∙ plain_flat all plain

-- the members of a union that is its own join with itself are different
different : (all : List FlowType) → list_all is_plain all ≡ true → join_of (made.Union all ∷ made.Union all ∷ []) ≡ made.Union all → firsts [] all ≡ all
different all plain settled =
    let u = made.Union all in
    let is = union_parts all plain in
    let whole : parts u ++ (parts u ++ []) ≡ all ++ all = (λ i. is i ++ (append-nil (parts u) ∙ is) i) in
    let none = list_any-append is_any all all ∙ (λ i. plain_none all plain i || plain_none all plain i) in
    let each = subst (λ (l : List FlowType). Each l) whole (all_each (u ∷ u ∷ [])) in
    let fs = firsts [] (all ++ all) in
    let same : fs ≡ all = sym (parts_one_of fs (firsts_each [] (all ++ all) each)) ∙ ap parts (sym (ap joined_parts whole ∙ joined_none (all ++ all) none) ∙ settled) ∙ is in
    ap (λ l. firsts [] l) (sym same) ∙ firsts_twice [] [] (all ++ all) (λ t n. n) ∙ same

-- the first ones behind one more are others than it
firsts_past : (one : FlowType) (before ts : List FlowType) → firsts (one ∷ before) ts ≡ others one (firsts before ts)
firsts_past one before [] = refl
firsts_past one before (t ∷ ts) = at (is_same t one) refl (list_any (is_same t) before) (firsts_past one (before ++ t ∷ []) ts)
  where
    at : (a : Bool) → is_same t one ≡ a → (b : Bool) → firsts (one ∷ before ++ t ∷ []) ts ≡ others one (firsts (before ++ t ∷ []) ts) →
        (if (a || b) then [] else t ∷ []) ++ firsts (one ∷ before ++ t ∷ []) ts ≡ others one ((if b then [] else t ∷ []) ++ firsts (before ++ t ∷ []) ts)
    at true is true rest = rest
    at true is false rest = rest ∙ sym (ap (λ (c : Bool). if not c then t ∷ others one (firsts (before ++ t ∷ []) ts) else others one (firsts (before ++ t ∷ []) ts)) is)
    at false is true rest = rest
    at false is false rest = ap (λ l. t ∷ l) rest ∙ sym (ap (λ (c : Bool). if not c then t ∷ others one (firsts (before ++ t ∷ []) ts) else others one (firsts (before ++ t ∷ []) ts)) is)

pub join_front : (one u t : FlowType) (all kept : List FlowType) → u ≡ made.Union all → is_plain one ≡ true → list_all is_plain all ≡ true → join_of (u ∷ u ∷ []) ≡ u →
    kept ≡ one ∷ others one all → t ≡ one_of kept → t ≡ join_of (one ∷ u ∷ [])
join_front one u t all kept union plain every settled list is =
    let settled' = subst (λ (v : FlowType). join_of (v ∷ v ∷ []) ≡ v) union settled in
    let whole : parts one ++ (parts u ++ []) ≡ one ∷ all = (λ i. plain_part one plain i ++ (append-nil (parts u) ∙ ap parts union ∙ union_parts all every) i) in
    let none : list_any is_any (one ∷ all) ≡ false = (λ i. plain_any one plain i || plain_none all every i) in
    is ∙ ap one_of (list ∙ ap (λ l. one ∷ l) (sym (firsts_past one [] all ∙ ap (others one) (different all every settled'))))
    ∙ sym (ap joined_parts whole ∙ joined_none (one ∷ all) none)

pub join_back : (one u t : FlowType) (all kept : List FlowType) → u ≡ made.Union all → is_plain one ≡ true → list_all is_plain all ≡ true → join_of (u ∷ u ∷ []) ≡ u →
    kept ≡ all ++ (if list_any (is_same one) all then [] else one ∷ []) → t ≡ one_of kept → t ≡ join_of (u ∷ one ∷ [])
join_back one u t all kept union plain every settled list is =
    let settled' = subst (λ (v : FlowType). join_of (v ∷ v ∷ []) ≡ v) union settled in
    let whole : parts u ++ (parts one ++ []) ≡ all ++ one ∷ [] = (λ i. (ap parts union ∙ union_parts all every) i ++ (append-nil (parts one) ∙ plain_part one plain) i) in
    let none = list_any-append is_any all (one ∷ []) ∙ (λ i. plain_none all every i || (plain_any one plain i || false)) in
    let firsts_are : firsts [] (all ++ one ∷ []) ≡ all ++ (if list_any (is_same one) all then [] else one ∷ []) = firsts_append [] all (one ∷ []) ∙ (λ i. different all every settled' i ++ append-nil (if list_any (is_same one) all then [] else one ∷ []) i) in
    is ∙ ap one_of (list ∙ sym firsts_are) ∙ sym (ap joined_parts whole ∙ joined_none (all ++ one ∷ []) none)

-- two plain types
pair_is : (a b : FlowType) → is_plain a ≡ true → is_plain b ≡ true → join_of (a ∷ b ∷ []) ≡ one_of (firsts [] (a ∷ b ∷ []))
pair_is a b pa pb =
    let whole : parts a ++ (parts b ++ []) ≡ a ∷ b ∷ [] = (λ i. plain_part a pa i ++ (append-nil (parts b) ∙ plain_part b pb) i) in
    let none : list_any is_any (a ∷ b ∷ []) ≡ false = (λ i. plain_any a pa i || (plain_any b pb i || false)) in
    ap joined_parts whole ∙ joined_none (a ∷ b ∷ []) none

pub plain_same : (a b t : FlowType) → is_plain a ≡ true → is_plain b ≡ true → is_same b a ≡ true → t ≡ a → t ≡ join_of (a ∷ b ∷ [])
plain_same a b t pa pb same is = is ∙ sym (pair_is a b pa pb ∙ ap (λ (c : Bool). one_of (a ∷ ((if (c || false) then [] else b ∷ []) ++ []))) same)

pub plain_two : (a b t : FlowType) (both : List FlowType) → is_plain a ≡ true → is_plain b ≡ true → is_same b a ≡ false → both ≡ a ∷ b ∷ [] → t ≡ made.Union both → t ≡ join_of (a ∷ b ∷ [])
plain_two a b t both pa pb new list is = is ∙ ap made.Union list ∙ sym (pair_is a b pa pb ∙ ap (λ (c : Bool). one_of (a ∷ ((if (c || false) then [] else b ∷ []) ++ []))) new)

-- one more type of those in front of which one stands
pub past_one : (one t : FlowType) (all kept more : List FlowType) (i : ℕ) → i < length all → t ≡ get_or all i t → kept ≡ one ∷ others one (take i all) →
    is_same t one ≡ false → more ≡ kept ++ t ∷ [] → more ≡ one ∷ others one (take (i + 1) all)
past_one one t all kept more i within is before new now =
    now ∙ ap (λ l. l ++ t ∷ []) before
    ∙ ap (λ l. one ∷ l) (sym (filter_more (λ u. not (is_same u one)) all i t within
    ∙ ap (λ u. others one (take i all) ++ cond (not (is_same u one)) (u ∷ []) []) (sym is) ∙ ap (λ b. others one (take i all) ++ cond (not b) (t ∷ []) []) new))

pub past_same : (one t : FlowType) (all kept more : List FlowType) (i : ℕ) → i < length all → t ≡ get_or all i t → kept ≡ one ∷ others one (take i all) →
    is_same t one ≡ true → more ≡ kept → more ≡ one ∷ others one (take (i + 1) all)
past_same one t all kept more i within is before seen now =
    now ∙ before
    ∙ ap (λ l. one ∷ l) (sym (filter_more (λ u. not (is_same u one)) all i t within
    ∙ ap (λ u. others one (take i all) ++ cond (not (is_same u one)) (u ∷ []) []) (sym is) ∙ ap (λ b. others one (take i all) ++ cond (not b) (t ∷ []) []) seen ∙ append-nil (others one (take i all))))
