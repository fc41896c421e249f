-- A type whose members another one has is below it.
use Rattle.std.proofs.Common.{◌≡◌, ℕ, ◌+◌, ◌<◌, ◌≤◌, true, List, [], ◌∷◌, Option, Some, None, length, get_or, Contains, refl, sym, ap, ◌∙◌, subst, inl, inr, arith}
use Rattle.std.specs.Borrow.{Bor}
use Rattle.std.proofs.lemmas.List.{length-map, get_or-map}
use Rattle.std.proofs.lemmas.List.Elements.{Contains-append_left, Contains-append_right}
use Rattle.type_values.specs.declared.types.FlowType.{FlowType, out-FlowType}
use Rattle.type_values.specs.declared.types.FlowType.TheOpen.{Any, Mixed, Empty, Number, Str, Boolean, Null, Void, StrLit, NumLit, BoolLit, Union, Object, Tuple, Array, ReadArray, Function, Ref}
use Rattle.alias_table.specs.Aliases.{Key}
use Rattle.alias_table.specs.Members.{opened, level_opened, seen, AreMembers, no_more, opens, stays}
use Rattle.alias_table.specs.Table.{unfolded}
use Rattle.alias_table.specs.declared.table.AliasTable.{AliasTable}
use Rattle.alias_members.specs.MembersIn.{members_in}
use Rattle.alias_members.proofs.MembersIn.{are_members}
use Rattle.subtyping.specs.Rows.{Level, is_free}
use Rattle.subtyping.specs.Closed.{IsBelow}
use Rattle.subtyping.proofs.Justified.{free_below, name_left, name_right, union_left, union_right}
use Rattle.subtyping.proofs.TableNames.{table_itself}
use Rattle.subtyping.proofs.Whole.{split, first_or, nothing, here, there}
use Rattle.subtype_rules.specs.Answer.{below}
use Rattle.subtype_rules.proofs.Deciding.{below_is}
use Rattle.subtype_rules.proofs.Covers as covers

-- what a level opens to is what it was said to open to
opened_as : (named : Key → FlowType) (t : FlowType) (level : Level) (some : Option (List FlowType)) (inner : List FlowType) → opened named t ≡ Some inner → out-FlowType t ≡ level → level_opened named level ≡ some → some ≡ Some inner
opened_as named t level some inner e is shown = sym shown ∙ (sym (ap (level_opened named) is) ∙ e)

same_list : (some inner : List FlowType) → Some some ≡ Some inner → inner ≡ some
same_list some inner e = let is : some ≡ inner = cc in sym is

-- a type is above what is below one of those to which it opens
opened_right : (named : Key → FlowType) (y t u : FlowType) (inner : List FlowType) → opened named t ≡ Some inner → Contains inner u → IsBelow named y u → IsBelow named y t
opened_right named y t u inner e c low = at (out-FlowType t) refl
  where
    never : None ≡ Some inner → IsBelow named y t
    never none = absurd (cc)

    at : (level : Level) → out-FlowType t ≡ level → IsBelow named y t
    at (Ref home name) is =
        let only = same_list (named (home, name) ∷ []) inner (opened_as named t (Ref home name) (Some (named (home, name) ∷ [])) inner e is refl) in
        elim (first_or (named (home, name)) [] u (subst (λ (l : List FlowType). Contains l u) only c)) [
          | inl one ↦ name_right named y t home name is (subst (IsBelow named y) (sym one) low)
          | inr none ↦ nothing u none
        ]
    at (Union all) is =
        let only = same_list all inner (opened_as named t (Union all) (Some all) inner e is refl) in
        union_right named y t all u is (subst (λ (l : List FlowType). Contains l u) only c) low
    at Empty is =
        let only = same_list [] inner (opened_as named t Empty (Some []) inner e is refl) in nothing u (subst (λ (l : List FlowType). Contains l u) only c)
    at Any is = never (opened_as named t Any None inner e is refl)
    at Mixed is = never (opened_as named t Mixed None inner e is refl)
    at Number is = never (opened_as named t Number None inner e is refl)
    at Str is = never (opened_as named t Str None inner e is refl)
    at Boolean is = never (opened_as named t Boolean None inner e is refl)
    at Null is = never (opened_as named t Null None inner e is refl)
    at Void is = never (opened_as named t Void None inner e is refl)
    at (StrLit s) is = never (opened_as named t (StrLit s) None inner e is refl)
    at (NumLit s) is = never (opened_as named t (NumLit s) None inner e is refl)
    at (BoolLit x) is = never (opened_as named t (BoolLit x) None inner e is refl)
    at (Object closed ps) is = never (opened_as named t (Object closed ps) None inner e is refl)
    at (Tuple xs) is = never (opened_as named t (Tuple xs) None inner e is refl)
    at (Array x) is = never (opened_as named t (Array x) None inner e is refl)
    at (ReadArray x) is = never (opened_as named t (ReadArray x) None inner e is refl)
    at (Function ps r) is = never (opened_as named t (Function ps r) None inner e is refl)

-- a type is below what all of those to which it opens are below
opened_left : (named : Key → FlowType) (t b : FlowType) (inner : List FlowType) → opened named t ≡ Some inner → ((u : FlowType) → Contains inner u → IsBelow named u b) → IsBelow named t b
opened_left named t b inner e each = at (out-FlowType t) refl
  where
    never : None ≡ Some inner → IsBelow named t b
    never none = absurd (cc)

    at : (level : Level) → out-FlowType t ≡ level → IsBelow named t b
    at (Ref home name) is =
        let only = same_list (named (home, name) ∷ []) inner (opened_as named t (Ref home name) (Some (named (home, name) ∷ [])) inner e is refl) in
        name_left named t b home name is (each (named (home, name)) (subst (λ (l : List FlowType). Contains l (named (home, name))) (sym only) (here (named (home, name)) [])))
    at (Union all) is =
        let only = same_list all inner (opened_as named t (Union all) (Some all) inner e is refl) in
        union_left named t b all is (λ x c. each x (subst (λ (l : List FlowType). Contains l x) (sym only) c))
    at Empty is = free_below named t b (ap (λ (x : Level). is_free x (out-FlowType b)) is)
    at Any is = never (opened_as named t Any None inner e is refl)
    at Mixed is = never (opened_as named t Mixed None inner e is refl)
    at Number is = never (opened_as named t Number None inner e is refl)
    at Str is = never (opened_as named t Str None inner e is refl)
    at Boolean is = never (opened_as named t Boolean None inner e is refl)
    at Null is = never (opened_as named t Null None inner e is refl)
    at Void is = never (opened_as named t Void None inner e is refl)
    at (StrLit s) is = never (opened_as named t (StrLit s) None inner e is refl)
    at (NumLit s) is = never (opened_as named t (NumLit s) None inner e is refl)
    at (BoolLit x) is = never (opened_as named t (BoolLit x) None inner e is refl)
    at (Object closed ps) is = never (opened_as named t (Object closed ps) None inner e is refl)
    at (Tuple xs) is = never (opened_as named t (Tuple xs) None inner e is refl)
    at (Array x) is = never (opened_as named t (Array x) None inner e is refl)
    at (ReadArray x) is = never (opened_as named t (ReadArray x) None inner e is refl)
    at (Function ps r) is = never (opened_as named t (Function ps r) None inner e is refl)

-- each member of types is below one of them
member_below : (named : Key → FlowType) → ((t : FlowType) → IsBelow named t t) → {ts all : List FlowType} → AreMembers named ts all → (y : FlowType) → Contains all y → (t : FlowType) × Contains ts t × IsBelow named y t
member_below named itself no_more y c = nothing y c
member_below named itself (opens t rest inner all e m) y c =
    let found = member_below named itself m y c in
    elim (split inner rest found.0 found.1) [
      | inl i ↦ (t, here t rest, opened_right named y t found.0 inner e i found.2)
      | inr r ↦ (found.0, there t found.0 rest r, found.2)
    ]
member_below named itself (stays t rest all e m) y c = elim (first_or t all y c) [
  | inl same ↦ (t, here t rest, subst (λ (x : FlowType). IsBelow named x t) same (itself t))
  | inr more ↦ let found = member_below named itself m y more in (found.0, there t found.0 rest found.1, found.2)
]

-- each of these types is below what all of their members are below
types_below : (named : Key → FlowType) {ts all : List FlowType} → AreMembers named ts all → (b : FlowType) → ((y : FlowType) → Contains all y → IsBelow named y b) → (t : FlowType) → Contains ts t → IsBelow named t b
types_below named no_more b each t c = nothing t c
types_below named (opens t rest inner all e m) b each u c = elim (first_or t rest u c) [
  | inl same ↦ subst (λ (x : FlowType). IsBelow named x b) same (opened_left named t b inner e (λ v d. types_below named m b each v (Contains-append_left inner rest v d)))
  | inr more ↦ types_below named m b each u (Contains-append_right inner rest u more)
]
types_below named (stays t rest all e m) b each u c = elim (first_or t rest u c) [
  | inl same ↦ subst (λ (x : FlowType). IsBelow named x b) same (each t (here t all))
  | inr more ↦ types_below named m b (λ y d. each y (there t y all d)) u more
]

pub among_below : (table : AliasTable) (a b : FlowType) (some all : List FlowType) → some ≡ members_in table a → all ≡ members_in table b → ((x : FlowType) → Contains some x → Contains all x) → below table a b ≡ true
among_below table a b some all mine theirs inside =
    let named = unfolded table in
    (below_is table a b).1
    (types_below named (are_members table a) b (λ y c.
    let there = subst (λ (l : List FlowType). Contains l y) theirs (inside y (subst (λ (l : List FlowType). Contains l y) (sym mine) c)) in
    let found = member_below named (table_itself table) (are_members table b) y there in
    elim (first_or b [] found.0 found.1) [ inl same ↦ subst (IsBelow named y) (sym same) found.2 | inr none ↦ nothing found.0 none ])
    a (here a []))

pub equal_below : (table : AliasTable) (a b : FlowType) → a ≡ b → below table a b ≡ true
equal_below table a b same = (below_is table a b).1 (subst (IsBelow (unfolded table) a) same (table_itself table a))

-- LISTS OF REFERENCES
-- the first i are among others
abbrev pub FirstIn : List (Bor FlowType) → List (Bor FlowType) → ℕ → Type 0
FirstIn some all i = covers.FirstIn (seen some) (seen all) i

pub first_none : (some all : List (Bor FlowType)) → FirstIn some all 0
first_none some all = covers.first_none (seen some) (seen all)

pub first_next : (some all : List (Bor FlowType)) (i : ℕ) (y : Bor FlowType) → i < length some → y ≡ get_or some i y → Contains (seen all) y.now → FirstIn some all i → FirstIn some all (i + 1)
first_next some all i y within is here before =
    covers.first_next (seen some) (seen all) i y.now (omega (arith, length-map some (λ (b : Bor FlowType). b.now)))
    (sym (get_or-map (λ (b : Bor FlowType). b.now) some i y y.now within ∙ ap (λ (b : Bor FlowType). b.now) (sym is))) here before

pub first_all : (some all : List (Bor FlowType)) (i : ℕ) → length some ≤ i → FirstIn some all i → (x : FlowType) → Contains (seen some) x → Contains (seen all) x
first_all some all i past = covers.first_all (seen some) (seen all) i (omega (arith, length-map some (λ (b : Bor FlowType). b.now)))

pub found_at : (all : List (Bor FlowType)) (i : ℕ) (member : Bor FlowType) (one : FlowType) → i < length all → member ≡ get_or all i member → member.now ≡ one → Contains (seen all) one
found_at all i member one within is same = subst (Contains (seen all)) same (i, omega (arith, length-map all (λ (b : Bor FlowType). b.now)), get_or-map (λ (b : Bor FlowType). b.now) all i member member.now within ∙ ap (λ (b : Bor FlowType). b.now) (sym is))
