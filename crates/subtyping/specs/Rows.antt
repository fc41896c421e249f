-- What justifies a pair of types: the rows of the table, each as the ways in which it does so.
use Rattle.std.specs.Prelude.{◌==◌, ◌&&◌, ◌||◌, not, ℕ, Bool, true, false, List, [], ◌∷◌, ◌++◌, length, map, Option, Some, None, if◌then◌else◌}
use Rattle.std.specs.Option.{is_some}
use Rattle.alias_table.specs.Aliases.{Key, is_text}
use Rattle.type_terms.specs.Optional.{eff}
use Rattle.type_values.specs.declared.types.FlowType.{FlowType, out-FlowType}
use Rattle.type_values.specs.declared.types.FlowType as made
use Rattle.type_values.specs.declared.types.FlowProp.{FlowProp}
use Rattle.type_values.specs.declared.types.Param.{Param}
use Rattle.type_values.specs.declared.types.Variance.{Variance}
use Rattle.type_values.specs.declared.types.Variance.TheVariants.{Both, Read, Write}
use Rattle.type_values.specs.declared.types.FlowType.TheOpen.{FlowType-F, Any, Mixed, Empty, Number, Str, Boolean, Null, Void, StrLit, NumLit, BoolLit, Union, Object, Tuple, Array, ReadArray, Function, Ref}

-- a type that may be below another one
abbrev pub Pair : Type 0
Pair = FlowType × FlowType

abbrev pub Level : Type 0
Level = FlowType-F FlowType FlowProp Param

-- `any` and `empty` are below every type
abbrev pub is_low : Level → Bool
is_low Any = true
is_low Empty = true
is_low a = false

-- every type is below `any` and `mixed`
abbrev pub is_high : Level → Bool
is_high Any = true
is_high Mixed = true
is_high b = false

abbrev pub is_str : List ℕ → Level → Bool
is_str s Str = true
is_str s (StrLit t) = is_text s t
is_str s b = false

abbrev pub is_num : List ℕ → Level → Bool
is_num s Number = true
is_num s (NumLit t) = is_text s t
is_num s b = false

abbrev pub is_truth : Bool → Level → Bool
is_truth x Boolean = true
is_truth x (BoolLit y) = if x then y else not y
is_truth x b = false

-- the same base, the same literal, or a literal and its base
abbrev pub is_plain : Level → Level → Bool
is_plain Number Number = true
is_plain Str Str = true
is_plain Boolean Boolean = true
is_plain Null Null = true
is_plain Void Void = true
is_plain (StrLit s) b = is_str s b
is_plain (NumLit s) b = is_num s b
is_plain (BoolLit x) b = is_truth x b
is_plain a b = false

-- what is justified with nothing else
abbrev pub is_free : Level → Level → Bool
is_free a b = is_low a || is_high b || is_plain a b

-- a name or a union
abbrev pub does_open : Level → Bool
does_open (Ref home name) = true
does_open (Union all) = true
does_open a = false

-- a type without parts
abbrev pub is_leaf : Level → Bool
is_leaf (Ref home name) = false
is_leaf (Union all) = false
is_leaf (Object closed ps) = false
is_leaf (Tuple xs) = false
is_leaf (Array x) = false
is_leaf (ReadArray x) = false
is_leaf (Function ps r) = false
is_leaf a = true

-- a pair that no row justifies, by its outermost forms
abbrev pub has_no_ways : Level → Level → Bool
has_no_ways a b = not (does_open a) && (not (does_open b) && ((is_leaf a || is_leaf b) && not (is_free a b)))

-- A is a name: what it unfolds to is below B. A is a union: each member is below B.
abbrev pub left_ways : (Key → FlowType) → Level → FlowType → List (List Pair)
left_ways named (Ref home name) b = ((named (home, name), b) ∷ []) ∷ []
left_ways named (Union all) b = map (λ x. (x, b)) all ∷ []
left_ways named a b = []

-- B is a name: A is below what it unfolds to. B is a union: A is below some member.
abbrev pub right_ways : (Key → FlowType) → FlowType → Level → List (List Pair)
right_ways named a (Ref home name) = ((a, named (home, name)) ∷ []) ∷ []
right_ways named a (Union all) = map (λ y. (a, y) ∷ []) all
right_ways named a b = []

-- both directions at each place
abbrev pub both_ways : List FlowType → List FlowType → List Pair
both_ways [] ys = []
both_ways (x ∷ xs) [] = []
both_ways (x ∷ xs) (y ∷ ys) = (x, y) ∷ (y, x) ∷ both_ways xs ys

-- what a parameter takes, and `void` where there is none
abbrev pub taken : Option Param → FlowType
taken None = made.Void
taken (Some q) = eff q.optional q.ty

-- each parameter of A takes what B's does
abbrev pub param_needs : List Param → List Param → List Pair
param_needs [] qs = []
param_needs (p ∷ ps) [] = (taken None, eff p.optional p.ty) ∷ param_needs ps []
param_needs (p ∷ ps) (q ∷ qs) = (taken (Some q), eff p.optional p.ty) ∷ param_needs ps qs

-- a property of A serves for one of B, by B's variance
abbrev pub may_read : Variance → Bool
may_read Write = false
may_read v = true

abbrev pub may_write : Variance → Bool
may_write Read = false
may_write v = true

abbrev pub fits : Variance → FlowProp → FlowProp → Bool
fits Both p q = may_read p.variance && may_write p.variance && (if p.optional then q.optional else not q.optional)
fits Read p q = may_read p.variance && (not p.optional || q.optional)
fits Write p q = may_write p.variance

abbrev pub needs : Variance → FlowProp → FlowProp → List Pair
needs Both p q = (p.ty, q.ty) ∷ (q.ty, p.ty) ∷ []
needs Read p q = (eff p.optional p.ty, eff q.optional q.ty) ∷ []
needs Write p q = (eff q.optional q.ty, eff p.optional p.ty) ∷ []

-- the property of a key: the first one, where there are several
abbrev pub prop_at : List FlowProp → List ℕ → Option FlowProp
prop_at [] key = None
prop_at (p ∷ ps) key = if is_text p.key key then Some p else prop_at ps key

abbrev pub fits_at : Option FlowProp → Option FlowProp → Bool
fits_at (Some p) (Some q) = fits q.variance p q
fits_at p q = false

abbrev pub needs_at : Option FlowProp → Option FlowProp → List Pair
needs_at (Some p) (Some q) = needs q.variance p q
needs_at p q = []

-- at each key of B there is a property in A that serves for the one of B
abbrev pub all_fit : List FlowProp → List FlowProp → List FlowProp → Bool
all_fit ps qs [] = true
all_fit ps qs (q ∷ more) = fits_at (prop_at ps q.key) (prop_at qs q.key) && all_fit ps qs more

abbrev pub all_needs : List FlowProp → List FlowProp → List FlowProp → List Pair
all_needs ps qs [] = []
all_needs ps qs (q ∷ more) = needs_at (prop_at ps q.key) (prop_at qs q.key) ++ all_needs ps qs more

-- each property of A is in B
abbrev pub no_others : List FlowProp → List FlowProp → Bool
no_others qs [] = true
no_others qs (p ∷ ps) = is_some (prop_at qs p.key) && no_others qs ps

abbrev pub objects_fit : Bool → List FlowProp → Bool → List FlowProp → Bool
objects_fit closed_a ps closed_b qs = all_fit ps qs qs && (if closed_b then closed_a && no_others qs ps else true)

-- one way, where b holds
abbrev pub one_way : Bool → List Pair → List (List Pair)
one_way b way = if b then way ∷ [] else []

-- two types of one form
abbrev pub part_ways : Level → Level → List (List Pair)
part_ways (Object closed_a ps) (Object closed_b qs) = one_way (objects_fit closed_a ps closed_b qs) (all_needs ps qs qs)
part_ways (Tuple xs) (Tuple ys) = one_way (length xs == length ys) (both_ways xs ys)
part_ways (Array x) (Array y) = ((x, y) ∷ (y, x) ∷ []) ∷ []
part_ways (Array x) (ReadArray y) = ((x, y) ∷ []) ∷ []
part_ways (ReadArray x) (ReadArray y) = ((x, y) ∷ []) ∷ []
part_ways (Function ps r) (Function qs s) = ((r, s) ∷ param_needs ps qs) ∷ []
part_ways a b = []

-- The ways to justify that A is below B, each by the pairs that it needs.
abbrev pub ways : (Key → FlowType) → Pair → List (List Pair)
ways named (a, b) =
    if is_free (out-FlowType a) (out-FlowType b) then [] ∷ []
    else left_ways named (out-FlowType a) b ++ (right_ways named a (out-FlowType b) ++ part_ways (out-FlowType a) (out-FlowType b))
