-- The first key from a place on.
use Rattle.std.proofs.Common.{◌≡◌, ℕ, ◌≤◌, ◌<◌, ◌==◌, ◌&&◌, not, Bool, true, false, IsTrue, Ordering, sym, ◌∙◌, List, ◌∷◌, slice_get, Option, Some, None, refl, ap, subst, arith}
use Rattle.std.specs.Ordering.{nat_cmp, is_eq, is_gt, ordering_then}
use Rattle.std.specs.Option.{is_some, IsSome, IfSome}
use Rattle.std.specs.BTreeMap.Range.{IsLeBy, IsLtBy}
use Rattle.std.specs.declared.cmp.Ordering.TheVariants.{Less, Equal, Greater}
use Rattle.std.proofs.lemmas.Bool.{eqb-true, eq-eqb}
use Rattle.std.proofs.lemmas.Bool.Decides.{nat_tests}
use Rattle.fact_trail.specs.declared.slot.Slot.TheVariants.{Property}
use Rattle.fact_trail.specs.Slots.{Key, Turned, key_cmp, turned_cmp, turn, is_key, is_other_named}
use Rattle.fact_trail.proofs.Same.{same_key}

then_le : (a b c d : ℕ) → is_gt (ordering_then (nat_cmp a b) (nat_cmp c d)) ≡ false → a ≤ b
then_le a b c d is = grind (arith, nat_tests)

-- the least key of a name
abbrev pub low : ℕ → Key
low name = record { name = name; binding = 0 }

pub low_first : (name : ℕ) (q : Key) → q.name ≡ name → is_gt (key_cmp (low name) q) ≡ false
low_first name q same = grind (arith, nat_tests)

-- the least one of a variable
abbrev pub low_of : ℕ → Turned
low_of binding = record { binding = binding; name = 0 }

pub low_of_first : (binding : ℕ) (q : Turned) → q.binding ≡ binding → is_gt (turned_cmp (low_of binding) q) ≡ false
low_of_first binding q same = grind (arith, nat_tests)

-- the first key from a name on has another name: so no key has the name
none_named : {T : Type 0} (m : Key → Option T) (name : ℕ) (k : Key) → is_gt (key_cmp (low name) k) ≡ false →
    ((q : Key) → is_some (m q) ≡ true → q.name ≡ name → is_gt (key_cmp k q) ≡ false) → (k.name ≡ name → ⊥) → (q : Key) → q.name ≡ name → m q ≡ None
none_named {T} m name k above least other q same = at (m q) refl
  where
    at : (o : Option T) → m q ≡ o → o ≡ None
    at None is = refl
    at (Some t) is = absurd (other (let low = then_le name k.name 0 k.binding above in let high = then_le k.name q.name k.binding q.binding (least q (ap is_some is) same) in omega (arith, low, high, same)))

-- the same, where the first of a list is the first from a name on
pub first_named : {T : Type 0} (m : Key → Option T) (name : ℕ) (all rest : List (Key × T)) (e : Key × T) → all ≡ e ∷ rest →
    IfSome (slice_get all 0) (λ x. (IsLeBy key_cmp (low name) x.0 × Unit {0}) × (m x.0 ≡ Some x.1)) →
    ((q : Key) → IsLeBy key_cmp (low name) q × Unit {0} → IsSome (m q) → IfSome (slice_get all 0) (λ x. IsLeBy key_cmp x.0 q)) →
    (e.0.name ≡ name → ⊥) → (q : Key) → q.name ≡ name → m q ≡ None
first_named {T} m name all rest e are above least other =
    none_named m name e.0 (subst (λ (l : List (Key × T)). IfSome (slice_get l 0) (λ x. (IsLeBy key_cmp (low name) x.0 × Unit {0}) × (m x.0 ≡ Some x.1))) are above).0.0
    (λ q some here. subst (λ (l : List (Key × T)). IfSome (slice_get l 0) (λ x. IsLeBy key_cmp x.0 q)) are (least q (low_first name q here, tt) some)) other

-- the first turned key from a variable on is of another variable: so no key of the variable is in the set
none_owned : (m : Turned → Bool) (binding : ℕ) (t : Turned) → is_gt (turned_cmp (low_of binding) t) ≡ false →
    ((q : Turned) → m q ≡ true → q.binding ≡ binding → is_gt (turned_cmp t q) ≡ false) → (t.binding ≡ binding → ⊥) → (q : Turned) → q.binding ≡ binding → m q ≡ false
none_owned m binding t above least other q same = at (m q) refl
  where
    at : (b : Bool) → m q ≡ b → b ≡ false
    at false is = refl
    at true is = absurd (other (let low = then_le binding t.binding 0 t.name above in let high = then_le t.binding q.binding t.name q.name (least q is same) in omega (arith, low, high, same)))

-- a key that is not in the set has no fact
pub none_of : {T : Type 0} (rows : Key → Option T) (m : Turned → Bool) (binding : ℕ) → ((k : Key) → is_some (rows k) ≡ true → m (turn k) ≡ true) → ((q : Turned) → q.binding ≡ binding → m q ≡ false) →
    (k : Key) → k.binding ≡ binding → rows k ≡ None
none_of {T} rows m binding kept none k same = at (rows k) refl
  where
    at : (o : Option T) → rows k ≡ o → o ≡ None
    at None is = refl
    at (Some t) is = absurd (let clash : true ≡ false = sym (kept k (ap is_some is)) ∙ none (turn k) same in cc)

-- the same, where the first of a list is the first from a variable on
pub first_owned : (m : Turned → Bool) (binding : ℕ) (all rest : List Turned) (e : Turned) → all ≡ e ∷ rest →
    IfSome (slice_get all 0) (λ x. (IsLeBy turned_cmp (low_of binding) x × Unit {0}) × IsTrue (m x)) →
    ((q : Turned) → IsLeBy turned_cmp (low_of binding) q × Unit {0} → IsTrue (m q) → IfSome (slice_get all 0) (λ x. IsLeBy turned_cmp x q)) →
    (e.binding ≡ binding → ⊥) → (q : Turned) → q.binding ≡ binding → m q ≡ false
first_owned m binding all rest e are above least other =
    none_owned m binding e (subst (λ (l : List Turned). IfSome (slice_get l 0) (λ x. (IsLeBy turned_cmp (low_of binding) x × Unit {0}) × IsTrue (m x))) are above).0.0
    (λ q there here. subst (λ (l : List Turned). IfSome (slice_get l 0) (λ x. IsLeBy turned_cmp x q)) are (least q (low_of_first binding q here, tt) there)) other

not_below : (a b : ℕ) → a ≤ b → is_gt (nat_cmp a b) ≡ false
not_below a b within = grind (arith, nat_tests)

from_not_gt : (a b : ℕ) → is_gt (nat_cmp a b) ≡ false → a ≤ b
from_not_gt a b is = grind (arith, nat_tests)

-- a number is within a range without an end
pub in_range_from : (low b : ℕ) → low ≤ b → IsLeBy nat_cmp low b × Unit {0}
in_range_from low b within = (not_below low b within, tt)

-- the first of a list is the first number from another one on
pub first_number : {T : Type 0} (m : ℕ → Option T) (low : ℕ) (all rest : List (ℕ × T)) (e : ℕ × T) → all ≡ e ∷ rest →
    IfSome (slice_get all 0) (λ x. (IsLeBy nat_cmp low x.0 × Unit {0}) × (m x.0 ≡ Some x.1)) →
    ((q : ℕ) → IsLeBy nat_cmp low q × Unit {0} → IsSome (m q) → IfSome (slice_get all 0) (λ x. IsLeBy nat_cmp x.0 q)) →
    (low ≤ e.0) × ((b : ℕ) → low ≤ b → b < e.0 → m b ≡ None)
first_number {T} m low all rest e are above least = (
  from_not_gt low e.0 (subst (λ (l : List (ℕ × T)). IfSome (slice_get l 0) (λ x. (IsLeBy nat_cmp low x.0 × Unit {0}) × (m x.0 ≡ Some x.1))) are above).0.0,
  λ b within before. at b within before (m b) refl,
)
  where
    at : (b : ℕ) → low ≤ b → b < e.0 → (o : Option T) → m b ≡ o → m b ≡ None
    at b within before None is = is
    at b within before (Some t) is = absurd (
        let first = subst (λ (l : List (ℕ × T)). IfSome (slice_get l 0) (λ x. IsLeBy nat_cmp x.0 b)) are (least b (in_range_from low b within) (ap is_some is)) in
        let under = from_not_gt e.0 b first in
        omega (arith, before, under)
        )

below_less : (a b : ℕ) → a < b → nat_cmp a b ≡ Less
below_less a b before = grind (arith, nat_tests)

from_less : (a b : ℕ) → nat_cmp a b ≡ Less → a < b
from_less a b is = grind (arith, nat_tests)

-- a number is within a range after another one
pub in_range_after : (low b : ℕ) → low < b → IsLtBy nat_cmp low b × Unit {0}
in_range_after low b before = (below_less low b before, tt)

-- the first of a list is the first number after another one
pub next_number : {T : Type 0} (m : ℕ → Option T) (low : ℕ) (all rest : List (ℕ × T)) (e : ℕ × T) → all ≡ e ∷ rest →
    IfSome (slice_get all 0) (λ x. (IsLtBy nat_cmp low x.0 × Unit {0}) × (m x.0 ≡ Some x.1)) →
    ((q : ℕ) → IsLtBy nat_cmp low q × Unit {0} → IsSome (m q) → IfSome (slice_get all 0) (λ x. IsLeBy nat_cmp x.0 q)) →
    (low < e.0) × ((b : ℕ) → low < b → b < e.0 → m b ≡ None)
next_number {T} m low all rest e are above least = (
  from_less low e.0 (subst (λ (l : List (ℕ × T)). IfSome (slice_get l 0) (λ x. (IsLtBy nat_cmp low x.0 × Unit {0}) × (m x.0 ≡ Some x.1))) are above).0.0,
  λ b within before. at b within before (m b) refl,
)
  where
    at : (b : ℕ) → low < b → b < e.0 → (o : Option T) → m b ≡ o → m b ≡ None
    at b within before None is = is
    at b within before (Some t) is = absurd (
        let first = subst (λ (l : List (ℕ × T)). IfSome (slice_get l 0) (λ x. IsLeBy nat_cmp x.0 b)) are (least b (in_range_after low b within) (ap is_some is)) in
        let under = from_not_gt e.0 b first in
        omega (arith, before, under)
        )

-- the first key from a name on is of the name: so it is the first one of the name
pub least_named : {T : Type 0} (m : Key → Option T) (name : ℕ) (all rest : List (Key × T)) (e : Key × T) → all ≡ e ∷ rest →
    IfSome (slice_get all 0) (λ x. (IsLeBy key_cmp (low name) x.0 × Unit {0}) × (m x.0 ≡ Some x.1)) →
    ((q : Key) → IsLeBy key_cmp (low name) q × Unit {0} → IsSome (m q) → IfSome (slice_get all 0) (λ x. IsLeBy key_cmp x.0 q)) →
    e.0.name ≡ name → (e.0.name ≡ name) × (is_some (m e.0) ≡ true) × ((q : Key) → q.name ≡ name → is_some (m q) ≡ true → IsLeBy key_cmp e.0 q)
least_named {T} m name all rest e are above least here = (
  here,
  ap is_some (subst (λ (l : List (Key × T)). IfSome (slice_get l 0) (λ x. (IsLeBy key_cmp (low name) x.0 × Unit {0}) × (m x.0 ≡ Some x.1))) are above).1,
  λ q same some. subst (λ (l : List (Key × T)). IfSome (slice_get l 0) (λ x. IsLeBy key_cmp x.0 q)) are (least q (low_first name q same, tt) some),
)

after_apart : (p q : Key) → key_cmp p q ≡ Less → is_eq (key_cmp p q) ≡ false
after_apart p q is = ap is_eq is

-- the first key behind another one is of its name
pub next_named : {T : Type 0} (m : Key → Option T) (key : Key) (all rest : List (Key × T)) (e : Key × T) → all ≡ e ∷ rest →
    IfSome (slice_get all 0) (λ x. (IsLtBy key_cmp key x.0 × Unit {0}) × (m x.0 ≡ Some x.1)) →
    e.0.name ≡ key.name → (e.0.name ≡ key.name) × (is_key key e.0 ≡ false) × (is_some (m e.0) ≡ true)
next_named {T} m key all rest e are above here =
    let first = subst (λ (l : List (Key × T)). IfSome (slice_get l 0) (λ x. (IsLtBy key_cmp key x.0 × Unit {0}) × (m x.0 ≡ Some x.1))) are above in
    (here, after_apart key e.0 first.0.0, ap is_some first.1)

less_le : (a b c d : ℕ) → ordering_then (nat_cmp a b) (nat_cmp c d) ≡ Less → a ≤ b
less_le a b c d is = grind (arith, nat_tests)

-- it is of another name: so no key behind it is of the name
pub none_behind : {T : Type 0} (m : Key → Option T) (key : Key) (all rest : List (Key × T)) (e : Key × T) → all ≡ e ∷ rest →
    IfSome (slice_get all 0) (λ x. (IsLtBy key_cmp key x.0 × Unit {0}) × (m x.0 ≡ Some x.1)) →
    ((q : Key) → IsLtBy key_cmp key q × Unit {0} → IsSome (m q) → IfSome (slice_get all 0) (λ x. IsLeBy key_cmp x.0 q)) →
    (e.0.name ≡ key.name → ⊥) → (q : Key) → q.name ≡ key.name → IsLtBy key_cmp key q → m q ≡ None
none_behind {T} m key all rest e are above least other q same after = at (m q) refl
  where
    at : (o : Option T) → m q ≡ o → o ≡ None
    at None is = refl
    at (Some t) is = absurd (other (
        let first = subst (λ (l : List (Key × T)). IfSome (slice_get l 0) (λ x. (IsLtBy key_cmp key x.0 × Unit {0}) × (m x.0 ≡ Some x.1))) are above in
        let from = less_le key.name e.0.name key.binding e.0.binding first.0.0 in
        let next = subst (λ (l : List (Key × T)). IfSome (slice_get l 0) (λ x. IsLeBy key_cmp x.0 q)) are (least q (after, tt) (ap is_some is)) in
        let up = then_le e.0.name q.name e.0.binding q.binding next in
        omega (arith, from, up, same)
        ))

-- ---- another key of a name

less_or_equal : (o : Ordering) → is_gt o ≡ false → is_eq o ≡ false → o ≡ Less
less_or_equal Less above apart = refl
less_or_equal Equal above apart = cc
less_or_equal Greater above apart = cc

name_of_other : (key k : Key) → is_other_named key (Property k) ≡ true → (k.name ≡ key.name) × (is_key key k ≡ false)
name_of_other key k is = parts (key.name == k.name) (is_key key k) refl is
  where
    parts : (b c : Bool) → (key.name == k.name) ≡ b → (b && not c) ≡ true → (k.name ≡ key.name) × (c ≡ false)
    parts true false same both = (sym (eqb-true key.name k.name same), refl)
    parts true true same both = cc
    parts false c same both = cc

-- a key of the name that is another one
pub is_other : (key k : Key) → k.name ≡ key.name → is_key key k ≡ false → is_other_named key (Property k) ≡ true
is_other key k same apart = (λ i. eq-eqb key.name k.name (sym same) i && not (apart i))

-- the first one of the name is the key itself, and none is behind it
pub no_other : {T : Type 0} (m : Key → Option T) (key first : Key) → is_key first key ≡ true → ((k : Key) → k.name ≡ key.name → is_some (m k) ≡ true → IsLeBy key_cmp first k) →
    ((k : Key) → k.name ≡ key.name → IsLtBy key_cmp key k → m k ≡ None) → (k : Key) → is_other_named key (Property k) ≡ true → m k ≡ None
no_other {T} m key first same least behind k is = at (m k) refl
  where
    at : (o : Option T) → m k ≡ o → m k ≡ None
    at None none = none
    at (Some t) some =
        let other = name_of_other key k is in
        behind k other.0 (less_or_equal (key_cmp key k) (subst (λ p. IsLeBy key_cmp p k) (same_key first key same) (least k other.0 (ap is_some some))) other.1)
