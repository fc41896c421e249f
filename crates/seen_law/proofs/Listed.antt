-- What is kept of expressions one after another.
use Rattle.std.proofs.Common.{◌≡◌, ◌<◌, ◌&&◌, ℕ, nat_lt, Bool, true, false, List, [], ◌∷◌, ◌++◌, Option, Some, None, if◌then◌else◌, refl, sym, ap, ◌∙◌, subst, arith, append_assoc, append-nil}
use Rattle.std.proofs.lemmas.Bool.{false≢true, ltb-true, ltb-false}
use Rattle.std.specs.List.{AllByRecursion}
use Rattle.type_values.specs.declared.types.FlowType.{FlowType}
use Rattle.typing.specs.States.{Seen, covers, watched_with}
use Rattle.module_errors.specs.Errors.{seen_type}
use Rattle.seen_law.specs.Innermost.{size, IsOutside, IsAround, IsInnermost, NoneCovers, IsTypeAmong}

-- what is kept once these were read too
abbrev pub all_seen : Option ℕ → Option Seen → List Seen → Option Seen
all_seen place before [] = before
all_seen place before (seen ∷ more) = all_seen place (watched_with place seen before) more

both_seen : (place : Option ℕ) (x : Option Seen) (a b : List Seen) → all_seen place x (a ++ b) ≡ all_seen place (all_seen place x a) b
both_seen place x [] b = refl
both_seen place x (seen ∷ a) b = both_seen place (watched_with place seen x) a b

-- one part behind another
pub follows : (place : Option ℕ) (x y z : Option Seen) (a b : List Seen) → y ≡ all_seen place x a → z ≡ all_seen place y b → z ≡ all_seen place x (a ++ b)
follows place x y z a b first second = second ∙ ap (λ (v : Option Seen). all_seen place v b) first ∙ sym (both_seen place x a b)

-- a part that begins with what is kept before it
pub begins : (place : Option ℕ) (x y z : Option Seen) (a : List Seen) → y ≡ x → z ≡ all_seen place y a → z ≡ all_seen place x a
begins place x y z a same reads = reads ∙ ap (λ (v : Option Seen). all_seen place v a) same

-- ---- the innermost one

all_both : {X : Type 0} (P : X → Type 0) (xs ys : List X) → AllByRecursion P xs → AllByRecursion P ys → AllByRecursion P (xs ++ ys)
all_both P [] ys none all = all
all_both P (x ∷ xs) ys (first, more) all = (first, all_both P xs ys more all)

all_mapped : {X : Type 0} (P Q : X → Type 0) (xs : List X) → ((x : X) → P x → Q x) → AllByRecursion P xs → AllByRecursion Q xs
all_mapped P Q [] each all = tt
all_mapped P Q (x ∷ xs) each (first, more) = (each x first, all_mapped P Q xs each more)

-- what is kept is the innermost one of those so far
abbrev IsKept : ℕ → List Seen → Option Seen → Type 0
IsKept place so_far None = NoneCovers place so_far
IsKept place so_far (Some inner) = IsInnermost place so_far inner

none_next : (place : ℕ) (so_far : List Seen) (seen : Seen) (c : Bool) → covers seen.span place ≡ c → NoneCovers place so_far → IsKept place (so_far ++ seen ∷ []) (if c && true then Some seen else None)
none_next place so_far seen true is none = record {
  before = so_far;
  after = [];
  among = refl;
  covers_it = is;
  first = all_mapped (λ (other : Seen). covers other.span place ≡ false) (IsOutside place seen) so_far (λ other not. λ yes. absurd (false≢true (sym not ∙ yes))) none;
  least = tt;
}
none_next place so_far seen false is none = all_both (λ (other : Seen). covers other.span place ≡ false) so_far (seen ∷ []) none (is, tt)

-- it stays the innermost one
stays : (place : ℕ) (so_far : List Seen) (inner seen : Seen) → IsInnermost place so_far inner → IsAround place inner seen → IsInnermost place (so_far ++ seen ∷ []) inner
stays place so_far inner seen is around = record {
  before = is.before;
  after = is.after ++ seen ∷ [];
  among = ap (λ (l : List Seen). l ++ seen ∷ []) is.among ∙ append_assoc is.before (inner ∷ is.after) (seen ∷ []);
  covers_it = is.covers_it;
  first = is.first;
  least = all_both (IsAround place inner) is.after (seen ∷ []) is.least (around, tt);
}

-- a shorter one takes its place
takes : (place : ℕ) (so_far : List Seen) (inner seen : Seen) → covers seen.span place ≡ true → size seen < size inner → IsInnermost place so_far inner → IsInnermost place (so_far ++ seen ∷ []) seen
takes place so_far inner seen covered less is = record {
  before = so_far;
  after = [];
  among = refl;
  covers_it = covered;
  first = subst (AllByRecursion (IsOutside place seen)) (sym is.among)
      (all_both (IsOutside place seen) is.before (inner ∷ is.after)
      (all_mapped (IsOutside place inner) (IsOutside place seen) is.before (λ other outside. λ yes. let more = outside yes in omega (arith, less, more)) is.first)
      ((λ yes. less), all_mapped (IsAround place inner) (IsOutside place seen) is.after (λ other around. λ yes. let more = around yes in omega (arith, less, more)) is.least));
  least = tt;
}

some_next : (place : ℕ) (so_far : List Seen) (inner seen : Seen) (c s : Bool) → covers seen.span place ≡ c → nat_lt (size seen) (size inner) ≡ s → IsInnermost place so_far inner →
    IsKept place (so_far ++ seen ∷ []) (if c && s then Some seen else Some inner)
some_next place so_far inner seen true true is shorter kept = takes place so_far inner seen is (ltb-true (size seen) (size inner) shorter) kept
some_next place so_far inner seen true false is longer kept = stays place so_far inner seen kept (λ yes. ltb-false (size seen) (size inner) longer)
some_next place so_far inner seen false s is any kept = stays place so_far inner seen kept (λ yes. absurd (false≢true (sym is ∙ yes)))

next : (place : ℕ) (so_far : List Seen) (seen : Seen) (x : Option Seen) → IsKept place so_far x → IsKept place (so_far ++ seen ∷ []) (watched_with (Some place) seen x)
next place so_far seen None kept = none_next place so_far seen (covers seen.span place) refl kept
next place so_far seen (Some inner) kept = some_next place so_far inner seen (covers seen.span place) (nat_lt (size seen) (size inner)) refl refl kept

kept_all : (place : ℕ) (so_far all : List Seen) (x : Option Seen) → IsKept place so_far x → IsKept place (so_far ++ all) (all_seen (Some place) x all)
kept_all place so_far [] x kept = subst (λ (l : List Seen). IsKept place l x) (sym (append-nil so_far)) kept
kept_all place so_far (seen ∷ all) x kept =
    subst (λ (l : List Seen). IsKept place l (all_seen (Some place) (watched_with (Some place) seen x) all)) (append_assoc so_far (seen ∷ []) all)
    (kept_all place (so_far ++ seen ∷ []) all (watched_with (Some place) seen x) (next place so_far seen x kept))

-- its type
type_kept : (place : ℕ) (all : List Seen) (x : Option Seen) → IsKept place all x → IsTypeAmong place all (seen_type x)
type_kept place all None kept = kept
type_kept place all (Some inner) kept = (inner, kept, refl)

pub type_among : (place : ℕ) (all : List Seen) (x : Option Seen) (t : Option FlowType) → x ≡ all_seen (Some place) None all → t ≡ seen_type x → IsTypeAmong place all t
type_among place all x t is told = subst (IsTypeAmong place all) (sym told) (type_kept place all x (subst (IsKept place all) (sym is) (kept_all place [] all None tt)))
