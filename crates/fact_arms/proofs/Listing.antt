-- Lists of slots that grow.
use Rattle.std.proofs.Common.{◌≡◌, ℕ, Bool, true, false, ◌||◌, List, [], ◌∷◌, ◌++◌, refl, sym, ap, ◌∙◌}
use Rattle.std.proofs.lemmas.List.Folds.{list_any-append}
use Rattle.std.specs.List.{list_any}
use Rattle.std.specs.Ordering.{nat_cmp}
use Rattle.std.specs.BTreeMap.{is_at}
use Rattle.fact_trail.specs.declared.slot.Slot.TheVariants.{Variable, Property}
use Rattle.fact_trail.specs.declared.slot.Key.{Key}
use Rattle.fact_trail.specs.declared.slot.Slot.{Slot}
use Rattle.fact_trail.specs.Slots.{key_cmp, is_slot, is_number, is_key}
use Rattle.fact_trail.proofs.Same.{same_number, same_key, slot_itself}
use Rattle.fact_arms.specs.Differences.{is_listed}

or_true : (b : Bool) → (b || true) ≡ true
or_true true = refl
or_true false = refl

pub pushed_keeps : (old new : List Slot) (slot : Slot) → new ≡ old ++ slot ∷ [] → (s : Slot) → is_listed old s ≡ true → is_listed new s ≡ true
pushed_keeps old new slot are s is = ap (λ l. is_listed l s) are ∙ list_any-append (λ t. is_slot t s) old (slot ∷ []) ∙ ap (λ b. b || is_listed (slot ∷ []) s) is

pushed_has : (old new : List Slot) (slot : Slot) → new ≡ old ++ slot ∷ [] → is_listed new slot ≡ true
pushed_has old new slot are =
    ap (λ l. is_listed l slot) are ∙ list_any-append (λ t. is_slot t slot) old (slot ∷ []) ∙ ap (λ b. is_listed old slot || (b || false)) (slot_itself slot) ∙ or_true (is_listed old slot)

clash : (b : Bool) → b ≡ true → b ≡ false → ⊥
clash b first second = let both : true ≡ false = sym first ∙ second in apart both
  where
    apart : true ≡ false → ⊥
    apart e = cc

-- those that are not listed are among the rest
module _ {K : Type 0} (slot : K → Slot) (test : K → K → Bool) (same : (a b : K) → test a b ≡ true → a ≡ b) where
  pub one_listed : (has : K → Bool) (ks rest : List K) (k : K) (old new : List Slot) → ks ≡ k ∷ rest → new ≡ old ++ slot k ∷ [] → ((b : K) → has b ≡ true → is_listed old (slot b) ≡ false → list_any (test b) ks ≡ true) →
      (b : K) → has b ≡ true → is_listed new (slot b) ≡ false → list_any (test b) rest ≡ true
  one_listed has ks rest k old new are pushed left b there not_listed = at (test b k) refl
    where
      before : (t : Bool) → is_listed old (slot b) ≡ t → t ≡ false
      before true is = absurd (clash (is_listed new (slot b)) (pushed_keeps old new (slot k) pushed (slot b) is) not_listed)
      before false is = refl

      among : list_any (test b) (k ∷ rest) ≡ true
      among = sym (ap (list_any (test b)) are) ∙ left b there (before (is_listed old (slot b)) refl)

      at : (t : Bool) → test b k ≡ t → list_any (test b) rest ≡ true
      at true equal = absurd (clash (is_listed new (slot b)) (ap (λ q. is_listed new (slot q)) (same b k equal) ∙ pushed_has old new (slot k) pushed) not_listed)
      at false other = sym (ap (λ t. t || list_any (test b) rest) other) ∙ among

pub number_listed : (has : ℕ → Bool) (ks rest : List ℕ) (k : ℕ) (old new : List Slot) → ks ≡ k ∷ rest → new ≡ old ++ Variable k ∷ [] → ((b : ℕ) → has b ≡ true → is_listed old (Variable b) ≡ false → list_any (is_at (nat_cmp b)) ks ≡ true) →
    (b : ℕ) → has b ≡ true → is_listed new (Variable b) ≡ false → list_any (is_at (nat_cmp b)) rest ≡ true
number_listed = one_listed Variable is_number same_number

pub key_listed : (has : Key → Bool) (ks rest : List Key) (k : Key) (old new : List Slot) → ks ≡ k ∷ rest → new ≡ old ++ Property k ∷ [] → ((b : Key) → has b ≡ true → is_listed old (Property b) ≡ false → list_any (is_at (key_cmp b)) ks ≡ true) →
    (b : Key) → has b ≡ true → is_listed new (Property b) ≡ false → list_any (is_at (key_cmp b)) rest ≡ true
key_listed = one_listed Property is_key same_key

-- where no rest is left, all are listed
pub all_listed : (b : Bool) → (b ≡ false → false ≡ true) → b ≡ true
all_listed true left = refl
all_listed false left = left refl

-- slots of both kinds
pub both_listed : (has : Slot → Bool) (slots : List Slot) → ((b : ℕ) → has (Variable b) ≡ true → is_listed slots (Variable b) ≡ true) → ((k : Key) → has (Property k) ≡ true → is_listed slots (Property k) ≡ true) →
    (s : Slot) → has s ≡ true → is_listed slots s ≡ true
both_listed has slots variables properties (Variable b) is = variables b is
both_listed has slots variables properties (Property k) is = properties k is
