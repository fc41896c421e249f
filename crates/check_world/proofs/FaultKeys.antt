-- Faults and the set of their keys.
use Rattle.std.proofs.Common.{◌≡◌, ℕ, Bool, true, false, ◌||◌, List, [], ◌∷◌, ◌++◌, cond, refl, sym, ap, ◌∙◌, subst}
use Rattle.std.specs.BTreeSet.{BTreeSet, contains}
use Rattle.std.specs.Cmp.Lexicographic.{slice_cmp}
use Rattle.std.specs.List.{list_any}
use Rattle.std.specs.Ordering.{is_eq, nat_cmp, ordering_then}
use Rattle.std.specs.declared.cmp.Ordering.{Ordering}
use Rattle.std.specs.declared.cmp.Ordering.TheVariants.{Less, Equal, Greater}
use Rattle.std.proofs.lemmas.List.Folds.{list_any-append}
use Rattle.std.proofs.lemmas.Map.Lookups.{exact_unsigned, exact_bytes, exact_pairs}
use Rattle.check_values.specs.declared.faults.Fault.{Fault}
use Rattle.typing.specs.States.{is_same_fault, with_fault}
use Rattle.check_world.specs.Keys.{Plain, Key, plain, fault_key, plain_cmp, key_cmp, AreKeys}

exact : (a b : Plain) → plain_cmp a b ≡ Equal → a ≡ b
exact =
    exact_pairs nat_cmp (λ x y. ordering_then (nat_cmp x.0 y.0) (ordering_then (slice_cmp nat_cmp x.1.0 y.1.0) (slice_cmp nat_cmp x.1.1 y.1.1))) exact_unsigned
    (exact_pairs nat_cmp (λ x y. ordering_then (slice_cmp nat_cmp x.0 y.0) (slice_cmp nat_cmp x.1 y.1)) exact_unsigned
    (exact_pairs (slice_cmp nat_cmp) (slice_cmp nat_cmp) exact_bytes exact_bytes))

is_equal : (o : Ordering) → is_eq o ≡ true → o ≡ Equal
is_equal Equal e = refl
is_equal Less e = absurd (cc)
is_equal Greater e = absurd (cc)

-- being the same doesn't ask which comes first
turned : (a b : Plain) → is_eq (plain_cmp a b) ≡ is_eq (plain_cmp b a)
turned a b = go (is_eq (plain_cmp a b)) (is_eq (plain_cmp b a)) refl refl
  where
    go : (c d : Bool) → is_eq (plain_cmp a b) ≡ c → is_eq (plain_cmp b a) ≡ d → c ≡ d
    go true true e f = refl
    go false false e f = refl
    go true false e f =
        let same : a ≡ b = exact a b (is_equal (plain_cmp a b) e) in
        sym e ∙ ap (λ (x : Plain). is_eq (plain_cmp x b)) same ∙ ap (λ (y : Plain). is_eq (plain_cmp b y)) (sym same) ∙ f
    go false true e f =
        let same : b ≡ a = exact b a (is_equal (plain_cmp b a) f) in
        sym e ∙ ap (λ (y : Plain). is_eq (plain_cmp a y)) same ∙ ap (λ (x : Plain). is_eq (plain_cmp x a)) (sym same) ∙ f

any_more : (p : Fault → Bool) (faults : List Fault) (f : Fault) → list_any p (faults ++ f ∷ []) ≡ cond (p f) true (list_any p faults)
any_more p faults f = list_any-append p faults (f ∷ []) ∙ go (list_any p faults) (p f)
  where
    go : (a b : Bool) → a || (b || false) ≡ cond b true a
    go true true = refl
    go true false = refl
    go false true = refl
    go false false = refl

-- whether the set has a fault's key is whether the fault stands
pub has_key : (keys : BTreeSet Key) (faults : List Fault) (k : Key) (f : Fault) → AreKeys keys faults → plain k ≡ fault_key f → contains key_cmp keys k ≡ list_any (is_same_fault f) faults
has_key keys faults k f are same = are.told k ∙ ap (λ (p : Plain). list_any (λ g. is_eq (plain_cmp p (fault_key g))) faults) same

-- one fault more, and its key
pub more_keys : (keys keys' : BTreeSet Key) (faults : List Fault) (k : Key) (f : Fault) → AreKeys keys faults → plain k ≡ fault_key f →
    ((q : Key) → contains key_cmp keys' q ≡ cond (is_eq (key_cmp k q)) true (contains key_cmp keys q)) → AreKeys keys' (faults ++ f ∷ [])
more_keys keys keys' faults k f are same adds = record {
  told = λ q.
      adds q ∙ ap (λ (b : Bool). cond b true (contains key_cmp keys q)) (turned (plain k) (plain q) ∙ ap (λ (p : Plain). is_eq (plain_cmp (plain q) p)) same)
      ∙ ap (λ (b : Bool). cond (is_eq (plain_cmp (plain q) (fault_key f))) true b) (are.told q)
      ∙ sym (any_more (λ g. is_eq (plain_cmp (plain q) (fault_key g))) faults f);
}

-- what stands after a fault that stands already, and after a new one
pub with_old : (faults : List Fault) (f : Fault) → list_any (is_same_fault f) faults ≡ true → faults ≡ with_fault faults f
with_old faults f e = go (list_any (is_same_fault f) faults) e
  where
    go : (b : Bool) → b ≡ true → faults ≡ cond b faults (faults ++ f ∷ [])
    go true e = refl
    go false e = absurd (cc)

pub with_new : (faults : List Fault) (f : Fault) → list_any (is_same_fault f) faults ≡ false → faults ++ f ∷ [] ≡ with_fault faults f
with_new faults f e = go (list_any (is_same_fault f) faults) e
  where
    go : (b : Bool) → b ≡ false → faults ++ f ∷ [] ≡ cond b faults (faults ++ f ∷ [])
    go true e = absurd (cc)
    go false e = refl

-- no faults, and no keys
pub no_keys : (keys : BTreeSet Key) → keys.keys ≡ [] → AreKeys keys []
no_keys keys none_yet = record { told = λ q. ap (λ (l : List Key). list_any (λ k. is_eq (key_cmp q k)) l) none_yet }

-- the keys stay as they are
pub same_keys : (keys keys' : BTreeSet Key) (faults faults' : List Fault) → AreKeys keys faults → keys'.keys ≡ keys.keys → faults' ≡ faults → AreKeys keys' faults'
same_keys keys keys' faults faults' are stays is = subst (AreKeys keys') (sym is) (record { told = λ q. ap (λ (l : List Key). list_any (λ k. is_eq (key_cmp q k)) l) stays ∙ are.told q })
