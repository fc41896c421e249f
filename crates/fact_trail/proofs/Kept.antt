-- Sets that have all keys of a kind of fact, kept by the calls of maps and sets.
use Rattle.std.proofs.Common.{◌≡◌, ◌<◌, ◌↔◌, ℕ, Bool, true, false, List, [], ◌∷◌, length, Option, Some, None, Result, Ok, Err, OnOk, OnErr, Ordering, refl, sym, ap, ◌∙◌, subst, cond, arith}
use Rattle.std.specs.List.{list_any}
use Rattle.std.specs.Map.{lookup}
use Rattle.std.specs.Option.{is_some, IsSome, IfSome, IfNone}
use Rattle.std.specs.Result.{is_err}
use Rattle.std.specs.Ordering.{nat_cmp, is_eq}
use Rattle.std.specs.BTreeMap.{BTreeMap, get, is_at, Updates, btree_map_len}
use Rattle.std.specs.BTreeSet.{BTreeSet, contains}
use Rattle.std.specs.BTreeSet as sets
use Rattle.fact_trail.specs.declared.fact.Fact.{Fact}
use Rattle.fact_trail.specs.Slots.{Key, Turned, key_cmp, turned_cmp, turn, is_key, is_rough_at}
use Rattle.fact_trail.proofs.Same.{same_number, same_key, turned_alike}

-- the same keys
pub same_set : {K : Type 0} (cmp : K → K → Ordering) (s n : BTreeSet K) → n.keys ≡ s.keys → (k : K) → contains cmp n k ≡ contains cmp s k
same_set cmp s n same k = ap (list_any (is_at (cmp k))) same

-- ---- the set of rough facts

-- the keys of rough facts are all in the set
abbrev HasRough : {K : Type 0} (cmp : K → K → Ordering) → BTreeMap K Fact → BTreeSet K → Type 0
HasRough {K} cmp r s = (c : K) → is_rough_at (get cmp r c) ≡ true → contains cmp s c ≡ true

-- the other keys are in the set as before
abbrev KeepsOthers : {K : Type 0} (cmp : K → K → Ordering) → K → BTreeSet K → BTreeSet K → Type 0
KeepsOthers {K} cmp b s s' = (c : K) → is_eq (cmp b c) ≡ false → contains cmp s' c ≡ contains cmp s c

module _ {K : Type 0} (cmp : K → K → Ordering) (same_as : (a b : K) → is_eq (cmp a b) ≡ true → a ≡ b) where
  -- a fact is set
  fact_set : (r r' : BTreeMap K Fact) (s s' : BTreeSet K) (b : K) (fact : Fact) (rough : Bool) → rough ≡ fact.rough → Updates cmp r r' b (Some fact) → KeepsOthers cmp b s s' → (rough ≡ true → contains cmp s' b ≡ true) → HasRough cmp r s → HasRough cmp r' s'
  fact_set r r' s s' b fact rough tells updates others marked kept c is = at (is_eq (cmp b c)) refl
    where
      at : (d : Bool) → is_eq (cmp b c) ≡ d → contains cmp s' c ≡ true
      at true same =
          let equal : b ≡ c = same_as b c same in
          sym (ap (contains cmp s') equal) ∙ marked (tells ∙ sym (ap is_rough_at (sym (ap (get cmp r') equal) ∙ updates.1)) ∙ is)
      at false other = others c other ∙ kept c (sym (ap is_rough_at (updates.2 c other)) ∙ is)

  -- it is refused, since there is none
  fact_refused : (r r' : BTreeMap K Fact) (s s' : BTreeSet K) (b : K) → get cmp r b ≡ None → r'.entries ≡ r.entries → KeepsOthers cmp b s s' → HasRough cmp r s → HasRough cmp r' s'
  fact_refused r r' s s' b none same others kept c is = at (is_eq (cmp b c)) refl
    where
      stays : get cmp r' c ≡ get cmp r c
      stays = ap (λ es. lookup (is_at (cmp c)) es) same

      at : (d : Bool) → is_eq (cmp b c) ≡ d → contains cmp s' c ≡ true
      at true equal = absurd (let clash : true ≡ false = sym is ∙ ap is_rough_at (stays ∙ sym (ap (get cmp r) (same_as b c equal)) ∙ none) in cc)
      at false other = others c other ∙ kept c (sym (ap is_rough_at stays) ∙ is)

  -- it is dropped
  fact_unset : (r r' : BTreeMap K Fact) (s s' : BTreeSet K) (b : K) → Updates cmp r r' b None → sets.Updates cmp s s' b false → HasRough cmp r s → HasRough cmp r' s'
  fact_unset r r' s s' b updates taken kept c is = at (is_eq (cmp b c)) refl
    where
      at : (d : Bool) → is_eq (cmp b c) ≡ d → contains cmp s' c ≡ true
      at true same = absurd (let clash : true ≡ false = sym is ∙ ap is_rough_at (sym (ap (get cmp r') (same_as b c same)) ∙ updates.1) in cc)
      at false other = taken.2 c other ∙ kept c (sym (ap is_rough_at (updates.2 c other)) ∙ is)

pub number_set : (r r' : BTreeMap ℕ Fact) (s s' : BTreeSet ℕ) (b : ℕ) (fact : Fact) (rough : Bool) → rough ≡ fact.rough → Updates nat_cmp r r' b (Some fact) → KeepsOthers nat_cmp b s s' → (rough ≡ true → contains nat_cmp s' b ≡ true) →
    HasRough nat_cmp r s → HasRough nat_cmp r' s'
number_set = fact_set nat_cmp same_number

pub number_refused : (r r' : BTreeMap ℕ Fact) (s s' : BTreeSet ℕ) (b : ℕ) → get nat_cmp r b ≡ None → r'.entries ≡ r.entries → KeepsOthers nat_cmp b s s' → HasRough nat_cmp r s → HasRough nat_cmp r' s'
number_refused = fact_refused nat_cmp same_number

pub number_unset : (r r' : BTreeMap ℕ Fact) (s s' : BTreeSet ℕ) (b : ℕ) → Updates nat_cmp r r' b None → sets.Updates nat_cmp s s' b false → HasRough nat_cmp r s → HasRough nat_cmp r' s'
number_unset = fact_unset nat_cmp same_number

pub key_unset : (r r' : BTreeMap Key Fact) (s s' : BTreeSet Key) (b : Key) → Updates key_cmp r r' b None → sets.Updates key_cmp s s' b false → HasRough key_cmp r s → HasRough key_cmp r' s'
key_unset = fact_unset key_cmp same_key

-- ---- the set of turned keys

-- a fact is set
pub turned_set : (r r' : BTreeMap Key Fact) (s s' : BTreeSet Turned) (b : Key) (t : Turned) (fact : Fact) → t ≡ turn b → Updates key_cmp r r' b (Some fact) → sets.Updates turned_cmp s s' t true →
    ((c : Key) → is_some (get key_cmp r c) ≡ true → contains turned_cmp s (turn c) ≡ true) → (c : Key) → is_some (get key_cmp r' c) ≡ true → contains turned_cmp s' (turn c) ≡ true
turned_set r r' s s' b t fact turned updates added kept c is = at (is_key b c) refl
  where
    at : (d : Bool) → is_key b c ≡ d → contains turned_cmp s' (turn c) ≡ true
    at true same = sym (ap (λ k. contains turned_cmp s' (turn k)) (same_key b c same)) ∙ ap (contains turned_cmp s') (sym turned) ∙ added.1
    at false other = added.2 (turn c) (ap (λ u. is_eq (turned_cmp u (turn c))) turned ∙ turned_alike b c ∙ other) ∙ kept c (sym (ap is_some (updates.2 c other)) ∙ is)

-- facts that stay, and a key more
pub turned_more : (r r' : BTreeMap Key Fact) (s s' : BTreeSet Turned) (b : Key) (t : Turned) → t ≡ turn b → r'.entries ≡ r.entries → sets.Updates turned_cmp s s' t true →
    ((c : Key) → is_some (get key_cmp r c) ≡ true → contains turned_cmp s (turn c) ≡ true) → (c : Key) → is_some (get key_cmp r' c) ≡ true → contains turned_cmp s' (turn c) ≡ true
turned_more r r' s s' b t turned same added kept c is = at (is_key b c) refl
  where
    at : (d : Bool) → is_key b c ≡ d → contains turned_cmp s' (turn c) ≡ true
    at true equal = sym (ap (λ k. contains turned_cmp s' (turn k)) (same_key b c equal)) ∙ ap (contains turned_cmp s') (sym turned) ∙ added.1
    at false other = added.2 (turn c) (ap (λ u. is_eq (turned_cmp u (turn c))) turned ∙ turned_alike b c ∙ other) ∙ kept c (sym (ap is_some (ap (λ es. lookup (is_at (key_cmp c)) es) same)) ∙ is)

-- it is dropped
pub turned_unset : (r r' : BTreeMap Key Fact) (s s' : BTreeSet Turned) (b : Key) (t : Turned) → t ≡ turn b → Updates key_cmp r r' b None → sets.Updates turned_cmp s s' t false →
    ((c : Key) → is_some (get key_cmp r c) ≡ true → contains turned_cmp s (turn c) ≡ true) → (c : Key) → is_some (get key_cmp r' c) ≡ true → contains turned_cmp s' (turn c) ≡ true
turned_unset r r' s s' b t turned updates taken kept c is = at (is_key b c) refl
  where
    at : (d : Bool) → is_key b c ≡ d → contains turned_cmp s' (turn c) ≡ true
    at true same = absurd (let clash : true ≡ false = sym is ∙ ap is_some (sym (ap (get key_cmp r') (same_key b c same)) ∙ updates.1) in cc)
    at false other = taken.2 (turn c) (ap (λ u. is_eq (turned_cmp u (turn c))) turned ∙ turned_alike b c ∙ other) ∙ kept c (sym (ap is_some (updates.2 c other)) ∙ is)

-- ---- where there is no fact

pub rough_none : {K : Type 0} (cmp : K → K → Ordering) (r : BTreeMap K Fact) (s : BTreeSet K) → r.entries ≡ [] → (c : K) → is_rough_at (get cmp r c) ≡ true → contains cmp s c ≡ true
rough_none cmp r s empty c is = absurd (let clash : true ≡ false = sym is ∙ ap (λ es. is_rough_at (lookup (is_at (cmp c)) es)) empty in cc)

pub turned_none : (r : BTreeMap Key Fact) (s : BTreeSet Turned) → r.entries ≡ [] → (c : Key) → is_some (get key_cmp r c) ≡ true → contains turned_cmp s (turn c) ≡ true
turned_none r s empty c is = absurd (let clash : true ≡ false = sym is ∙ ap (λ es. is_some (lookup (is_at (key_cmp c)) es)) empty in cc)

-- ---- calls that may fail

pub ok_of : {T E : Type 0} (r : Result T E) (P : Type 0) → is_err r ≡ false → OnOk r P → P
ok_of (Ok x) P test is = is
ok_of (Err x) P test is = cc

pub err_of : {T E : Type 0} (r : Result T E) (P : Type 0) → is_err r ≡ true → OnErr r P → P
err_of (Ok x) P test is = cc
err_of (Err x) P test is = is

-- a fact is set, or refused
pub turned_after : {T E : Type 0} (result : Result T E) (r r' : BTreeMap Key Fact) (s s' : BTreeSet Turned) (b : Key) (t : Turned) (fact : Fact) → t ≡ turn b →
    OnOk result (Updates key_cmp r r' b (Some fact)) → OnErr result (r'.entries ≡ r.entries) → sets.Updates turned_cmp s s' t true →
    ((c : Key) → is_some (get key_cmp r c) ≡ true → contains turned_cmp s (turn c) ≡ true) → (c : Key) → is_some (get key_cmp r' c) ≡ true → contains turned_cmp s' (turn c) ≡ true
turned_after (Ok x) r r' s s' b t fact turned updates same added kept = turned_set r r' s s' b t fact turned updates added kept
turned_after (Err x) r r' s s' b t fact turned updates same added kept = turned_more r r' s s' b t turned same added kept

pub rough_after : {T E : Type 0} (result : Result T E) (r r' : BTreeMap Key Fact) (s s' : BTreeSet Key) (b : Key) (fact : Fact) (rough : Bool) → rough ≡ fact.rough →
    OnOk result (Updates key_cmp r r' b (Some fact)) → OnErr result (get key_cmp r b ≡ None) → OnErr result (r'.entries ≡ r.entries) →
    ((c : Key) → is_eq (key_cmp b c) ≡ false → contains key_cmp s' c ≡ contains key_cmp s c) → (rough ≡ true → contains key_cmp s' b ≡ true) →
    ((c : Key) → is_rough_at (get key_cmp r c) ≡ true → contains key_cmp s c ≡ true) → (c : Key) → is_rough_at (get key_cmp r' c) ≡ true → contains key_cmp s' c ≡ true
rough_after (Ok x) r r' s s' b fact rough tells updates none same others marked kept = fact_set key_cmp same_key r r' s s' b fact rough tells updates others marked kept
rough_after (Err x) r r' s s' b fact rough tells updates none same others marked kept = fact_refused key_cmp same_key r r' s s' b none same others kept

-- ---- a row less

pub turned_less : (o : Option (Key × Fact)) (r r' : BTreeMap Key Fact) (s : BTreeSet Turned) → IfSome o (λ p. Updates key_cmp r r' p.0 None) → IfNone o (r'.entries ≡ r.entries) →
    ((c : Key) → is_some (get key_cmp r c) ≡ true → contains turned_cmp s (turn c) ≡ true) → (c : Key) → is_some (get key_cmp r' c) ≡ true → contains turned_cmp s (turn c) ≡ true
turned_less None r r' s updates same kept c is = kept c (sym (ap (λ es. is_some (lookup (is_at (key_cmp c)) es)) same) ∙ is)
turned_less (Some p) r r' s updates same kept c is = kept c (still (is_at (key_cmp p.0) c) (get key_cmp r c) (sym (ap is_some (updates.0 c)) ∙ is))
  where
    still : (b : Bool) (o : Option Fact) → is_some (cond b None o) ≡ true → is_some o ≡ true
    still true o is = cc
    still false o is = is

pub rough_less : {K : Type 0} (cmp : K → K → Ordering) (o : Option (K × Fact)) (r r' : BTreeMap K Fact) (s : BTreeSet K) → IfSome o (λ p. Updates cmp r r' p.0 None) → IfNone o (r'.entries ≡ r.entries) →
    ((c : K) → is_rough_at (get cmp r c) ≡ true → contains cmp s c ≡ true) → (c : K) → is_rough_at (get cmp r' c) ≡ true → contains cmp s c ≡ true
rough_less cmp None r r' s updates same kept c is = kept c (sym (ap (λ es. is_rough_at (lookup (is_at (cmp c)) es)) same) ∙ is)
rough_less cmp (Some p) r r' s updates same kept c is = kept c (still (is_at (cmp p.0) c) (get cmp r c) (sym (ap is_rough_at (updates.0 c)) ∙ is))
  where
    still : (b : Bool) (o : Option Fact) → is_rough_at (cond b None o) ≡ true → is_rough_at o ≡ true
    still true o is = cc
    still false o is = is

-- there was none
pub empty_less : {K : Type 0} (cmp : K → K → Ordering) (o : Option (K × Fact)) (r : BTreeMap K Fact) → (IsSome o ↔ (0 < length r.entries)) → IfNone o ((c : K) → get cmp r c ≡ None)
empty_less cmp (Some p) r variant = tt
empty_less {K} cmp None r variant = λ c. ap (lookup (is_at (cmp c))) (at r.entries refl)
  where
    wrong : false ≡ true → ⊥
    wrong both = cc

    at : (es : List (K × Fact)) → r.entries ≡ es → r.entries ≡ []
    at [] is = is
    at (e ∷ es) is = absurd (wrong (variant.1 (subst (λ (l : List (K × Fact)). 0 < length l) (sym is) (omega arith))))

-- no fact is there
pub none_in : {K : Type 0} (cmp : K → K → Ordering) (r : BTreeMap K Fact) → btree_map_len r ≡ 0 → (c : K) → get cmp r c ≡ None
none_in {K} cmp r none c = ap (lookup (is_at (cmp c))) (at r.entries refl)
  where
    at : (es : List (K × Fact)) → r.entries ≡ es → r.entries ≡ []
    at [] is = is
    at (e ∷ es) is = absurd (let some = ap length is in omega (arith, none, some))

-- a key whose turned key is not in the set has no fact
pub turned_absent : (rows : Key → Option Fact) (in_set : Turned → Bool) (b : Key) (t : Turned) → t ≡ turn b → ((k : Key) → is_some (rows k) ≡ true → in_set (turn k) ≡ true) → in_set t ≡ false → rows b ≡ None
turned_absent rows in_set b t turned kept absent = at (rows b) refl
  where
    at : (o : Option Fact) → rows b ≡ o → o ≡ None
    at None is = refl
    at (Some fact) is = absurd (let clash : true ≡ false = sym (kept b (ap is_some is)) ∙ ap in_set (sym turned) ∙ absent in cc)
