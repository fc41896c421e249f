-- What the calls of a plain heap do to its lists.
use Rattle.std.proofs.Common.{◌≡◌, ℕ, zero, suc, ◌<◌, ◌≤◌, ◌+◌, ◌-◌, subst, Bool, true, false, cond, List, [], ◌∷◌, ◌++◌, length, set, slice_get, drop, replicate, refl, sym, ap, ◌∙◌, ⊎_elim, arith, Option, Some, None}
use Rattle.std.specs.Prelude.{is_some, unwrap_or, Result, Ok, Err, IfOk}
use Rattle.std.specs.Arc.{arc_value}
use Rattle.std.specs.declared.sync.Arc.{Arc}
use Rattle.std.proofs.lemmas.List.{replicate_more, map-append}
use Rattle.heap_core.specs.Meaning.{none_of, stamped, names}
use Rattle.heap_core.specs.Plain.{values, overlaid, staged_of}
use Rattle.heap_core.specs.PlainLaws.{none_some}
use Rattle.heap_core.proofs.Lists.{at_put, at_more, drop_step}
use Rattle.heap_core.proofs.Names.{names-skip, names-append, names-last}

-- a number below a bound is listed, unless one was
pub within_more : (ks more : List ℕ) (e n : ℕ) (b : Bool) → ((i k : ℕ) → slice_get ks i ≡ Some k → k < n) → e < n → more ≡ cond b ks (ks ++ e ∷ []) → (i k : ℕ) → slice_get more i ≡ Some k → k < n
within_more ks more e n b within below is i k h =
    elim b as (λ v. more ≡ cond v ks (ks ++ e ∷ []) → k < n) [
      | true ↦ λ same. within i k (ap (λ (l : List ℕ). slice_get l i) (sym same) ∙ h)
      | false ↦ λ longer. ⊎_elim (λ t. within i k t.1) (λ t. let is : e ≡ k = t.1 in omega arith) (at_more ks e k i (ap (λ (l : List ℕ). slice_get l i) (sym longer) ∙ h))
    ] is

-- no version is past the heap's
pub stamped-bounded : (v w : ℕ) (bs : List Bool) (ns : List ℕ) → w ≤ v → ((e n : ℕ) → slice_get ns e ≡ Some n → n ≤ w) → (e n : ℕ) → slice_get (stamped v bs ns) e ≡ Some n → n ≤ v
stamped-bounded v w [] ns up below e n at = let b = below e n at in omega arith
stamped-bounded v w (b ∷ bs) [] up below e n at = absurd (none_some n at)
stamped-bounded v w (true ∷ bs) (k ∷ ns) up below zero n at = let is : v ≡ n = (let z : Some v ≡ Some n = at in cc) in omega arith
stamped-bounded v w (false ∷ bs) (k ∷ ns) up below zero n at = let b = below zero n at in omega arith
stamped-bounded v w (b ∷ bs) (k ∷ ns) up below (suc e) n at = stamped-bounded v w bs ns up (λ i m h. below (suc i) m h) e n at

pub zeros-bounded : (ns : List ℕ) (k : ℕ) → ns ≡ replicate k 0 → (e n : ℕ) → slice_get ns e ≡ Some n → n ≤ 0
zeros-bounded ns k is e n at = zeros k e n (ap (λ (l : List ℕ). slice_get l e) (sym is) ∙ at)
  where
    zeros : (k e n : ℕ) → slice_get (replicate k 0) e ≡ Some n → n ≤ 0
    zeros zero e n h = absurd (none_some n h)
    zeros (suc k) zero n h = let is : 0 ≡ n = (let z : Some 0 ≡ Some n = h in cc) in omega arith
    zeros (suc k) (suc e) n h = zeros k e n h

module _ {P Z : Type 0} where
  pub staged_of-set : (xs : List (Option (Arc P Z))) (e : ℕ) (x : Option (Arc P Z)) → staged_of (set xs e x) ≡ set (staged_of xs) e (is_some x)
  staged_of-set [] e x = refl
  staged_of-set (y ∷ ys) zero x = refl
  staged_of-set (y ∷ ys) (suc e) x = ap (λ (l : List Bool). is_some y ∷ l) (staged_of-set ys e x)

  -- the first of the list is taken
  pub listed_rest : (xs : List (Option (Arc P Z))) (ks : List ℕ) (i e : ℕ) → slice_get ks i ≡ Some e
      → ((k : ℕ) → slice_get (staged_of xs) k ≡ Some true → names (drop i ks) k ≡ true)
      → (k : ℕ) → slice_get (staged_of (set xs e None)) k ≡ Some true → names (drop (i + 1) ks) k ≡ true
  listed_rest xs ks i e at rest k h = ⊎_elim
      (λ t. absurd (let z : false ≡ true = t.1 in cc))
      (λ t. names-skip e (drop (i + 1) ks) k t.0 (ap (λ (l : List ℕ). names l k) (sym (drop_step ks i e at)) ∙ rest k t.1))
      (at_put (staged_of xs) e k false true (ap (λ (l : List Bool). slice_get l k) (sym (staged_of-set xs e None)) ∙ h))

  -- one more pends, and is listed unless it was
  pub listed_more : (xs : List (Option (Arc P Z))) (ks more : List ℕ) (e : ℕ) (x : Arc P Z) (b : Bool)
      → ((k : ℕ) → slice_get (staged_of xs) k ≡ Some true → names ks k ≡ true) → slice_get (staged_of xs) e ≡ Some b → more ≡ cond b ks (ks ++ e ∷ [])
      → (k : ℕ) → slice_get (staged_of (set xs e (Some x))) k ≡ Some true → names more k ≡ true
  listed_more xs ks more e x b listed here is k h = ap (λ (l : List ℕ). names l k) is ∙ ⊎_elim
      (λ t. ap (names (cond b ks (ks ++ e ∷ []))) t.0 ∙ (elim b as (λ v. slice_get (staged_of xs) e ≡ Some v → names (cond v ks (ks ++ e ∷ [])) e ≡ true) [ true ↦ λ at. listed e at | false ↦ λ _. names-last ks e ] here))
      (λ t. elim b as (λ v. names (cond v ks (ks ++ e ∷ [])) k ≡ true) [ true ↦ listed k t.1 | false ↦ names-append ks e k (listed k t.1) ])
      (at_put (staged_of xs) e k true true (ap (λ (l : List Bool). slice_get l k) (sym (staged_of-set xs e (Some x))) ∙ h))

  -- where none is listed, none pends
  pub none_listed : (xs : List (Option (Arc P Z))) → ((k : ℕ) → slice_get (staged_of xs) k ≡ Some true → names [] k ≡ true) → (e : ℕ) → e < length xs → slice_get xs e ≡ Some None
  none_listed [] rest e h = absurd (omega arith)
  none_listed (None ∷ xs) rest zero h = refl
  none_listed (Some x ∷ xs) rest zero h = absurd (let z : false ≡ true = rest 0 refl in cc)
  none_listed (x ∷ xs) rest (suc e) h = none_listed xs (λ k t. rest (suc k) t) e (omega arith)

  -- one more payload is staged
  pub overlaid-set : (cs : List (Arc P Z)) (xs : List (Option (Arc P Z))) (e : ℕ) (x : Arc P Z) → e < length cs → length xs ≡ length cs → overlaid cs (set xs e (Some x)) ≡ set (overlaid cs xs) e (arc_value x)
  overlaid-set [] xs e x h s = absurd (omega arith)
  overlaid-set (c ∷ cs) [] e x h s = absurd (omega arith)
  overlaid-set (c ∷ cs) (y ∷ ys) zero x h s = refl
  overlaid-set (c ∷ cs) (y ∷ ys) (suc e) x h s = ap (λ (l : List P). arc_value (unwrap_or y c) ∷ l) (overlaid-set cs ys e x (omega arith) (omega arith))

  -- a payload that is moved over the committed one is still the latest
  pub overlaid-moved : (cs : List (Arc P Z)) (xs : List (Option (Arc P Z))) (e : ℕ) (c : Arc P Z) (x : Option (Arc P Z)) → slice_get cs e ≡ Some c → slice_get xs e ≡ Some x → overlaid (set cs e (unwrap_or x c)) (set xs e None) ≡ overlaid cs xs
  overlaid-moved [] xs e c x h k = absurd (none_some c h)
  overlaid-moved (d ∷ cs) [] e c x h k = absurd (none_some x k)
  overlaid-moved (d ∷ cs) (y ∷ ys) zero c x h k = let a : c ≡ d = (let q : Some d ≡ Some c = h in cc) in let b : x ≡ y = (let q : Some y ≡ Some x = k in cc) in λ j. arc_value (unwrap_or (b j) (a j)) ∷ overlaid cs ys
  overlaid-moved (d ∷ cs) (y ∷ ys) (suc e) c x h k = ap (λ (l : List P). arc_value (unwrap_or y d) ∷ l) (overlaid-moved cs ys e c x h k)

  pub stamped-moved : (v : ℕ) (xs : List (Option (Arc P Z))) (ns : List ℕ) (e n : ℕ) (x : Option (Arc P Z)) → slice_get ns e ≡ Some n → slice_get xs e ≡ Some x → stamped v (staged_of (set xs e None)) (set ns e (cond (is_some x) v n)) ≡ stamped v (staged_of xs) ns
  stamped-moved v [] ns e n x h k = absurd (none_some x k)
  stamped-moved v (y ∷ ys) [] e n x h k = absurd (none_some n h)
  stamped-moved v (y ∷ ys) (m ∷ ns) zero n x h k = let a : n ≡ m = (let q : Some m ≡ Some n = h in cc) in let b : x ≡ y = (let q : Some y ≡ Some x = k in cc) in λ j. cond (is_some (b j)) v (a j) ∷ stamped v (staged_of ys) ns
  stamped-moved v (y ∷ ys) (m ∷ ns) (suc e) n x h k = ap (λ (l : List ℕ). cond (is_some y) v m ∷ l) (stamped-moved v ys ns e n x h k)

  -- where nothing is staged
  pub overlaid-none : (cs : List (Arc P Z)) (xs : List (Option (Arc P Z))) → ((k : ℕ) → k < length xs → slice_get xs k ≡ Some None) → overlaid cs xs ≡ values cs
  overlaid-none [] xs none = refl
  overlaid-none (c ∷ cs) [] none = refl
  overlaid-none (c ∷ cs) (x ∷ xs) none =
      let is : x ≡ None = (let k : Some x ≡ Some None = none 0 (omega arith) in cc) in
      (λ j. arc_value (unwrap_or (is j) c) ∷ overlaid-none cs xs (λ k h. none (suc k) (omega arith)) j)

  pub stamped-none : (v : ℕ) (xs : List (Option (Arc P Z))) (ns : List ℕ) → ((k : ℕ) → k < length xs → slice_get xs k ≡ Some None) → stamped v (staged_of xs) ns ≡ ns
  stamped-none v [] ns none = refl
  stamped-none v (x ∷ xs) [] none = refl
  stamped-none v (x ∷ xs) (n ∷ ns) none =
      let is : x ≡ None = (let k : Some x ≡ Some None = none 0 (omega arith) in cc) in
      (λ j. cond (is_some (is j)) v n ∷ stamped-none v xs ns (λ k h. none (suc k) (omega arith)) j)

  pub staged_of_none : (xs : List (Option (Arc P Z))) → ((k : ℕ) → k < length xs → slice_get xs k ≡ Some None) → staged_of xs ≡ none_of (staged_of xs)
  staged_of_none [] none = refl
  staged_of_none (x ∷ xs) none =
      let is : x ≡ None = (let k : Some x ≡ Some None = none 0 (omega arith) in cc) in
      (λ j. is_some (is j) ∷ staged_of_none xs (λ k h. none (suc k) (omega arith)) j)

  pub overlaid-at : (cs : List (Arc P Z)) (xs : List (Option (Arc P Z))) (e : ℕ) (c : Arc P Z) (x : Option (Arc P Z)) → slice_get cs e ≡ Some c → slice_get xs e ≡ Some x → slice_get (overlaid cs xs) e ≡ Some (arc_value (unwrap_or x c))
  overlaid-at [] xs e c x h k = absurd (none_some c h)
  overlaid-at (d ∷ cs) [] e c x h k = absurd (none_some x k)
  overlaid-at (d ∷ cs) (y ∷ ys) zero c x h k = let a : d ≡ c = (let q : Some d ≡ Some c = h in cc) in let b : y ≡ x = (let q : Some y ≡ Some x = k in cc) in (λ j. Some (arc_value (unwrap_or (b j) (a j))))
  overlaid-at (d ∷ cs) (y ∷ ys) (suc e) c x h k = overlaid-at cs ys e c x h k

  pub latest-at : {E : Type 0} (r : Result (Arc P Z) E) (cs : List (Arc P Z)) (xs : List (Option (Arc P Z))) (e : ℕ) (c : Arc P Z) (x : Option (Arc P Z)) → slice_get cs e ≡ Some c → slice_get xs e ≡ Some x → IfOk r (λ p. arc_value p ≡ arc_value (unwrap_or x c)) → IfOk r (λ p. slice_get (overlaid cs xs) e ≡ Some (arc_value p))
  latest-at (Ok p) cs xs e c x h k is = overlaid-at cs xs e c x h k ∙ ap Some (sym is)
  latest-at (Err f) cs xs e c x h k is = tt

  -- what is staged shows that a transaction is open
  pub open_where_staged : (b : Bool) (xs : List (Option (Arc P Z))) (e : ℕ) → (b ≡ false → staged_of xs ≡ none_of (staged_of xs)) → slice_get (staged_of xs) e ≡ Some true → b ≡ true
  open_where_staged true xs e closed h = refl
  open_where_staged false xs e closed h = absurd (never (staged_of xs) e (ap (λ (l : List Bool). slice_get l e) (sym (closed refl)) ∙ h))
    where
      never : (bs : List Bool) (e : ℕ) → slice_get (none_of bs) e ≡ Some true → ⊥
      never [] e h = none_some true h
      never (b ∷ bs) zero h = (let k : Some false ≡ Some true = h in cc)
      never (b ∷ bs) (suc e) h = never bs e h

  pub staged_of-at : (xs : List (Option (Arc P Z))) (e : ℕ) (x : Option (Arc P Z)) → slice_get xs e ≡ Some x → slice_get (staged_of xs) e ≡ Some (is_some x)
  staged_of-at [] e x h = absurd (none_some x h)
  staged_of-at (y ∷ ys) zero x h = ap (λ (o : Option (Arc P Z)). Some (is_some o)) (let k : Some y ≡ Some x = h in cc)
  staged_of-at (y ∷ ys) (suc e) x h = staged_of-at ys e x h

  -- where nothing is staged any more
  pub staged_of-same : (xs ys : List (Option (Arc P Z))) → length xs ≡ length ys → ((k : ℕ) → k < length ys → slice_get ys k ≡ Some None) → staged_of ys ≡ none_of (staged_of xs)
  staged_of-same [] [] s empty = refl
  staged_of-same [] (y ∷ ys) s empty = absurd (omega arith)
  staged_of-same (x ∷ xs) [] s empty = absurd (omega arith)
  staged_of-same (x ∷ xs) (y ∷ ys) s empty =
      let is : y ≡ None = (let k : Some y ≡ Some None = empty 0 (omega arith) in cc) in
      (λ j. is_some (is j) ∷ staged_of-same xs ys (omega arith) (λ k h. empty (suc k) (omega arith)) j)

  pub values-at : (cs : List (Arc P Z)) (e : ℕ) (c : Arc P Z) → slice_get cs e ≡ Some c → slice_get (values cs) e ≡ Some (arc_value c)
  values-at [] e c h = absurd (none_some c h)
  values-at (d ∷ cs) zero c h = let same : d ≡ c = (let q : Some d ≡ Some c = h in cc) in ap (λ (z : Arc P Z). Some (arc_value z)) same
  values-at (d ∷ cs) (suc e) c h = values-at cs e c h

  -- where none pends, each that pends is listed
  pub never_pends : (xs : List (Option (Arc P Z))) → ((e : ℕ) → e < length xs → slice_get xs e ≡ Some None) → (k : ℕ) → slice_get (staged_of xs) k ≡ Some true → ⊥
  never_pends [] none k h = none_some true h
  never_pends (None ∷ xs) none zero h = (let z : Some false ≡ Some true = h in cc)
  never_pends (Some x ∷ xs) none zero h = (let z : Some (Some x) ≡ Some None = none 0 (omega arith) in cc)
  never_pends (x ∷ xs) none (suc k) h = never_pends xs (λ e l. none (suc e) (omega arith)) k h

  pub listed_none : (xs : List (Option (Arc P Z))) (ks : List ℕ) → ((e : ℕ) → e < length xs → slice_get xs e ≡ Some None) → (k : ℕ) → slice_get (staged_of xs) k ≡ Some true → names ks k ≡ true
  listed_none xs ks none k h = absurd (never_pends xs none k h)

  -- a heap that has just been opened
  abbrev pub nothing : ℕ → List (Option (Arc P Z))
  nothing n = replicate n None

staged_of-nothing : (P Z : Type 0) (n : ℕ) → staged_of (nothing {P = P} {Z = Z} n) ≡ replicate n false
staged_of-nothing P Z zero = refl
staged_of-nothing P Z (suc n) = ap (λ (l : List Bool). false ∷ l) (staged_of-nothing P Z n)

get-nothing : (P Z : Type 0) (n e : ℕ) → e < length (nothing {P = P} {Z = Z} n) → slice_get (nothing {P = P} {Z = Z} n) e ≡ Some None
get-nothing P Z zero e h = absurd (omega arith)
get-nothing P Z (suc n) zero h = refl
get-nothing P Z (suc n) (suc e) h = get-nothing P Z n e (omega arith)

module _ {P Z : Type 0} where
  overlaid-nothing : (cs : List (Arc P Z)) (n : ℕ) → overlaid cs (nothing n) ≡ values cs
  overlaid-nothing [] n = refl
  overlaid-nothing (c ∷ cs) zero = refl
  overlaid-nothing (c ∷ cs) (suc n) = ap (λ (l : List P). arc_value c ∷ l) (overlaid-nothing cs n)

  pub none_pends : (xs : List (Option (Arc P Z))) (n : ℕ) → xs ≡ nothing n → (e : ℕ) → e < length xs → slice_get xs e ≡ Some None
  none_pends xs n is = subst (λ (l : List (Option (Arc P Z))). (e : ℕ) → e < length l → slice_get l e ≡ Some None) (sym is) (get-nothing P Z n)

  -- nothing is staged over the first payloads
  pub nothing_over : (cs : List (Arc P Z)) (xs : List (Option (Arc P Z))) (n : ℕ) → xs ≡ nothing n → overlaid cs xs ≡ values cs
  nothing_over cs xs n none = ap (overlaid cs) none ∙ overlaid-nothing cs n

  pub nothing_staged : (xs : List (Option (Arc P Z))) (n : ℕ) → xs ≡ nothing n → staged_of xs ≡ replicate n false
  nothing_staged xs n none = ap staged_of none ∙ staged_of-nothing P Z n

  -- one more payload of the opening state
  pub state_more : (cs more : List (Arc P Z)) (c : Arc P Z) (root x : P) (i : ℕ) → 1 ≤ i → values cs ≡ root ∷ replicate (i - 1) x → more ≡ cs ++ c ∷ [] → arc_value c ≡ x → values more ≡ root ∷ replicate (i + 1 - 1) x
  state_more cs more c root x i one so_far is copy = let next : (i - 1) + 1 ≡ i + 1 - 1 = omega arith in
      ap values is ∙ (map-append arc_value cs (c ∷ []) ∙ ((λ j. so_far j ++ copy j ∷ []) ∙ ap (λ (l : List P). root ∷ l) (replicate_more (i - 1) x ∙ ap (λ k. replicate k x) next)))
