-- Facts on variables by their classes.
use Rattle.std.proofs.Common.{◌≡◌, ◌≤◌, ◌<◌, ℕ, Bool, true, false, not, [], Option, Some, None, MatchOption, Result, Ok, Err, OnOk, OnErr, nat_lt, refl, sym, ap, ◌∙◌, subst, cond, if◌then◌else◌, arith}
use Rattle.std.specs.Map.{lookup}
use Rattle.std.specs.Option.{is_some, IfSome, IfNone}
use Rattle.std.specs.Ordering.{nat_cmp}
use Rattle.std.specs.BTreeMap.{BTreeMap, get, is_at, Updates}
use Rattle.std.proofs.lemmas.Bool.Decides.{nat_tests}
use Rattle.flow_facts.specs.Known.{is_constant_number}
use Rattle.fact_trail.specs.declared.fact.Fact.{Fact}
use Rattle.fact_trail.specs.declared.class_facts.ClassFacts.{ClassFacts}
use Rattle.fact_trail.specs.declared.variables.Variables.{Variables}
use Rattle.fact_trail.specs.Slots.{is_number, at_number, is_class, first_of}
use Rattle.fact_trail.specs.Rows.{variables_of, class_facts_of}
use Rattle.fact_trail.proofs.Same.{same_number}

-- ---- all facts are of the class

-- those that are there are of the class
abbrev HasOwn : Bool → BTreeMap ℕ Fact → Type 0
HasOwn constant r = (b : ℕ) → is_some (get nat_cmp r b) ≡ true → is_class constant b ≡ true

pub own_none : (r : BTreeMap ℕ Fact) (constant : Bool) → r.entries ≡ [] → HasOwn constant r
own_none r constant empty b is = absurd (let clash : true ≡ false = sym is ∙ ap (λ es. is_some (lookup (is_at (nat_cmp b)) es)) empty in cc)

own_set : (r r' : BTreeMap ℕ Fact) (constant : Bool) (b : ℕ) (fact : Fact) → is_class constant b ≡ true → Updates nat_cmp r r' b (Some fact) → HasOwn constant r → HasOwn constant r'
own_set r r' constant b fact here updates kept q is = at (is_number b q) refl
  where
    at : (t : Bool) → is_number b q ≡ t → is_class constant q ≡ true
    at true same = ap (is_class constant) (sym (same_number b q same)) ∙ here
    at false other = kept q (sym (ap is_some (updates.2 q other)) ∙ is)

own_same : (r r' : BTreeMap ℕ Fact) (constant : Bool) → r'.entries ≡ r.entries → HasOwn constant r → HasOwn constant r'
own_same r r' constant same kept q is = kept q (sym (ap (λ es. is_some (lookup (is_at (nat_cmp q)) es)) same) ∙ is)

-- a fact is set, or refused
pub own_after : {T E : Type 0} (result : Result T E) (r r' : BTreeMap ℕ Fact) (constant : Bool) (b : ℕ) (fact : Fact) → is_class constant b ≡ true → OnOk result (Updates nat_cmp r r' b (Some fact)) → OnErr result (r'.entries ≡ r.entries) →
    HasOwn constant r → HasOwn constant r'
own_after (Ok x) r r' constant b fact here updates same kept = own_set r r' constant b fact here updates kept
own_after (Err x) r r' constant b fact here updates same kept = own_same r r' constant same kept

still : (b : Bool) (o : Option Fact) → is_some (cond b None o) ≡ true → is_some o ≡ true
still true o is = cc
still false o is = is

pub own_unset : (r r' : BTreeMap ℕ Fact) (constant : Bool) (b : ℕ) → Updates nat_cmp r r' b None → HasOwn constant r → HasOwn constant r'
own_unset r r' constant b updates kept q is = kept q (still (is_at (nat_cmp b) q) (get nat_cmp r q) (sym (ap is_some (updates.0 q)) ∙ is))

pub own_less : (o : Option (ℕ × Fact)) (r r' : BTreeMap ℕ Fact) (constant : Bool) → IfSome o (λ p. Updates nat_cmp r r' p.0 None) → IfNone o (r'.entries ≡ r.entries) → HasOwn constant r → HasOwn constant r'
own_less None r r' constant updates same kept = own_same r r' constant same kept
own_less (Some p) r r' constant updates same kept = own_unset r r' constant p.0 updates kept

-- a row that is there is of the class
pub own_row : (o : Option (ℕ × Fact)) (r : BTreeMap ℕ Fact) (constant : Bool) → IfSome o (λ p. get nat_cmp r p.0 ≡ Some p.1) → HasOwn constant r → IfSome o (λ p. is_class constant p.0 ≡ true)
own_row None r constant was kept = tt
own_row (Some p) r constant was kept = kept p.0 (ap is_some was)

-- ---- both classes

-- facts on constants, and on other variables
abbrev both : (ℕ → Option Fact) → (ℕ → Option Fact) → ℕ → Option Fact
both c d q = if is_constant_number q then c q else d q

none_both : (c d : ℕ → Option Fact) (q : ℕ) → c q ≡ None → d q ≡ None → both c d q ≡ None
none_both c d q one two = at (is_constant_number q)
  where
    at : (t : Bool) → (if t then c q else d q) ≡ None
    at true = one
    at false = two

pub none_in_both : (v : Variables) → ((b : ℕ) → class_facts_of v.constants b ≡ None) → ((b : ℕ) → class_facts_of v.changing b ≡ None) → (b : ℕ) → variables_of v b ≡ None
none_in_both v one two b = none_both (class_facts_of v.constants) (class_facts_of v.changing) b (one b) (two b)

wrong : true ≡ false → ⊥
wrong e = cc

-- what holds of the fact of a variable, by the class
pub by_class : {X : Type 0} (p : Option Fact → Bool) (v : Variables) (b : ℕ) → (p (class_facts_of v.constants b) ≡ true → X) → (p (class_facts_of v.changing b) ≡ true → X) → p (variables_of v b) ≡ true → X
by_class {X} p v b one two = at (is_constant_number b)
  where
    at : (t : Bool) → p (if t then class_facts_of v.constants b else class_facts_of v.changing b) ≡ true → X
    at true = one
    at false = two

-- numbers of two classes are two numbers
apart : (a b : ℕ) (k : Bool) → is_constant_number a ≡ k → is_constant_number b ≡ not k → is_number a b ≡ false
apart a b k one two = at (is_number a b) refl
  where
    differs : (k : Bool) → k ≡ not k → ⊥
    differs true e = cc
    differs false e = cc

    at : (t : Bool) → is_number a b ≡ t → t ≡ false
    at true same = absurd (differs k (sym one ∙ ap is_constant_number (same_number a b same) ∙ two))
    at false other = refl

-- a fact of one class is changed
pub changed_one : (c c' d d' : ℕ → Option Fact) (a : ℕ) (v : Option Fact) → is_constant_number a ≡ true → c' ≡ at_number a v c → d' ≡ d → both c' d' ≡ at_number a v (both c d)
changed_one c c' d d' a v here is same = λ i q. at q (is_constant_number q) refl i
  where
    at : (q : ℕ) (k : Bool) → is_constant_number q ≡ k → both c' d' q ≡ at_number a v (both c d) q
    at q true k = ap (λ t. if t then c' q else d' q) k ∙ ap (λ (f : ℕ → Option Fact). f q) is ∙ sym (ap (λ t. if is_number a q then v else (if t then c q else d q)) k)
    at q false k =
        ap (λ t. if t then c' q else d' q) k ∙ ap (λ (f : ℕ → Option Fact). f q) same
        ∙ sym (ap (λ t. if is_number a q then v else (if t then c q else d q)) k ∙ ap (λ t. if t then v else d q) (apart a q true here k))

pub changed_other : (c c' d d' : ℕ → Option Fact) (a : ℕ) (v : Option Fact) → is_constant_number a ≡ false → d' ≡ at_number a v d → c' ≡ c → both c' d' ≡ at_number a v (both c d)
changed_other c c' d d' a v here is same = λ i q. at q (is_constant_number q) refl i
  where
    at : (q : ℕ) (k : Bool) → is_constant_number q ≡ k → both c' d' q ≡ at_number a v (both c d) q
    at q false k = ap (λ t. if t then c' q else d' q) k ∙ ap (λ (f : ℕ → Option Fact). f q) is ∙ sym (ap (λ t. if is_number a q then v else (if t then c q else d q)) k)
    at q true k =
        ap (λ t. if t then c' q else d' q) k ∙ ap (λ (f : ℕ → Option Fact). f q) same
        ∙ sym (ap (λ t. if is_number a q then v else (if t then c q else d q)) k ∙ ap (λ t. if t then v else c q) (apart a q false here k))

pub changed_constant : (old new : Variables) (a : ℕ) (v : Option Fact) (k : Bool) → k ≡ is_constant_number a → k ≡ true → class_facts_of new.constants ≡ at_number a v (class_facts_of old.constants) → new.changing ≡ old.changing →
    variables_of new ≡ at_number a v (variables_of old)
changed_constant old new a v k tells holds is same =
    changed_one (class_facts_of old.constants) (class_facts_of new.constants) (class_facts_of old.changing) (class_facts_of new.changing) a v (sym tells ∙ holds) is (ap class_facts_of same)

pub changed_changing : (old new : Variables) (a : ℕ) (v : Option Fact) (k : Bool) → k ≡ is_constant_number a → k ≡ false → class_facts_of new.changing ≡ at_number a v (class_facts_of old.changing) → new.constants ≡ old.constants →
    variables_of new ≡ at_number a v (variables_of old)
changed_changing old new a v k tells fails is same =
    changed_other (class_facts_of old.constants) (class_facts_of new.constants) (class_facts_of old.changing) (class_facts_of new.changing) a v (sym tells ∙ fails) is (ap class_facts_of same)

-- the same, where memory may be refused
pub set_constant : {T E : Type 0} (r : Result T E) (old new : Variables) (a : ℕ) (v : Option Fact) (k : Bool) → k ≡ is_constant_number a → k ≡ true → OnOk r (class_facts_of new.constants ≡ at_number a v (class_facts_of old.constants)) → new.changing ≡ old.changing →
    OnOk r (variables_of new ≡ at_number a v (variables_of old))
set_constant (Ok x) old new a v k tells holds is same = changed_constant old new a v k tells holds is same
set_constant (Err x) old new a v k tells holds is same = tt

pub set_changing : {T E : Type 0} (r : Result T E) (old new : Variables) (a : ℕ) (v : Option Fact) (k : Bool) → k ≡ is_constant_number a → k ≡ false → OnOk r (class_facts_of new.changing ≡ at_number a v (class_facts_of old.changing)) → new.constants ≡ old.constants →
    OnOk r (variables_of new ≡ at_number a v (variables_of old))
set_changing (Ok x) old new a v k tells fails is same = changed_changing old new a v k tells fails is same
set_changing (Err x) old new a v k tells fails is same = tt

pub same_both : (c c' d d' : ℕ → Option Fact) → c' ≡ c → d' ≡ d → both c' d' ≡ both c d
same_both c c' d d' one two = λ i q. if is_constant_number q then one i q else two i q

pub same_constants : {T E : Type 0} (r : Result T E) (old new : Variables) → OnErr r (class_facts_of new.constants ≡ class_facts_of old.constants) → new.changing ≡ old.changing → OnErr r (variables_of new ≡ variables_of old)
same_constants (Ok x) old new is same = tt
same_constants (Err x) old new is same = same_both (class_facts_of old.constants) (class_facts_of new.constants) (class_facts_of old.changing) (class_facts_of new.changing) is (ap class_facts_of same)

pub same_changing : {T E : Type 0} (r : Result T E) (old new : Variables) → OnErr r (class_facts_of new.changing ≡ class_facts_of old.changing) → new.constants ≡ old.constants → OnErr r (variables_of new ≡ variables_of old)
same_changing (Ok x) old new is same = tt
same_changing (Err x) old new is same = same_both (class_facts_of old.constants) (class_facts_of new.constants) (class_facts_of old.changing) (class_facts_of new.changing) (ap class_facts_of same) is

-- the fact of a variable of a class
pub constant_at : (v : Variables) (a : ℕ) (k : Bool) → k ≡ is_constant_number a → k ≡ true → class_facts_of v.constants a ≡ variables_of v a
constant_at v a k tells holds = sym (ap (λ t. if t then class_facts_of v.constants a else class_facts_of v.changing a) (sym tells ∙ holds))

pub changing_at : (v : Variables) (a : ℕ) (k : Bool) → k ≡ is_constant_number a → k ≡ false → class_facts_of v.changing a ≡ variables_of v a
changing_at v a k tells fails = sym (ap (λ t. if t then class_facts_of v.constants a else class_facts_of v.changing a) (sym tells ∙ fails))

pub of_class : (constant : Bool) (a : ℕ) (k : Bool) → k ≡ is_constant_number a → constant ≡ k → is_class constant a ≡ true
of_class true a k tells is = sym (is ∙ tells)
of_class false a k tells is = ap not (sym (is ∙ tells))

-- ---- all facts of a class

abbrev replaced : ClassFacts → (ℕ → Option Fact) → ℕ → Option Fact
replaced facts m b = if is_class facts.constant b then class_facts_of facts b else m b

pub replaced_constants : (old new : Variables) (facts : ClassFacts) (k : Bool) → k ≡ facts.constant → k ≡ true → new.constants ≡ facts → new.changing ≡ old.changing → (b : ℕ) → variables_of new b ≡ replaced facts (variables_of old) b
replaced_constants old new facts k tells holds is same b = at (is_constant_number b) refl ∙ sym (ap (λ t. if is_class t b then class_facts_of facts b else variables_of old b) (sym tells ∙ holds))
  where
    at : (t : Bool) → is_constant_number b ≡ t → variables_of new b ≡ (if is_constant_number b then class_facts_of facts b else variables_of old b)
    at true t = ap (λ u. if u then class_facts_of new.constants b else class_facts_of new.changing b) t ∙ ap (λ c. class_facts_of c b) is ∙ sym (ap (λ u. if u then class_facts_of facts b else variables_of old b) t)
    at false t =
        ap (λ u. if u then class_facts_of new.constants b else class_facts_of new.changing b) t ∙ ap (λ c. class_facts_of c b) same
        ∙ sym (ap (λ u. if u then class_facts_of facts b else (if u then class_facts_of old.constants b else class_facts_of old.changing b)) t)

pub replaced_changing : (old new : Variables) (facts : ClassFacts) (k : Bool) → k ≡ facts.constant → k ≡ false → new.changing ≡ facts → new.constants ≡ old.constants → (b : ℕ) → variables_of new b ≡ replaced facts (variables_of old) b
replaced_changing old new facts k tells fails is same b = at (is_constant_number b) refl ∙ sym (ap (λ t. if is_class t b then class_facts_of facts b else variables_of old b) (sym tells ∙ fails))
  where
    at : (t : Bool) → is_constant_number b ≡ t → variables_of new b ≡ (if not (is_constant_number b) then class_facts_of facts b else variables_of old b)
    at false t = ap (λ u. if u then class_facts_of new.constants b else class_facts_of new.changing b) t ∙ ap (λ c. class_facts_of c b) is ∙ sym (ap (λ u. if not u then class_facts_of facts b else variables_of old b) t)
    at true t =
        ap (λ u. if u then class_facts_of new.constants b else class_facts_of new.changing b) t ∙ ap (λ c. class_facts_of c b) same
        ∙ sym (ap (λ u. if not u then class_facts_of facts b else (if u then class_facts_of old.constants b else class_facts_of old.changing b)) t)

-- what stood there is given
pub were_constants : (old : Variables) (facts were : ClassFacts) (k : Bool) → k ≡ facts.constant → k ≡ true → were ≡ old.constants → (b : ℕ) → variables_of old b ≡ (if is_class facts.constant b then class_facts_of were b else variables_of old b)
were_constants old facts were k tells holds is b = at (is_constant_number b) refl ∙ sym (ap (λ t. if is_class t b then class_facts_of were b else variables_of old b) (sym tells ∙ holds))
  where
    at : (t : Bool) → is_constant_number b ≡ t → variables_of old b ≡ (if is_constant_number b then class_facts_of were b else variables_of old b)
    at true t = ap (λ u. if u then class_facts_of old.constants b else class_facts_of old.changing b) t ∙ ap (λ c. class_facts_of c b) (sym is) ∙ sym (ap (λ u. if u then class_facts_of were b else variables_of old b) t)
    at false t = sym (ap (λ u. if u then class_facts_of were b else variables_of old b) t)

pub were_changing : (old : Variables) (facts were : ClassFacts) (k : Bool) → k ≡ facts.constant → k ≡ false → were ≡ old.changing → (b : ℕ) → variables_of old b ≡ (if is_class facts.constant b then class_facts_of were b else variables_of old b)
were_changing old facts were k tells fails is b = at (is_constant_number b) refl ∙ sym (ap (λ t. if is_class t b then class_facts_of were b else variables_of old b) (sym tells ∙ fails))
  where
    at : (t : Bool) → is_constant_number b ≡ t → variables_of old b ≡ (if not (is_constant_number b) then class_facts_of were b else variables_of old b)
    at false t = ap (λ u. if u then class_facts_of old.constants b else class_facts_of old.changing b) t ∙ ap (λ c. class_facts_of c b) (sym is) ∙ sym (ap (λ u. if not u then class_facts_of were b else variables_of old b) t)
    at true t = sym (ap (λ u. if not u then class_facts_of were b else variables_of old b) t)

-- ---- the first variable from a place on

-- none from a place on has a fact, or this is the first one that may
abbrev IsFirst : (ℕ → Type 0) → (ℕ → Option Fact) → Option ℕ → Type 0
IsFirst within m r = MatchOption r ((b : ℕ) → within b → m b ≡ None) (λ next. within next × ((b : ℕ) → within b → b < next → m b ≡ None))

first_both : (within : ℕ → Type 0) (c d : ℕ → Option Fact) (a b : Option ℕ) → IsFirst within c a → IsFirst within d b → IsFirst within (both c d) (first_of a b)
first_both within c d None None one two = λ q here. none_both c d q (one q here) (two q here)
first_both within c d (Some x) None one two = (one.0, λ q here before. none_both c d q (one.1 q here before) (two q here))
first_both within c d None (Some y) one two = (two.0, λ q here before. none_both c d q (one q here) (two.1 q here before))
first_both within c d (Some x) (Some y) one two = at (nat_lt y x) refl
  where
    at : (t : Bool) → nat_lt y x ≡ t → IsFirst within (both c d) (if t then Some y else Some x)
    at true is = (two.0, λ q here before. none_both c d q (one.1 q here (grind (arith, nat_tests))) (two.1 q here before))
    at false is = (one.0, λ q here before. none_both c d q (one.1 q here before) (two.1 q here (grind (arith, nat_tests))))

pub first_from : (low : ℕ) (v : Variables) (a b r : Option ℕ) → IsFirst (λ q. low ≤ q) (class_facts_of v.constants) a → IsFirst (λ q. low ≤ q) (class_facts_of v.changing) b → r ≡ first_of a b → IsFirst (λ q. low ≤ q) (variables_of v) r
first_from low v a b r one two is = subst (λ (o : Option ℕ). IsFirst (λ q. low ≤ q) (variables_of v) o) (sym is) (first_both (λ q. low ≤ q) (class_facts_of v.constants) (class_facts_of v.changing) a b one two)

pub first_after : (low : ℕ) (v : Variables) (a b r : Option ℕ) → IsFirst (λ q. low < q) (class_facts_of v.constants) a → IsFirst (λ q. low < q) (class_facts_of v.changing) b → r ≡ first_of a b → IsFirst (λ q. low < q) (variables_of v) r
first_after low v a b r one two is = subst (λ (o : Option ℕ). IsFirst (λ q. low < q) (variables_of v) o) (sym is) (first_both (λ q. low < q) (class_facts_of v.constants) (class_facts_of v.changing) a b one two)
