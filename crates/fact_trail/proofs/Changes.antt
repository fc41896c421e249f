-- Changes on a trail, and the facts after each number of them.
use Rattle.std.proofs.Common.{◌≡◌, ◌≤◌, ◌<◌, ◌+◌, ℕ, Option, Some, None, Bool, true, false, List, [], ◌∷◌, ◌++◌, drop, length, refl, sym, ap, ◌∙◌, inl, inr, ◌⊎◌, IsTrue, ◌↔◌, if◌then◌else◌, arith}
use Rattle.std.specs.Option.{is_some}
use Rattle.std.specs.Ordering.{nat_cmp}
use Rattle.std.specs.BTreeMap.{btree_map_len}
use Rattle.std.proofs.lemmas.Bool.{cases_lt}
use Rattle.std.proofs.lemmas.List.{drop-append-le, length-append}
use Rattle.std.proofs.Math.ListN.{drop_of_length-le}
use Rattle.fact_trail.specs.declared.fact.Fact.{Fact}
use Rattle.fact_trail.specs.declared.class_facts.ClassFacts.{ClassFacts}
use Rattle.fact_trail.specs.declared.variables.Variables.{Variables}
use Rattle.fact_trail.specs.declared.properties.Properties.{Properties}
use Rattle.fact_trail.specs.declared.trail.Trail.{Trail}
use Rattle.fact_trail.specs.declared.trail.Change.{Change}
use Rattle.fact_trail.specs.declared.trail.Change.TheVariants.{At, Variables as all_variables}
use Rattle.fact_trail.specs.declared.slot.Slot.TheVariants.{Variable, Property}
use Rattle.fact_trail.specs.Rows.{variables_of, class_facts_of, properties_of}
use Rattle.fact_trail.specs.Slots.{Key, Slot, Map, at_slot, is_slot, is_class, is_variable, without}
use Rattle.fact_trail.specs.Moments.{map_of, map_at, with_class, with_properties, before, undone, KeepsMoments, IsNew, IsQuiet, AreQuiet, Adds, Drops, TakesBack, IsSame}
use Rattle.fact_trail.proofs.Same.{same_slot}
use Rattle.fact_trail.proofs.Kept.{none_in}
use Rattle.fact_trail.proofs.Dropped.{all_dropped, nothing_dropped, class_dropped}

pub undone_end : (es : List Change) (e : Change) (m : Map) → undone (es ++ e ∷ []) m ≡ undone es (before e m)
undone_end [] e m = refl
undone_end (x ∷ es) e m = ap (before x) (undone_end es e m)

-- one change more at the end, which takes the facts now to those before it
pub one_more : (xs ys : List Change) (e : Change) (m n : Map) → ys ≡ xs ++ e ∷ [] → before e n ≡ m → (k : ℕ) → k ≤ length xs → undone (drop k ys) n ≡ undone (drop k xs) m
one_more xs ys e m n are back k within =
    ap (λ l. undone (drop k l) n) are ∙ ap (λ l. undone l n) (drop-append-le k xs (e ∷ []) within) ∙ undone_end (drop k xs) e n ∙ ap (undone (drop k xs)) back

-- what a slot had, put back
pub put_back : (s : Slot) (v : Option Fact) (m n : Map) → n ≡ at_slot s v m → at_slot s (m s) n ≡ m
put_back s v m n is = λ i q. at q (is_slot s q) refl i
  where
    at : (q : Slot) (b : Bool) → is_slot s q ≡ b → (if b then m s else n q) ≡ m q
    at q true same = ap m (same_slot s q same)
    at q false other = ap (λ (l : Map). l q) is ∙ ap (λ b. if b then v else m q) other

-- a change at a slot, with what it had
pub one_at : (xs ys : List Change) (s : Slot) (v was : Option Fact) (m n : Map) → ys ≡ xs ++ At s was ∷ [] → was ≡ m s → n ≡ at_slot s v m → (k : ℕ) → k ≤ length xs →
    undone (drop k ys) n ≡ undone (drop k xs) m
one_at xs ys s v was m n are had is = one_more xs ys (At s was) m n are ((λ i. at_slot s (had i) n) ∙ put_back s v m n is)

-- the facts now, where all changes are behind
pub map_at_end : (xs : List Change) (n : ℕ) (m : Map) → length xs ≤ n → undone (drop n xs) m ≡ m
map_at_end xs n m few = ap (λ l. undone l m) (drop_of_length-le xs few)

pub absent : {A : Type 0} (o : Option A) → is_some o ≡ false → o ≡ None
absent None is = refl
absent (Some x) is = cc

-- a slot that has no fact now, and had none, has had none: where at most one change was made
pub still_new : (old new : Trail) (s : Slot) → KeepsMoments (length old.changes.items) old new → length new.changes.items ≤ length old.changes.items + 1 → map_of new s ≡ None → IsNew s old → IsNew s new
still_new old new s keeps few none fresh n = at (cases_lt (length old.changes.items) n)
  where
    at : ((length old.changes.items < n) ⊎ (n ≤ length old.changes.items)) → is_some (map_at n new s) ≡ false
    at (inr within) = ap (λ (m : Map). is_some (m s)) (keeps n within) ∙ fresh n
    at (inl beyond) = ap (λ (m : Map). is_some (m s)) (map_at_end new.changes.items n (map_of new) (omega (arith, few, beyond))) ∙ ap is_some none

-- a slot that never had a fact has none now
pub none_now : (f : Trail) (s : Slot) → IsNew s f → map_of f s ≡ None
none_now f s fresh = absent (map_of f s) (sym (ap (λ (m : Map). is_some (m s)) (map_at_end f.changes.items (length f.changes.items) (map_of f) (omega arith))) ∙ fresh (length f.changes.items))

-- where nothing was changed and there is no fact, there was none
pub fresh_at_first : (f : Trail) (s : Slot) → f.changes.items ≡ [] → map_of f s ≡ None → IsNew s f
fresh_at_first f s nothing none n = ap (λ (m : Map). is_some (m s)) (map_at_end f.changes.items n (map_of f) (omega (arith, ap length nothing))) ∙ ap is_some none

none_where : (b : Bool) (o : Option Fact) → o ≡ None → (if b then None else o) ≡ None
none_where true o is = refl
none_where false o is = is

-- facts that are dropped with one change more
pub drops_one : (gone : Slot → Bool) (e : Change) (old new : Trail) → new.changes.items ≡ old.changes.items ++ e ∷ [] → map_of new ≡ without gone (map_of old) → before e (map_of new) ≡ map_of old → Drops gone old new
drops_one gone e old new are is back =
    let keeps : KeepsMoments (length old.changes.items) old new = one_more old.changes.items new.changes.items e (map_of old) (map_of new) are back in
    let more : length new.changes.items ≡ length old.changes.items + 1 = ap length are ∙ length-append old.changes.items (e ∷ []) in
    record {
      facts = is;
      longer = omega (arith, more);
      moments = keeps;
      fresh = λ s was. still_new old new s keeps (omega (arith, more)) (ap (λ (m : Map). m s) is ∙ none_where (gone s) (map_of old s) (none_now old s was)) was;
    }

-- the fact at a slot that is dropped
pub drops_at : (s : Slot) (was : Option Fact) (old new : Trail) → new.changes.items ≡ old.changes.items ++ At s was ∷ [] → was ≡ map_of old s → map_of new ≡ at_slot s None (map_of old) → Drops (is_slot s) old new
drops_at s was old new are had is =
    drops_one (is_slot s) (At s was) old new are is ((λ i. at_slot s (had i) (map_of new)) ∙ put_back s None (map_of old) (map_of new) is)

-- nothing that is dropped was there
pub drops_none : (gone : Slot → Bool) (old new : Trail) → new.changes.items ≡ old.changes.items → map_of new ≡ without gone (map_of old) → map_of new ≡ map_of old → Drops gone old new
drops_none gone old new same is stays = record {
  facts = is;
  longer = omega (arith, ap length same);
  moments = λ n within. λ i. undone (drop n (same i)) (stays i);
  fresh = λ s was n. (λ i. is_some (undone (drop n (same i)) (stays i) s)) ∙ was n;
}

-- a slot that had none
pub drops_absent : (s : Slot) (was : Option Fact) (old new : Trail) → new.changes.items ≡ old.changes.items → was ≡ map_of old s → was ≡ None → map_of new ≡ at_slot s None (map_of old) → Drops (is_slot s) old new
drops_absent s was old new same had none is = drops_none (is_slot s) old new same is (nothing_dropped s (map_of old) (map_of new) is (sym had ∙ none))

-- a fact that is set with one change more
pub adds_one : (s : Slot) (v was : Option Fact) (old new : Trail) → new.changes.items ≡ old.changes.items ++ At s was ∷ [] → was ≡ map_of old s → map_of new ≡ at_slot s v (map_of old) → Adds s old new
adds_one s v was old new are had is =
    let keeps : KeepsMoments (length old.changes.items) old new = one_at old.changes.items new.changes.items s v was (map_of old) (map_of new) are had is in
    let more : length new.changes.items ≡ length old.changes.items + 1 = ap length are ∙ length-append old.changes.items (At s was ∷ []) in
    record {
      longer = omega (arith, more);
      moments = keeps;
      fresh = λ q other was. still_new old new q keeps (omega (arith, more)) (ap (λ (m : Map). m q) is ∙ ap (λ b. if b then v else map_of old q) other ∙ none_now old q was) was;
    }

-- nothing that is set
pub adds_none : (s : Slot) (old new : Trail) → new.changes.items ≡ old.changes.items → map_of new ≡ map_of old → Adds s old new
adds_none s old new same stays = record {
  longer = omega (arith, ap length same);
  moments = λ n within. λ i. undone (drop n (same i)) (stays i);
  fresh = λ q other was n. (λ i. is_some (undone (drop n (same i)) (stays i) q)) ∙ was n;
}

-- facts on some slots that were dropped so far, one by one
pub record Loses (gone : Slot → Bool) (old new : Trail) : Type 0 where
  pub others : (s : Slot) → gone s ≡ false → map_of new s ≡ map_of old s
  pub longer : length old.changes.items ≤ length new.changes.items
  pub moments : KeepsMoments (length old.changes.items) old new
  pub fresh : (s : Slot) → IsNew s old → IsNew s new

pub loses_itself : (gone : Slot → Bool) (f : Trail) → Loses gone f f
loses_itself gone f = record {
  others = λ s other. refl;
  longer = omega arith;
  moments = λ n within. refl;
  fresh = λ s was. was;
}

-- one more that is dropped
pub loses_more : (gone : Slot → Bool) (s : Slot) (a b c : Trail) → ((q : Slot) → gone q ≡ false → is_slot s q ≡ false) → Loses gone a b → Drops (is_slot s) b c → Loses gone a c
loses_more gone s a b c apart first second = record {
  others = λ q other. ap (λ (m : Map). m q) second.facts ∙ ap (λ b'. if b' then None else map_of b q) (apart q other) ∙ first.others q other;
  longer = omega (arith, first.longer, second.longer);
  moments = λ n within. second.moments n (omega (arith, within, first.longer)) ∙ first.moments n within;
  fresh = λ q was. second.fresh q (first.fresh q was);
}

-- all that were to be dropped are
pub all_lost : (gone : Slot → Bool) (a b : Trail) → Loses gone a b → ((s : Slot) → gone s ≡ true → map_of b s ≡ None) → Drops gone a b
all_lost gone a b lost none = record {
  facts = all_dropped gone (map_of a) (map_of b) lost.others none;
  longer = lost.longer;
  moments = lost.moments;
  fresh = lost.fresh;
}

-- all properties, put back
pub properties_back : (p : Properties) (m n : Map) → ((b : ℕ) → n (Variable b) ≡ m (Variable b)) → ((k : Key) → properties_of p k ≡ m (Property k)) → with_properties p n ≡ m
properties_back p m n variables properties = λ i s. at s i
  where
    at : (s : Slot) → with_properties p n s ≡ m s
    at (Variable b) = variables b
    at (Property k) = properties k

-- quiet changes give a slot no fact where it has none
pub quiet_undone : (s : Slot) (es : List Change) (m : Map) → AreQuiet s es → m s ≡ None → undone es m s ≡ None
quiet_undone s [] m quiet none = none
quiet_undone s (e ∷ es) m quiet none = quiet.0 (undone es m) (quiet_undone s es m quiet.1 none)

pub quiet_end : (s : Slot) (es : List Change) (e : Change) → AreQuiet s es → IsQuiet s e → AreQuiet s (es ++ e ∷ [])
quiet_end s [] e quiet one = (one, tt)
quiet_end s (x ∷ es) e quiet one = (quiet.0, quiet_end s es e quiet.1 one)

-- the last change taken back
pub one_less : (xs ys zs : List Change) (e : Change) (m n : Map) → ys ≡ xs ++ e ∷ [] → zs ≡ xs → n ≡ before e m → (k : ℕ) → k ≤ length zs → undone (drop k zs) n ≡ undone (drop k ys) m
one_less xs ys zs e m n are same made k within =
    (λ i. undone (drop k (same i)) (made i))
    ∙ sym (undone_end (drop k xs) e m)
    ∙ sym (ap (λ l. undone l m) (drop-append-le k xs (e ∷ []) (omega (arith, within, ap length same))))
    ∙ sym (ap (λ l. undone (drop k l) m) are)

-- what had no fact has none at the moments that are left
pub new_earlier : (old new : Trail) (s : Slot) → KeepsMoments (length new.changes.items) old new → IsNew s old → IsNew s new
new_earlier old new s keeps fresh n = at (cases_lt (length new.changes.items) n)
  where
    at : ((length new.changes.items < n) ⊎ (n ≤ length new.changes.items)) → is_some (map_at n new s) ≡ false
    at (inr within) = ap (λ (m : Map). is_some (m s)) (keeps n within) ∙ fresh n
    at (inl beyond) =
        ap (λ (m : Map). is_some (m s)) (map_at_end new.changes.items n (map_of new) (omega (arith, beyond)) ∙ sym (map_at_end new.changes.items (length new.changes.items) (map_of new) (omega arith)) ∙ keeps (length new.changes.items) (omega arith))
        ∙ fresh (length new.changes.items)

-- a change at a slot that has no fact where the slot had none
pub quiet_at : (s slot : Slot) (m : Map) → m s ≡ None → IsQuiet s (At slot (m slot))
quiet_at s slot m none n is = at (is_slot slot s) refl
  where
    at : (b : Bool) → is_slot slot s ≡ b → (if is_slot slot s then m slot else n s) ≡ None
    at true same = ap (λ b. if b then m slot else n s) same ∙ ap m (same_slot slot s same) ∙ none
    at false other = ap (λ b. if b then m slot else n s) other ∙ is

-- a slot that has what it had before
pub back_at : (slot : Slot) (v was : Option Fact) (old new : Trail) → new.changes.items ≡ old.changes.items → map_of new ≡ at_slot slot v (map_of old) → was ≡ map_of old slot → TakesBack (At slot v) (At slot was) old new
back_at slot v was old new same is had = record {
  made = is;
  after = sym ((λ i. at_slot slot (had i) (map_of new)) ∙ put_back slot v (map_of old) (map_of new) is);
  quiet = λ s none n here. ap (λ o. if is_slot slot s then o else n s) had ∙ quiet_at s slot (map_of old) none n here;
  changes = same;
}

-- what had no fact has none where nothing was changed
pub new_same : (old new : Trail) (s : Slot) → IsSame old new → IsNew s old → IsNew s new
new_same old new s same fresh n = (λ i. is_some (undone (drop n (same.1 i)) (same.0 i) s)) ∙ fresh n

-- ---- all variables of a class

-- the facts of a class are these, and the others stay
abbrev Replaces : ClassFacts → Variables → Variables → Type 0
Replaces facts old new = (b : ℕ) → variables_of new b ≡ (if is_class facts.constant b then class_facts_of facts b else variables_of old b)

-- these were there
abbrev AreThere : ClassFacts → ClassFacts → Variables → Type 0
AreThere facts were old = (b : ℕ) → variables_of old b ≡ (if is_class facts.constant b then class_facts_of were b else variables_of old b)

class_back : (facts were : ClassFacts) (old new : Variables) → Replaces facts old new → AreThere facts were old → were.constant ≡ facts.constant → (b : ℕ) → (if is_class were.constant b then class_facts_of were b else variables_of new b) ≡ variables_of old b
class_back facts were old new made was same b = ap (λ c. if is_class c b then class_facts_of were b else variables_of new b) same ∙ at (is_class facts.constant b) refl
  where
    at : (t : Bool) → is_class facts.constant b ≡ t → (if is_class facts.constant b then class_facts_of were b else variables_of new b) ≡ variables_of old b
    at true is = ap (λ t. if t then class_facts_of were b else variables_of new b) is ∙ sym (was b ∙ ap (λ t. if t then class_facts_of were b else variables_of old b) is)
    at false is = ap (λ t. if t then class_facts_of were b else variables_of new b) is ∙ made b ∙ ap (λ t. if t then class_facts_of facts b else variables_of old b) is

-- what was there leads back
class_led_back : (facts were : ClassFacts) (old new : Trail) → Replaces facts old.variables new.variables → AreThere facts were old.variables → were.constant ≡ facts.constant → new.properties ≡ old.properties → with_class were (map_of new) ≡ map_of old
class_led_back facts were old new made was same others = λ i s. at s i
  where
    at : (s : Slot) → with_class were (map_of new) s ≡ map_of old s
    at (Variable b) = class_back facts were old.variables new.variables made was same b
    at (Property k) = ap (λ p. properties_of p k) others

class_made : (facts : ClassFacts) (old new : Trail) → Replaces facts old.variables new.variables → new.properties ≡ old.properties → map_of new ≡ with_class facts (map_of old)
class_made facts old new made others = λ i s. at s i
  where
    at : (s : Slot) → map_of new s ≡ with_class facts (map_of old) s
    at (Variable b) = made b
    at (Property k) = ap (λ p. properties_of p k) others

none_made : (facts : ClassFacts) (constant : Bool) (old new : Trail) → ((b : ℕ) → class_facts_of facts b ≡ None) → facts.constant ≡ constant → Replaces facts old.variables new.variables → new.properties ≡ old.properties → map_of new ≡ without (is_variable constant) (map_of old)
none_made facts constant old new none same made others =
    class_dropped (map_of old) (map_of new) constant (λ b. made b ∙ (λ i. if is_class (same i) b then none b i else variables_of old.variables b)) (λ k. ap (λ p. properties_of p k) others)

-- the facts of a class are dropped with one change more
pub class_goes : (constant : Bool) (none were : ClassFacts) (old new : Trail) → ((b : ℕ) → class_facts_of none b ≡ None) → none.constant ≡ constant → Replaces none old.variables new.variables → AreThere none were old.variables → were.constant ≡ none.constant →
    new.properties ≡ old.properties → new.changes.items ≡ old.changes.items ++ all_variables were ∷ [] → Drops (is_variable constant) old new
class_goes constant none were old new empty is made was same others are =
    drops_one (is_variable constant) (all_variables were) old new are (none_made none constant old new empty is made others) (class_led_back none were old new made was same others)

-- there were none
pub class_stays : (constant : Bool) (none were : ClassFacts) (old new : Trail) → ((b : ℕ) → class_facts_of none b ≡ None) → none.constant ≡ constant → Replaces none old.variables new.variables → AreThere none were old.variables →
    (t : Bool) → (IsTrue t ↔ (btree_map_len were.rows ≡ 0)) → t ≡ true → new.properties ≡ old.properties → new.changes.items ≡ old.changes.items → Drops (is_variable constant) old new
class_stays constant none were old new empty is made was t tells nothing others are =
    drops_none (is_variable constant) old new are (none_made none constant old new empty is made others) (class_made none old new made others ∙ (λ i s. at s i))
  where
    at : (s : Slot) → with_class none (map_of old) s ≡ map_of old s
    at (Property k) = refl
    at (Variable b) = (λ i. if is_class none.constant b then (empty b ∙ sym (none_in nat_cmp were.rows (tells.0 nothing) b)) i else variables_of old.variables b) ∙ sym (was b)

-- a class that has what it had before
pub class_taken_back : (facts were : ClassFacts) (old new : Trail) → Replaces facts old.variables new.variables → AreThere facts were old.variables → were.constant ≡ facts.constant → new.properties ≡ old.properties → new.changes.items ≡ old.changes.items →
    TakesBack (all_variables facts) (all_variables were) old new
class_taken_back facts were old new made was same others are = record {
  made = class_made facts old new made others;
  after = sym (class_led_back facts were old new made was same others);
  quiet = λ s none m here. quiet s none m here;
  changes = are;
}
  where
    quiet : (s : Slot) → map_of old s ≡ None → (m : Map) → m s ≡ None → with_class were m s ≡ None
    quiet (Property k) none m here = here
    quiet (Variable b) none m here = ap (λ c. if is_class c b then class_facts_of were b else m (Variable b)) same ∙ at (is_class facts.constant b) refl
      where
        at : (t : Bool) → is_class facts.constant b ≡ t → (if is_class facts.constant b then class_facts_of were b else m (Variable b)) ≡ None
        at true is = ap (λ t. if t then class_facts_of were b else m (Variable b)) is ∙ sym (was b ∙ ap (λ t. if t then class_facts_of were b else variables_of old.variables b) is) ∙ none
        at false is = ap (λ t. if t then class_facts_of were b else m (Variable b)) is ∙ here
