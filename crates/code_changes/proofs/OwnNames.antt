-- Names that are added to a set and taken out again.
use Rattle.std.proofs.Common.{◌≡◌, ℕ, ◌+◌, ◌<◌, ◌≤◌, Bool, true, false, not, ◌&&◌, ◌||◌, List, [], ◌∷◌, ◌++◌, length, take, get_or, take-suc, add-one, cond, bytes_eq, refl, sym, ap, ◌∙◌, append-nil}
use Rattle.std.specs.List.{list_any}
use Rattle.std.specs.Ordering.{nat_cmp}
use Rattle.std.specs.Cmp.Lexicographic.{slice_cmp, bytes_decides}
use Rattle.std.specs.BTreeMap.{is_at}
use Rattle.std.specs.BTreeSet.{BTreeSet, contains, Updates}
use Rattle.std.proofs.lemmas.List.{take_all}
use Rattle.std.proofs.lemmas.List.Folds.{list_any-append}
use Rattle.std.proofs.lemmas.Map.Text.{is_eq-slice_cmp}
use Rattle.check_values.specs.Rows.{Bytes, is_among}
use Rattle.code_changes.specs.Walks.{AreAdded, AreTaken}

abbrev has : BTreeSet Bytes → Bytes → Bool
has set name = contains (slice_cmp nat_cmp) set name

-- those up to a place, and the one at the place
pub taken : {A : Type 0} (all : List A) (i : ℕ) (x : A) → i < length all → x ≡ get_or all i x → take (i + 1) all ≡ take i all ++ x ∷ []
taken {A} all i x within is = ap (λ (k : ℕ). take k all) (add-one i) ∙ take-suc all i x within ∙ ap (λ (y : A). take i all ++ y ∷ []) (sym is)

pub or_turned : (a b : Bool) → cond a true b ≡ (b || a)
or_turned true true = refl
or_turned true false = refl
or_turned false true = refl
or_turned false false = refl

and_turned : (a b : Bool) → cond a false b ≡ (b && not a)
and_turned true true = refl
and_turned true false = refl
and_turned false true = refl
and_turned false false = refl

or_assoc : (a b c : Bool) → ((a || b) || c) ≡ (a || (b || c))
or_assoc true b c = refl
or_assoc false b c = refl

and_both : (a b c : Bool) → ((a && not b) && not c) ≡ (a && not (b || c))
and_both false b c = refl
and_both true true c = refl
and_both true false c = refl

and_true : (b : Bool) → (b && true) ≡ b
and_true true = refl
and_true false = refl

or_true : (b : Bool) → (b || true) ≡ true
or_true true = refl
or_true false = refl

and_false : (b : Bool) → (b && false) ≡ false
and_false true = refl
and_false false = refl

pub or_false : (b : Bool) → (b || false) ≡ b
or_false true = refl
or_false false = refl

pub bytes_turned : (a b : Bytes) → bytes_eq a b ≡ bytes_eq b a
bytes_turned a b = go (bytes_eq a b) (bytes_eq b a) refl refl
  where
    go : (c d : Bool) → bytes_eq a b ≡ c → bytes_eq b a ≡ d → c ≡ d
    go true true e f = refl
    go false false e f = refl
    go true false e f = sym ((bytes_decides b a).1 (sym ((bytes_decides a b).0 e))) ∙ f
    go false true e f = sym e ∙ (bytes_decides a b).1 (sym ((bytes_decides b a).0 f))

among_more : (names : List Bytes) (name q : Bytes) → is_among (names ++ name ∷ []) q ≡ (is_among names q || bytes_eq q name)
among_more names name q = list_any-append (bytes_eq q) names (name ∷ []) ∙ ap (λ (b : Bool). is_among names q || b) (or_false (bytes_eq q name))

-- ---- one name

pub name_more : (s t : BTreeSet Bytes) (key name : Bytes) → key ≡ name → Updates (slice_cmp nat_cmp) s t key true → (q : Bytes) → contains (slice_cmp nat_cmp) t q ≡ (contains (slice_cmp nat_cmp) s q || bytes_eq q name)
name_more s t key name same updates q =
    updates.0 q ∙ ap (λ (b : Bool). cond b true (has s q)) (is_eq-slice_cmp key q ∙ bytes_turned key q ∙ ap (bytes_eq q) same) ∙ or_turned (bytes_eq q name) (has s q)

pub name_new : (s : BTreeSet Bytes) (key name copy : Bytes) (b : Bool) (old new : List Bytes) → b ≡ not (contains (slice_cmp nat_cmp) s key) → b ≡ true → key ≡ name → copy ≡ name → new ≡ old ++ copy ∷ [] →
    new ≡ old ++ (cond (contains (slice_cmp nat_cmp) s name) [] (name ∷ []))
name_new s key name copy b old new asked is same alike adds =
    adds ∙ ap (λ (n : Bytes). old ++ n ∷ []) alike ∙ sym (ap (λ (c : Bool). old ++ cond c [] (name ∷ [])) (ap (has s) (sym same) ∙ go (has s key) (sym asked ∙ is)))
  where
    go : (c : Bool) → not c ≡ true → c ≡ false
    go false e = refl
    go true e = sym e

pub name_old : (s : BTreeSet Bytes) (key name : Bytes) (b : Bool) (old : List Bytes) → b ≡ not (contains (slice_cmp nat_cmp) s key) → b ≡ false → key ≡ name → old ≡ old ++ (cond (contains (slice_cmp nat_cmp) s name) [] (name ∷ []))
name_old s key name b old asked is same =
    sym (ap (λ (c : Bool). old ++ cond c [] (name ∷ [])) (ap (has s) (sym same) ∙ go (has s key) (sym asked ∙ is)) ∙ append-nil old)
  where
    go : (c : Bool) → not c ≡ false → c ≡ true
    go true e = refl
    go false e = sym e

-- ---- names in a row

pub added_none : (s : BTreeSet Bytes) (all : List Bytes) (added : List Bytes) → added ≡ [] → AreAdded (take 0 all) s s added
added_none s all added none = (λ name. sym (or_false (has s name)), λ name. sym (ap (λ (l : List Bytes). has s name && not (is_among l name)) none ∙ and_true (has s name)))

pub added_more : (s t u : BTreeSet Bytes) (all : List Bytes) (i : ℕ) (x : Bytes) (added more : List Bytes) → i < length all → x ≡ get_or all i x → AreAdded (take i all) s t added →
    ((q : Bytes) → contains (slice_cmp nat_cmp) u q ≡ (contains (slice_cmp nat_cmp) t q || bytes_eq q x)) → more ≡ added ++ (cond (contains (slice_cmp nat_cmp) t x) [] (x ∷ [])) → AreAdded (take (i + 1) all) s u more
added_more s t u all i x added more within is (before, back) adds notes = (
  λ q. adds q ∙ ap (λ (b : Bool). b || bytes_eq q x) (before q) ∙ or_assoc (has s q) (is_among (take i all) q) (bytes_eq q x)
      ∙ ap (λ (b : Bool). has s q || b) (sym (ap (λ (l : List Bytes). is_among l q) (taken all i x within is) ∙ among_more (take i all) x q)),
  λ q. back q ∙ go q (has t x) (bytes_eq q x) refl refl ∙ sym (ap (λ (b : Bool). b && not (is_among more q)) (adds q)),
)
  where
    go : (q : Bytes) (old same : Bool) → has t x ≡ old → bytes_eq q x ≡ same → (has t q && not (is_among added q)) ≡ ((has t q || bytes_eq q x) && not (is_among more q))
    go q true false e f =
        ap (λ (b : Bool). b && not (is_among added q)) (sym (ap (λ (b : Bool). has t q || b) f ∙ or_false (has t q)))
        ∙ sym (ap (λ (l : List Bytes). (has t q || bytes_eq q x) && not (is_among l q)) (notes ∙ ap (λ (b : Bool). added ++ cond b [] (x ∷ [])) e ∙ append-nil added))
    go q true true e f =
        let same : has t q ≡ true = ap (has t) ((bytes_decides q x).0 f) ∙ e in
        ap (λ (b : Bool). b && not (is_among added q)) (same ∙ sym (ap (λ (b : Bool). b || bytes_eq q x) same))
        ∙ sym (ap (λ (l : List Bytes). (has t q || bytes_eq q x) && not (is_among l q)) (notes ∙ ap (λ (b : Bool). added ++ cond b [] (x ∷ [])) e ∙ append-nil added))
    go q false false e f =
        ap (λ (b : Bool). b && not (is_among added q)) (sym (ap (λ (b : Bool). has t q || b) f ∙ or_false (has t q)))
        ∙ ap (λ (b : Bool). (has t q || bytes_eq q x) && not b) (sym (ap (λ (l : List Bytes). is_among l q) (notes ∙ ap (λ (b : Bool). added ++ cond b [] (x ∷ [])) e) ∙ among_more added x q ∙ ap (λ (b : Bool). is_among added q || b) f ∙ or_false (is_among added q)))
    go q false true e f =
        let same : has t q ≡ false = ap (has t) ((bytes_decides q x).0 f) ∙ e in
        let noted : is_among more q ≡ true = ap (λ (l : List Bytes). is_among l q) (notes ∙ ap (λ (b : Bool). added ++ cond b [] (x ∷ [])) e) ∙ among_more added x q ∙ ap (λ (b : Bool). is_among added q || b) f ∙ or_true (is_among added q) in
        ap (λ (b : Bool). b && not (is_among added q)) same ∙ sym (ap (λ (b : Bool). (has t q || bytes_eq q x) && not b) noted ∙ and_false (has t q || bytes_eq q x))

pub added_all : (s t : BTreeSet Bytes) (all : List Bytes) (i : ℕ) (added : List Bytes) → length all ≤ i → AreAdded (take i all) s t added → AreAdded all s t added
added_all s t all i added past (before, back) = (λ q. before q ∙ ap (λ (l : List Bytes). has s q || is_among l q) (take_all i all past), back)

pub taken_none : (s : BTreeSet Bytes) (all : List Bytes) → AreTaken (take 0 all) s s
taken_none s all name = sym (and_true (has s name))

pub taken_more : (s t u : BTreeSet Bytes) (all : List Bytes) (i : ℕ) (x : Bytes) → i < length all → x ≡ get_or all i x → AreTaken (take i all) s t → Updates (slice_cmp nat_cmp) t u x false → AreTaken (take (i + 1) all) s u
taken_more s t u all i x within is before updates q =
    updates.0 q ∙ ap (λ (b : Bool). cond b false (has t q)) (is_eq-slice_cmp x q ∙ bytes_turned x q) ∙ and_turned (bytes_eq q x) (has t q) ∙ ap (λ (b : Bool). b && not (bytes_eq q x)) (before q) ∙ and_both (has s q) (is_among (take i all) q) (bytes_eq q x)
    ∙ ap (λ (b : Bool). has s q && not b) (sym (ap (λ (l : List Bytes). is_among l q) (taken all i x within is) ∙ among_more (take i all) x q))

pub taken_all : (s t : BTreeSet Bytes) (all : List Bytes) (i : ℕ) → length all ≤ i → AreTaken (take i all) s t → AreTaken all s t
taken_all s t all i past before q = before q ∙ ap (λ (l : List Bytes). has s q && not (is_among l q)) (take_all i all past)
