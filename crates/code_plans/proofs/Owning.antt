-- The own names of a block.
use Rattle.std.proofs.Common.{◌≡◌, ℕ, ◌+◌, ◌<◌, ◌≤◌, Bool, true, false, not, ◌||◌, cond, List, [], ◌∷◌, ◌++◌, length, take, get_or, bytes_eq, refl, sym, ap, ◌∙◌, append-nil}
use Rattle.std.specs.List.{list_any}
use Rattle.std.specs.Ordering.{nat_cmp}
use Rattle.std.specs.Cmp.Lexicographic.{slice_cmp}
use Rattle.std.specs.BTreeMap.{is_at}
use Rattle.std.specs.BTreeSet.{BTreeSet, contains, Updates}
use Rattle.std.proofs.lemmas.List.{take_all}
use Rattle.std.proofs.lemmas.List.Folds.{list_any-append}
use Rattle.std.proofs.lemmas.List.Elements.{filter-append}
use Rattle.check_values.specs.Rows.{Bytes, is_among}
use Rattle.typing.specs.Changes as typing
use Rattle.typing.specs.Changes.{outside, is_outside, declared_in}
use Rattle.code_tree.specs.View.{statement_view, statements_view}
use Rattle.code_tree.specs.declared.types.Statement.{Statement}
use Rattle.code_changes.specs.Declaring.{declared_by_statement}
use Rattle.code_changes.specs.View.{change_view, changes_view}
use Rattle.code_changes.specs.declared.change.Change.{Change}
use Rattle.code_changes.specs.declared.change.Change.TheVariants as change
use Rattle.code_changes.proofs.OwnNames.{name_more, or_false}
use Rattle.code_changes.proofs.Lists.{both}
use Rattle.code_changes.proofs.Parts.{declared_begun, declared_turned, declared_ended}
use Rattle.code_plans.specs.View.{Owns}
use Rattle.code_plans.proofs.Meeting.{view_more, view_taken}

pub name_added : (s t : BTreeSet Bytes) (key name : Bytes) → key ≡ name → Updates (slice_cmp nat_cmp) s t key true → (q : Bytes) → contains (slice_cmp nat_cmp) t q ≡ (contains (slice_cmp nat_cmp) s q || is_among (name ∷ []) q)
name_added s t key name is adds q = name_more s t key name is adds q ∙ ap (λ (b : Bool). contains (slice_cmp nat_cmp) s q || b) (sym (or_false (bytes_eq q name)))

pub none_added : (s : BTreeSet Bytes) (q : Bytes) → contains (slice_cmp nat_cmp) s q ≡ (contains (slice_cmp nat_cmp) s q || is_among [] q)
none_added s q = sym (or_false (contains (slice_cmp nat_cmp) s q))

pub owns_none : (own : BTreeSet Bytes) (all : List Statement) → own.keys ≡ [] → Owns own (declared_in (statements_view (take 0 all)))
owns_none own all none q = ap (list_any (is_at (slice_cmp nat_cmp q))) none ∙ ap (λ (l : List Bytes). is_among l q) (declared_begun all [])

pub owns_more : (s t : BTreeSet Bytes) (all : List Statement) (i : ℕ) (x : Statement) → i < length all → x ≡ get_or all i x → Owns s (declared_in (statements_view (take i all))) →
    ((q : Bytes) → contains (slice_cmp nat_cmp) t q ≡ (contains (slice_cmp nat_cmp) s q || is_among (declared_by_statement (statement_view x)) q)) → Owns t (declared_in (statements_view (take (i + 1) all)))
owns_more s t all i x within is so_far adds q =
    let before : List Bytes = declared_in (statements_view (take i all)) in
    let here : List Bytes = declared_by_statement (statement_view x) in
    adds q ∙ ap (λ (b : Bool). b || is_among here q) (so_far q) ∙ sym (list_any-append (bytes_eq q) before here) ∙ ap (λ (l : List Bytes). is_among l q) (declared_turned all i x [] before (before ++ here) within is refl refl)

pub owns_all : (own : BTreeSet Bytes) (all : List Statement) (i : ℕ) → length all ≤ i → Owns own (declared_in (statements_view (take i all))) → Owns own (declared_in (statements_view all))
owns_all own all i past so_far q = so_far q ∙ ap (λ (l : List Bytes). is_among l q) (declared_ended all i [] (declared_in (statements_view (take i all))) past refl)

twice : (b : Bool) → b ≡ not (not b)
twice true = refl
twice false = refl

pub own_told : (own : BTreeSet Bytes) (x : Change) (b inner : Bool) (name : Bytes) → x ≡ change.SetsVariable inner name → b ≡ contains (slice_cmp nat_cmp) own name → (names : List Bytes) → Owns own names → b ≡ not (is_outside names (change_view x))
own_told own x b inner name is asked names owns = asked ∙ owns name ∙ twice (is_among names name) ∙ sym (ap (λ (c : Change). not (is_outside names (change_view c))) is)

alone : (names : List Bytes) (c : typing.Change) (b : Bool) → is_outside names c ≡ b → outside names (c ∷ []) ≡ cond b (c ∷ []) []
alone names c b is = ap (λ (d : Bool). cond d (c ∷ []) []) is

pub own_left_out : (own : BTreeSet Bytes) (x : Change) (out : List Change) (b : Bool) → ((names : List Bytes) → Owns own names → b ≡ not (is_outside names (change_view x))) → b ≡ true →
    (names : List Bytes) → Owns own names → changes_view out ≡ changes_view out ++ outside names (change_view x ∷ [])
own_left_out own x out b told is names owns =
    sym (ap (λ (l : List typing.Change). changes_view out ++ l) (alone names (change_view x) false (go (is_outside names (change_view x)) (sym (told names owns) ∙ is))) ∙ append-nil (changes_view out))
  where
    go : (d : Bool) → not d ≡ true → d ≡ false
    go false e = refl
    go true e = sym e

pub other_added : (own : BTreeSet Bytes) (x copy : Change) (out more : List Change) (b : Bool) → ((names : List Bytes) → Owns own names → b ≡ not (is_outside names (change_view x))) → b ≡ false → copy ≡ x → more ≡ out ++ copy ∷ [] →
    (names : List Bytes) → Owns own names → changes_view more ≡ changes_view out ++ outside names (change_view x ∷ [])
other_added own x copy out more b told other is adds names owns =
    ap changes_view (adds ∙ ap (λ (y : Change). out ++ y ∷ []) is) ∙ view_more out x
    ∙ sym (ap (λ (l : List typing.Change). changes_view out ++ l) (alone names (change_view x) true (go (is_outside names (change_view x)) (sym (told names owns) ∙ other))))
  where
    go : (d : Bool) → not d ≡ false → d ≡ true
    go true e = refl
    go false e = sym e

-- ---- all changes of a block

pub outside_none : (own : BTreeSet Bytes) (all out : List Change) (names : List Bytes) → Owns own names → changes_view out ≡ changes_view out ++ outside names (changes_view (take 0 all))
unfolding changes_view
outside_none own all out names owns = sym (append-nil (changes_view out))

pub outside_more : (own : BTreeSet Bytes) (all : List Change) (i : ℕ) (x : Change) (start before after : List Change) → i < length all → x ≡ get_or all i x →
    ((names : List Bytes) → Owns own names → changes_view before ≡ changes_view start ++ outside names (changes_view (take i all))) →
    ((names : List Bytes) → Owns own names → changes_view after ≡ changes_view before ++ outside names (change_view x ∷ [])) → (names : List Bytes) → Owns own names → changes_view after ≡ changes_view start ++ outside names (changes_view (take (i + 1) all))
outside_more own all i x start before after within is so_far adds names owns =
    both (changes_view start) (changes_view before) (changes_view after) (outside names (changes_view (take i all))) (outside names (change_view x ∷ [])) (so_far names owns) (adds names owns)
    ∙ ap (λ (l : List typing.Change). changes_view start ++ l) (sym (filter-append (is_outside names) (changes_view (take i all)) (change_view x ∷ [])) ∙ ap (outside names) (sym (view_taken all i x within is)))

pub outside_all : (own : BTreeSet Bytes) (all : List Change) (i : ℕ) (start after : List Change) → length all ≤ i → ((names : List Bytes) → Owns own names → changes_view after ≡ changes_view start ++ outside names (changes_view (take i all))) →
    (names : List Bytes) → Owns own names → changes_view after ≡ changes_view start ++ outside names (changes_view all)
outside_all own all i start after past so_far names owns = so_far names owns ∙ ap (λ (l : List Change). changes_view start ++ outside names (changes_view l)) (take_all i all past)
