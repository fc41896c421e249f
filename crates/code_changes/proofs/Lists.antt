-- One list behind another, and lists of parts from the first to the last.
use Rattle.std.proofs.Common.{◌≡◌, ℕ, ◌+◌, ◌<◌, ◌≤◌, List, [], ◌∷◌, ◌++◌, length, map, take, get_or, take-suc, add-one, Option, Some, None, refl, sym, ap, ◌∙◌, subst, append_assoc, append-nil}
use Rattle.std.proofs.lemmas.List.{map-append, take_all}
use Rattle.check_values.specs.Rows.{Bytes}
use Rattle.js_grammar.specs.Code as g
use Rattle.typing.specs.Changes as typing
use Rattle.code_changes.specs.Walks.{Tells, walk_view}
use Rattle.code_changes.specs.declared.walk.Walk.{Walk}
use Rattle.code_changes.proofs.Telling.{walked_none, tells_both}

-- one list behind another
pub both : {A : Type 0} (start mid end xs ys : List A) → mid ≡ start ++ xs → end ≡ mid ++ ys → end ≡ start ++ (xs ++ ys)
both {A} start mid end xs ys first second = second ∙ ap (λ (l : List A). l ++ ys) first ∙ append_assoc start xs ys

pub from_none : {A : Type 0} (start end xs : List A) → start ≡ [] → end ≡ start ++ xs → end ≡ xs
from_none {A} start end xs none is = is ∙ ap (λ (l : List A). l ++ xs) none

pub from_two : {A : Type 0} (start mid end xs ys : List A) → start ≡ [] → mid ≡ start ++ xs → end ≡ mid ++ ys → end ≡ xs ++ ys
from_two start mid end xs ys none first second = from_none start end (xs ++ ys) none (both start mid end xs ys first second)

-- the name of a function's declaration
pub declares : (f t : ℕ) (name : Option Bytes) (s : g.Sig) (b : g.Block) → typing.declared_by (g.function_stmt (g.function f t name s b)) ≡ typing.name_list name
declares f t None s b = refl
declares f t (Some name) s b = refl

-- ---- parts from the first to the last

module _ {A L V : Type 0} (view : A → V) (more : L → V → L) (from : L → List V → L) (at_end : (l : L) → from l [] ≡ l) (next : (l : L) (v : V) (vs : List V) → from l (v ∷ vs) ≡ from (more l v) vs) (none : L) where
  from_last : (l : L) (vs : List V) (v : V) → from l (vs ++ v ∷ []) ≡ more (from l vs) v
  from_last l [] v = next l v [] ∙ at_end (more l v) ∙ sym (ap (λ (m : L). more m v) (at_end l))
  from_last l (w ∷ vs) v = next l w (vs ++ v ∷ []) ∙ from_last (more l w) vs v ∙ sym (ap (λ (m : L). more m v) (next l w vs))

  -- those up to a place, and the one at the place
  taken_more : (all : List A) (i : ℕ) (x : A) → i < length all → x ≡ get_or all i x → from none (map view (take (i + 1) all)) ≡ more (from none (map view (take i all))) (view x)
  taken_more all i x within is =
      ap (λ (l : List A). from none (map view l)) (ap (λ (k : ℕ). take k all) (add-one i) ∙ take-suc all i x within ∙ ap (λ (y : A). take i all ++ y ∷ []) (sym is))
      ∙ ap (from none) (map-append view (take i all) (x ∷ [])) ∙ from_last none (map view (take i all)) (view x)

  module _ {X : Type 0} (told : L → List X) (each : V → List X) (told_none : told none ≡ []) (told_more : (l : L) (v : V) → told (more l v) ≡ told l ++ each v) where
    pub begun : (all : List A) (start : List X) → start ≡ start ++ told (from none (map view (take 0 all)))
    begun all start = sym (ap (λ (l : List X). start ++ l) (ap told (at_end none) ∙ told_none) ∙ append-nil start)

    pub turned : (all : List A) (i : ℕ) (x : A) (start before after : List X) → i < length all → x ≡ get_or all i x → before ≡ start ++ told (from none (map view (take i all))) → after ≡ before ++ each (view x) →
        after ≡ start ++ told (from none (map view (take (i + 1) all)))
    turned all i x start before after within is so_far adds =
        both start before after (told (from none (map view (take i all)))) (each (view x)) so_far adds
        ∙ sym (ap (λ (l : List X). start ++ l) (ap told (taken_more all i x within is) ∙ told_more (from none (map view (take i all))) (view x)))

    pub ended : (all : List A) (i : ℕ) (start after : List X) → length all ≤ i → after ≡ start ++ told (from none (map view (take i all))) → after ≡ start ++ told (from none (map view all))
    ended all i start after past is = is ∙ ap (λ (l : List A). start ++ told (from none (map view l))) (take_all i all past)

  -- what a walk tells of them
  module _ (told : L → List typing.Change) (each : V → List typing.Change) (told_none : told none ≡ []) (told_more : (l : L) (v : V) → told (more l v) ≡ told l ++ each v) where
    pub walk_begun : (w : Walk) (all : List A) → Tells w w (told (from none (map view (take 0 all))))
    walk_begun w all = subst (Tells w w) (sym (ap told (at_end none) ∙ told_none)) (sym (walked_none (walk_view w)))

    pub walk_turned : (a b c : Walk) (all : List A) (i : ℕ) (x : A) → i < length all → x ≡ get_or all i x → Tells a b (told (from none (map view (take i all)))) → Tells b c (each (view x)) → Tells a c (told (from none (map view (take (i + 1) all))))
    walk_turned a b c all i x within is so_far step =
        subst (Tells a c) (sym (ap told (taken_more all i x within is) ∙ told_more (from none (map view (take i all))) (view x))) (tells_both a b c (told (from none (map view (take i all)))) (each (view x)) so_far step)

    pub walk_ended : (a b : Walk) (all : List A) (i : ℕ) → length all ≤ i → Tells a b (told (from none (map view (take i all)))) → Tells a b (told (from none (map view all)))
    walk_ended a b all i past = subst (Tells a b) (ap (λ (l : List A). told (from none (map view l))) (take_all i all past))
