-- Marks of numbers, and the numbers that are listed by them.
use Rattle.std.proofs.Common.{◌≡◌, ℕ, ◌+◌, Bool, true, List, [], ◌∷◌, ◌++◌, length, sym, inl, inr, arith, subst}
use Rattle.std.proofs.lemmas.Bool.{cases_lt}
use Rattle.graph_search.specs.Cycles.{Has}
use Rattle.graph_search.proofs.Lists.{get_small, get-front, has-last, last-split}
use Rattle.graph_search.proofs.Rising.{rising_more}
use Rattle.recheck_plan.specs.Affected.{AreExactly, IsToCheck}
use Rattle.recheck_plan.specs.Marks.{AreMarksOf, IsMarked, AreBelow}

-- ---- numbers listed one after another

module _ (IsOfKind : ℕ → Type 0) where
  pub below_skip : (i : ℕ) (all : List ℕ) → ¬ (IsOfKind i) → AreBelow IsOfKind i all → AreBelow IsOfKind (i + 1) all
  below_skip i all out a = record {
    rising = a.rising;
    sound = λ x has. (let r = a.sound x has in (omega arith, r.1));
    complete = λ x below is. elim (cases_lt x i) [
      | inl earlier ↦ a.complete x earlier is
      | inr last ↦ absurd (let same : x ≡ i = omega arith in out (subst IsOfKind same is))
    ];
  }

  pub below_more : (i : ℕ) (all : List ℕ) → IsOfKind i → AreBelow IsOfKind i all → AreBelow IsOfKind (i + 1) (all ++ i ∷ [])
  below_more i all here a = record {
    rising = rising_more all i a.rising (λ y has. (a.sound y has).0);
    sound = λ x has. elim (last-split all i has.0 x has.1) [
      | inl old ↦ (let r = a.sound x old in (omega arith, r.1))
      | inr last ↦ (omega arith, subst IsOfKind (sym last) here)
    ];
    complete = λ x below is. elim (cases_lt x i) [
      | inl earlier ↦ (let r = a.complete x earlier is in (r.0, get-front all (i ∷ []) r.0 x r.1))
      | inr last ↦ (let same : i ≡ x = omega arith in subst (λ (y : ℕ). Has (all ++ i ∷ []) y) same (has-last all i))
    ];
  }

-- ---- what is to be checked is what is marked

pub checked_by_marks : (reach : List (List ℕ)) (touched moved : List ℕ) (ts_made ms_made ts ms : List Bool) (all : List ℕ) → AreMarksOf (length reach) touched ts_made → AreMarksOf (length reach) moved ms_made
    → ts ≡ ts_made → ms ≡ ms_made → AreBelow (IsMarked reach ts ms) (length reach) all → AreExactly (IsToCheck reach touched moved) all
checked_by_marks reach touched moved ts_made ms_made ts ms all touched_made moved_made same_ts same_ms a =
    let t : AreMarksOf (length reach) touched ts = subst (λ (l : List Bool). AreMarksOf (length reach) touched l) (sym same_ts) touched_made in
    let m : AreMarksOf (length reach) moved ms = subst (λ (l : List Bool). AreMarksOf (length reach) moved l) (sym same_ms) moved_made in
    record {
      rising = a.rising;
      sound = λ x has. elim (a.sound x has).1 [ inl on ↦ inl (t.only x on) | inr edge ↦ inr (edge.0, edge.1, m.only edge.0 edge.2) ];
      complete = λ x is. elim is [
        | inl has ↦ (
            let on = t.turned x has in
            let small = get_small ts x true on in
            a.complete x (let size = t.len in omega arith) (inl on))
        | inr edge ↦ a.complete x (get_small reach x edge.1.0 edge.1.1) (inr (edge.0, edge.1, m.turned edge.0 edge.2))
      ];
    }
