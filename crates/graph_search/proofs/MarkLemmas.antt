-- Marking and putting back, one after another.
use Rattle.std.proofs.Common.{ℕ, ◌+◌, ◌<◌, ◌≤◌, Bool, true, false, List, [], ◌∷◌, length, set, get_or, slice_get, take, Some, refl, sym, ap, ◌∙◌, inl, inr, subst}
use native.Mathlib.Decide.{ℕ_discrete}
use Rattle.graph_search.specs.Cycles.{Has, IsOn}
use Rattle.graph_search.specs.Searching.{Marks, Writes, PutsBack}
use Rattle.graph_search.proofs.Lists.{get-set_here, get-set_else, set_on, set_off, stays_on, stays_marked, was_marked, length-set_here, has_more, only_has, has_none, earlier, this, take_whole}

pub marks_none : (ms : List Bool) → Marks [] ms ms
marks_none ms = record { len = refl; turned = λ x has. absurd (has_none x has); keeps = λ x on. on; only = λ x on. inl on }

pub marks_next : (xs : List ℕ) (i : ℕ) (ms ns : List Bool) → i < length xs → get_or xs i 0 < length ns → Marks (take i xs) ms ns → Marks (take (i + 1) xs) ms (set ns (get_or xs i 0) true)
marks_next xs i ms ns within small a = record {
  len = length-set_here ns (get_or xs i 0) true ∙ a.len;
  turned = λ x has. elim (has_more xs i x has) [ inl old ↦ stays_marked ns (get_or xs i 0) x (a.turned x old) | inr same ↦ subst (λ (z : ℕ). IsOn (set ns (get_or xs i 0) true) z) same (set_on ns (get_or xs i 0) small) ];
  keeps = λ x on. stays_marked ns (get_or xs i 0) x (a.keeps x on);
  only = λ x on. elim (was_marked ns (get_or xs i 0) x on) [
    | inl was ↦ elim (a.only x was) [ inl older ↦ inl older | inr has ↦ inr (earlier xs i x has) ]
    | inr same ↦ inr (subst (λ (z : ℕ). Has (take (i + 1) xs) z) (sym same) (this xs i within))
  ];
}

pub marks_all : (xs : List ℕ) (n : ℕ) {ms ns : List Bool} → length xs ≤ n → Marks (take n xs) ms ns → Marks xs ms ns
marks_all xs n {ms} {ns} all a = subst (λ (l : List ℕ). Marks l ms ns) (take_whole xs n all) a

pub writes_none : (p : ℕ) (ms : List ℕ) → Writes [] p ms ms
writes_none p ms = record { len = refl; written = λ x has. absurd (has_none x has); keeps = λ x out. refl }

pub writes_next : (xs : List ℕ) (i p : ℕ) (ms ns : List ℕ) → i < length xs → get_or xs i 0 < length ns → Writes (take i xs) p ms ns → Writes (take (i + 1) xs) p ms (set ns (get_or xs i 0) p)
writes_next xs i p ms ns within small a = record {
  len = length-set_here ns (get_or xs i 0) p ∙ a.len;
  written = λ x has. elim (ℕ_discrete x (get_or xs i 0)) [
    | yes same ↦ ap (slice_get (set ns (get_or xs i 0) p)) same ∙ get-set_here ns (get_or xs i 0) p small
    | no other ↦ get-set_else ns (get_or xs i 0) x p other ∙ a.written x (elim (has_more xs i x has) [ inl old ↦ old | inr same ↦ absurd (other (sym same)) ])
  ];
  keeps = λ x out. get-set_else ns (get_or xs i 0) x p (λ same. out (subst (λ (z : ℕ). Has (take (i + 1) xs) z) (sym same) (this xs i within))) ∙ a.keeps x (λ has. out (earlier xs i x has));
}

pub writes_all : (xs : List ℕ) (n p : ℕ) {ms ns : List ℕ} → length xs ≤ n → Writes (take n xs) p ms ns → Writes xs p ms ns
writes_all xs n p {ms} {ns} all a = subst (λ (l : List ℕ). Writes l p ms ns) (take_whole xs n all) a

pub puts_off : (left inside : List Bool) (x : ℕ) → ¬ (IsOn inside x) → PutsBack (x ∷ []) left inside left inside
puts_off left inside x off = record {
  left_len = refl;
  inside_len = refl;
  keeps = λ z on. on;
  put = λ z has on. absurd (off (subst (λ (y : ℕ). IsOn inside y) (only_has x z has) on));
  only = λ z on. inl on;
  clears = λ z on. (on, λ has. off (subst (λ (y : ℕ). IsOn inside y) (only_has x z has) on));
  split = λ z on. inl on;
}

pub puts_on : (left inside : List Bool) (x : ℕ) → x < length left → x < length inside → IsOn inside x → PutsBack (x ∷ []) left inside (set left x true) (set inside x false)
puts_on left inside x small_left small on_x = record {
  left_len = length-set_here left x true;
  inside_len = length-set_here inside x false;
  keeps = λ z on. stays_marked left x z on;
  put = λ z has on. subst (λ (y : ℕ). IsOn (set left x true) y) (sym (only_has x z has)) (set_on left x small_left);
  only = λ z on. elim (was_marked left x z on) [ inl was ↦ inl was | inr same ↦ inr ((0, ap Some (sym same)), subst (λ (y : ℕ). IsOn inside y) (sym same) on_x) ];
  clears = λ z on. (let was = set_off inside x z small on in (was.0, λ has. was.1 (only_has x z has)));
  split = λ z on. elim (stays_on inside x z on) [ inl still ↦ inl still | inr same ↦ inr (0, ap Some (sym same)) ];
}

pub puts_none : (left inside : List Bool) → PutsBack [] left inside left inside
puts_none left inside = record {
  left_len = refl;
  inside_len = refl;
  keeps = λ z on. on;
  put = λ z has on. absurd (has_none z has);
  only = λ z on. inl on;
  clears = λ z on. (on, λ has. has_none z has);
  split = λ z on. inl on;
}

pub puts_next : (xs : List ℕ) (i : ℕ) {left inside l_1 i_1 l_2 i_2 : List Bool} → i < length xs → PutsBack (take i xs) left inside l_1 i_1 → PutsBack (get_or xs i 0 ∷ []) l_1 i_1 l_2 i_2 → PutsBack (take (i + 1) xs) left inside l_2 i_2
puts_next xs i {left} {inside} {l_1} {i_1} {l_2} {i_2} within a b = record {
  left_len = b.left_len ∙ a.left_len;
  inside_len = b.inside_len ∙ a.inside_len;
  keeps = λ z on. b.keeps z (a.keeps z on);
  put = λ z has on. elim (has_more xs i z has) [
    | inl old ↦ b.keeps z (a.put z old on)
    | inr same ↦ elim (a.split z on) [ inl still ↦ b.put z (0, ap Some same) still | inr old ↦ b.keeps z (a.put z old on) ]
  ];
  only = λ z on. elim (b.only z on) [
    | inl was ↦ elim (a.only z was) [ inl older ↦ inl older | inr new ↦ inr (earlier xs i z new.0, new.1) ]
    | inr new ↦ inr (subst (λ (y : ℕ). Has (take (i + 1) xs) y) (sym (only_has (get_or xs i 0) z new.0)) (this xs i within), (a.clears z new.1).0)
  ];
  clears = λ z on. (let now = b.clears z on in let was = a.clears z now.0 in (was.0, λ has. elim (has_more xs i z has) [ inl old ↦ was.1 old | inr same ↦ now.1 (0, ap Some same) ]));
  split = λ z on. elim (a.split z on) [
    | inl still ↦ elim (b.split z still) [ inl now ↦ inl now | inr has ↦ inr (subst (λ (y : ℕ). Has (take (i + 1) xs) y) (sym (only_has (get_or xs i 0) z has)) (this xs i within)) ]
    | inr old ↦ inr (earlier xs i z old)
  ];
}

pub puts_all : (xs : List ℕ) (n : ℕ) {left inside l_1 i_1 : List Bool} → length xs ≤ n → PutsBack (take n xs) left inside l_1 i_1 → PutsBack xs left inside l_1 i_1
puts_all xs n {left} {inside} {l_1} {i_1} all a = subst (λ (l : List ℕ). PutsBack l left inside l_1 i_1) (take_whole xs n all) a
