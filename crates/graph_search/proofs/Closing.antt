-- Closing numbers, one after another.
use Rattle.std.proofs.Common.{◌≡◌, ℕ, ◌+◌, ◌<◌, ◌≤◌, Bool, false, List, [], ◌∷◌, ◌++◌, length, set, get_or, take, Some, refl, sym, ap, ◌∙◌, inl, inr, arith, subst, length-append}
use Rattle.graph_search.specs.Cycles.{Has, IsOn}
use Rattle.graph_search.specs.Searching.{Closes}
use Rattle.graph_search.proofs.Lists.{set_off, stays_on, count-set, get-front, has-last, last-split, length-set_here, has_more, only_has, has_none, earlier, this_one, take_whole}

pub closes_open : (y : ℕ) (ms : List Bool) (found : List ℕ) → IsOn ms y → y < length ms → Closes (y ∷ []) ms found (set ms y false) (found ++ y ∷ [])
closes_open y ms found on small = record {
  len = length-set_here ms y false;
  keeps = λ z now. (set_off ms y z small now).0;
  front = λ i z is. get-front found (y ∷ []) i z is;
  split = λ z was. elim (stays_on ms y z was) [ inl still ↦ inl still | inr same ↦ inr (subst (λ (x : ℕ). Has (found ++ y ∷ []) x) (sym same) (has-last found y)) ];
  fresh = λ z has. elim (last-split found y has.0 z has.1) [ inl old ↦ inl old | inr same ↦ inr ((0, ap Some (sym same)), subst (λ (x : ℕ). IsOn ms x) (sym same) on, λ now. (set_off ms y z small now).1 same) ];
  shut = λ z has now. (set_off ms y z small now).1 (only_has y z has);
  lighter = (let a = count-set ms y on in let b = length-append found (y ∷ []) in omega arith);
}

pub closes_shut : (y : ℕ) (ms : List Bool) (found : List ℕ) → ¬ (IsOn ms y) → Closes (y ∷ []) ms found ms found
closes_shut y ms found off = record {
  len = refl;
  keeps = λ z now. now;
  front = λ i z is. is;
  split = λ z was. inl was;
  fresh = λ z has. inl has;
  shut = λ z has now. off (subst (λ (x : ℕ). IsOn ms x) (only_has y z has) now);
  lighter = omega arith;
}

pub closes_none : (ms : List Bool) (found : List ℕ) → Closes [] ms found ms found
closes_none ms found = record {
  len = refl;
  keeps = λ z now. now;
  front = λ i z is. is;
  split = λ z was. inl was;
  fresh = λ z has. inl has;
  shut = λ z has now. has_none z has;
  lighter = omega arith;
}

-- the next of ys, behind the first i
pub closes_next : (ys : List ℕ) (i y : ℕ) {ms ns ps : List Bool} {found more most : List ℕ} → y ≡ get_or ys i 0 → i < length ys → Closes (take i ys) ms found ns more → Closes (y ∷ []) ns more ps most → Closes (take (i + 1) ys) ms found ps most
closes_next ys i y {ms} {ns} {ps} {found} {more} {most} is within a b = record {
  len = b.len ∙ a.len;
  keeps = λ z now. a.keeps z (b.keeps z now);
  front = λ j z at. b.front j z (a.front j z at);
  split = λ z was. elim (a.split z was) [ inl still ↦ b.split z still | inr listed ↦ inr (listed.0, b.front listed.0 z listed.1) ];
  fresh = λ z has. elim (b.fresh z has) [
    | inl old ↦ elim (a.fresh z old) [ inl older ↦ inl older | inr new ↦ inr (earlier ys i z new.0, new.1, λ now. new.2 (b.keeps z now)) ]
    | inr new ↦ inr (this_one ys i y z is within new.0, a.keeps z new.1, new.2)
  ];
  shut = λ z has now. elim (has_more ys i z has) [ inl old ↦ a.shut z old (b.keeps z now) | inr same ↦ b.shut z (0, ap Some (is ∙ same)) now ];
  lighter = (let x = a.lighter in let y = b.lighter in omega arith);
}

pub closes_all : (ys : List ℕ) (n : ℕ) {ms ns : List Bool} {found more : List ℕ} → length ys ≤ n → Closes (take n ys) ms found ns more → Closes ys ms found ns more
closes_all ys n {ms} {ns} {found} {more} all a = subst (λ (l : List ℕ). Closes l ms found ns more) (take_whole ys n all) a
