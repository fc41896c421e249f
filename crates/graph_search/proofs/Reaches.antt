-- What a search from the starts found, where all was open, is what they reach.
use Rattle.std.proofs.Common.{◌≡◌, ℕ, zero, suc, ◌+◌, ◌<◌, ◌≤◌, Bool, true, false, List, [], ◌∷◌, ◌++◌, length, slice_get, replicate, Some, refl, sym, ap, ◌∙◌, inl, inr, arith, subst}
use Rattle.std.specs.Prelude.{All}
use Rattle.std.proofs.lemmas.Bool.{cases_lt}
use Rattle.std.proofs.lemmas.List.{length-replicate}
use Rattle.graph_search.specs.Cycles.{Leads, here, along, Has, Edge, IsOn, AreWithin}
use Rattle.graph_search.specs.Reach.{AreReached}
use Rattle.graph_search.specs.Searching.{Within, HasFound}
use Rattle.graph_search.specs.Grouping.{AreUnmarked}
use Rattle.graph_search.proofs.Lists.{get_small, get-front, has-last, last-split, has_none}
use Rattle.graph_search.proofs.Searches.{got, ends_in}
use Rattle.graph_search.proofs.Pivots.{widened}
use Rattle.graph_search.proofs.Rising.{get_there, rising_none, rising_more}

pub on_replicate : (n k : ℕ) → k < n → IsOn (replicate n true) k
on_replicate zero k h = absurd (omega arith)
on_replicate (suc n) zero h = refl
on_replicate (suc n) (suc k) h = on_replicate n k (omega arith)

pub off_false : (ms : List Bool) (x : ℕ) → x < length ms → ¬ (IsOn ms x) → slice_get ms x ≡ Some false
off_false ms x small off = let b = get_there ms x small in go b.0 b.1
  where
    go : (b : Bool) → slice_get ms x ≡ Some b → slice_get ms x ≡ Some false
    go true is = absurd (off is)
    go false is = is

pub false_off : (ms : List Bool) (x : ℕ) → slice_get ms x ≡ Some false → ¬ (IsOn ms x)
false_off ms x is on = let both : Some false ≡ Some true = sym is ∙ on in cc

pub all_has : (P : ℕ → Type 0) (xs : List ℕ) (x : ℕ) → All P xs → Has xs x → P x
all_has P xs x all has = subst P (got xs has.0 x has.1) (all has.0 x (get_small xs has.0 x has.1))

pub edge_small : (edges : List (List ℕ)) (x y : ℕ) → AreWithin edges → Edge edges x y → y < length edges
edge_small edges x y within e =
    let ours : All (λ y. y < length edges) e.0 = subst (λ (l : List ℕ). All (λ y. y < length edges) l) (got edges x e.0 e.1) (within x e.0 (get_small edges x e.0 e.1)) in
    all_has (λ y. y < length edges) e.0 y ours e.2

pub unmarked_begin : (marks : List Bool) → AreUnmarked marks 0 []
unmarked_begin marks = record { rising = rising_none; sound = λ x has. absurd (has_none x has); complete = λ x below off. absurd (omega arith) }

pub unmarked_skip : (marks : List Bool) (i : ℕ) (all : List ℕ) → slice_get marks i ≡ Some true → AreUnmarked marks i all → AreUnmarked marks (i + 1) all
unmarked_skip marks i all on a = record {
  rising = a.rising;
  sound = λ x has. (let r = a.sound x has in (omega arith, r.1));
  complete = λ x below off. elim (cases_lt x i) [
    | inl earlier ↦ a.complete x earlier off
    | inr last ↦ absurd (let same : x ≡ i = omega arith in false_off marks x off (ap (slice_get marks) same ∙ on))
  ];
}

pub unmarked_more : (marks : List Bool) (i : ℕ) (all : List ℕ) → slice_get marks i ≡ Some false → AreUnmarked marks i all → AreUnmarked marks (i + 1) (all ++ i ∷ [])
unmarked_more marks i all off a = record {
  rising = rising_more all i a.rising (λ y has. (a.sound y has).0);
  sound = λ x has. elim (last-split all i has.0 x has.1) [
    | inl old ↦ (let r = a.sound x old in (omega arith, r.1))
    | inr last ↦ (omega arith, ap (slice_get marks) last ∙ off)
  ];
  complete = λ x below is. elim (cases_lt x i) [
    | inl earlier ↦ (let r = a.complete x earlier is in (r.0, get-front all (i ∷ []) r.0 x r.1))
    | inr last ↦ (let same : i ≡ x = omega arith in subst (λ (y : ℕ). Has (all ++ i ∷ []) y) same (has-last all i))
  ];
}

pub unmarked_end : (marks : List Bool) (i : ℕ) (all : List ℕ) → length marks ≤ i → AreUnmarked marks i all → AreUnmarked marks (length marks) all
unmarked_end marks i all enough a = record {
  rising = a.rising;
  sound = λ x has. (let r = a.sound x has in (get_small marks x false r.1, r.1));
  complete = λ x below off. a.complete x (omega arith) off;
}

-- a way along edges, where all numbers are open
within_open : (edges : List (List ℕ)) (first : List Bool) → AreWithin edges → ((x : ℕ) → x < length edges → IsOn first x) → {x y : ℕ} → x < length edges → Leads (Edge edges) x y → Leads (Within (Edge edges) (IsOn first)) x y
within_open edges first within open_all small (here) = here
within_open edges first within open_all {x} small (along {q = q} e l) =
    let next = edge_small edges x q within e in
    along (e, open_all x small, open_all q next) (within_open edges first within open_all next l)

pub are_reached : (edges : List (List ℕ)) (starts : List ℕ) (first opened : List Bool) (found all : List ℕ) → first ≡ replicate (length edges) true → AreWithin edges → All (λ s. s < length edges) starts →
    HasFound edges starts first opened found → AreUnmarked opened (length opened) all → AreReached edges starts all
are_reached edges starts first opened found all is within few h a = record {
  rising = a.rising;
  sound = λ y has. (
      let r = a.sound y has in
      let small : y < length edges = omega (arith, h.len, size) in
      elim (h.split y (open_all y small)) [
        | inl still ↦ absurd (false_off opened y r.1 still)
        | inr known ↦ (let s = h.sound y known in (s.0, s.1, widened edges (IsOn first) s.3))
      ]);
  complete = λ y r. (
      let start = all_has (λ s. s < length edges) starts r.0 few r.1 in
      let way = within_open edges first within open_all start r.2 in
      let known = h.complete y (r.0, r.1, open_all r.0 start, way) in
      let on = ends_in (Edge edges) (IsOn first) way (open_all r.0 start) in
      let small = get_small first y true on in
      let here_small : y < length opened = omega (arith, h.len) in
      a.complete y here_small (off_false opened y here_small (h.closed y known)));
}
  where
    size : length first ≡ length edges
    size = ap length is ∙ length-replicate _ _

    open_all : (x : ℕ) → x < length edges → IsOn first x
    open_all x small = subst (λ (l : List Bool). IsOn l x) (sym is) (on_replicate (length edges) x small)
