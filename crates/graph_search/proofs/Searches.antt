-- How a search goes on, and what it has found at its end.
use Rattle.std.proofs.Common.{◌≡◌, ℕ, zero, suc, ◌+◌, ◌<◌, ◌≤◌, Bool, true, List, [], ◌∷◌, length, get_or, slice_get, Some, refl, sym, ap, ◌∙◌, inl, inr, arith, subst}
use Rattle.std.proofs.lemmas.Bool.{cases_lt}
use Rattle.std.specs.Prelude.{All}
use Rattle.graph_search.specs.Cycles.{Leads, here, along, Has, Edge, IsOn, AreWithin}
use Rattle.graph_search.specs.Searching.{Within, IsOpened, Closes, Search, HasFound, AreReversed}
use Rattle.graph_search.proofs.Lists.{none_some, has_none, get_index, get_small}

module _ {X : Type 0} (Along : X → X → Type 0) where
  pub joined : {x y z : X} → Leads Along x y → Leads Along y z → Leads Along x z
  joined (here) m = m
  joined (along e l) m = along e (joined l m)

  -- a way that stays in Q ends in Q
  pub ends_in : (Q : X → Type 0) {x y : X} → Leads (Within Along Q) x y → Q x → Q y
  ends_in Q (here) q = q
  ends_in Q (along e l) q = ends_in Q l e.2

pub search_begins : {edges : List (List ℕ)} {starts : List ℕ} {first opened : List Bool} {found : List ℕ} (none : List ℕ) → none ≡ [] → Closes starts first none opened found → Search edges starts first opened found 0
search_begins {edges} {starts} {first} {opened} {found} none empty a = record {
  len = a.len;
  starts_shut = a.shut;
  keeps = a.keeps;
  split = a.split;
  sound = λ z has. elim (a.fresh z has) [ inl old ↦ absurd (has_none z (subst (λ (l : List ℕ). Has l z) empty old)) | inr new ↦ (z, new.0, new.1, here) ];
  closed = λ z has. elim (a.fresh z has) [ inl old ↦ absurd (has_none z (subst (λ (l : List ℕ). Has l z) empty old)) | inr new ↦ new.2 ];
  done = λ i x y below is edge. absurd (omega arith);
}

pub search_step : {edges : List (List ℕ)} {starts : List ℕ} {first opened more : List Bool} {found listed : List ℕ} (at x : ℕ) (ys zs : List ℕ) → slice_get found at ≡ Some x → slice_get edges x ≡ Some ys → zs ≡ ys →
    Search edges starts first opened found at → Closes zs opened found more listed → Search edges starts first more listed (at + 1)
search_step {edges} {starts} {first} {opened} {more} {found} {listed} at x ys zs is list same a b = record {
  len = b.len ∙ a.len;
  starts_shut = λ s has now. a.starts_shut s has (b.keeps s now);
  keeps = λ z now. a.keeps z (b.keeps z now);
  split = λ z was. elim (a.split z was) [ inl still ↦ b.split z still | inr known ↦ inr (known.0, b.front known.0 z known.1) ];
  sound = λ z has. elim (b.fresh z has) [ inl old ↦ a.sound z old | inr new ↦ reach z new.0 (a.keeps z new.1) ];
  closed = λ z has now. elim (b.fresh z has) [ inl old ↦ a.closed z old (b.keeps z now) | inr new ↦ new.2 now ];
  done = λ i u y below at_i edge now. elim (cases_lt i at) [
    | inl earlier ↦ old_done i u y earlier at_i edge now
    | inr last ↦ b.shut y (this i u y (omega arith) at_i edge) now
  ];
}
  where
    edge_of : (z : ℕ) → Has zs z → Edge edges x z
    edge_of z has = (ys, list, subst (λ (l : List ℕ). Has l z) same has)

    reach : (z : ℕ) → Has zs z → IsOn first z → IsOpened edges starts first z
    reach z has on = let r = a.sound x (at, is) in
        (r.0, r.1, r.2, joined (Within (Edge edges) (IsOn first)) r.3 (along (edge_of z has, ends_in (Edge edges) (IsOn first) r.3 r.2, on) here))

    old_done : (i u y : ℕ) → i < at → slice_get listed i ≡ Some u → Edge edges u y → ¬ (IsOn more y)
    old_done i u y earlier at_i edge now =
        let small = get_small found at x is in
        let was : slice_get found i ≡ Some (get_or found i 0) = get_index found i 0 (get_or found i 0) (omega arith) refl in
        let both : Some (get_or found i 0) ≡ Some u = sym (b.front i (get_or found i 0) was) ∙ at_i in
        let equal : get_or found i 0 ≡ u = cc in
        a.done i u y earlier (was ∙ ap Some equal) edge (b.keeps y now)

    this : (i u y : ℕ) → i ≡ at → slice_get listed i ≡ Some u → Edge edges u y → Has zs y
    this i u y equal at_i edge =
        let both : Some x ≡ Some u = sym (b.front at x is) ∙ ap (slice_get listed) (sym equal) ∙ at_i in
        let known : x ≡ u = cc in
        let lists : Some ys ≡ Some edge.0 = sym list ∙ ap (slice_get edges) known ∙ edge.1 in
        let ours : edge.0 ≡ zs = sym (let e : ys ≡ edge.0 = cc in same ∙ e) in
        subst (λ (l : List ℕ). Has l y) ours edge.2

pub search_ends : {edges : List (List ℕ)} {starts : List ℕ} {first opened : List Bool} {found : List ℕ} (at : ℕ) → length found ≤ at → Search edges starts first opened found at → HasFound edges starts first opened found
search_ends {edges} {starts} {first} {opened} {found} at all a = record {
  len = a.len;
  keeps = a.keeps;
  split = a.split;
  closed = a.closed;
  sound = a.sound;
  complete = λ z r. go r.0 z r.3 (elim (a.split r.0 r.2) [ inl still ↦ absurd (a.starts_shut r.0 r.1 still) | inr known ↦ known ]);
}
  where
    go : (s z : ℕ) → Leads (Within (Edge edges) (IsOn first)) s z → Has found s → Has found z
    go s z (here) has = has
    go s z (along {q = q} e l) has = go q z l (elim (a.split q e.2) [
      | inl still ↦ absurd (let small = get_small found has.0 s has.1 in a.done has.0 s q (omega arith) has.1 e.0 still)
      | inr known ↦ known
    ])

-- the next number of a search has a list
pub next_small : {edges : List (List ℕ)} {starts : List ℕ} {first opened : List Bool} (found view : List ℕ) (at : ℕ) → view ≡ found → length first ≡ length edges → at < length found → Search edges starts first opened found at → get_or view at 0 < length edges
next_small {edges} {starts} {first} found view at same size within a =
    subst (λ (l : List ℕ). get_or l at 0 < length edges) (sym same)
    (let r = a.sound (get_or found at 0) (at, get_index found at 0 (get_or found at 0) within refl) in
    let small = get_small first (get_or found at 0) true (ends_in (Edge edges) (IsOn first) r.3 r.2) in omega arith)

pub next_is : (found view : List ℕ) (at : ℕ) → view ≡ found → at < length found → slice_get found at ≡ Some (get_or view at 0)
next_is found view at same within = get_index found at 0 (get_or view at 0) within (ap (λ (l : List ℕ). get_or l at 0) (sym same))

pub still_within : {ys : List ℕ} {ms ns : List Bool} (found listed : List ℕ) (at : ℕ) → at < length found → Closes ys ms found ns listed → at < length listed
still_within found listed at within b = get_small listed at (get_or found at 0) (b.front at (get_or found at 0) (get_index found at 0 (get_or found at 0) within refl))

pub got : {A : Type 0} (xs : List A) (e : ℕ) (x : A) → slice_get xs e ≡ Some x → get_or xs e x ≡ x
got [] e x is = none_some x is
got (y ∷ ys) zero x is = let f : Some y ≡ Some x = is in cc
got (y ∷ ys) (suc e) x is = got ys e x is

pub list_small : (edges : List (List ℕ)) (x : ℕ) (ys : List ℕ) (opened : List Bool) → AreWithin edges → slice_get edges x ≡ Some ys → length opened ≡ length edges → All (λ y. y < length opened) ys
list_small edges x ys opened within is size = λ k d few.
    let ours : All (λ y. y < length edges) ys = subst (λ (l : List ℕ). All (λ y. y < length edges) l) (got edges x ys is) (within x ys (get_small edges x ys is)) in
    let h = ours k d few in omega arith

pub list_small_here : (edges : List (List ℕ)) (x : ℕ) (ys : List ℕ) (back : List (List ℕ)) → AreWithin edges → slice_get edges x ≡ Some ys → length back ≡ length edges → All (λ y. y < length back) ys
list_small_here edges x ys back within is size = λ k d few.
    let ours : All (λ y. y < length edges) ys = subst (λ (l : List ℕ). All (λ y. y < length edges) l) (got edges x ys is) (within x ys (get_small edges x ys is)) in
    let h = ours k d few in omega arith

pub all_from_has : (P : ℕ → Type 0) (xs : List ℕ) → ((x : ℕ) → Has xs x → P x) → All P xs
all_from_has P xs each = λ k d few. each (get_or xs k d) (k, get_index xs k d (get_or xs k d) few refl)

-- what a search found is within bounds
pub found_small : {edges : List (List ℕ)} {starts : List ℕ} {first opened : List Bool} (found view : List ℕ) (n : ℕ) → HasFound edges starts first opened found → view ≡ found → length first ≡ n → All (λ x. x < n) view
found_small {edges} {starts} {first} {opened} found view n h same size =
    subst (λ (l : List ℕ). All (λ x. x < n) l) (sym same) (all_from_has (λ x. x < n) found (λ x has.
    let r = h.sound x has in let small = get_small first x true (ends_in (Edge edges) (IsOn first) r.3 r.2) in omega arith))

pub back_within : (edges back : List (List ℕ)) → AreReversed edges back → AreWithin back
back_within edges back r = λ k d few.
    let is : slice_get back k ≡ Some (get_or back k d) = get_index back k d (get_or back k d) few refl in
    all_from_has (λ y. y < length back) (get_or back k d) (λ y has.
    let edge = r.again y k (get_or back k d, is, has) in let small = get_small edges y edge.0 edge.1 in let size = r.len in omega arith)
