-- Passes come back, one after the other, and row after row.
use Rattle.std.proofs.Common.{◌≡◌, ℕ, zero, suc, ◌+◌, ◌-◌, ◌<◌, ◌≤◌, ◌^◌, List, [], ◌∷◌, ◌++◌, length, map, set, get_or, sum_by, refl, sym, ap, ◌∙◌, subst, arith, length-append}
use Rattle.std.specs.List.{AllByRecursion, AllZip}
use Rattle.std.proofs.lemmas.List.Sums.{sum_by-append, sum_by-cons, sum_by-set}
use Rattle.crossbeam_deque.specs.Handles.{stealer_deque, worker_flavor}
use Rattle.number_draws.specs.declared.hand.Hand.{Hand}
use Rattle.number_draws.specs.Hands.{all_parts}
use Rattle.job_seats.specs.declared.place.Link.{Link}
use Rattle.job_seats.specs.declared.place.Seat.{Seat}
use Rattle.job_seats.specs.Seats.{link_view, IsLink, weight}
use Rattle.job_seats.specs.Left.{IsWhole}
use Rattle.job_crew.specs.Tying.{DequeId, AreLinks, own_view, own_id, kept_of, LackParts, HaveLinks, SameOwn, SamePlace, SameView, IsGathered, AreTied, links_weight}
use Rattle.job_crew.proofs.Lists.{rec_set, rec_at, rec_of, set_long, long_map, map_get, map_keep, sum_keep, AllFirst, first_more, first_all, zip_long, zip_same, zip_set, zip_at, zip_map, zip_sum, zip_rec, zip_with, zip_then}
use Rattle.job_crew.proofs.Parts.{parts_keep, parts_there, parts_more, row_begun, parts_whole, parts_same, long_same, long_next, long_at, long_first}

pub links_pop : (links : List Link) (ids : List DequeId) (l : Link) (d : DequeId) → AreLinks (links ++ l ∷ []) ids → AreLinks links ids × IsLink l × (stealer_deque l.thief ≡ get_or ids (length links) d) × ((link_view l).parts ≡ 1) × (length links < length ids)
links_pop [] [] l d tied = absurd tied
links_pop [] (id ∷ ids) l d tied = (tt, tied.0, tied.1, tied.2, omega arith)
links_pop (m ∷ links) [] l d tied = absurd tied
links_pop (m ∷ links) (id ∷ ids) l d tied =
    let rest = links_pop links ids l d tied.3 in
    ((tied.0, tied.1, tied.2, rest.0), rest.1, rest.2, rest.3, (let low = rest.4 in omega arith))

links_low : (links : List Link) (ids : List DequeId) (l : Link) → AreLinks (links ++ l ∷ []) ids → length links < length ids
links_low [] [] l tied = absurd tied
links_low [] (id ∷ ids) l tied = omega arith
links_low (m ∷ links) [] l tied = absurd tied
links_low (m ∷ links) (id ∷ ids) l tied = let rest = links_low links ids l tied.3 in omega arith

pub no_links : (left : List Link) → length left ≡ 0 → left ≡ []
no_links [] e = refl
no_links (l ∷ left) e = absurd (omega arith)

module _ {X : Type 0} where
  own_then : (a b c : Seat X) → SameOwn a b → SameOwn b c → SameOwn a c
  own_then a b c f t = record { id = t.id ∙ f.id; flavor = t.flavor ∙ f.flavor; put = t.put ∙ f.put; kept = t.kept ∙ f.kept }

  own_same : (s : Seat X) → SameOwn s s
  own_same s = record { id = refl; flavor = refl; put = refl; kept = refl }

  place_then : (a b c : Seat X) → SamePlace a b → SamePlace b c → SamePlace a c
  place_then a b c f t = record { own = own_then a b c f.own t.own; links = t.links ∙ f.links }

  place_same : (s : Seat X) → SamePlace s s
  place_same s = record { own = own_same s; links = refl }

  view_then : (a b c : Seat X) → SameView a b → SameView b c → SameView a c
  view_then a b c f t = record { place = place_then a b c f.place t.place; view = t.view ∙ f.view }

  -- ---- one row
  -- some passes of a row are back, and these are left
  pub record IsReturning (rows : ℕ) (ss ts : List (Seat X)) (all left : List Link) : Type 0 where
    pub same : AllZip SamePlace ss ts
    pub links : AreLinks left (map own_id ss)
    pub parts : LackParts rows (length left) ts
    pub taken : (h : ℕ → ℕ) → sum_by (λ s. weight h s) ts + links_weight h left ≡ sum_by (λ s. weight h s) ss + links_weight h all

  pub returning_none : (rows : ℕ) (ss : List (Seat X)) (links : List Link) → AreLinks links (map own_id ss) → LackParts rows (length links) ss → IsReturning rows ss ss links links
  returning_none rows ss links tied parts = record { same = zip_same SamePlace place_same ss; links = tied; parts = parts; taken = λ h. refl }

  module _ (rows : ℕ) (ss ts : List (Seat X)) (links left left' : List Link) (l : Link) (at : ℕ) (is_at : at ≡ length left') (popped : left ≡ left' ++ l ∷ []) (h : IsReturning rows ss ts links left) where
    low_ss : at < length ss
    low_ss = let low = links_low left' (map own_id ss) l (subst (λ (ls : List Link). AreLinks ls (map own_id ss)) popped h.links) in let m = long_map own_id ss in omega arith

    -- there is such a place
    pub returned_low : at < length ts
    returned_low = let z = zip_long SamePlace ss ts h.same in let low = low_ss in omega arith

    parts_here : LackParts rows (suc at) ts
    parts_here =
        let e = ap (λ (ls : List Link). length ls) popped in
        let many : length left ≡ suc at = omega (arith, length-append left' (l ∷ [])) in
        subst (λ (n : ℕ). LackParts rows n ts) many h.parts

    module _ (d : Seat X) where
      tied : AreLinks left' (map own_id ss) × IsLink l × (stealer_deque l.thief ≡ get_or (map own_id ss) (length left') (own_id d)) × ((link_view l).parts ≡ 1) × (length left' < length (map own_id ss))
      tied = links_pop left' (map own_id ss) l (own_id d) (subst (λ (ls : List Link). AreLinks ls (map own_id ss)) popped h.links)

      -- it is a link to this deque
      pub returned_link : IsLink l × (stealer_deque l.thief ≡ own_id (get_or ts at d))
      returned_link =
          let there : stealer_deque l.thief ≡ get_or (map own_id ss) at (own_id d) = subst (λ (n : ℕ). stealer_deque l.thief ≡ get_or (map own_id ss) n (own_id d)) (sym is_at) tied.2 in
          (tied.1, there ∙ (map_get own_id ss at d low_ss ∙ sym (zip_at SamePlace ss ts at d d returned_low h.same).own.id))

      pub returned_part : rows < length ss → length ss < 2 ^ 64 → 0 < (own_view (get_or ts at d)).parts
      returned_part few most = let p = parts_there rows at ts d returned_low parts_here in omega arith

      pub returned_more : (s : Seat X) → SamePlace (get_or ts at d) s → (own_view s).parts ≡ (own_view (get_or ts at d)).parts + (link_view l).parts → (own_view s).taken ≡ (own_view (get_or ts at d)).taken ++ (link_view l).taken
          → IsReturning rows ss (set ts at s) links left'
      returned_more s same parts taken =
          let old : Seat X = get_or ts at d in
          record {
            same = zip_set SamePlace place_then ss ts at s d returned_low same h.same;
            links = tied.0;
            parts = subst (λ (n : ℕ). LackParts rows n (set ts at s)) is_at (parts_more rows at ts s d returned_low (parts ∙ ap (λ n. (own_view old).parts + n) tied.3) parts_here);
            taken = λ g.
                let t = ap (λ (ns : List ℕ). sum_by g ns) taken in
                let b = h.taken g in
                let p : links_weight g left ≡ links_weight g (left' ++ l ∷ []) = ap (λ (ls : List Link). links_weight g ls) popped in
                let k = ap (λ ls. links_weight g ls.items) same.links in
                omega (
                  arith,
                  sum_by-append g (own_view old).taken (link_view l).taken,
                  sum_by-append (λ (m : Link). sum_by g (link_view m).taken) left' (l ∷ []),
                  sum_by-cons (λ (m : Link). sum_by g (link_view m).taken) l [],
                  sum_by-set (λ (x : Seat X). weight g x) ts at s d returned_low,
                );
          }

  pub returned_parts : (rows : ℕ) (ss ts : List (Seat X)) (links left : List Link) → length left ≡ 0 → IsReturning rows ss ts links left → LackParts rows 0 ts
  returned_parts rows ss ts links left none h = subst (λ (n : ℕ). LackParts rows n ts) none h.parts

  pub returned_taken : (rows : ℕ) (ss ts : List (Seat X)) (links left : List Link) → length left ≡ 0 → IsReturning rows ss ts links left → (g : ℕ → ℕ) → sum_by (λ s. weight g s) ts ≡ sum_by (λ s. weight g s) ss + links_weight g links
  returned_taken rows ss ts links left none h g = let b = h.taken g in let e = ap (λ (ls : List Link). links_weight g ls) (no_links left none) in omega arith

  -- ---- all rows
  -- the first places have given their links back
  pub record AreReturning (n w : ℕ) (ss ts : List (Seat X)) : Type 0 where
    pub same : AllZip SameOwn ss ts
    pub tied : AreTied 0 n w (n - w) ts
    pub taken : (h : ℕ → ℕ) → sum_by (λ s. weight h s) ts ≡ sum_by (λ s. weight h s) ss

  pub rows_none : (n : ℕ) (ss : List (Seat X)) → AreTied 0 n 0 n ss → AreReturning n 0 ss ss
  rows_none n ss tied = let e : n ≡ n - 0 = omega arith in record { same = zip_same SameOwn own_same ss; tied = subst (λ (i : ℕ). AreTied 0 n 0 i ss) e tied; taken = λ h. refl }

  module _ (n w : ℕ) (ss ts : List (Seat X)) (s d : Seat X) (many : length ss ≡ n) (within : w < n) (h : AreReturning n w ss ts) (own : s.own ≡ (get_or ts w d).own) (kept : s.kept ≡ (get_or ts w d).kept) (none : s.links.items ≡ []) (row : List Link) (is : row ≡ (get_or ts w d).links.items) where
    low : w < length ts
    low = let z = zip_long SameOwn ss ts h.same in omega arith

    view : own_view s ≡ own_view (get_or ts w d)
    view = ap (λ o. o.end.pass.me.view.client) own

    id : own_id s ≡ own_id (get_or ts w d)
    id = ap (λ o. (o.deque.value.rows.id, o.deque.value.rows.heap)) own

    ids : map own_id (set ts w s) ≡ map own_id ts
    ids = map_keep own_id ts w s d low id

    pub out_long : length (set ts w s) ≡ n
    out_long = let z = zip_long SameOwn ss ts h.same in let e = set_long ts w s in omega arith

    -- its links are taken out
    pub out_links : AreLinks row (map own_id (set ts w s))
    out_links = subst (λ (p : List Link × List DequeId). AreLinks p.0 p.1) (λ k. (sym is k, sym ids k)) (rec_at (λ (t : Seat X). AreLinks t.links.items (map own_id ts)) ts w d low h.tied.ties)

    whole_row : length row ≡ n
    whole_row = ap (λ (ls : List Link). length ls) is ∙ long_at 0 n w ts d low h.tied.long

    pub out_parts : LackParts (n - w - 1) (length row) (set ts w s)
    out_parts =
        let e : n - w ≡ suc (n - w - 1) = omega arith in
        let all : LackParts (suc (n - w - 1)) 0 ts = subst (λ (i : ℕ). LackParts i 0 ts) e h.tied.parts in
        parts_keep (n - w - 1) (length row) ts w s d low (ap (λ (v : Hand). v.parts) view)
        (row_begun (n - w - 1) (length row) ts (let z = zip_long SameOwn ss ts h.same in let r = whole_row in omega arith) all)

    out_taken : (g : ℕ → ℕ) → sum_by (λ (t : Seat X). weight g t) (set ts w s) + links_weight g row ≡ sum_by (λ (t : Seat X). weight g t) ts
    out_taken g =
        let o = ap (λ (v : Hand). sum_by g v.taken) view in
        let e : links_weight g s.links.items ≡ 0 = ap (λ (ls : List Link). links_weight g ls) none in
        let r : links_weight g row ≡ links_weight g (get_or ts w d).links.items = ap (λ (ls : List Link). links_weight g ls) is in
        omega (arith, sum_by-set (λ (t : Seat X). weight g t) ts w s d low)

    -- and given back
    pub rows_more : (us : List (Seat X)) → AllZip SamePlace (set ts w s) us → LackParts (n - w - 1) 0 us → ((g : ℕ → ℕ) → sum_by (λ (t : Seat X). weight g t) us ≡ sum_by (λ (t : Seat X). weight g t) (set ts w s) + links_weight g row)
        → AreReturning n (w + 1) ss us
    rows_more us same parts taken =
        let next : suc w ≡ w + 1 = omega arith in
        let fewer : n - w - 1 ≡ n - (w + 1) = omega arith in
        let ids' : map own_id us ≡ map own_id (set ts w s) = zip_map SamePlace own_id (λ x y e. e.own.id) (set ts w s) us same in
        let ties : AllByRecursion (λ (t : Seat X). AreLinks t.links.items (map own_id ts)) (set ts w s) =
        rec_set (λ (t : Seat X). AreLinks t.links.items (map own_id ts)) ts w s (subst (λ (ls : List Link). AreLinks ls (map own_id ts)) (sym none) tt) h.tied.ties in
        let ties' : AllByRecursion (λ (t : Seat X). AreLinks t.links.items (map own_id ts)) us =
        zip_rec SamePlace (λ (t : Seat X). AreLinks t.links.items (map own_id ts)) (λ (t : Seat X). AreLinks t.links.items (map own_id ts)) (λ x y e links. subst (λ ls. AreLinks ls.items (map own_id ts)) (sym e.links) links) (set ts w s) us same ties in
        let long : HaveLinks 0 n (suc w) (set ts w s) = long_next 0 n w ts s low (ap (λ (ls : List Link). length ls) none) h.tied.long in
        let same_out : AllZip SameOwn ss (set ts w s) =
        zip_set SameOwn own_then ss ts w s d low (record { id = id; flavor = ap (λ o. worker_flavor o) own; put = ap (λ (v : Hand). v.put) view; kept = ap (λ k. k.items) kept }) h.same in
        record {
          same = zip_then SameOwn SamePlace SameOwn (λ x y z f t. own_then x y z f t.own) ss (set ts w s) us same_out same;
          tied = record {
            ties = subst (λ (is : List DequeId). AllByRecursion (λ (t : Seat X). AreLinks t.links.items is) us) (sym (ids' ∙ ids)) ties';
            long = subst (λ (i : ℕ). HaveLinks 0 n i us) next (long_same SamePlace (λ x y e. ap (λ ls. length ls.items) e.links) 0 n (suc w) (set ts w s) us same long);
            parts = subst (λ (i : ℕ). LackParts i 0 us) fewer parts;
          };
          taken = λ g. let t = taken g in let o = out_taken g in let b = h.taken g in omega arith;
        }

  -- ---- all deques are looked at
  pub record AreLookedAt (w : ℕ) (ss ts : List (Seat X)) : Type 0 where
    pub same : AllZip SameView ss ts
    pub whole : AllFirst (λ (s : Seat X). IsWhole (own_view s)) w ts

  pub looked_none : (ss : List (Seat X)) → AreLookedAt 0 ss ss
  looked_none ss = record { same = zip_same SameView (λ s. record { place = place_same s; view = refl }) ss; whole = tt }

  pub looked_low : (w : ℕ) (ss ts : List (Seat X)) → w < length ss → AreLookedAt w ss ts → w < length ts
  looked_low w ss ts within h = let z = zip_long SameView ss ts h.same in omega arith

  pub looked_parts : (w : ℕ) (ss ts : List (Seat X)) (d : Seat X) → w < length ss → AreLookedAt w ss ts → AllByRecursion (λ (s : Seat X). (own_view s).parts ≡ all_parts) ss → (own_view (get_or ts w d)).parts ≡ all_parts
  looked_parts w ss ts d within h all =
      ap (λ (v : Hand). v.parts) (zip_at SameView ss ts w d d (looked_low w ss ts within h) h.same).view ∙ rec_at (λ (s : Seat X). (own_view s).parts ≡ all_parts) ss w d within all

  pub looked_more : (w : ℕ) (ss ts : List (Seat X)) (s d : Seat X) → w < length ss → AreLookedAt w ss ts → SameView (get_or ts w d) s → IsWhole (own_view s) → AreLookedAt (w + 1) ss (set ts w s)
  looked_more w ss ts s d within h same whole = record {
    same = zip_set SameView view_then ss ts w s d (looked_low w ss ts within h) same h.same;
    whole = first_more (λ (t : Seat X). IsWhole (own_view t)) ts w s whole h.whole;
  }

  pub looked_all : (w : ℕ) (ss ts : List (Seat X)) → length ss ≤ w → AreLookedAt w ss ts → AllByRecursion (λ (s : Seat X). IsWhole (own_view s)) ts
  looked_all w ss ts all h = first_all (λ (t : Seat X). IsWhole (own_view t)) ts w (let z = zip_long SameView ss ts h.same in omega arith) h.whole

  -- ---- all together
  module _ (n : ℕ) (ss ts : List (Seat X)) (many : length ss ≡ n) (same : AllZip SameOwn ss ts) (tied : AreTied 0 n n 0 ts) where
    pub all_whole : AllByRecursion (λ (s : Seat X). (own_view s).parts ≡ all_parts) ts
    all_whole = parts_whole ts tied.parts

    pub all_gathered : (us : List (Seat X)) → AllZip SameView ts us → AllByRecursion (λ (s : Seat X). IsWhole (own_view s)) us → AllZip IsGathered ss us
    all_gathered us looked whole =
        let none_ts : AllByRecursion (λ (s : Seat X). length s.links.items ≡ 0) ts = long_first 0 n n ts (let z = zip_long SameOwn ss ts same in omega arith) tied.long in
        let none : AllByRecursion (λ (s : Seat X). length s.links.items ≡ 0) us =
        zip_rec SameView (λ (s : Seat X). length s.links.items ≡ 0) (λ (s : Seat X). length s.links.items ≡ 0) (λ x y e z. ap (λ ls. length ls.items) e.place.links ∙ z) ts us looked none_ts in
        let both : AllZip SameOwn ss us = zip_then SameOwn SameView SameOwn (λ x y z f t. own_then x y z f t.place.own) ss ts us same looked in
        let with_links : AllZip (λ (s t : Seat X). SameOwn s t × (t.links.items ≡ [])) ss us =
        zip_with SameOwn (λ (s : Seat X). length s.links.items ≡ 0) (λ (s t : Seat X). SameOwn s t × (t.links.items ≡ [])) (λ x y e z. (e, no_links y.links.items z)) ss us both none in
        zip_with (λ (s t : Seat X). SameOwn s t × (t.links.items ≡ [])) (λ (s : Seat X). IsWhole (own_view s)) IsGathered (λ x y e w. record { own = e.0; links = e.1; whole = w }) ss us with_links whole

  pub looked_weight : (ts us : List (Seat X)) → AllZip SameView ts us → (g : ℕ → ℕ) → sum_by (λ (s : Seat X). weight g s) us ≡ sum_by (λ (s : Seat X). weight g s) ts
  looked_weight ts us looked g =
      zip_sum SameView (λ (s : Seat X). weight g s) (λ x y e. let o = ap (λ (v : Hand). sum_by g v.taken) e.view in let k = ap (λ ls. links_weight g ls.items) e.place.links in omega arith) ts us looked
