-- Links are made, one after the other, and row after row.
use Rattle.std.proofs.Common.{◌≡◌, ℕ, zero, suc, ◌+◌, ◌-◌, ◌<◌, ◌≤◌, ◌^◌, List, [], ◌∷◌, ◌++◌, length, map, set, get_or, sum_by, refl, sym, ap, ◌∙◌, subst, arith, length-append}
use Rattle.std.specs.List.{AllByRecursion, AllZip}
use Rattle.crossbeam_deque.specs.Handles.{stealer_deque, worker_flavor}
use Rattle.number_draws.specs.declared.hand.Hand.{Hand}
use Rattle.number_draws.specs.Hands.{all_parts, hand}
use Rattle.number_draws.specs.Below.{below}
use Rattle.number_draws.specs.Dealt as dealt
use Rattle.job_seats.specs.declared.place.Link.{Link}
use Rattle.job_seats.specs.declared.place.Seat.{Seat}
use Rattle.job_seats.specs.Seats.{link_view, IsLink, IsBelow, IsSeat, weight}
use Rattle.job_crew.specs.Tying.{DequeId, AreLinks, own_view, own_id, kept_of, LackParts, HaveLinks, SameOwn, SamePlace, SameTaken, HasLinked, HasRows, AreTied, IsFresh, links_weight}
use Rattle.job_crew.proofs.Lists.{rec_set, rec_at, rec_of, rec_push, set_long, long_map, map_get, map_keep, sum_keep, sum_zero, zip_long, zip_same, zip_set, zip_at, zip_map, zip_sum, zip_rec}
use Rattle.job_crew.proofs.Parts.{parts_keep, parts_at, parts_less, row_done, whole_parts, parts_some, long_same, long_next, long_last}

pub links_push : (links : List Link) (ids : List DequeId) (l : Link) (d : DequeId) → length links < length ids → IsLink l → (link_view l).parts ≡ 1 → stealer_deque l.thief ≡ get_or ids (length links) d → AreLinks links ids → AreLinks (links ++ l ∷ []) ids
links_push [] [] l d within is one here tied = absurd (omega arith)
links_push [] (id ∷ ids) l d within is one here tied = (is, here, one, tt)
links_push (m ∷ links) [] l d within is one here tied = absurd tied
links_push (m ∷ links) (id ∷ ids) l d within is one here tied = (tied.0, tied.1, tied.2, links_push links ids l d (omega arith) is one here tied.3)

pub links_right : (links : List Link) (ids : List DequeId) → AreLinks links ids → AllByRecursion IsLink links
links_right [] ids tied = tt
links_right (l ∷ links) [] tied = absurd tied
links_right (l ∷ links) (id ∷ ids) tied = (tied.0, links_right links ids tied.3)

module _ {X : Type 0} where
  taken_then : (a b c : Seat X) → SameTaken a b → SameTaken b c → SameTaken a c
  taken_then a b c f t = record {
    place = record {
      own = record {
        id = t.place.own.id ∙ f.place.own.id;
        flavor = t.place.own.flavor ∙ f.place.own.flavor;
        put = t.place.own.put ∙ f.place.own.put;
        kept = t.place.own.kept ∙ f.place.own.kept;
      };
      links = t.place.links ∙ f.place.links;
    };
    taken = t.taken ∙ f.taken;
  }

  taken_same : (s : Seat X) → SameTaken s s
  taken_same s = record { place = record { own = record { id = refl; flavor = refl; put = refl; kept = refl }; links = refl }; taken = refl }

  -- none is made yet
  pub linked_none : (rows : ℕ) (ss : List (Seat X)) → LackParts rows 0 ss → HasLinked rows 0 ss ss []
  linked_none rows ss parts = record {
    same = zip_same SameTaken taken_same ss;
    parts = parts;
    links = tt;
    many = refl;
    below = λ end all. tt;
    taken = tt;
  }

  -- the next deque has parts to give
  pub some_parts : (rows k : ℕ) (ss ts : List (Seat X)) (links : List Link) (d : Seat X) → rows < length ss → length ss < 2 ^ 64 → k < length ss → HasLinked rows k ss ts links → 1 < (own_view (get_or ts k d)).parts
  some_parts rows k ss ts links d few most within h =
      let long = zip_long SameTaken ss ts h.same in
      let p = parts_at rows k ts d (omega arith) h.parts in
      omega arith

  -- one more is made
  pub linked_more : (rows k : ℕ) (ss ts : List (Seat X)) (links links' : List Link) (l : Link) (s d : Seat X) → k < length ss → HasLinked rows k ss ts links → SameTaken (get_or ts k d) s → (own_view s).parts + 1 ≡ (own_view (get_or ts k d)).parts
      → IsLink l → stealer_deque l.thief ≡ own_id (get_or ts k d) → link_view l ≡ hand 1 (own_view (get_or ts k d)).put [] → links' ≡ links ++ l ∷ [] → HasLinked rows (k + 1) ss (set ts k s) links'
  linked_more rows k ss ts links links' l s d within h same parts is to view pushed =
      let long = zip_long SameTaken ss ts h.same in
      let low : k < length ts = omega arith in
      let next : suc k ≡ k + 1 = omega arith in
      let before : SameTaken (get_or ss k d) (get_or ts k d) = zip_at SameTaken ss ts k d d low h.same in
      let here : stealer_deque l.thief ≡ get_or (map own_id ss) (length links) (own_id d) =
      to ∙ (before.place.own.id ∙ (sym (map_get own_id ss k d within) ∙ ap (λ (n : ℕ). get_or (map own_id ss) n (own_id d)) (sym h.many))) in
      let many = h.many in
      record {
        same = zip_set SameTaken taken_then ss ts k s d low same h.same;
        parts = subst (λ (n : ℕ). LackParts rows n (set ts k s)) next (parts_less rows k ts s d low parts h.parts);
        links = subst (λ (ls : List Link). AreLinks ls (map own_id ss)) (sym pushed) (links_push links (map own_id ss) l (own_id d) (let m = long_map own_id ss in omega arith) is (ap (λ (v : Hand). v.parts) view) here h.links);
        many = (let e = ap (λ (ls : List Link). length ls) pushed in omega (arith, length-append links (l ∷ [])));
        below = λ end all. subst (λ (ls : List Link). AllByRecursion (λ (m : Link). IsBelow end (link_view m)) ls) (sym pushed)
            (rec_push (λ (m : Link). IsBelow end (link_view m)) links l (h.below end all)
            (subst (λ (put : List ℕ). AllByRecursion (λ i. i < end) put) (sym (ap (λ (v : Hand). v.put) view ∙ before.place.own.put)) (rec_at (λ (t : Seat X). IsBelow end (own_view t)) ss k d within all)));
        taken = subst (λ (ls : List Link). AllByRecursion (λ (m : Link). (link_view m).taken ≡ []) ls) (sym pushed) (rec_push (λ (m : Link). (link_view m).taken ≡ []) links l h.taken (ap (λ (v : Hand). v.taken) view));
      }

  -- a whole row
  pub linked_all : (rows k : ℕ) (ss ts : List (Seat X)) (links : List Link) → k ≡ length ss → HasLinked rows k ss ts links → HasLinked rows (length ss) ss ts links
  linked_all rows k ss ts links all h = subst (λ (n : ℕ). HasLinked rows n ss ts links) all h

  fresh_same : (end : ℕ) (s t : Seat X) → SameTaken s t → IsFresh end s → IsFresh end t
  fresh_same end s t same fresh = record {
    flavor = same.place.own.flavor ∙ fresh.flavor;
    below = subst (λ (put : List ℕ). AllByRecursion (λ i. i < end) put) (sym same.place.own.put) fresh.below;
    taken = same.taken ∙ fresh.taken;
    kept = same.place.own.kept ∙ fresh.kept;
    links_below = subst (λ ls. AllByRecursion (λ (l : Link). IsBelow end (link_view l)) ls.items) (sym same.place.links) fresh.links_below;
    links_taken = subst (λ ls. AllByRecursion (λ (l : Link). (link_view l).taken ≡ []) ls.items) (sym same.place.links) fresh.links_taken;
  }

  module _ (end n me : ℕ) (ss ts : List (Seat X)) (links : List Link) (s d : Seat X) (many : length ss ≡ n) (within : me < n) (h : HasLinked me (length ss) ss ts links) (own : s.own ≡ (get_or ts me d).own) (kept : s.kept ≡ (get_or ts me d).kept)
      (has : s.links.items ≡ links) where
    long : length ts ≡ length ss
    long = zip_long SameTaken ss ts h.same

    low : me < length ts
    low = let l = long in omega arith

    pub seats_long : length (set ts me s) ≡ n
    seats_long = let l = long in let e = set_long ts me s in omega arith

    -- the links are put at their place
    pub seats_fresh : AllByRecursion (IsFresh end) ss → AllByRecursion (IsFresh end) (set ts me s)
    seats_fresh fresh =
        let all : AllByRecursion (IsFresh end) ts = zip_rec SameTaken (IsFresh end) (IsFresh end) (fresh_same end) ss ts h.same fresh in
        let old : IsFresh end (get_or ts me d) = rec_at (IsFresh end) ts me d low all in
        rec_set (IsFresh end) ts me s
        (record {
          flavor = ap (λ o. worker_flavor o) own ∙ old.flavor;
          below = subst (λ o. IsBelow end o) (sym (ap (λ o. o.end.pass.me.view.client) own)) old.below;
          taken = ap (λ o. o.end.pass.me.view.client.taken) own ∙ old.taken;
          kept = ap (λ k. k.items) kept ∙ old.kept;
          links_below = subst (λ (ls : List Link). AllByRecursion (λ (l : Link). IsBelow end (link_view l)) ls) (sym has) (h.below end (rec_of (IsFresh end) (λ (t : Seat X). IsBelow end (own_view t)) ss (λ t f. f.below) fresh));
          links_taken = subst (λ (ls : List Link). AllByRecursion (λ (l : Link). (link_view l).taken ≡ []) ls) (sym has) h.taken;
        }) all

    pub seats_put : (g : ℕ → ℕ) → sum_by (λ (t : Seat X). sum_by g (own_view t).put) (set ts me s) ≡ sum_by (λ (t : Seat X). sum_by g (own_view t).put) ss
    seats_put g =
        sum_keep (λ (t : Seat X). sum_by g (own_view t).put) ts me s d low (ap (λ o. sum_by g o.end.pass.me.view.client.put) own)
        ∙ zip_sum SameTaken (λ (t : Seat X). sum_by g (own_view t).put) (λ x y same. ap (λ (put : List ℕ). sum_by g put) same.place.own.put) ss ts h.same

    ids_ts : map own_id ts ≡ map own_id ss
    ids_ts = zip_map SameTaken own_id (λ x y same. same.place.own.id) ss ts h.same

    ids : map own_id (set ts me s) ≡ map own_id ss
    ids = map_keep own_id ts me s d low (ap (λ o. (o.deque.value.rows.id, o.deque.value.rows.heap)) own) ∙ ids_ts

    pub seats_tied : AreTied n 0 me me ss → AreTied n 0 (me + 1) (me + 1) (set ts me s)
    seats_tied tied =
        let next : suc me ≡ me + 1 = omega arith in
        let ties_ts : AllByRecursion (λ (t : Seat X). AreLinks t.links.items (map own_id ss)) ts =
        zip_rec SameTaken (λ (t : Seat X). AreLinks t.links.items (map own_id ss)) (λ (t : Seat X). AreLinks t.links.items (map own_id ss)) (λ x y same links. subst (λ ls. AreLinks ls.items (map own_id ss)) (sym same.place.links) links) ss ts h.same tied.ties in
        let long_ts : HaveLinks n 0 me ts = long_same SameTaken (λ x y same. ap (λ ls. length ls.items) same.place.links) n 0 me ss ts h.same tied.long in
        let done : LackParts (suc me) 0 ts = row_done me (length ss) ts (let l = long in omega arith) h.parts in
        record {
          ties = subst (λ (is : List DequeId). AllByRecursion (λ (t : Seat X). AreLinks t.links.items is) (set ts me s)) (sym ids)
              (rec_set (λ (t : Seat X). AreLinks t.links.items (map own_id ss)) ts me s (subst (λ (ls : List Link). AreLinks ls (map own_id ss)) (sym has) h.links) ties_ts);
          long = subst (λ (i : ℕ). HaveLinks n 0 i (set ts me s)) next (long_next n 0 me ts s low (let e = ap (λ (ls : List Link). length ls) has in let m = h.many in omega arith) long_ts);
          parts = subst (λ (i : ℕ). LackParts i 0 (set ts me s)) next (parts_keep (suc me) 0 ts me s d low (ap (λ o. o.end.pass.me.view.client.parts) own) done);
        }

  pub rows_none : (n : ℕ) (ss : List (Seat X)) → length ss ≡ n → AreTied n 0 0 0 ss → HasRows n 0 ss ss
  rows_none n ss many tied = record { many = many; tied = tied; fresh = λ end fresh. fresh; put = λ h. refl }

  -- one more place has links
  pub rows_more : (n me : ℕ) (before ss ts : List (Seat X)) (links : List Link) (s d : Seat X) → me < n → HasRows n me before ss → HasLinked me (length ss) ss ts links → s.own ≡ (get_or ts me d).own → s.kept ≡ (get_or ts me d).kept → s.links.items ≡ links
      → HasRows n (me + 1) before (set ts me s)
  rows_more n me before ss ts links s d within rows h own kept has = record {
    many = seats_long 0 n me ss ts links s d rows.many within h own kept has;
    tied = seats_tied 0 n me ss ts links s d rows.many within h own kept has rows.tied;
    fresh = λ end fresh. seats_fresh end n me ss ts links s d rows.many within h own kept has (rows.fresh end fresh);
    put = λ g. seats_put 0 n me ss ts links s d rows.many within h own kept has g ∙ rows.put g;
  }

  -- ---- the places, at first
  module _ {D : Type 0} (own : Seat X → D) (view : D → Hand) (flavor : D → ℕ) (same_view : (s : Seat X) → own_view s ≡ view (own s)) (same_flavor : (s : Seat X) → worker_flavor s.own ≡ flavor (own s)) where
    begun_each : (end : ℕ) (ss : List (Seat X)) → AllByRecursion (λ s. (s.links.items ≡ []) × (s.kept.items ≡ [])) ss → AllByRecursion (λ d. flavor d ≡ 0) (map own ss) → AllByRecursion (dealt.IsFresh end) (map view (map own ss)) → AllByRecursion (IsFresh end) ss
    begun_each end [] none fifo fresh = tt
    begun_each end (s ∷ ss) none fifo fresh = (
      record {
        flavor = same_flavor s ∙ fifo.0;
        below = subst (λ (v : Hand). IsBelow end v) (sym (same_view s)) fresh.0.below;
        taken = ap (λ (v : Hand). v.taken) (same_view s) ∙ fresh.0.taken;
        kept = none.0.1;
        links_below = subst (λ (ls : List Link). AllByRecursion (λ (l : Link). IsBelow end (link_view l)) ls) (sym none.0.0) tt;
        links_taken = subst (λ (ls : List Link). AllByRecursion (λ (l : Link). (link_view l).taken ≡ []) ls) (sym none.0.0) tt;
      },
      begun_each end ss none.1 fifo.1 fresh.1,
    )

    begun_whole : (end : ℕ) (ss : List (Seat X)) → AllByRecursion (dealt.IsFresh end) (map view (map own ss)) → AllByRecursion (λ s. (own_view s).parts ≡ all_parts) ss
    begun_whole end [] fresh = tt
    begun_whole end (s ∷ ss) fresh = (ap (λ (v : Hand). v.parts) (same_view s) ∙ fresh.0.parts, begun_whole end ss fresh.1)

    module _ (end : ℕ) (ss : List (Seat X)) (deques : List D) (is : map own ss ≡ deques) (none : AllByRecursion (λ s. (s.links.items ≡ []) × (s.kept.items ≡ [])) ss) where
      pub begun_fresh : AllByRecursion (λ d. flavor d ≡ 0) deques → dealt.AreDealt end (map view deques) → AllByRecursion (IsFresh end) ss
      begun_fresh fifo deal =
          begun_each end ss none (subst (λ (ds : List D). AllByRecursion (λ d. flavor d ≡ 0) ds) (sym is) fifo) (subst (λ (ds : List D). AllByRecursion (dealt.IsFresh end) (map view ds)) (sym is) deal.fresh)

      pub begun_tied : (n : ℕ) → dealt.AreDealt end (map view deques) → AreTied n 0 0 0 ss
      begun_tied n deal = record {
        ties = rec_of (λ (s : Seat X). (s.links.items ≡ []) × (s.kept.items ≡ [])) (λ (s : Seat X). AreLinks s.links.items (map own_id ss)) ss (λ s e. subst (λ (ls : List Link). AreLinks ls (map own_id ss)) (sym e.0) tt) none;
        long = long_last n 0 ss (rec_of (λ (s : Seat X). (s.links.items ≡ []) × (s.kept.items ≡ [])) (λ (s : Seat X). length s.links.items ≡ 0) ss (λ s e. ap (λ (ls : List Link). length ls) e.0) none);
        parts = whole_parts ss (begun_whole end ss (subst (λ (ds : List D). AllByRecursion (dealt.IsFresh end) (map view ds)) (sym is) deal.fresh));
      }

  -- ---- the places, ready
  ready_seat : (end : ℕ) (ids : List DequeId) (s : Seat X) → IsFresh end s → AreLinks s.links.items ids → 0 < (own_view s).parts → IsSeat end s
  ready_seat end ids s fresh links part = record { flavor = fresh.flavor; part = part; below = fresh.below; links = links_right s.links.items ids links; links_below = fresh.links_below }

  all_ready : (end : ℕ) (ids : List DequeId) (ss : List (Seat X)) → AllByRecursion (IsFresh end) ss → AllByRecursion (λ (s : Seat X). AreLinks s.links.items ids) ss → AllByRecursion (λ s. 0 < (own_view s).parts) ss → AllByRecursion (IsSeat end) ss
  all_ready end _ [] fresh links some = tt
  all_ready end ids (s ∷ ss) fresh links some = (ready_seat end ids s fresh.0 links.0 some.0, all_ready end ids ss fresh.1 links.1 some.1)

  pub seats_ready : (end a b m rows : ℕ) (ss : List (Seat X)) → rows < 2 ^ 64 → AllByRecursion (IsFresh end) ss → AreTied a b m rows ss → AllByRecursion (IsSeat end) ss
  seats_ready end a b m rows ss few fresh tied = all_ready end (map own_id ss) ss fresh tied.ties (parts_some rows ss few tied.parts)

  -- nothing is taken yet
  fresh_weight : (end : ℕ) (g : ℕ → ℕ) (s : Seat X) → IsFresh end s → weight g s ≡ 0
  fresh_weight end g s fresh =
      let own : sum_by g (own_view s).taken ≡ 0 = ap (λ (l : List ℕ). sum_by g l) fresh.taken in
      let links : links_weight g s.links.items ≡ 0 =
      sum_zero (λ (l : Link). sum_by g (link_view l).taken) s.links.items (rec_of (λ (l : Link). (link_view l).taken ≡ []) (λ (l : Link). sum_by g (link_view l).taken ≡ 0) s.links.items (λ l e. ap (λ (ns : List ℕ). sum_by g ns) e) fresh.links_taken) in
      omega arith

  pub fresh_weights : (end : ℕ) (ss : List (Seat X)) → AllByRecursion (IsFresh end) ss → (g : ℕ → ℕ) → sum_by (λ (s : Seat X). weight g s) ss ≡ 0
  fresh_weights end ss fresh g = sum_zero (λ (s : Seat X). weight g s) ss (rec_of (IsFresh end) (λ (s : Seat X). weight g s ≡ 0) ss (fresh_weight end g) fresh)
