-- A heap that keeps no history stands for worlds, and each call takes each of them to one that the heap then stands for.
use Rattle.std.proofs.Common.{◌≡◌, ◌≢◌, ℕ, zero, suc, ◌+◌, ◌-◌, ◌<◌, Bool, true, false, cond, List, [], ◌∷◌, ◌++◌, map, length, set, replicate, slice_get, refl, sym, ap, ◌∙◌, subst, arith, Option, Some, None, length-append}
use Rattle.std.specs.Prelude.{Result, Ok, Err, IfOk}
use Rattle.std.proofs.lemmas.List.{length-replicate}
use Rattle.heap_core.specs.Meaning.{Meaning, AllFit, IsSound, opening, opened, staging, after_commit, after_rollback, names}
use Rattle.heap_core.specs.PlainLaws.{none_some}
use Rattle.heap_world.specs.World.{PureWorld, PureEvent, begin, stage, publish, commit, roll_back, end, drain, replaced, renewed, emptied, current, last_state, Pends, IsFilled, applied, AllAllowed, after}
use Rattle.heap_world.specs.Stands.{numbers, pending_of, Stands, Leads, of_begin, of_stage, of_commit, of_rollback, first_world}
use Rattle.heap_world.proofs.WorldLaw.{stays_lawful}
use Rattle.heap_world.proofs.Lengths.{length-emptied, last_there, last_more, many_at}
use Rattle.heap_core.proofs.Lists.{put_here, put_else}
use Rattle.heap_core.proofs.Names.{names-first, names-later, marked, marked_here}
use Rattle.heap_world.proofs.Numbers.{numbers_from, numbers_has, Apart, numbers_apart, pending_of-staged, staged-pending_of, pending_of-set, pending_of-none, replaced_latest, renewed_stamped, forgotten, length-forgotten, none_forgotten, all_none}

module _ {A : Type 0} where
  no_rows : (rows : List A) → length rows ≡ 0 → (n : ℕ) (row : A) → slice_get rows n ≡ Some row → ⊥
  no_rows [] z n row h = none_some row h
  no_rows (r ∷ rs) z n row h = absurd (omega arith)

module _ {P : Type 0} (fits : ℕ → P → ℕ → P → Type 0) where
  -- the sizes of a world that a heap stands for
  as_many : (m : Meaning P) (w : PureWorld P) → Stands fits m w → w.entities ≡ length m.committed
  as_many m w s = let l = s.lawful.lengths in sym (l.states (length w.history - 1) (last_state w.history) (last_there w.history l.some_state)) ∙ ap length s.last

  no_lanes : (m : Meaning P) (w : PureWorld P) → Stands fits m w → (n : ℕ) (row : List Bool) → slice_get w.filled n ≡ Some row → ⊥
  no_lanes m w s = no_rows w.filled (s.lawful.lengths.filled ∙ s.lanes)

  -- begin
  begins : (m : Meaning P) (w : PureWorld P) → m.is_open ≡ false → Stands fits m w → w.drained ≡ true → AllAllowed fits w (begin ∷ []) × Stands fits (opened m) (applied w begin)
  begins m w closed s drained = let may : AllAllowed fits w (begin ∷ []) = ((s.is_open ∙ closed, drained), tt, tt) in
      (may, record { lawful = stays_lawful fits w (begin ∷ []) s.lawful may; lanes = s.lanes; last = s.last; version = s.version; versions = s.versions; is_open = refl; pending = s.pending })

  drains : (m : Meaning P) (w : PureWorld P) → m.is_open ≡ false → Stands fits m w → w.drained ≡ false → AllAllowed fits w (drain ∷ begin ∷ []) × Stands fits (opened m) (applied (applied w drain) begin)
  drains m w closed s left =
      let may : AllAllowed fits w (drain ∷ begin ∷ []) = ((left, λ n c h. absurd (no_rows w.pins (s.lawful.lengths.pins ∙ s.lanes) n (Some c) h)), tt, ((s.is_open ∙ closed, refl), tt, tt)) in
      (may, record { lawful = stays_lawful fits w (drain ∷ begin ∷ []) s.lawful may; lanes = s.lanes; last = s.last; version = s.version; versions = s.versions; is_open = refl; pending = s.pending })

  pub begin_leads : (m : Meaning P) → m.is_open ≡ false → Leads fits m of_begin (opened m)
  begin_leads m closed w s = elim w.drained as (λ b. w.drained ≡ b → AllAllowed fits w (cond b (begin ∷ []) (drain ∷ begin ∷ [])) × Stands fits (opened m) (after w (cond b (begin ∷ []) (drain ∷ begin ∷ [])))) [
    | true ↦ begins m w closed s
    | false ↦ drains m w closed s
  ] refl

  -- stage
  pub stage_leads : (m : Meaning P) (e : ℕ) (x : P) → IsSound fits m → m.is_open ≡ true → e < length m.committed → Leads fits m (of_stage e x) (staging e x m)
  stage_leads m e x sound is_open here w s =
      let n = as_many m w s in let lower : e < w.entities = omega arith in let p = s.lawful.lengths.pending in let there : e < length w.pending = omega arith in
      let many : length m.staged ≡ length m.latest = sound.as_many.2 ∙ sym sound.as_many.0 in
      let bare : length (emptied w.filled e) ≡ 0 = length-emptied w.filled e ∙ (s.lawful.lengths.filled ∙ s.lanes) in
      let may : AllAllowed fits w (stage e x ∷ publish e ∷ []) = ((lower, s.is_open ∙ is_open), tt, ((lower, (x, put_here w.pending e (Some x) there), λ k row h. absurd (no_rows (emptied w.filled e) bare k row h)), tt, tt)) in (
        may,
        record {
          lawful = stays_lawful fits w (stage e x ∷ publish e ∷ []) s.lawful may;
          lanes = s.lanes;
          last = s.last;
          version = s.version;
          versions = s.versions;
          is_open = s.is_open;
          pending = ap (λ (ps : List (Option P)). set ps e (Some x)) s.pending ∙ pending_of-set m.staged m.latest e x many;
        },
      )

  -- many publishes
  may_publish : (w : PureWorld P) (ks : List ℕ) (es : List (PureEvent P)) → ((k : ℕ) → names ks k ≡ true → (k < w.entities) × Pends w k) → ((n : ℕ) (row : List Bool) → slice_get w.filled n ≡ Some row → ⊥)
      → AllAllowed fits (record w { published = marked ks w.published }) es → AllAllowed fits w (map publish ks ++ es)
  may_publish w [] es pend bare may = may
  may_publish w (k ∷ ks) es pend bare may = let first = pend k (names-first k ks) in
      ((first.0, first.1, λ n row h. absurd (bare n row h)), tt, may_publish (applied w (publish k)) ks es (λ j h. pend j (names-later k ks j h)) bare may)

  after_publish : (w : PureWorld P) (ks : List ℕ) (es : List (PureEvent P)) → after w (map publish ks ++ es) ≡ after (record w { published = marked ks w.published }) es
  after_publish w [] es = refl
  after_publish w (k ∷ ks) es = after_publish (applied w (publish k)) ks es

  -- the payloads that pend are those of the staged entities
  pends_staged : (m : Meaning P) (w : PureWorld P) → Stands fits m w → (e : ℕ) (x : P) → slice_get w.pending e ≡ Some (Some x) → names (numbers 0 m.staged) e ≡ true
  pends_staged m w s e x h = let n : e ≡ 0 + e = omega arith in numbers_has 0 m.staged e e n (pending_of-staged m.staged m.latest e x (ap (λ (ps : List (Option P)). slice_get ps e) (sym s.pending) ∙ h))

  staged_pends : (m : Meaning P) (w : PureWorld P) → IsSound fits m → Stands fits m w → (e : ℕ) → names (numbers 0 m.staged) e ≡ true → (e < w.entities) × Pends w e
  staged_pends m w sound s e h =
      let r = numbers_from 0 m.staged e h in let is : r.0 ≡ e = (let z : e ≡ 0 + r.0 = r.1 in omega arith) in
      let many : length m.staged ≡ length m.latest = sound.as_many.2 ∙ sym sound.as_many.0 in
      let p = staged-pending_of m.staged m.latest e many (ap (slice_get m.staged) (sym is) ∙ r.2) in
      let at : slice_get w.pending e ≡ Some (Some p.0) = ap (λ (ps : List (Option P)). slice_get ps e) s.pending ∙ p.1 in
      (let n = within w.pending e (Some p.0) at in let l = s.lawful.lengths.pending in omega arith, (p.0, at))
    where
      within : (ps : List (Option P)) (e : ℕ) (o : Option P) → slice_get ps e ≡ Some o → e < length ps
      within [] e o h = absurd (none_some o h)
      within (q ∷ qs) zero o h = omega arith
      within (q ∷ qs) (suc e) o h = let n = within qs e o h in omega arith

  -- commit
  pub commit_leads : (m : Meaning P) → IsSound fits m → m.is_open ≡ true → AllFit fits m.latest → Leads fits m (of_commit m) (after_commit m)
  commit_leads m sound is_open fit w s =
      let ks = numbers 0 m.staged in let w₂ = record w { published = marked ks w.published } in
      let many : length m.staged ≡ length m.latest = sound.as_many.2 ∙ sym sound.as_many.0 in
      let new : replaced (last_state w.history) w.pending ≡ m.latest = (λ j. replaced (s.last j) (s.pending j)) ∙ replaced_latest m.committed m.latest m.staged sound.as_many.0 sound.as_many.2 sound.unstaged in
      let ready : (e : ℕ) → Pends w₂ e → IsFilled w₂ e × (slice_get w₂.published e ≡ Some true) = λ e p. ((λ n row h. absurd (no_lanes m w s n row h)), (let named = pends_staged m w s e p.0 p.1 in let l = s.lawful.lengths.published in let b = (staged_pends m w sound s e named).0 in marked_here ks w.published e (omega arith) named)) in
      let may : AllAllowed fits w (map publish ks ++ commit ∷ []) = may_publish w ks (commit ∷ []) (staged_pends m w sound s) (no_lanes m w s) ((s.is_open ∙ is_open, ready), subst (AllFit fits) (sym new) fit, tt) in
      let count : length w.history ≡ m.version + 1 = (let v = s.version in let z = s.lawful.lengths.some_state in omega arith) in
      let longer = length-append w.history (replaced (last_state w.history) w.pending ∷ []) in
      let n = as_many m w s in (
        may,
        record {
          lawful = stays_lawful fits w (map publish ks ++ commit ∷ []) s.lawful may;
          lanes = ap (λ (v : PureWorld P). v.lanes) (after_publish w ks (commit ∷ [])) ∙ s.lanes;
          last = ap (λ (v : PureWorld P). last_state v.history) (after_publish w ks (commit ∷ [])) ∙ (last_more w.history (replaced (last_state w.history) w.pending) ∙ new);
          version = ap (λ (v : PureWorld P). current v) (after_publish w ks (commit ∷ [])) ∙ (let c = count in omega arith);
          versions = ap (λ (v : PureWorld P). v.versions) (after_publish w ks (commit ∷ [])) ∙ ((λ j. renewed (count j) (s.pending j) (s.versions j)) ∙ renewed_stamped (m.version + 1) m.staged m.latest m.versions many (sound.as_many.1 ∙ sym sound.as_many.0));
          is_open = ap (λ (v : PureWorld P). v.is_open) (after_publish w ks (commit ∷ []));
          pending = ap (λ (v : PureWorld P). v.pending) (after_publish w ks (commit ∷ [])) ∙ (ap (λ k. replicate k None) (n ∙ sym sound.as_many.0) ∙ sym (pending_of-none m.staged m.latest many));
        },
      )

  -- many roll-backs
  abbrev all_emptied : List ℕ → List (List Bool) → List (List Bool)
  all_emptied [] rows = rows
  all_emptied (k ∷ ks) rows = all_emptied ks (emptied rows k)

  abbrev unmarked : List ℕ → List Bool → List Bool
  unmarked [] bs = bs
  unmarked (k ∷ ks) bs = unmarked ks (set bs k false)

  abbrev rolled : List ℕ → PureWorld P → PureWorld P
  rolled ks w = record w { pending = forgotten ks w.pending; filled = all_emptied ks w.filled; published = unmarked ks w.published }

  after_roll : (w : PureWorld P) (ks : List ℕ) (es : List (PureEvent P)) → after w (map roll_back ks ++ es) ≡ after (rolled ks w) es
  after_roll w [] es = refl
  after_roll w (k ∷ ks) es = after_roll (applied w (roll_back k)) ks es

  may_roll : (w : PureWorld P) (ks : List ℕ) (es : List (PureEvent P)) → Apart ks → ((k : ℕ) → names ks k ≡ true → (k < w.entities) × Pends w k) → AllAllowed fits (rolled ks w) es → AllAllowed fits w (map roll_back ks ++ es)
  may_roll w [] es apart pend may = may
  may_roll w (k ∷ ks) es apart pend may = (pend k (names-first k ks), tt, may_roll (applied w (roll_back k)) ks es apart.1 (λ j h. let p = pend j (names-later k ks j h) in (p.0, (p.1.0, put_else w.pending k j None (apart.0 j h) ∙ p.1.1))) may)

  -- rollback
  pub rollback_leads : (m : Meaning P) → IsSound fits m → m.is_open ≡ true → Leads fits m (of_rollback m) (after_rollback m)
  rollback_leads m sound is_open w s =
      let ks = numbers 0 m.staged in let w₂ = rolled ks w in
      let many : length m.staged ≡ length m.committed = sound.as_many.2 in
      let none : (e : ℕ) (x : P) → slice_get w₂.pending e ≢ Some (Some x) = none_forgotten ks w.pending (pends_staged m w s) in
      let may : AllAllowed fits w (map roll_back ks ++ end ∷ []) = may_roll w ks (end ∷ []) (numbers_apart 0 m.staged) (staged_pends m w sound s) ((s.is_open ∙ is_open, (λ e p. none e p.0 p.1)), tt, tt) in
      let n = as_many m w s in let l = length-forgotten ks w.pending in let p = s.lawful.lengths.pending in
      let size : length (forgotten ks w.pending) ≡ length m.committed = omega arith in (
        may,
        record {
          lawful = stays_lawful fits w (map roll_back ks ++ end ∷ []) s.lawful may;
          lanes = ap (λ (v : PureWorld P). v.lanes) (after_roll w ks (end ∷ [])) ∙ s.lanes;
          last = ap (λ (v : PureWorld P). last_state v.history) (after_roll w ks (end ∷ [])) ∙ s.last;
          version = ap (λ (v : PureWorld P). current v) (after_roll w ks (end ∷ [])) ∙ s.version;
          versions = ap (λ (v : PureWorld P). v.versions) (after_roll w ks (end ∷ [])) ∙ s.versions;
          is_open = ap (λ (v : PureWorld P). v.is_open) (after_roll w ks (end ∷ []));
          pending = ap (λ (v : PureWorld P). v.pending) (after_roll w ks (end ∷ [])) ∙ (all_none (forgotten ks w.pending) none ∙ (ap (λ k. replicate k None) size ∙ sym (pending_of-none m.staged m.committed many)));
        },
      )

  -- a heap that has just been opened
  pub opened_stands : (xs : List P) → 0 < length xs → AllFit fits xs → Stands fits (opening xs) (first_world xs)
  opened_stands xs some fit = record {
    lawful = record {
      lengths = record {
        some_state = omega arith;
        states = λ v st h. ap length (sym (only v st h));
        versions = length-replicate (length xs) 0;
        pending = length-replicate (length xs) None;
        published = length-replicate (length xs) false;
        filled = refl;
        rows = λ n row h. none_some row h;
        pins = refl;
      };
      fit = λ v st h. subst (AllFit fits) (only v st h) fit;
      stable = λ e n v st h. (let z = many_at (length xs) e 0 n h in omega arith, λ _ at. ap (λ (z : List P). slice_get z e) (sym (only v st at)));
      pins = λ n o h. none_some o h;
      drained = ((λ _. refl), (λ _. refl));
      pending = λ e p. absurd (let z : None ≡ Some p.0 = many_at (length xs) e None (Some p.0) p.1 in cc);
      filled = λ e n row h t. none_some row h;
      published = λ e h. absurd (let z : false ≡ true = many_at (length xs) e false true h in cc);
    };
    lanes = refl;
    last = refl;
    version = refl;
    versions = refl;
    is_open = refl;
    pending = none xs;
  }
    where
      only : (v : ℕ) (st : List P) → slice_get (xs ∷ []) v ≡ Some st → xs ≡ st
      only zero st h = (let z : Some xs ≡ Some st = h in cc)
      only (suc v) st h = none_some st h

      none : (ys : List P) → replicate (length ys) None ≡ pending_of (replicate (length ys) false) ys
      none [] = refl
      none (y ∷ ys) = ap (λ (l : List (Option P)). None ∷ l) (none ys)

  -- a call that may want memory
  pub staged_leads : {A E : Type 0} (m : Meaning P) (events : PureWorld P → List (PureEvent P)) (r : Result A E) (next wanted : Meaning P) → IfOk r (λ _. next ≡ wanted) → Leads fits m events wanted → IfOk r (λ _. Leads fits m events next)
  staged_leads m events (Ok x) next wanted is leads = subst (Leads fits m events) (sym is) leads
  staged_leads m events (Err x) next wanted is leads = tt
