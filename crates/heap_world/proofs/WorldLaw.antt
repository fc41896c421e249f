-- A lawful world stays lawful.
use Rattle.std.proofs.Common.{◌≡◌, ◌≢◌, ℕ, ◌+◌, ◌-◌, ◌≤◌, Bool, true, false, List, [], ◌∷◌, ◌++◌, length, replicate, set, slice_get, refl, sym, ap, ◌∙◌, subst, inl, inr, ⊎_elim, arith, Option, Some, None, length-append}
use mathlib.Core.Logic.{dite}
use native.Mathlib.Decide.{ℕ_discrete}
use Rattle.std.specs.Prelude.{unwrap_or}
use Rattle.heap_core.specs.Meaning.{AllFit}
use Rattle.heap_core.proofs.Lists.{at_put, at_more, put_here, put_else}
use Rattle.heap_world.proofs.Lengths.{last_more, replaced-none, renewed-at, many_at, row_of, row_there, lengths_kept}
use Rattle.heap_world.specs.World.{PureWorld, PureEvent, begin, stage, fill, publish, commit, roll_back, end, pin, read, unpin, drain, replaced, renewed, emptied, current, Pends, Allowed, applied, last_state, Fits, IsPin, IsLawful, AllAllowed, after}

module _ {P : Type 0} (fits : ℕ → P → ℕ → P → Type 0) where
  L : PureWorld P → Type 0
  L = IsLawful fits

  law_begin : (w : PureWorld P) → IsLawful fits w → Allowed w begin → IsLawful fits (applied w begin)
  law_begin w l a = record { lengths = lengths_kept w begin l.lengths a; fit = l.fit; stable = l.stable; pins = on; drained = ((λ _. a.1), l.drained.1); pending = λ e p. refl; filled = l.filled; published = l.published }
    where
      on : (n : ℕ) (o : Option ℕ) → slice_get w.pins n ≡ Some o → IsPin (applied w begin) o
      on n None h = tt
      on n (Some c) h = l.pins n (Some c) h

  law_end : (w : PureWorld P) → IsLawful fits w → Allowed w end → IsLawful fits (applied w end)
  law_end w l a = record { lengths = lengths_kept w end l.lengths a; fit = l.fit; stable = l.stable; pins = on; drained = ((λ no. absurd (let z : false ≡ true = no in cc)), l.drained.1); pending = λ e p. absurd (a.1 e p); filled = l.filled; published = l.published }
    where
      on : (n : ℕ) (o : Option ℕ) → slice_get w.pins n ≡ Some o → IsPin (applied w end) o
      on n None h = tt
      on n (Some c) h = l.pins n (Some c) h

  law_pin : (w : PureWorld P) (k : ℕ) → IsLawful fits w → Allowed w (pin k) → IsLawful fits (applied w (pin k))
  law_pin w k l a = record { lengths = lengths_kept w (pin k) l.lengths a; fit = l.fit; stable = l.stable; pins = on; drained = l.drained; pending = l.pending; filled = l.filled; published = l.published }
    where
      old : (n : ℕ) (o : Option ℕ) → slice_get w.pins n ≡ Some o → IsPin (applied w (pin k)) o
      old n None h = tt
      old n (Some c) h = l.pins n (Some c) h

      on : (n : ℕ) (o : Option ℕ) → slice_get (set w.pins k (Some (current w))) n ≡ Some o → IsPin (applied w (pin k)) o
      on n o h = ⊎_elim (λ t. subst (IsPin (applied w (pin k))) t.1 (inl refl)) (λ t. old n o t.1) (at_put w.pins k n (Some (current w)) o h)

  law_unpin : (w : PureWorld P) (k : ℕ) → IsLawful fits w → Allowed w (unpin k) → IsLawful fits (applied w (unpin k))
  law_unpin w k l a = record { lengths = lengths_kept w (unpin k) l.lengths a; fit = l.fit; stable = l.stable; pins = on; drained = l.drained; pending = l.pending; filled = l.filled; published = l.published }
    where
      old : (n : ℕ) (o : Option ℕ) → slice_get w.pins n ≡ Some o → IsPin (applied w (unpin k)) o
      old n None h = tt
      old n (Some c) h = l.pins n (Some c) h

      on : (n : ℕ) (o : Option ℕ) → slice_get (set w.pins k None) n ≡ Some o → IsPin (applied w (unpin k)) o
      on n o h = ⊎_elim (λ t. subst (IsPin (applied w (unpin k))) t.1 tt) (λ t. old n o t.1) (at_put w.pins k n None o h)

  law_drain : (w : PureWorld P) → IsLawful fits w → Allowed w drain → IsLawful fits (applied w drain)
  law_drain w l a = record { lengths = lengths_kept w drain l.lengths a; fit = l.fit; stable = l.stable; pins = on; drained = ((λ _. refl), (λ _. refl)); pending = l.pending; filled = l.filled; published = l.published }
    where
      on : (n : ℕ) (o : Option ℕ) → slice_get w.pins n ≡ Some o → IsPin (applied w drain) o
      on n None h = tt
      on n (Some c) h = ⊎_elim (λ e. inl e) (λ t. absurd (a.1 n c h t.0)) (l.pins n (Some c) h)

  law_stage : (w : PureWorld P) (e : ℕ) (x : P) → IsLawful fits w → Allowed w (stage e x) → IsLawful fits (applied w (stage e x))
  law_stage w e x l a = record { lengths = lengths_kept w (stage e x) l.lengths a; fit = l.fit; stable = l.stable; pins = on; drained = l.drained; pending = λ k p. a.1; filled = filled; published = λ k h. pends_on k (l.published k h) }
    where
      on : (n : ℕ) (o : Option ℕ) → slice_get w.pins n ≡ Some o → IsPin (applied w (stage e x)) o
      on n None h = tt
      on n (Some c) h = l.pins n (Some c) h

      pends_on : (k : ℕ) → Pends w k → Pends (applied w (stage e x)) k
      pends_on k p = dite (ℕ_discrete k e) (λ (i : k ≡ e). (x, ap (slice_get (set w.pending e (Some x))) i ∙ put_here w.pending e (Some x) (let n = l.lengths.pending in let b = a.0 in omega arith)))
          (λ ne. (p.0, put_else w.pending e k (Some x) ne ∙ p.1))

      filled : (k n : ℕ) (row : List Bool) → slice_get (emptied w.filled e) n ≡ Some row → slice_get row k ≡ Some true → Pends (applied w (stage e x)) k
      filled k n row h t = let r = row_of e w.filled n row h in
          ⊎_elim (λ z. absurd (let q : false ≡ true = z.1 in cc)) (λ z. pends_on k (l.filled k n r.0 r.1 z.1)) (at_put r.0 e k false true (ap (λ (y : List Bool). slice_get y k) r.2 ∙ t))

  law_publish : (w : PureWorld P) (e : ℕ) → IsLawful fits w → Allowed w (publish e) → IsLawful fits (applied w (publish e))
  law_publish w e l a = record {
    lengths = lengths_kept w (publish e) l.lengths a;
    fit = l.fit;
    stable = l.stable;
    pins = on;
    drained = l.drained;
    pending = l.pending;
    filled = l.filled;
    published = λ k h. ⊎_elim (λ t. subst (Pends w) (sym t.0) a.1) (λ t. l.published k t.1) (at_put w.published e k true true h);
  }
    where
      on : (n : ℕ) (o : Option ℕ) → slice_get w.pins n ≡ Some o → IsPin (applied w (publish e)) o
      on n None h = tt
      on n (Some c) h = l.pins n (Some c) h

  law_fill : (w : PureWorld P) (n e : ℕ) → IsLawful fits w → Allowed w (fill n e) → IsLawful fits (applied w (fill n e))
  law_fill w n e l a = record { lengths = lengths_kept w (fill n e) l.lengths a; fit = l.fit; stable = l.stable; pins = on; drained = l.drained; pending = l.pending; filled = filled; published = l.published }
    where
      on : (k : ℕ) (o : Option ℕ) → slice_get w.pins k ≡ Some o → IsPin (applied w (fill n e)) o
      on k None h = tt
      on k (Some c) h = l.pins k (Some c) h

      mine : slice_get w.filled n ≡ Some (unwrap_or (slice_get w.filled n) [])
      mine = row_there w.filled n (let b = l.lengths.filled in let c = a.0 in omega arith)

      filled : (k m : ℕ) (row : List Bool) → slice_get (set w.filled n (set (unwrap_or (slice_get w.filled n) []) e true)) m ≡ Some row → slice_get row k ≡ Some true → Pends w k
      filled k m row h t = ⊎_elim
          (λ z. ⊎_elim (λ y. subst (Pends w) (sym y.0) a.2) (λ y. l.filled k n (unwrap_or (slice_get w.filled n) []) mine y.1)
          (at_put (unwrap_or (slice_get w.filled n) []) e k true true (ap (λ (r : List Bool). slice_get r k) z.1 ∙ t)))
          (λ z. l.filled k m row z.1 t) (at_put w.filled n m (set (unwrap_or (slice_get w.filled n) []) e true) row h)

  law_roll_back : (w : PureWorld P) (e : ℕ) → IsLawful fits w → Allowed w (roll_back e) → IsLawful fits (applied w (roll_back e))
  law_roll_back w e l a = record {
    lengths = lengths_kept w (roll_back e) l.lengths a;
    fit = l.fit;
    stable = l.stable;
    pins = on;
    drained = l.drained;
    pending = λ k p. ⊎_elim (λ z. absurd (let q : None ≡ Some p.0 = z.1 in cc)) (λ z. l.pending k (p.0, z.1)) (at_put w.pending e k None (Some p.0) p.1);
    filled = filled;
    published = λ k h. ⊎_elim (λ z. absurd (let q : false ≡ true = z.1 in cc)) (λ z. pends_on k z.0 (l.published k z.1)) (at_put w.published e k false true h);
  }
    where
      on : (n : ℕ) (o : Option ℕ) → slice_get w.pins n ≡ Some o → IsPin (applied w (roll_back e)) o
      on n None h = tt
      on n (Some c) h = l.pins n (Some c) h

      pends_on : (k : ℕ) → k ≢ e → Pends w k → Pends (applied w (roll_back e)) k
      pends_on k ne p = (p.0, put_else w.pending e k None ne ∙ p.1)

      filled : (k n : ℕ) (row : List Bool) → slice_get (emptied w.filled e) n ≡ Some row → slice_get row k ≡ Some true → Pends (applied w (roll_back e)) k
      filled k n row h t = let r = row_of e w.filled n row h in
          ⊎_elim (λ z. absurd (let q : false ≡ true = z.1 in cc)) (λ z. pends_on k z.0 (l.filled k n r.0 r.1 z.1)) (at_put r.0 e k false true (ap (λ (y : List Bool). slice_get y k) r.2 ∙ t))

module _ {P : Type 0} (fits : ℕ → P → ℕ → P → Type 0) where
  law_commit : (w : PureWorld P) → IsLawful fits w → Allowed w commit → Fits fits w commit → IsLawful fits (applied w commit)
  law_commit w l a fit = record {
    lengths = lengths_kept w commit l.lengths a;
    fit = λ v st h. ⊎_elim (λ t. l.fit v st t.1) (λ t. subst (AllFit fits) t.1 fit) (at_more w.history new st v h);
    stable = stable;
    pins = on;
    drained = ((λ no. absurd (let z : false ≡ true = no in cc)), (λ one. absurd (let n = more in let s = l.lengths.some_state in omega arith)));
    pending = λ e p. absurd (let z : None ≡ Some p.0 = many_at w.entities e None (Some p.0) p.1 in cc);
    filled = λ e n row h t. absurd (let z : false ≡ true = many_at w.entities e false true (ap (λ (r : List Bool). slice_get r e) (many_at w.lanes n (replicate w.entities false) row h) ∙ t) in cc);
    published = λ e h. absurd (let z : false ≡ true = many_at w.entities e false true h in cc);
  }
    where
      new : List P
      new = replaced (last_state w.history) w.pending

      more : length (w.history ++ replaced (last_state w.history) w.pending ∷ []) ≡ length w.history + 1
      more = length-append w.history (replaced (last_state w.history) w.pending ∷ [])

      on : (n : ℕ) (o : Option ℕ) → slice_get w.pins n ≡ Some o → IsPin (applied w commit) o
      on n None h = tt
      on n (Some c) h = ⊎_elim (λ (e : c ≡ length w.history - 1). inr (let m = more in let s = l.lengths.some_state in omega arith, refl))
          (λ t. absurd (let z : true ≡ false = sym (l.drained.0 a.0) ∙ t.1 in cc)) (l.pins n (Some c) h)

      stable : (e n v : ℕ) (st : List P) → slice_get (renewed (length w.history) w.pending w.versions) e ≡ Some n
          → (n ≤ current (applied w commit)) × (n ≤ v → slice_get (w.history ++ replaced (last_state w.history) w.pending ∷ []) v ≡ Some st → slice_get st e ≡ slice_get (last_state (w.history ++ replaced (last_state w.history) w.pending ∷ [])) e)
      stable e n v st h = let s = renewed-at (length w.history) w.pending w.versions e n (l.lengths.pending ∙ sym l.lengths.versions) h in (
        ⊎_elim (λ i. let m = more in omega arith) (λ t. let m = more in let o = (l.stable e n v st t.1).0 in omega arith) s,
        λ up at. ⊎_elim
            (λ old. ⊎_elim (λ (i : n ≡ length w.history). let b = old.0 in absurd (omega arith))
            (λ t. (l.stable e n v st t.1).1 up old.1 ∙ (sym (replaced-none (last_state w.history) w.pending e t.0) ∙ ap (λ (z : List P). slice_get z e) (sym (last_more w.history new)))) s)
            (λ t. ap (λ (z : List P). slice_get z e) (sym t.1 ∙ sym (last_more w.history new))) (at_more w.history new st v at),
      )

  law : (w : PureWorld P) (e : PureEvent P) → IsLawful fits w → Allowed w e → Fits fits w e → IsLawful fits (applied w e)
  law w begin l a f = law_begin fits w l a
  law w (stage e x) l a f = law_stage fits w e x l a
  law w (fill n e) l a f = law_fill fits w n e l a
  law w (publish e) l a f = law_publish fits w e l a
  law w commit l a f = law_commit w l a f
  law w (roll_back e) l a f = law_roll_back fits w e l a
  law w end l a f = law_end fits w l a
  law w (pin n) l a f = law_pin fits w n l a
  law w (read n e) l a f = l
  law w (unpin n) l a f = law_unpin fits w n l a
  law w drain l a f = law_drain fits w l a

  pub stays_lawful : (w : PureWorld P) (es : List (PureEvent P)) → IsLawful fits w → AllAllowed fits w es → IsLawful fits (after w es)
  stays_lawful w [] l a = l
  stays_lawful w (e ∷ es) l a = stays_lawful (applied w e) es (law w e l a.0 a.1) a.2
