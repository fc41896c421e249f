-- Each event keeps the lengths of a world's lists.
use Rattle.std.proofs.Common.{◌≡◌, ◌⊎◌, ℕ, zero, suc, ◌+◌, ◌-◌, ◌<◌, ◌≤◌, Bool, true, false, List, [], ◌∷◌, ◌++◌, length, replicate, set, slice_get, refl, sym, ap, ◌∙◌, subst, inl, inr, ⊎_elim, arith, Option, Some, None, length-set, length-append}
use Rattle.std.specs.Prelude.{unwrap_or, Result, Ok, Err, IfOk, OnErr}
use Rattle.heap_world.specs.World.{PureWorld, PureEvent, begin, stage, fill, publish, commit, roll_back, end, pin, read, unpin, drain, replaced, renewed, emptied, filled_at, current, Allowed, applied, Answers, last_state, HasLengths}
use Rattle.heap_core.proofs.Lists.{at_put, at_more}

pub length-emptied : (rows : List (List Bool)) (e : ℕ) → length (emptied rows e) ≡ length rows
length-emptied [] e = refl
length-emptied (r ∷ rs) e = ap suc (length-emptied rs e)

-- a row of the emptied rows is a row with false at e
pub row_of : (e : ℕ) (rs : List (List Bool)) (n : ℕ) (row : List Bool) → slice_get (emptied rs e) n ≡ Some row → (r : List Bool) × (slice_get rs n ≡ Some r) × (set r e false ≡ row)
row_of e [] n row h = absurd (let z : None ≡ Some row = h in cc)
row_of e (r ∷ rs) zero row h = (r, refl, (let z : Some (set r e false) ≡ Some row = h in cc))
row_of e (r ∷ rs) (suc n) row h = row_of e rs n row h

pub row_there : (rs : List (List Bool)) (k : ℕ) → k < length rs → slice_get rs k ≡ Some (unwrap_or (slice_get rs k) [])
row_there [] k h = absurd (omega arith)
row_there (r ∷ rs) zero h = refl
row_there (r ∷ rs) (suc k) h = row_there rs k (omega arith)

-- lists, at a commit
module _ {A : Type 0} where
  pub last_more : (xs : List (List A)) (y : List A) → last_state (xs ++ y ∷ []) ≡ y
  last_more [] y = refl
  last_more (x ∷ []) y = refl
  last_more (x ∷ z ∷ zs) y = last_more (z ∷ zs) y

  pub last_there : (xs : List (List A)) → 0 < length xs → slice_get xs (length xs - 1) ≡ Some (last_state xs)
  last_there [] h = absurd (omega arith)
  last_there (x ∷ []) h = refl
  last_there (x ∷ z ∷ zs) h = let n : length (x ∷ z ∷ zs) - 1 ≡ suc (length (z ∷ zs) - 1) = omega arith in ap (slice_get (x ∷ z ∷ zs)) n ∙ last_there (z ∷ zs) (omega arith)

  pub length-replaced : (xs : List A) (ps : List (Option A)) → length (replaced xs ps) ≡ length xs
  length-replaced [] ps = refl
  length-replaced (x ∷ xs) [] = refl
  length-replaced (x ∷ xs) (p ∷ ps) = ap suc (length-replaced xs ps)

  pub length-renewed : (v : ℕ) (ps : List (Option A)) (ns : List ℕ) → length (renewed v ps ns) ≡ length ns
  length-renewed v [] ns = refl
  length-renewed v (None ∷ ps) [] = refl
  length-renewed v (Some p ∷ ps) [] = refl
  length-renewed v (Some p ∷ ps) (n ∷ ns) = ap suc (length-renewed v ps ns)
  length-renewed v (None ∷ ps) (n ∷ ns) = ap suc (length-renewed v ps ns)

  pub replaced-none : (xs : List A) (ps : List (Option A)) (e : ℕ) → slice_get ps e ≡ Some None → slice_get (replaced xs ps) e ≡ slice_get xs e
  replaced-none [] ps e h = refl
  replaced-none (x ∷ xs) [] e h = refl
  replaced-none (x ∷ xs) (p ∷ ps) zero h = let i : p ≡ None = (let z : Some p ≡ Some None = h in cc) in ap (λ (o : Option A). Some (unwrap_or o x)) i
  replaced-none (x ∷ xs) (p ∷ ps) (suc e) h = replaced-none xs ps e h

  -- a version is the new one, or the old one of an entity that does not pend
  pub renewed-at : (v : ℕ) (ps : List (Option A)) (ns : List ℕ) (e n : ℕ) → length ps ≡ length ns → slice_get (renewed v ps ns) e ≡ Some n → (n ≡ v) ⊎ ((slice_get ps e ≡ Some None) × (slice_get ns e ≡ Some n))
  renewed-at v [] [] e n s h = absurd (let z : None ≡ Some n = h in cc)
  renewed-at v [] (m ∷ ms) e n s h = absurd (omega arith)
  renewed-at v (p ∷ ps) [] e n s h = absurd (omega arith)
  renewed-at v (Some p ∷ ps) (m ∷ ms) zero n s h = inl (let z : Some v ≡ Some n = h in cc)
  renewed-at v (None ∷ ps) (m ∷ ms) zero n s h = inr (refl, h)
  renewed-at v (Some p ∷ ps) (m ∷ ms) (suc e) n s h = renewed-at v ps ms e n (omega arith) h
  renewed-at v (None ∷ ps) (m ∷ ms) (suc e) n s h = renewed-at v ps ms e n (omega arith) h

  pub length-many : (k : ℕ) (x : A) → length (replicate k x) ≡ k
  length-many zero x = refl
  length-many (suc k) x = ap suc (length-many k x)

  pub many_at : (k n : ℕ) (x y : A) → slice_get (replicate k x) n ≡ Some y → x ≡ y
  many_at zero n x y h = absurd (let z : None ≡ Some y = h in cc)
  many_at (suc k) zero x y h = (let z : Some x ≡ Some y = h in cc)
  many_at (suc k) (suc n) x y h = many_at k n x y h

module _ {P : Type 0} where
  emptied_rows : (w : PureWorld P) (e : ℕ) → HasLengths w → (n : ℕ) (row : List Bool) → slice_get (emptied w.filled e) n ≡ Some row → length row ≡ w.entities
  emptied_rows w e l n row h = let r = row_of e w.filled n row h in ap length (sym r.2) ∙ (length-set r.0 e false ∙ l.rows n r.0 r.1)

  filled_rows : (w : PureWorld P) (n e : ℕ) → HasLengths w → n < w.lanes → (k : ℕ) (row : List Bool) → slice_get (filled_at w.filled n e) k ≡ Some row → length row ≡ w.entities
  filled_rows w n e l here k row h = let b = l.filled in let mine = row_there w.filled n (omega arith) in
      ⊎_elim (λ t. ap length (sym t.1) ∙ (length-set (unwrap_or (slice_get w.filled n) []) e true ∙ l.rows n (unwrap_or (slice_get w.filled n) []) mine)) (λ t. l.rows k row t.1)
      (at_put w.filled n k (set (unwrap_or (slice_get w.filled n) []) e true) row h)

  pub lengths_kept : (w : PureWorld P) (event : PureEvent P) → HasLengths w → Allowed w event → HasLengths (applied w event)
  lengths_kept w begin l a = record { some_state = l.some_state; states = l.states; versions = l.versions; pending = l.pending; published = l.published; filled = l.filled; rows = l.rows; pins = l.pins }
  lengths_kept w (stage e x) l a = record { some_state = l.some_state; states = l.states; versions = l.versions; pending = length-set w.pending e (Some x) ∙ l.pending; published = l.published; filled = length-emptied w.filled e ∙ l.filled; rows = emptied_rows w e l; pins = l.pins }
  lengths_kept w (fill n e) l a = record { some_state = l.some_state; states = l.states; versions = l.versions; pending = l.pending; published = l.published; filled = length-set w.filled n (set (unwrap_or (slice_get w.filled n) []) e true) ∙ l.filled; rows = filled_rows w n e l a.0; pins = l.pins }
  lengths_kept w (publish e) l a = record { some_state = l.some_state; states = l.states; versions = l.versions; pending = l.pending; published = length-set w.published e true ∙ l.published; filled = l.filled; rows = l.rows; pins = l.pins }
  lengths_kept w commit l a = let new = replaced (last_state w.history) w.pending in record {
    some_state = let n = length-append w.history (new ∷ []) in omega arith;
    states = λ v st h. ⊎_elim (λ t. l.states v st t.1) (λ t. ap length (sym t.1) ∙ (length-replaced (last_state w.history) w.pending ∙ l.states (length w.history - 1) (last_state w.history) (last_there w.history l.some_state))) (at_more w.history new st v h);
    versions = length-renewed (length w.history) w.pending w.versions ∙ l.versions;
    pending = length-many w.entities None;
    published = length-many w.entities false;
    filled = length-many w.lanes (replicate w.entities false);
    rows = λ n row h. ap length (sym (many_at w.lanes n (replicate w.entities false) row h)) ∙ length-many w.entities false;
    pins = l.pins;
  }
  lengths_kept w (roll_back e) l a = record { some_state = l.some_state; states = l.states; versions = l.versions; pending = length-set w.pending e None ∙ l.pending; published = length-set w.published e false ∙ l.published; filled = length-emptied w.filled e ∙ l.filled; rows = emptied_rows w e l; pins = l.pins }
  lengths_kept w end l a = record { some_state = l.some_state; states = l.states; versions = l.versions; pending = l.pending; published = l.published; filled = l.filled; rows = l.rows; pins = l.pins }
  lengths_kept w (pin n) l a = record { some_state = l.some_state; states = l.states; versions = l.versions; pending = l.pending; published = l.published; filled = l.filled; rows = l.rows; pins = length-set w.pins n (Some (current w)) ∙ l.pins }
  lengths_kept w (read n e) l a = l
  lengths_kept w (unpin n) l a = record { some_state = l.some_state; states = l.states; versions = l.versions; pending = l.pending; published = l.published; filled = l.filled; rows = l.rows; pins = length-set w.pins n None ∙ l.pins }
  lengths_kept w drain l a = record { some_state = l.some_state; states = l.states; versions = l.versions; pending = l.pending; published = l.published; filled = l.filled; rows = l.rows; pins = l.pins }

  -- and adds one state at most
  pub history_kept : (w : PureWorld P) (event : PureEvent P) → length (applied w event).history ≤ length w.history + 1
  history_kept w begin = omega arith
  history_kept w (stage e x) = omega arith
  history_kept w (fill n e) = omega arith
  history_kept w (publish e) = omega arith
  history_kept w commit = let n = length-append w.history (replaced (last_state w.history) w.pending ∷ []) in omega arith
  history_kept w (roll_back e) = omega arith
  history_kept w end = omega arith
  history_kept w (pin n) = omega arith
  history_kept w (read n e) = omega arith
  history_kept w (unpin n) = omega arith
  history_kept w drain = omega arith

  -- whatever the answer
  pub answered_lengths : {E : Type 0} (r : Result Bool E) (w next : PureWorld P) (event : PureEvent P) → IfOk r (λ b. Answers w event b next) → OnErr r (next ≡ w) → HasLengths w → HasLengths next
  answered_lengths (Ok true) w next event answers err l = let a = answers.allowed refl in subst HasLengths (sym a.1) (lengths_kept w event l a.0)
  answered_lengths (Ok false) w next event answers err l = subst HasLengths (sym (answers.refused refl).1) l
  answered_lengths (Err x) w next event answers err l = subst HasLengths (sym err) l

  pub answered_history : {E : Type 0} (r : Result Bool E) (w next : PureWorld P) (event : PureEvent P) → IfOk r (λ b. Answers w event b next) → OnErr r (next ≡ w) → length next.history ≤ length w.history + 1
  answered_history (Ok true) w next event answers err = let a = answers.allowed refl in subst (λ (x : PureWorld P). length x.history ≤ length w.history + 1) (sym a.1) (history_kept w event)
  answered_history (Ok false) w next event answers err = subst (λ (x : PureWorld P). length x.history ≤ length w.history + 1) (sym (answers.refused refl).1) (omega arith)
  answered_history (Err x) w next event answers err = subst (λ (x : PureWorld P). length x.history ≤ length w.history + 1) (sym err) (omega arith)
