-- What a world's own lists are, seen by their payloads' values.
use Rattle.std.proofs.Common.{◌≡◌, ◌≢◌, ℕ, zero, suc, ◌+◌, ◌-◌, ◌<◌, ◌≤◌, Bool, true, false, cond, List, [], ◌∷◌, ◌++◌, map, length, set, get_or, replicate, slice_get, take, refl, sym, ap, ◌∙◌, arith, Option, Some, None}
use Rattle.std.proofs.lemmas.List.{map-set, map-append}
use Rattle.std.specs.Prelude.{is_some, unwrap_or, IfOk, Result, Ok, Err}
use Rattle.std.specs.Option.{option_map}
use Rattle.std.specs.Arc.{arc_value}
use Rattle.std.specs.declared.sync.Arc.{Arc}
use Rattle.heap_world.specs.World.{PureWorld, PureEvent, Allowed, applied, Answers, end, last_state, replaced, renewed}
use Rattle.heap_core.specs.PlainLaws.{none_some}
use Rattle.heap_world.proofs.Lengths.{last_there}
use Rattle.heap_core.proofs.Lists.{get_index}

module _ {P : Type 0} where
  pub agrees : (w : PureWorld P) (event : PureEvent P) (next : PureWorld P) → Allowed w event → next ≡ applied w event → Answers w event true next
  agrees w event next may is = record { allowed = λ _. (may, is); refused = λ no. absurd (let z : true ≡ false = no in cc) }

  pub refuses : (w : PureWorld P) (event : PureEvent P) → ¬ (Allowed w event) → Answers w event false w
  refuses w event not = record { allowed = λ no. absurd (let z : false ≡ true = no in cc); refused = λ _. (not, refl) }

module _ {A : Type 0} where
  -- one more element of the front of a list
  pub take_step : (xs : List A) (i : ℕ) (x : A) → slice_get xs i ≡ Some x → take (i + 1) xs ≡ take i xs ++ x ∷ []
  take_step [] i x h = absurd (none_some x h)
  take_step (y ∷ ys) zero x h = ap (λ (z : A). z ∷ []) (let k : Some y ≡ Some x = h in cc)
  take_step (y ∷ ys) (suc i) x h = let n : suc i + 1 ≡ suc (i + 1) = omega arith in rw n (ap (λ (l : List A). y ∷ l) (take_step ys i x h))

  pub take_past : (xs : List A) (i : ℕ) → length xs ≤ i → take i xs ≡ xs
  take_past [] zero h = refl
  take_past [] (suc i) h = refl
  take_past (y ∷ ys) zero h = absurd (omega arith)
  take_past (y ∷ ys) (suc i) h = ap (λ (l : List A). y ∷ l) (take_past ys i (omega arith))

  pub front_step : (xs more ys : List A) (i : ℕ) (x : A) → more ≡ xs ++ x ∷ [] → xs ≡ take i ys → slice_get ys i ≡ Some x → more ≡ take (i + 1) ys
  front_step xs more ys i x is so_far at = is ∙ (ap (λ (l : List A). l ++ x ∷ []) so_far ∙ sym (take_step ys i x at))

  pub replaced_at : (xs : List A) (ps : List (Option A)) (i : ℕ) (x : A) (p : Option A) → slice_get xs i ≡ Some x → slice_get ps i ≡ Some p → slice_get (replaced xs ps) i ≡ Some (unwrap_or p x)
  replaced_at [] ps i x p h k = absurd (none_some x h)
  replaced_at (y ∷ ys) [] i x p h k = absurd (none_some p k)
  replaced_at (y ∷ ys) (q ∷ qs) zero x p h k = let a : y ≡ x = (let z : Some y ≡ Some x = h in cc) in let b : q ≡ p = (let z : Some q ≡ Some p = k in cc) in λ j. Some (unwrap_or (b j) (a j))
  replaced_at (y ∷ ys) (q ∷ qs) (suc i) x p h k = replaced_at ys qs i x p h k

  pub renewed_at : (v : ℕ) (ps : List (Option A)) (ns : List ℕ) (i n : ℕ) (p : Option A) → slice_get ns i ≡ Some n → slice_get ps i ≡ Some p → slice_get (renewed v ps ns) i ≡ Some (cond (is_some p) v n)
  renewed_at v [] ns i n p h k = absurd (none_some p k)
  renewed_at v (q ∷ qs) [] i n p h k = absurd (none_some n h)
  renewed_at v (Some q ∷ qs) (m ∷ ms) zero n p h k = let b : Some q ≡ p = (let z : Some (Some q) ≡ Some p = k in cc) in ap (λ (o : Option A). Some (cond (is_some o) v n)) b
  renewed_at v (None ∷ qs) (m ∷ ms) zero n p h k = let b : None ≡ p = (let z : Some None ≡ Some p = k in cc) in h ∙ ap (λ (o : Option A). Some (cond (is_some o) v n)) b
  renewed_at v (Some q ∷ qs) (m ∷ ms) (suc i) n p h k = renewed_at v qs ms i n p h k
  renewed_at v (None ∷ qs) (m ∷ ms) (suc i) n p h k = renewed_at v qs ms i n p h k

module _ {P Z : Type 0} where
  abbrev pub nothing : ℕ → List (Option (Arc P Z))
  nothing n = replicate n None

  pub get-values : (xs : List (Arc P Z)) (i : ℕ) (x : Arc P Z) → slice_get xs i ≡ Some x → slice_get (map arc_value xs) i ≡ Some (arc_value x)
  get-values [] i x h = absurd (none_some x h)
  get-values (y ∷ ys) zero x h = let a : y ≡ x = (let z : Some y ≡ Some x = h in cc) in ap (λ (z : Arc P Z). Some (arc_value z)) a
  get-values (y ∷ ys) (suc i) x h = get-values ys i x h

  pub get-seen : (xs : List (Option (Arc P Z))) (i : ℕ) (o : Option (Arc P Z)) → slice_get xs i ≡ Some o → slice_get (map (option_map arc_value) xs) i ≡ Some (option_map arc_value o)
  get-seen [] i o h = absurd (none_some o h)
  get-seen (y ∷ ys) zero o h = let a : y ≡ o = (let z : Some y ≡ Some o = h in cc) in ap (λ (z : Option (Arc P Z)). Some (option_map arc_value z)) a
  get-seen (y ∷ ys) (suc i) o h = get-seen ys i o h

  pub is_some-seen : (o : Option (Arc P Z)) → is_some (option_map arc_value o) ≡ is_some o
  is_some-seen None = refl
  is_some-seen (Some x) = refl

  pub pends_within : (xs : List (Option (Arc P Z))) (e : ℕ) (x : P) → slice_get (map (option_map arc_value) xs) e ≡ Some (Some x) → e < length xs
  pends_within [] e x h = absurd (none_some (Some x) h)
  pends_within (y ∷ ys) zero x h = omega arith
  pends_within (y ∷ ys) (suc e) x h = let n = pends_within ys e x h in omega arith

  pub pends_some : (xs : List (Option (Arc P Z))) (e : ℕ) (o : Option (Arc P Z)) → slice_get xs e ≡ Some o → is_some o ≡ true → (x : P) × (slice_get (map (option_map arc_value) xs) e ≡ Some (Some x))
  pends_some xs e None at is = absurd (let z : false ≡ true = is in cc)
  pends_some xs e (Some p) at is = (arc_value p, get-seen xs e (Some p) at)

  pub pends_none : (xs : List (Option (Arc P Z))) (e : ℕ) (o : Option (Arc P Z)) → slice_get xs e ≡ Some o → is_some o ≡ false → (x : P) → slice_get (map (option_map arc_value) xs) e ≢ Some (Some x)
  pends_none xs e None at is x h = let z : Some None ≡ Some (Some x) = sym (get-seen xs e None at) ∙ h in cc
  pends_none xs e (Some p) at is x h = let z : true ≡ false = is in cc

  pub seen_staged : (xs more : List (Option (Arc P Z))) (e : ℕ) (s : Arc P Z) (x : P) → more ≡ set xs e (Some s) → arc_value s ≡ x → map (option_map arc_value) more ≡ set (map (option_map arc_value) xs) e (Some x)
  seen_staged xs more e s x is same = ap (map (option_map arc_value)) is ∙ (map-set (option_map arc_value) xs e (Some s) ∙ ap (λ (z : P). set (map (option_map arc_value) xs) e (Some z)) same)

  pub seen_emptied : (xs more : List (Option (Arc P Z))) (e : ℕ) → more ≡ set xs e None → map (option_map arc_value) more ≡ set (map (option_map arc_value) xs) e None
  seen_emptied xs more e is = ap (map (option_map arc_value)) is ∙ map-set (option_map arc_value) xs e None

  pub seen_step : (xs more : List (Arc P Z)) (ys : List P) (i : ℕ) (x : Arc P Z) (y : P) → more ≡ xs ++ x ∷ [] → map arc_value xs ≡ take i ys → arc_value x ≡ y → slice_get ys i ≡ Some y → map arc_value more ≡ take (i + 1) ys
  seen_step xs more ys i x y is so_far same at = front_step (map arc_value xs) (map arc_value more) ys i y (ap (map arc_value) is ∙ (map-append arc_value xs (x ∷ []) ∙ ap (λ (z : P). map arc_value xs ++ z ∷ []) same)) so_far at

  -- the end of a transaction
  pub end_refuses : (w : PureWorld P) (xs : List (Option (Arc P Z))) (b : Bool) → map (option_map arc_value) xs ≡ w.pending
      → (((e : ℕ) → ¬ ((x : P) × (slice_get (map (option_map arc_value) xs) e ≡ Some (Some x)))) → b ≡ true) → b ≡ false → Answers w end false w
  end_refuses w xs b is does not = refuses w end (λ a. let z : true ≡ false = sym (does (λ e p. a.1 e (p.0, ap (λ (l : List (Option P)). slice_get l e) (sym is) ∙ p.1))) ∙ not in cc)

  pub end_agrees : (w : PureWorld P) (xs : List (Option (Arc P Z))) (b : Bool) → map (option_map arc_value) xs ≡ w.pending → w.is_open ≡ true
      → (b ≡ true → (e : ℕ) → ¬ ((x : P) × (slice_get (map (option_map arc_value) xs) e ≡ Some (Some x)))) → b ≡ true → Answers w end true (record w { is_open = false })
  end_agrees w xs b is opened none does = agrees w end (record w { is_open = false }) (opened, λ e p. none does e (p.0, ap (λ (l : List (Option P)). slice_get l e) is ∙ p.1)) refl

  pub get-states : (hs : List (List (Arc P Z))) (i : ℕ) (l : List (Arc P Z)) → slice_get hs i ≡ Some l → slice_get (map (map arc_value) hs) i ≡ Some (map arc_value l)
  get-states [] i l h = absurd (none_some l h)
  get-states (y ∷ ys) zero l h = let a : y ≡ l = (let z : Some y ≡ Some l = h in cc) in ap (λ (z : List (Arc P Z)). Some (map arc_value z)) a
  get-states (y ∷ ys) (suc i) l h = get-states ys i l h

  pub length-states : (hs : List (List (Arc P Z))) → length (map (map arc_value) hs) ≡ length hs
  length-states [] = refl
  length-states (h ∷ hs) = ap suc (length-states hs)

  pub length-seen : (xs : List (Option (Arc P Z))) → length (map (option_map arc_value) xs) ≡ length xs
  length-seen [] = refl
  length-seen (x ∷ xs) = ap suc (length-seen xs)

  pub last_seen : (hs : List (List (Arc P Z))) (l : List (Arc P Z)) → 0 < length hs → slice_get hs (length hs - 1) ≡ Some l → map arc_value l ≡ last_state (map (map arc_value) hs)
  last_seen hs l some at =
      let n = length-states hs in let here : slice_get (map (map arc_value) hs) (length hs - 1) ≡ Some (map arc_value l) = get-states hs (length hs - 1) l at in
      let there : slice_get (map (map arc_value) hs) (length hs - 1) ≡ Some (last_state (map (map arc_value) hs)) = ap (λ k. slice_get (map (map arc_value) hs) (k - 1)) (sym n) ∙ last_there (map (map arc_value) hs) (omega arith) in
      cc

  pub seen_push : (hs more : List (List (Arc P Z))) (l : List (Arc P Z)) (next : List P) → more ≡ hs ++ l ∷ [] → map arc_value l ≡ next → map (map arc_value) more ≡ map (map arc_value) hs ++ next ∷ []
  seen_push hs more l next is same = ap (map (map arc_value)) is ∙ (map-append (map arc_value) hs (l ∷ []) ∙ ap (λ (z : List P). map (map arc_value) hs ++ z ∷ []) same)

  pub seen_nothing : (xs : List (Option (Arc P Z))) (n : ℕ) → xs ≡ replicate n None → map (option_map arc_value) xs ≡ replicate n None
  seen_nothing xs n is = ap (map (option_map arc_value)) is ∙ none n
    where
      none : (n : ℕ) → map (option_map arc_value) (nothing n) ≡ replicate n None
      none zero = refl
      none (suc n) = ap (λ (l : List (Option P)). None ∷ l) (none n)

  pub pends_as : (xs ys : List (Option (Arc P Z))) (e : ℕ) → xs ≡ ys → (x : P) × (slice_get (map (option_map arc_value) xs) e ≡ Some (Some x)) → (x : P) × (slice_get (map (option_map arc_value) ys) e ≡ Some (Some x))
  pends_as xs ys e is p = (p.0, ap (λ (l : List (Option (Arc P Z))). slice_get (map (option_map arc_value) l) e) (sym is) ∙ p.1)

  -- the last state, as the code comes to it
  pub last_here : (hs s : List (List (Arc P Z))) (n : ℕ) (l m : List (Arc P Z)) → s ≡ hs → n ≡ length hs → 0 < length (map (map arc_value) hs) → l ≡ get_or s (n - 1) l → m ≡ l → map arc_value m ≡ last_state (map (map arc_value) hs)
  last_here hs s n l m is many some at same =
      let k = length-states hs in
      ap (map arc_value) same ∙ last_seen hs l (omega arith) (get_index hs (length hs - 1) l (omega arith) (at ∙ (λ j. get_or (is j) (many j - 1) l)))

  pub next_is : {E : Type 0} (r : Result (List (Arc P Z)) E) (a b : List P) → a ≡ b → IfOk r (λ l. map arc_value l ≡ a) → IfOk r (λ l. map arc_value l ≡ b)
  next_is (Ok l) a b is h = h ∙ is
  next_is (Err e) a b is h = tt
