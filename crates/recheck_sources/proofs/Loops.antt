-- Lists that loops make, one element after the other.
use Rattle.std.proofs.Common.{◌≡◌, ℕ, zero, suc, ◌+◌, ◌<◌, Bool, true, false, List, [], ◌∷◌, ◌++◌, map, length, get_or, slice_get, Option, Some, None, refl, sym, ap, ◌∙◌, subst, arith, ⊎_elim}
use Rattle.heap_core.proofs.Lists.{at_more, get_there, get_index}
use Rattle.check_phases.proofs.Lists.{one_value, place_at, value_at, within_there}
use Rattle.std.proofs.lemmas.List.{length-append}
use Rattle.recheck_sources.specs.Keeping.{kept_in, IsInPlace, TellsOther}
use Rattle.recheck_sources.specs.Parts.{AreKeptBy, TellsOthers}

pub mapped_at : {A B : Type 0} (f : A → B) (xs : List A) (i : ℕ) (x : A) → slice_get xs i ≡ Some x → slice_get (map f xs) i ≡ Some (f x)
mapped_at f [] i x at = absurd (let z : None ≡ Some x = at in cc)
mapped_at f (y ∷ ys) zero x at = ap (λ a. Some (f a)) (one_value y x at)
mapped_at f (y ∷ ys) (suc i) x at = mapped_at f ys i x at

pub many_mapped : {A B : Type 0} (f : A → B) (xs : List A) → length (map f xs) ≡ length xs
many_mapped f [] = refl
many_mapped f (x ∷ xs) = ap suc (many_mapped f xs)

-- what a loop looks at stands at its number
pub seen_at : {A : Type 0} (xs : List A) (x : ℕ) (part view : A) → x < length xs → part ≡ get_or xs x part → view ≡ part → slice_get xs x ≡ Some view
seen_at xs x part view low is same = get_index xs x part low is ∙ ap Some (sym same)

pub off_at : (flags : List Bool) (x : ℕ) → x < length flags → get_or flags x false ≡ false → slice_get flags x ≡ Some false
off_at flags x low off = place_at flags x false low ∙ ap Some off

-- there are so many elements, and this holds of each at its place
pub record AreEach {Y : Type 0} (P : ℕ → Y → Type 0) (i : ℕ) (ys : List Y) : Type 0 where
  pub many : length ys ≡ i
  pub each : (x : ℕ) (y : Y) → slice_get ys x ≡ Some y → P x y

module _ {Y : Type 0} (P : ℕ → Y → Type 0) where
  pub each_none : (ys : List Y) → ys ≡ [] → AreEach P 0 ys
  each_none ys is = subst (AreEach P 0) (sym is) (record { many = refl; each = λ x y at. absurd (let z : None ≡ Some y = at in cc) })

  pub each_more : (i : ℕ) (y : Y) (old new : List Y) → AreEach P i old → P i y → new ≡ old ++ y ∷ [] → AreEach P (i + 1) new
  each_more i y old new so_far here pushed = subst (AreEach P (i + 1)) (sym pushed) (record {
    many = let more = length-append old (y ∷ []) in let m = so_far.many in omega (arith, more, m);
    each = λ x z at. ⊎_elim (λ h. so_far.each x z h.1) (λ h. subst (λ (k : ℕ). P k z) (sym (h.0 ∙ so_far.many)) (subst (P i) h.1 here)) (at_more old y z x at);
  })

-- ---- what is kept

module _ {X : Type 0} (was : List X) (from : List (Option ℕ)) (flags : List Bool) where
  -- what is kept for a number
  abbrev pub kept_at : ℕ → Option X
  kept_at x = kept_in was (get_or from x None) (get_or flags x false)

  -- a number that is not fresh has an old part
  abbrev pub HasOld : ℕ → Type 0
  HasOld x = (o : ℕ) × (part : X) × (slice_get from x ≡ Some (Some o)) × (slice_get was o ≡ Some part)

  pub is_kept : (x o : ℕ) (part : X) → slice_get flags x ≡ Some false → slice_get from x ≡ Some (Some o) → slice_get was o ≡ Some part → kept_at x ≡ Some part
  is_kept x o part off at there =
      let number : Some o ≡ get_or from x None = value_at from x (Some o) None at in
      let flag : false ≡ get_or flags x false = value_at flags x false false off in
      (λ j. kept_in was (sym number j) (sym flag j)) ∙ there

  pub are_kept : (n : ℕ) (now : List X) → n ≡ length from → n ≡ length flags → ((x : ℕ) → slice_get flags x ≡ Some false → HasOld x) → AreEach (λ x part. IsInPlace (kept_at x) part) n now → AreKeptBy was from flags now
  are_kept n now many_from many_flags olds so_far = record {
    many = so_far.many ∙ many_from;
    kept = λ x off.
        let old = olds x off in
        let low = within_there flags x false off in
        let here = get_there now x (let m = so_far.many in omega (arith, low, m, many_flags)) in
        let same : here.0 ≡ old.1 = subst (λ (k : Option X). IsInPlace k here.0) (is_kept x old.0 old.1 off old.2 old.3) (so_far.each x here.0 here.1) in
        (old.0, old.1, old.2, old.3, here.1 ∙ ap Some same);
  }

-- ---- what is another one

module _ {X : Type 0} (was : List X) (from : List (Option ℕ)) (now : List X) where
  -- a flag tells of the part at a number
  abbrev pub Tells : ℕ → Bool → Type 0
  Tells x flag = (part : X) → slice_get now x ≡ Some part → TellsOther was (get_or from x None) part flag

  pub tells_here : (x : ℕ) (part : X) (flag : Bool) → slice_get now x ≡ Some part → TellsOther was (get_or from x None) part flag → Tells x flag
  tells_here x part flag at tells other there = subst (λ (p : X). TellsOther was (get_or from x None) p flag) (one_value part other (sym at ∙ there)) tells

  pub they_tell : (n : ℕ) (flags : List Bool) → n ≡ length now → length from ≡ length now → AreEach Tells n flags → TellsOthers was from now flags
  they_tell n flags many many_from so_far = record {
    many = so_far.many ∙ many;
    others = λ x o old new on at there here. (so_far.each x true on new here).other o old refl (sym (value_at from x (Some o) None at)) there;
    same = λ x off.
        let low = within_there flags x false off in
        let m = so_far.many in
        let here = get_there now x (omega (arith, low, m, many)) in
        let old = (so_far.each x false off here.0 here.1).same refl in
        (old.0, here.0, place_at from x None (omega (arith, low, m, many, many_from)) ∙ ap Some old.1, old.2, here.1);
  }

  -- what is kept is no other one
  pub none_other : (flags : List Bool) (x : ℕ) (part : X) → AreKeptBy was from flags now → slice_get flags x ≡ Some false → slice_get now x ≡ Some part → TellsOther was (get_or from x None) part false
  none_other flags x part are off at =
      let old = are.kept x off in
      record {
        other = λ o p on. absurd (let z : false ≡ true = on in cc);
        same = λ e. (old.0, sym (value_at from x (Some old.0) None old.2), old.3 ∙ (sym old.4 ∙ at));
      }

-- what is made of what is kept is kept
pub kept_mapped : {A B : Type 0} (f : A → B) (was : List A) (from : List (Option ℕ)) (flags : List Bool) (now : List A) → AreKeptBy was from flags now → AreKeptBy (map f was) from flags (map f now)
kept_mapped f was from flags now are = record {
  many = many_mapped f now ∙ are.many;
  kept = λ x off. (let k = are.kept x off in (k.0, f k.1, k.2, mapped_at f was k.0 k.1 k.3, mapped_at f now x k.1 k.4));
}
