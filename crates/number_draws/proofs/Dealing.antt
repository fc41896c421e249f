-- One more number is dealt.
use Rattle.std.proofs.Common.{◌≡◌, ℕ, zero, suc, ◌+◌, ◌<◌, ◌≤◌, List, [], ◌∷◌, ◌++◌, length, map, set, get_or, sum_by, refl, sym, ap, ◌∙◌, subst, arith}
use Rattle.std.specs.List.{AllByRecursion}
use Rattle.std.proofs.lemmas.List.Sums.{sum_by-cons, sum_by-append, sum_by-set}
use Rattle.number_draws.specs.declared.hand.Hand.{Hand}
use Rattle.number_draws.specs.Hands.{all_parts, hand}
use Rattle.number_draws.specs.Below.{below}
use Rattle.number_draws.specs.Dealt.{IsFresh, AreDealt}

wider : (end more : ℕ) (xs : List ℕ) → end ≤ more → AllByRecursion (λ i. i < end) xs → AllByRecursion (λ i. i < more) xs
wider end more [] le all = tt
wider end more (x ∷ xs) le all = (let low = all.0 in omega arith, wider end more xs le all.1)

with_one : (end x : ℕ) (xs : List ℕ) → x < end → AllByRecursion (λ i. i < end) xs → AllByRecursion (λ i. i < end) (xs ++ x ∷ [])
with_one end x [] low all = (low, tt)
with_one end x (y ∷ xs) low all = (all.0, with_one end x xs low all.1)

all_wider : (end : ℕ) (views : List Hand) → AllByRecursion (IsFresh end) views → AllByRecursion (IsFresh (end + 1)) views
all_wider end [] all = tt
all_wider end (v ∷ views) all = (record { parts = all.0.parts; taken = all.0.taken; below = wider end (end + 1) v.put (omega arith) all.0.below }, all_wider end views all.1)

rec_set : {A : Type 0} (P : A → Type 0) (xs : List A) (k : ℕ) (y : A) → P y → AllByRecursion P xs → AllByRecursion P (set xs k y)
rec_set P [] k y there all = tt
rec_set P (x ∷ xs) zero y there all = (there, all.1)
rec_set P (x ∷ xs) (suc k) y there all = (all.0, rec_set P xs k y there all.1)

pub rec_at : {A : Type 0} (P : A → Type 0) (xs : List A) (k : ℕ) (d : A) → k < length xs → AllByRecursion P xs → P (get_or xs k d)
rec_at P [] k d low all = absurd (omega arith)
rec_at P (x ∷ xs) zero d low all = all.0
rec_at P (x ∷ xs) (suc k) d low all = rec_at P xs k d (omega arith) all.1

pub rec_kept : {A : Type 0} (P : A → Type 0) (xs : List A) (k : ℕ) (y : A) → P y → AllByRecursion P xs → AllByRecursion P (set xs k y)
rec_kept P xs k y there all = rec_set P xs k y there all

pub rec_push : {A : Type 0} (P : A → Type 0) (xs ys : List A) (y : A) → ys ≡ xs ++ y ∷ [] → AllByRecursion P xs → P y → AllByRecursion P ys
rec_push P xs ys y e all there = subst (λ (l : _). AllByRecursion P l) (sym e) (go xs all)
  where
    go : (zs : _) → AllByRecursion P zs → AllByRecursion P (zs ++ y ∷ [])
    go [] all = (there, tt)
    go (z ∷ zs) all = (all.0, go zs all.1)

module _ {D : Type 0} (view : D → Hand) where
  map_set : (ds : List D) (k : ℕ) (d : D) → map view (set ds k d) ≡ set (map view ds) k (view d)
  map_set [] k d = refl
  map_set (x ∷ ds) zero d = refl
  map_set (x ∷ ds) (suc k) d = ap (λ (l : List Hand). view x ∷ l) (map_set ds k d)

  map_get : (ds : List D) (k : ℕ) (d : D) → k < length ds → get_or (map view ds) k (view d) ≡ view (get_or ds k d)
  map_get [] k d low = absurd (omega arith)
  map_get (x ∷ ds) zero d low = refl
  map_get (x ∷ ds) (suc k) d low = map_get ds k d (omega arith)

  pub set_long : (ds : List D) (k : ℕ) (d : D) → length (set ds k d) ≡ length ds
  set_long [] k d = refl
  set_long (x ∷ ds) zero d = refl
  set_long (x ∷ ds) (suc k) d = let rest = set_long ds k d in omega arith

  map_long : (ds : List D) → length (map view ds) ≡ length ds
  map_long [] = refl
  map_long (x ∷ ds) = let rest = map_long ds in omega arith

  pub fresh_at : (end : ℕ) (ds : List D) (k : ℕ) (d : D) → k < length ds → AreDealt end (map view ds) → (view (get_or ds k d)).parts ≡ all_parts
  fresh_at end ds k d low dealt =
      let f : IsFresh end (get_or (map view ds) k (view d)) = rec_at (IsFresh end) (map view ds) k (view d) (let l = map_long ds in omega arith) dealt.fresh in
      ap (λ (v : Hand). v.parts) (sym (map_get ds k d low)) ∙ f.parts

  pub fresh_there : (end : ℕ) (ds : List D) (k : ℕ) (d : D) → k < length ds → d ≡ get_or ds k d → AreDealt end (map view ds) → (view d).parts ≡ all_parts
  fresh_there end ds k d low is dealt = ap (λ (x : D). (view x).parts) is ∙ fresh_at end ds k d low dealt

  pub dealt_more : (number : ℕ) (ds ds' : List D) (k : ℕ) (d d' : D) → k < length ds → AreDealt number (map view ds) → view d' ≡ hand all_parts ((view (get_or ds k d)).put ++ number ∷ []) (view (get_or ds k d)).taken → ds' ≡ set ds k d'
      → AreDealt (number + 1) (map view ds')
  dealt_more number ds ds' k d d' low dealt put e =
      let views = map view ds in
      let long = map_long ds in
      let old : Hand = view (get_or ds k d) in
      let same : get_or views k (view d) ≡ old = map_get ds k d low in
      let f : IsFresh number old = subst (λ (v : Hand). IsFresh number v) same (rec_at (IsFresh number) views k (view d) (omega arith) dealt.fresh) in
      let now : IsFresh (number + 1) (view d') = subst (λ (v : Hand). IsFresh (number + 1) v) (sym put) (record { parts = refl; taken = f.taken; below = with_one (number + 1) number old.put (omega arith) (wider number (number + 1) old.put (omega arith) f.below) }) in
      let all : map view ds' ≡ set views k (view d') = ap (λ (l : List D). map view l) e ∙ map_set ds k d' in
      subst (λ (vs : List Hand). AreDealt (number + 1) vs) (sym all) (record {
        fresh = rec_set (IsFresh (number + 1)) views k (view d') now (all_wider number views dealt.fresh);
        each = λ h.
            let p : sum_by h (view d').put ≡ sum_by h (old.put ++ number ∷ []) = ap (λ (v : Hand). sum_by h v.put) put in
            let o : sum_by h (get_or views k (view d)).put ≡ sum_by h old.put = ap (λ (v : Hand). sum_by h v.put) same in
            let w : sum_by (λ (v : Hand). sum_by h v.put) views ≡ sum_by h (below number) = dealt.each h in
            let n : number + 1 ≡ suc number = omega arith in
            let b : sum_by h (below (number + 1)) ≡ sum_by h (below number ++ number ∷ []) = ap (λ (i : ℕ). sum_by h (below i)) n in
            omega (arith, sum_by-set (λ (v : Hand). sum_by h v.put) views k (view d') (view d) (omega arith), sum_by-append h old.put (number ∷ []), sum_by-append h (below number) (number ∷ []));
      })

  pub dealt_there : (number : ℕ) (ds ds' : List D) (k : ℕ) (d d' : D) → k < length ds → d ≡ get_or ds k d → AreDealt number (map view ds) → view d' ≡ hand all_parts ((view d).put ++ number ∷ []) (view d).taken → ds' ≡ set ds k d'
      → AreDealt (number + 1) (map view ds')
  dealt_there number ds ds' k d d' low is dealt put e = dealt_more number ds ds' k d d' low dealt (put ∙ ap (λ (x : D). hand all_parts ((view x).put ++ number ∷ []) (view x).taken) is) e

  pub dealt_push : (ds ds' : List D) (d : D) → ds' ≡ ds ++ d ∷ [] → view d ≡ hand all_parts [] [] → AreDealt 0 (map view ds) → AreDealt 0 (map view ds')
  dealt_push ds ds' d e fresh dealt = subst (λ (l : List D). AreDealt 0 (map view l)) (sym e) (record { fresh = all ds dealt.fresh; each = λ h. zero_all h ds (dealt.each h) })
    where
      one : IsFresh 0 (view d)
      one = subst (λ (v : Hand). IsFresh 0 v) (sym fresh) (record { parts = refl; taken = refl; below = tt })

      all : (es : List D) → AllByRecursion (IsFresh 0) (map view es) → AllByRecursion (IsFresh 0) (map view (es ++ d ∷ []))
      all [] h = (one, tt)
      all (x ∷ es) h = (h.0, all es h.1)

      zero_one : (h : ℕ → ℕ) → sum_by h (view d).put ≡ 0
      zero_one h = ap (λ (v : Hand). sum_by h v.put) fresh

      zero_all : (h : ℕ → ℕ) (es : List D) → sum_by (λ (v : Hand). sum_by h v.put) (map view es) ≡ 0 → sum_by (λ (v : Hand). sum_by h v.put) (map view (es ++ d ∷ [])) ≡ 0
      zero_all h [] z = let o = zero_one h in omega (arith, sum_by-cons (λ (v : Hand). sum_by h v.put) (view d) [])
      zero_all h (x ∷ es) z =
          let c = sum_by-cons (λ (v : Hand). sum_by h v.put) (view x) (map view es) in
          let rest = zero_all h es (omega arith) in
          omega (arith, sum_by-cons (λ (v : Hand). sum_by h v.put) (view x) (map view (es ++ d ∷ [])))
