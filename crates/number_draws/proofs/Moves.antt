-- Each move keeps the rule.
use Rattle.std.proofs.Common.{◌≡◌, ◌≢◌, ℕ, zero, suc, ◌+◌, ◌-◌, ◌<◌, ◌≤◌, List, [], ◌∷◌, ◌++◌, set, sum_by, refl, sym, ap, subst, ⊎_elim, arith}
use Rattle.std.proofs.lemmas.List.Sums.{sum_by-append}
use mathlib.Core.Option.{some, some-ne-none}
use lib.ListN.{get_elem?}
use Rattle.crossbeam_deque.specs.Tasks as tasks
use Rattle.crossbeam_deque.proofs.Lists.{at_set, at_snoc}
use Rattle.number_draws.specs.declared.hand.Hand.{Hand}
use Rattle.number_draws.specs.Hands.{all_parts, hand, total, Fits, Drawn}
use Rattle.number_draws.specs.Drawing.{Puts, Takes, Accounts, AllTaken}
use Rattle.number_draws.proofs.Totals.{total_set, total_snoc, total_two, total_alone, total_at}

abbrev Each : (Hand → Type 0) → List Hand → Type 0
Each F views = (port : ℕ) (v : Hand) → get_elem? views port ≡ some v → F v

each_set : (F : Hand → Type 0) (views : List Hand) (port : ℕ) (w : Hand) → F w → ((j : ℕ) (u : Hand) → j ≢ port → get_elem? views j ≡ some u → F u) → Each F (set views port w)
each_set F views port w mine others j u e = ⊎_elim (λ (x : (j ≡ port) × (w ≡ u)). subst F x.1 mine) (λ (x : (j ≢ port) × (get_elem? views j ≡ some u)). others j u x.0 x.1) (at_set views port j w u e)

-- the weight of what a pass took
abbrev of : (ℕ → ℕ) → Hand → ℕ
of h v = sum_by h v.taken

abbrev parts_of : Hand → ℕ
parts_of v = v.parts

-- nobody else has a part
no_parts : (items : List ℕ) (views : List Hand) (port : ℕ) (v : Hand) → v.parts ≡ all_parts → Drawn items views → get_elem? views port ≡ some v → (j : ℕ) (u : Hand) → j ≢ port → get_elem? views j ≡ some u → u.parts ≡ 0
no_parts items views port v whole h at j u apart there =
    let two : v.parts + u.parts ≤ total parts_of views = total_two parts_of views port j v u at there apart in
    let all : total parts_of views ≡ all_parts = h.1 in
    omega arith

only_first : (j : ℕ) (u : Hand) → j ≢ 0 → get_elem? (hand all_parts [] [] ∷ []) j ≡ some u → Fits [] u
only_first zero u apart e = absurd (apart refl)
only_first (suc j) u apart e = absurd (some-ne-none u (sym e))

pub begins : Drawn [] (hand all_parts [] [] ∷ [])
begins = ([], refl, λ h. refl, each_set (Fits []) (hand all_parts [] [] ∷ []) 0 (hand all_parts [] []) ((λ _. refl), λ _. refl) only_first)

pub puts : (port : ℕ) (v : Hand) (xs : List ℕ) → v.parts ≡ all_parts → tasks.Pushes Drawn port v xs (Puts v xs)
puts port v xs whole items views h at =
    let w : Hand = hand v.parts (v.put ++ xs) v.taken in
    let mine : v.put ≡ h.0 = (h.3 port v at).0 (omega arith) in (
      w,
      (
        h.0 ++ xs,
        (let s = total_set parts_of views port v w at in let all : total parts_of views ≡ all_parts = h.1 in omega arith),
        (λ g.
            let s = total_set (of g) views port v w at in
            let p : sum_by g h.0 ≡ total (of g) views + sum_by g items = h.2 g in
            omega (arith, sum_by-append g h.0 xs, sum_by-append g items xs)),
        each_set (Fits (h.0 ++ xs)) views port w ((λ _. ap (λ (l : List ℕ). l ++ xs) mine), λ z. absurd (omega arith))
            (λ j u apart there. let none_left = no_parts items views port v whole h at j u apart there in ((λ some_left. absurd (omega arith)), (h.3 j u there).1)),
      ),
      refl,
    )

pub takes : (port : ℕ) (v : Hand) → 0 < v.parts → tasks.Takes Drawn port v 1 (Takes v)
takes port v part xs items views _ _ h at =
    let w : Hand = hand v.parts v.put (v.taken ++ xs) in
    let mine : v.put ≡ h.0 = (h.3 port v at).0 part in (
      w,
      (
        h.0,
        (let s = total_set parts_of views port v w at in let all : total parts_of views ≡ all_parts = h.1 in omega arith),
        (λ g.
            let s = total_set (of g) views port v w at in
            let p : sum_by g h.0 ≡ total (of g) views + sum_by g (xs ++ items) = h.2 g in
            omega (arith, sum_by-append g v.taken xs, sum_by-append g xs items)),
        each_set (Fits h.0) views port w ((λ _. mine), λ z. absurd (omega arith)) (λ j u apart there. h.3 j u there),
      ),
      (
        refl,
        λ g.
            let p : sum_by g h.0 ≡ total (of g) views + sum_by g (xs ++ items) = h.2 g in
            let t : sum_by g v.taken ≤ total (of g) views = total_at (of g) views port v at in
            let m : sum_by g v.put ≡ sum_by g h.0 = ap (λ (l : List ℕ). sum_by g l) mine in
            omega (arith, sum_by-append g xs items),
      ),
    )

pub accounts : (port : ℕ) (v : Hand) → tasks.Learns Drawn port v (Accounts v)
accounts port v items views h at whole g =
    let p : sum_by g h.0 ≡ total (of g) views + sum_by g items = h.2 g in
    let t : total (of g) views ≡ sum_by g v.taken =
    total_alone (of g) views port v at (λ j u there apart. ap (λ (l : List ℕ). sum_by g l) ((h.3 j u there).1 (no_parts items views port v whole h at j u apart there))) in
    let m : sum_by g v.put ≡ sum_by g h.0 = ap (λ (l : List ℕ). sum_by g l) ((h.3 port v at).0 (omega arith)) in
    omega arith

pub finds : (port : ℕ) (v : Hand) → tasks.Finds Drawn port v (AllTaken v)
finds port v views h at whole g = let all : sum_by g v.put ≡ sum_by g v.taken + 0 = accounts port v [] views h at whole g in omega arith

pub forks : (port : ℕ) (v : Hand) → 1 < v.parts → tasks.Forks Drawn port v (hand (v.parts - 1) v.put v.taken) (hand 1 v.put [])
forks port v parts items views h at =
    let left : Hand = hand (v.parts - 1) v.put v.taken in
    let right : Hand = hand 1 v.put [] in
    let mine : v.put ≡ h.0 = (h.3 port v at).0 (omega arith) in
    let vs : List Hand = set views port left in
    let old : Each (Fits h.0) vs = each_set (Fits h.0) views port left ((λ _. mine), λ z. absurd (omega arith)) (λ j u apart there. h.3 j u there) in (
      h.0,
      (let s = total_set parts_of views port v left at in let t = total_snoc parts_of vs right in let all : total parts_of views ≡ all_parts = h.1 in omega arith),
      (λ g.
          let s = total_set (of g) views port v left at in
          let t : total (of g) (vs ++ right ∷ []) ≡ total (of g) vs + 0 = total_snoc (of g) vs right in
          let p : sum_by g h.0 ≡ total (of g) views + sum_by g items = h.2 g in
          omega arith),
      (λ j u e. ⊎_elim (λ x. old j u x) (λ (is : right ≡ u). subst (λ (y : Hand). Fits h.0 y) is ((λ _. mine), λ z. refl)) (at_snoc vs right u j e)),
    )

pub merges : (port : ℕ) (v : Hand) (other : ℕ) (w : Hand) → 0 < v.parts → tasks.Merges Drawn port v other w (hand (v.parts + w.parts) v.put (v.taken ++ w.taken)) (hand 0 [] [])
merges port v other w part items views h at two at' =
    let joined : Hand = hand (v.parts + w.parts) v.put (v.taken ++ w.taken) in
    let spent : Hand = hand 0 [] [] in
    let mine : v.put ≡ h.0 = (h.3 port v at).0 part in
    let vs : List Hand = set views port joined in
    let now : Each (Fits h.0) vs = each_set (Fits h.0) views port joined ((λ _. mine), λ z. absurd (omega arith)) (λ j u apart there. h.3 j u there) in (
      h.0,
      (let s = total_set parts_of views port v joined at in let t = total_set parts_of vs other w spent at' in let all : total parts_of views ≡ all_parts = h.1 in omega arith),
      (λ g.
          let s = total_set (of g) views port v joined at in
          let t : total (of g) (set vs other spent) + sum_by g w.taken ≡ total (of g) vs + 0 = total_set (of g) vs other w spent at' in
          let p : sum_by g h.0 ≡ total (of g) views + sum_by g items = h.2 g in
          omega (arith, sum_by-append g v.taken w.taken)),
      each_set (Fits h.0) vs other spent ((λ z. absurd (omega arith)), λ _. refl) (λ j u apart there. now j u there),
    )
