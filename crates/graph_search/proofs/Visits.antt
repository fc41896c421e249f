-- A step of a search that goes depth first leaves less to do.
use Rattle.std.proofs.Common.{◌≡◌, ℕ, zero, suc, ◌+◌, ◌-◌, ◌<◌, ◌≤◌, Bool, true, false, List, [], ◌∷◌, ◌++◌, length, set, get_or, slice_get, Some, refl, ap, ◌∙◌, arith}
use Rattle.graph_search.specs.Visiting.{unseen, untaken, still_to_do}
use Rattle.graph_search.proofs.Lists.{none_some, get_index}

unseen_set : (edges : List (List ℕ)) (seen : List Bool) (y : ℕ) → slice_get seen y ≡ Some false → unseen edges (set seen y true) + 2 + length (get_or edges y []) ≡ unseen edges seen
unseen_set edges [] y is = none_some false is
unseen_set [] (true ∷ seen) zero is = let both : Some true ≡ Some false = is in cc
unseen_set [] (false ∷ seen) zero is = omega arith
unseen_set [] (true ∷ seen) (suc y) is = unseen_set [] seen y is
unseen_set [] (false ∷ seen) (suc y) is = let h = unseen_set [] seen y is in omega arith
unseen_set (ys ∷ edges) (true ∷ seen) zero is = let both : Some true ≡ Some false = is in cc
unseen_set (ys ∷ edges) (false ∷ seen) zero is = omega arith
unseen_set (ys ∷ edges) (true ∷ seen) (suc y) is = unseen_set edges seen y is
unseen_set (ys ∷ edges) (false ∷ seen) (suc y) is = let h = unseen_set edges seen y is in omega arith

untaken_more : (edges : List (List ℕ)) (path : List (ℕ × ℕ)) (at : ℕ × ℕ) → untaken edges (path ++ at ∷ []) ≡ untaken edges path + 1 + (length (get_or edges at.0 []) - at.1)
untaken_more edges [] at = omega arith
untaken_more edges (p ∷ path) at = let h = untaken_more edges path at in omega arith

pub noted : (edges : List (List ℕ)) (seen : List Bool) (path after : List (ℕ × ℕ)) (y : ℕ) → y < length seen → get_or seen y false ≡ false → after ≡ path ++ (y, 0) ∷ [] → still_to_do edges (set seen y true) after ≤ still_to_do edges seen path
noted edges seen path after y small off is =
    let a = unseen_set edges seen y (get_index seen y false false small off) in
    let b = untaken_more edges path (y, 0) in
    let c : untaken edges after ≡ untaken edges (path ++ (y, 0) ∷ []) = ap (untaken edges) is in
    omega arith

pub left_path : (edges : List (List ℕ)) (seen : List Bool) (path : List (ℕ × ℕ)) (at : ℕ × ℕ) → still_to_do edges seen path < still_to_do edges seen (path ++ at ∷ [])
left_path edges seen path at = let b = untaken_more edges path at in omega arith

get_or_any : {A : Type 0} (xs : List A) (i : ℕ) (d e : A) → i < length xs → get_or xs i d ≡ get_or xs i e
get_or_any [] i d e h = absurd (omega arith)
get_or_any (x ∷ xs) zero d e h = refl
get_or_any (x ∷ xs) (suc i) d e h = get_or_any xs i d e (omega arith)

pub took_edge : (edges : List (List ℕ)) (seen : List Bool) (path : List (ℕ × ℕ)) (at : ℕ × ℕ) (ys : List ℕ) → at.0 < length edges → get_or edges at.0 ys ≡ ys → at.1 < length ys →
    still_to_do edges seen (path ++ (at.0, at.1 + 1) ∷ []) < still_to_do edges seen (path ++ at ∷ [])
took_edge edges seen path at ys small is next =
    let a = untaken_more edges path (at.0, at.1 + 1) in
    let b = untaken_more edges path at in
    let list : length (get_or edges at.0 []) ≡ length ys = ap length (get_or_any edges at.0 [] ys small ∙ is) in
    omega arith
