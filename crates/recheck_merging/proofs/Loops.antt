-- Lists that loops make of other lists.
use Rattle.std.proofs.Common.{◌≡◌, ℕ, ◌+◌, ◌<◌, List, [], ◌∷◌, ◌++◌, map, length, take, get_or, slice_get, Option, Some, None, sym, ap, ◌∙◌}
use Rattle.check_values.specs.declared.signatures.Sig.{Sig}
use Rattle.check_phases.proofs.Lists.{place_at, one_value}
use Rattle.heap_core.proofs.Lists.{get_index}
use Rattle.recheck_merging.specs.Inner.{placed, lists_of}
use Rattle.recheck_merging.specs.Keeping.{kept_in}
use Rattle.recheck_merging.specs.Plans.{numbers_at}
use Rattle.recheck_merging.proofs.Mapped.{mapped_more}

one_more : {A B : Type 0} (f : A → B) (xs : List A) (i : ℕ) (x : A) (y : B) (old new : List B) → slice_get xs i ≡ Some x → y ≡ f x → old ≡ map f (take i xs) → new ≡ old ++ y ∷ [] → new ≡ map f (take (i + 1) xs)
one_more f xs i x y old new at is so_far pushed = pushed ∙ ((λ j. so_far j ++ is j ∷ []) ∙ sym (mapped_more f xs i x at))

pub numbers_more : (merged view places : List ℕ) (i : ℕ) (old new : List ℕ) → view ≡ merged → i < length places → old ≡ numbers_at merged (take i places) → new ≡ old ++ get_or view (get_or places i 0) 0 ∷ [] → new ≡ numbers_at merged (take (i + 1) places)
numbers_more merged view places i old new same low so_far pushed =
    one_more (λ (x : ℕ). get_or merged x 0) places i (get_or places i 0) (get_or view (get_or places i 0) 0) old new (place_at places i 0 low) (ap (λ (l : List ℕ). get_or l (get_or places i 0) 0) same) so_far pushed

pub lists_more : (edges : List (List ℕ)) (numbers : List ℕ) (i : ℕ) (ys view list : List ℕ) (old new : List (List ℕ)) → i < length numbers → get_or numbers i 0 < length edges → ys ≡ get_or edges (get_or numbers i 0) ys → view ≡ ys → list ≡ view
    → old ≡ lists_of edges (take i numbers) → new ≡ old ++ list ∷ [] → new ≡ lists_of edges (take (i + 1) numbers)
lists_more edges numbers i ys view list old new low small is same copied so_far pushed =
    let x = get_or numbers i 0 in
    let there : ys ≡ get_or edges x [] = one_value ys (get_or edges x []) (sym (get_index edges x ys small is) ∙ place_at edges x [] small) in
    one_more (λ (z : ℕ). get_or edges z []) numbers i x list old new (place_at numbers i 0 low) (copied ∙ (same ∙ there)) so_far pushed

pub inner_more : (places : List (Option ℕ)) (edges : List (List ℕ)) (i : ℕ) (ys view list : List ℕ) (old new : List (List ℕ)) → i < length edges → ys ≡ get_or edges i ys → view ≡ ys → list ≡ placed places view → old ≡ map (placed places) (take i edges)
    → new ≡ old ++ list ∷ [] → new ≡ map (placed places) (take (i + 1) edges)
inner_more places edges i ys view list old new low is same made so_far pushed =
    one_more (placed places) edges i ys list old new (get_index edges i ys low is) (made ∙ ap (placed places) same) so_far pushed

pub olds_more : (was : List Sig) (from : List (Option ℕ)) (i : ℕ) (slot : Option Sig) (old new : List (Option Sig)) → i < length from → slot ≡ kept_in was (get_or from i None) → old ≡ map (kept_in was) (take i from) → new ≡ old ++ slot ∷ []
    → new ≡ map (kept_in was) (take (i + 1) from)
olds_more was from i slot old new low is so_far pushed = one_more (kept_in was) from i (get_or from i None) slot old new (place_at from i None low) is so_far pushed
